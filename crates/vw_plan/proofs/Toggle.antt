-- A worked example: a toggle flip-flop on a board of two chips, each joined to the host and to the other chip. Its plan is
-- sound. Where a gate takes one microcycle to settle, it isn't.
use Rattle.std.proofs.Common.{◌≡◌, ◌≢◌, ◌<◌, ◌≤◌, ◌^◌, ◌&&◌, ◌==◌, not, ℕ, zero, suc, Bool, true, false, List, [], ◌∷◌, length, map, slice_get, Option, get_or, slice_index, take, nat_le, if◌then◌else◌, eqb, eq-eqb, leb-true, ne_eqb, ap, refl, IsTrue, subst, All, lit≤, arith}
use Rattle.std.specs.List.{AllPairs, list_all, count_by}
use Rattle.std.proofs.lemmas.Bool.{and_parts, and_from, not-true, both_ways}
use Rattle.std.specs.Option.{option_map_or}
use Rattle.std.proofs.lemmas.Grind.{common_steps}
use Rattle.std.proofs.lemmas.List.Elements.{All-nil, All-cons, All-weaker}
use Rattle.std.proofs.lemmas.List.Sums.{AllPass-from_list_all}
use Rattle.vw_net.specs.declared.cover.Mark.TheVariants.{Zero as zero_mark, One as one_mark}
use Rattle.vw_net.specs.declared.cell.Init.TheVariants.{Zero as zero_init}
use Rattle.vw_net.specs.declared.cell.Cell.{Cell}
use Rattle.vw_net.specs.declared.cell.Cell.TheVariants.{Gate, Latch}
use Rattle.vw_net.specs.declared.cover.Cover.{Cover}
use Rattle.vw_net.specs.declared.flat.Flat.{Flat}
use Rattle.vw_net.specs.declared.ordered.Ordered.{Ordered}
use Rattle.vw_net.specs.Cells.{IsWellFormed}
use Rattle.vw_net.specs.Order.{is_gate, is_among, is_ready, read_nets_at}
use Rattle.vw_plan.specs.declared.link.Link.{Link}
use Rattle.vw_plan.specs.declared.board.Board.{Board}
use Rattle.vw_plan.specs.declared.wire.Hop.{Hop}
use Rattle.vw_plan.specs.declared.wire.Wire.{Wire}
use Rattle.vw_plan.specs.declared.plan.Plan.{Plan}
use Rattle.vw_plan.specs.Walks.{IsReachable}
use Rattle.vw_plan.specs.Links.{HaveSameEnds}
use Rattle.vw_plan.specs.PlannedBoard.{PlannedBoard, home}
use Rattle.vw_plan.specs.Needs.{depth, needed_pairs}
use Rattle.vw_plan.specs.Nets.{is_needed}
use Rattle.vw_plan.specs.Lead.{arrival, lead, usable, brings}
use Rattle.vw_plan.specs.Sound.{IsPlaced, IsRouted, IsRising, IsSound, IsSentWhenUsable, AreLatchesInTime, has_pin, share_pin, hops_of}
use Rattle.vw_plan.proofs.TestedPairs.{AllPairs-from_all_pairs}

-- a fact of one element, and of two
pub one : {A : Type 0} (P : A → Type 0) (x : A) → P x → All P (x ∷ [])
one P x here = All-cons P x [] here (All-nil P)

pub two : {A : Type 0} (P : A → Type 0) (x y : A) → P x → P y → All P (x ∷ y ∷ [])
two P x y here next = All-cons P x (y ∷ []) here (one P y next)

four : {A : Type 0} (P : A → Type 0) (w x y z : A) → P w → P x → P y → P z → All P (w ∷ x ∷ y ∷ z ∷ [])
four P w x y z first second third fourth = All-cons P w (x ∷ y ∷ z ∷ []) first (All-cons P x (y ∷ z ∷ []) second (two P y z third fourth))

-- a number isn't one below it
unequal : (number other : ℕ) → number < other → eqb number other ≡ false
unequal number other below = ne_eqb number other (λ same. omega arith)

and-false : (b : Bool) → (b && false) ≡ false
and-false true = refl
and-false false = refl

-- the exclusive or of two inputs
abbrev pub xor : Cover
xor = record {
  inputs = 2;
  on = true;
  rows = record { marks = one_mark ∷ zero_mark ∷ [] } ∷ record { marks = zero_mark ∷ one_mark ∷ [] } ∷ [];
  narrow = omega arith;
  even = two (λ row. length row.marks ≡ 2) (record { marks = one_mark ∷ zero_mark ∷ [] }) (record { marks = zero_mark ∷ one_mark ∷ [] }) refl refl;
}

-- net 0 is the input `en`; net 1 is the exclusive or of `en` and net 2; net 2 is the latch of net 1, and the output
abbrev pub toggle : Flat
toggle = record {
  inputs = 1;
  cells = Gate (0 ∷ 2 ∷ []) xor ∷ Latch 1 zero_init ∷ [];
  outputs = 2 ∷ [];
  few_inputs = omega arith;
  few_cells = omega arith;
  few_outputs = omega arith;
  cells_fit = two (IsWellFormed 3) (Gate (0 ∷ 2 ∷ []) xor) (Latch 1 zero_init) (refl, two (λ net. net < 3) 0 2 (omega arith) (omega arith)) (refl, one (λ net. net < 3) 1 (omega arith));
  outputs_fit = one (λ net. net < 3) 2 (omega arith);
}

pub each_gate : (number : ℕ) → is_gate (slice_get toggle.cells number) ≡ is_among (0 ∷ []) number
each_gate zero = refl
each_gate (suc zero) = refl
each_gate (suc (suc number)) = rw (unequal 0 (suc (suc number)) (omega arith)) refl

-- the gate reads the input and the latch
pub after : (place : ℕ) → place < 1
    → list_all (is_ready 1 toggle.cells (take place (0 ∷ []))) (read_nets_at (slice_get toggle.cells (slice_index (0 ∷ []) place))) ≡ true
after zero within = refl
after (suc place) within = absurd (omega arith)

abbrev pub ordered : Ordered
ordered = record { flat = toggle; order = 0 ∷ []; is_order = record { each = each_gate; once = λ i j before within. absurd (omega arith); after = after } }

-- ---- the board

abbrev pub links : List Link
links =
    record { from = 0; to = 1; width = 1; delay = 1 } ∷ record { from = 0; to = 2; width = 1; delay = 1 } ∷ record { from = 1; to = 0; width = 1; delay = 1 }
    ∷ record { from = 1; to = 2; width = 1; delay = 1 } ∷ record { from = 2; to = 0; width = 1; delay = 1 } ∷ record { from = 2; to = 1; width = 1; delay = 1 } ∷ []

-- what a test says of each link is a fact of each
pub has_ends : (link : Link) → (nat_le link.from 2 && nat_le link.to 2) ≡ true → (link.from ≤ 2) × (link.to ≤ 2)
has_ends link is = let parts = and_parts (nat_le link.from 2) (nat_le link.to 2) is in (leb-true link.from 2 parts.0, leb-true link.to 2 parts.1)

pub is_apart : (link : Link) → not (link.from == link.to) ≡ true → link.from ≢ link.to
is_apart link is same = both_ways (link.from == link.to) (not-true (link.from == link.to) is) (eq-eqb link.from link.to same)

pub is_wide : (link : Link) → (nat_le 1 link.width && nat_le link.width 64) ≡ true → (1 ≤ link.width) × (link.width ≤ 64)
is_wide link is = let parts = and_parts (nat_le 1 link.width) (nat_le link.width 64) is in (leb-true 1 link.width parts.0, leb-true link.width 64 parts.1)

pub is_timely : (link : Link) → (nat_le 1 link.delay && nat_le link.delay 16) ≡ true → (1 ≤ link.delay) × (link.delay ≤ 16)
is_timely link is = let parts = and_parts (nat_le 1 link.delay) (nat_le link.delay 16) is in (leb-true 1 link.delay parts.0, leb-true link.delay 16 parts.1)

-- one link is enough, or none from a node to itself
pub walk_between : (from to : ℕ) → from ≤ 2 → to ≤ 2 → IsReachable links from to
walk_between zero zero from_node to_node = ∣ ([], refl) ∣₁
walk_between zero (suc zero) from_node to_node = ∣ (1 ∷ [], (refl, refl)) ∣₁
walk_between zero (suc (suc zero)) from_node to_node = ∣ (2 ∷ [], (refl, refl)) ∣₁
walk_between (suc zero) zero from_node to_node = ∣ (0 ∷ [], (refl, refl)) ∣₁
walk_between (suc zero) (suc zero) from_node to_node = ∣ ([], refl) ∣₁
walk_between (suc zero) (suc (suc zero)) from_node to_node = ∣ (2 ∷ [], (refl, refl)) ∣₁
walk_between (suc (suc zero)) zero from_node to_node = ∣ (0 ∷ [], (refl, refl)) ∣₁
walk_between (suc (suc zero)) (suc zero) from_node to_node = ∣ (1 ∷ [], (refl, refl)) ∣₁
walk_between (suc (suc zero)) (suc (suc zero)) from_node to_node = ∣ ([], refl) ∣₁
walk_between (suc (suc (suc from))) to from_node to_node = absurd (omega arith)
walk_between from (suc (suc (suc to))) from_node to_node = absurd (omega arith)

abbrev pub same_ends : Link → Link → Bool
same_ends link other = link.from == other.from && link.to == other.to

pub once : (link other : Link) → not (same_ends link other) ≡ true → ¬ (HaveSameEnds link other)
once link other differ same = both_ways (same_ends link other) (not-true (same_ends link other) differ) (and_from (eqb link.from other.from) (eqb link.to other.to) (eq-eqb link.from other.from same.0) (eq-eqb link.to other.to same.1))

abbrev pub board_with : (settle : ℕ) → settle ≤ 15 → Board
board_with settle quick = record {
  chips = 2;
  cells = 1;
  settle = settle;
  links = links;
  some_chips = omega arith;
  few_chips = omega arith;
  some_cells = omega arith;
  few_cells = omega arith;
  quick = quick;
  linked = record {
    separate = record {
      ends = All-weaker (λ link. (nat_le link.from 2 && nat_le link.to 2) ≡ true) (λ link. (link.from ≤ 2) × (link.to ≤ 2)) has_ends links (AllPass-from_list_all (λ link. nat_le link.from 2 && nat_le link.to 2) links refl);
      apart = All-weaker (λ link. not (link.from == link.to) ≡ true) (λ link. link.from ≢ link.to) is_apart links (AllPass-from_list_all (λ link. not (link.from == link.to)) links refl);
      once = λ i j default before within. once (get_or links i default) (get_or links j default) (AllPairs-from_all_pairs (λ link other. not (same_ends link other)) links refl i j default before within);
      wide = All-weaker (λ link. (nat_le 1 link.width && nat_le link.width 64) ≡ true) (λ link. (1 ≤ link.width) × (link.width ≤ 64)) is_wide links (AllPass-from_list_all (λ link. nat_le 1 link.width && nat_le link.width 64) links refl);
      timely = All-weaker (λ link. (nat_le 1 link.delay && nat_le link.delay 16) ≡ true) (λ link. (1 ≤ link.delay) × (link.delay ≤ 16)) is_timely links (AllPass-from_list_all (λ link. nat_le 1 link.delay && nat_le link.delay 16) links refl);
    };
    joined = walk_between;
  };
}

-- ---- the plan

abbrev pub one_hop : ℕ → ℕ → ℕ → Hop
one_hop from to at = record { from = from; to = to; pin = 0; at = at }

abbrev pub hop : ℕ → ℕ → ℕ → List Hop
hop from to at = one_hop from to at ∷ []

abbrev pub wires : List Wire
wires =
    record { net = 0; to = 1; hops = hop 0 1 0 } ∷ record { net = 1; to = 2; hops = hop 1 2 1 }
    ∷ record { net = 2; to = 0; hops = hop 2 0 0 } ∷ record { net = 2; to = 1; hops = hop 2 1 0 } ∷ []

is_early : (wire : Wire) → list_all (λ sent. nat_le sent.at 9) wire.hops ≡ true → All (λ sent. sent.at ≤ 2 ^ 62) wire.hops
is_early wire is = All-weaker (λ sent. nat_le sent.at 9 ≡ true) (λ sent. sent.at ≤ 2 ^ 62) (λ sent is. let low : sent.at ≤ 9 = leb-true sent.at 9 is in omega arith) wire.hops (AllPass-from_list_all (λ sent. nat_le sent.at 9) wire.hops is)

pub early : All (λ wire. All (λ sent. sent.at ≤ 2 ^ 62) wire.hops) wires
early = All-weaker (λ wire. list_all (λ sent. nat_le sent.at 9) wire.hops ≡ true) (λ wire. All (λ sent. sent.at ≤ 2 ^ 62) wire.hops) is_early wires (AllPass-from_list_all (λ wire. list_all (λ sent. nat_le sent.at 9) wire.hops) wires refl)

abbrev pub plan : Plan
plan = record {
  chip_of = 1 ∷ 2 ∷ [];
  wires = wires;
  period = 2;
  few_cells = omega arith;
  few_wires = omega arith;
  few_hops = omega arith;
  early = early;
  short = omega arith;
}

abbrev pub planned_with : (settle : ℕ) → settle ≤ 15 → PlannedBoard
planned_with settle quick = record { ordered = ordered; board = board_with settle quick; plan = plan }

-- ---- it is sound

abbrev count : ℕ → ℕ → ℕ
count net node = count_by (brings net node) wires

abbrev toggle_needs : ℕ → ℕ → ℕ
toggle_needs net node = if is_needed toggle (1 ∷ 2 ∷ []) net node then 1 else 0

-- no wire brings a net to a node that isn't there, and it needs none
far_node : (net node : ℕ) → 3 ≤ node → count net node ≡ toggle_needs net node
far_node net node far =
    let zero_ : eqb 0 node ≡ false = unequal 0 node (omega arith) in
    let one_ : eqb 1 node ≡ false = unequal 1 node (omega arith) in
    let two_ : eqb 2 node ≡ false = unequal 2 node (omega arith) in
    let host : eqb node 0 ≡ false = ne_eqb node 0 (λ same. omega arith) in
    simp (zero_, one_, two_, host, and-false)

-- a net that isn't there has no wire, and no node needs it
far_net : (net node : ℕ) → 3 ≤ net → count net node ≡ toggle_needs net node
far_net net node far =
    let zero_ : eqb 0 net ≡ false = unequal 0 net (omega arith) in
    let one_ : eqb 1 net ≡ false = unequal 1 net (omega arith) in
    let two_ : eqb 2 net ≡ false = unequal 2 net (omega arith) in
    simp (zero_, one_, two_, and-false)

one_wire : (net node : ℕ) → count net node ≡ toggle_needs net node
one_wire zero zero = refl
one_wire zero (suc zero) = refl
one_wire zero (suc (suc zero)) = refl
one_wire (suc zero) zero = refl
one_wire (suc zero) (suc zero) = refl
one_wire (suc zero) (suc (suc zero)) = refl
one_wire (suc (suc zero)) zero = refl
one_wire (suc (suc zero)) (suc zero) = refl
one_wire (suc (suc zero)) (suc (suc zero)) = refl
one_wire (suc (suc (suc net))) node = far_net (suc (suc (suc net))) node (omega arith)
one_wire net (suc (suc (suc node))) = far_node net (suc (suc (suc node))) (omega arith)

-- ---- its needed pairs, and the depths of its nets

pub needed_there : needed_pairs toggle (1 ∷ 2 ∷ []) ≡ record { net = 0; to = 1 } ∷ record { net = 1; to = 2 } ∷ record { net = 2; to = 0 } ∷ record { net = 2; to = 1 } ∷ []
unfolding needed_pairs
needed_there = refl

pub depths_there : map (depth toggle (1 ∷ 2 ∷ [])) (0 ∷ 1 ∷ 2 ∷ []) ≡ 0 ∷ 1 ∷ 0 ∷ []
unfolding depth
depths_there = refl

module _ (settle : ℕ) (quick : settle ≤ 15) where
  abbrev planned : PlannedBoard
  planned = planned_with settle quick

  few_on : (chip : ℕ) → count_by (λ other. other == chip) (1 ∷ 2 ∷ []) ≤ 1
  few_on chip = grind (arith, common_steps)

  placed : IsPlaced planned
  placed = record { each = refl; chips = two (λ chip. (1 ≤ chip) × (chip ≤ 2)) 1 2 (omega arith) (omega arith); room = few_on }

  routed : All (IsRouted planned) wires
  routed = four (IsRouted planned) _ _ _ _
      (record { some = omega arith; leads = refl; pins = one (λ sent. has_pin links sent ≡ true) _ refl })
      (record { some = omega arith; leads = refl; pins = one (λ sent. has_pin links sent ≡ true) _ refl })
      (record { some = omega arith; leads = refl; pins = one (λ sent. has_pin links sent ≡ true) _ refl })
      (record { some = omega arith; leads = refl; pins = one (λ sent. has_pin links sent ≡ true) _ refl })

  rising : All (IsRising planned) wires
  rising = four (IsRising planned) _ _ _ _
      (record { later = refl; within = one (λ sent. arrival links sent < 2) (one_hop 0 1 0) (omega arith) })
      (record { later = refl; within = one (λ sent. arrival links sent < 2) (one_hop 1 2 1) (omega arith) })
      (record { later = refl; within = one (λ sent. arrival links sent < 2) (one_hop 2 0 0) (omega arith) })
      (record { later = refl; within = one (λ sent. arrival links sent < 2) (one_hop 2 1 0) (omega arith) })

  alone : AllPairs (λ sent other. IsTrue (not (share_pin sent other))) (hops_of plan)
  alone = AllPairs-from_all_pairs (λ sent other. not (share_pin sent other)) (hops_of plan) refl

abbrev pub quick : 0 ≤ 15
quick = lit≤ tt

abbrev pub slow : 1 ≤ 15
slow = lit≤ tt

-- a wire of one hop is sent when its net is usable
sent : (net to from at usable_at : ℕ) → usable (planned_with 0 quick) (home (planned_with 0 quick) net) net ≡ usable_at → usable_at ≤ at → IsSentWhenUsable (planned_with 0 quick) (record { net = net; to = to; hops = hop from to at })
sent net to from at usable_at is late first there =
    let same : at ≡ first.at = ap (λ (found : Option Hop). option_map_or (λ (only : Hop). only.at) found 0) there in
    omega arith

all_sent : All (IsSentWhenUsable (planned_with 0 quick)) wires
unfolding lead
all_sent = four (IsSentWhenUsable (planned_with 0 quick)) _ _ _ _ (sent 0 1 0 0 0 refl (omega arith)) (sent 1 2 1 1 1 refl (omega arith)) (sent 2 0 2 0 0 refl (omega arith)) (sent 2 1 2 0 0 refl (omega arith))

-- net 1 is usable at the latch's chip in microcycle 2
pub usable_there : usable (planned_with 0 quick) 2 1 ≡ 2
unfolding lead
usable_there = refl

in_time : AreLatchesInTime (planned_with 0 quick)
in_time zero d init latch = cc
in_time (suc zero) d init latch =
    let reads = λ (found : Option Cell). slice_index (read_nets_at found) 0 in
    let same : 1 ≡ d = ap reads latch in
    subst (λ (net : ℕ). usable (planned_with 0 quick) 2 net ≤ 2) same (omega (arith, usable_there))
in_time (suc (suc number)) d init latch = cc

pub toggle_sound : IsSound (planned_with 0 quick)
toggle_sound = record {
  one_chip_each = placed 0 quick;
  one_wire_for_each_need = one_wire;
  routes = routed 0 quick;
  rising_microcycles = rising 0 quick;
  one_hop_a_pin = alone 0 quick;
  sent_when_usable = all_sent;
  latches_in_time = in_time;
  a_period = omega arith;
}

-- where a gate takes a microcycle to settle, net 1 is usable at its chip in microcycle 2, and is sent in 1
pub usable_later : usable (planned_with 1 slow) 1 1 ≡ 2
unfolding lead
usable_later = refl

pub toggle_unsound : ¬ (IsSound (planned_with 1 slow))
toggle_unsound sound =
    let early : usable (planned_with 1 slow) 1 1 ≤ 1 = sound.sent_when_usable 1 (record { net = 0; to = 0; hops = [] }) (omega arith) (record { from = 1; to = 2; pin = 0; at = 1 }) refl in
    omega (arith, usable_later)
