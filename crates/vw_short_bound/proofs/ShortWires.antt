-- The last links of wires that are as short as they can be.
use Rattle.std.proofs.Common.{◌≡◌, ◌≤◌, ◌+◌, ◌-◌, ◌++◌, ◌&&◌, ◌==◌, ℕ, zero, suc, Bool, true, false, List, [], ◌∷◌, length, slice_get, slice_index, nat_lt, eqb, cond, ap, refl, sym, subst, ◌∙◌, Some, ⊎_elim, eq-eqb, eqb-true, length-append, All, arith}
use Rattle.std.specs.List.{count_by, find}
use Rattle.std.specs.Option.{option_map_or}
use Rattle.std.proofs.lemmas.Bool.{and_from, and_parts, cases_Bool}
use Rattle.std.proofs.lemmas.List.Elements.{All-head, All-tail}
use Rattle.vw_net.specs.Steps.Bits.{one_if}
use Rattle.vw_net.proofs.CountsOverLists.{count_cons}
use Rattle.vw_net.proofs.ListedLists.{any_stands}
use Rattle.vw_plan.specs.declared.board.Board.{Board}
use Rattle.vw_plan.specs.declared.link.Link.{Link}
use Rattle.vw_plan.specs.declared.wire.Hop.{Hop}
use Rattle.vw_plan.specs.declared.wire.Wire.{Wire}
use Rattle.vw_plan.specs.Distance.{IsDistance, distance}
use Rattle.vw_plan.specs.Good.{AreShort}
use Rattle.vw_plan.specs.Lead.{after_last, brings, brought_at}
use Rattle.vw_plan.specs.Nets.{is_needed}
use Rattle.vw_plan.specs.PlannedBoard.{PlannedBoard, home}
use Rattle.vw_plan.specs.Sound.{IsRouted, IsSound, has_pin, leads_to}
use Rattle.vw_plan.specs.Walks.{IsWalk, has_link}
use Rattle.vw_plan.proofs.ChipNumbers.{low_chips}
use Rattle.vw_plan.proofs.HopLinks.{HopLink, hop_link}
use Rattle.vw_plan.proofs.HopsOfWires.{at_place}
use Rattle.vw_plan.proofs.NeededWires.{own_pair}
use Rattle.vw_plan.proofs.Shortest.{distance_is_least}
use Rattle.vw_bound.proofs.Counting.{any_counted}
use Rattle.vw_bound.proofs.PressedPairs.{LastLink}
use Rattle.vw_short_bound.specs.Shortest.{can_be_last}

-- ---- walks

-- one link more at the end
walk_more : (links : List Link) (from : ℕ) (nodes : List ℕ) (mid to : ℕ) → IsWalk links from nodes mid → has_link links mid to ≡ true → IsWalk links from (nodes ++ to ∷ []) to
walk_more links from [] mid to walk has = (ap (λ (node : ℕ). has_link links node to) walk ∙ has, refl)
walk_more links from (node ∷ nodes) mid to walk has = (walk.0, walk_more links node nodes mid to walk.1 has)

-- a hop goes over a link
hop_has_link : (board : Board) (hop : Hop) → has_pin board.links hop ≡ true → has_link board.links hop.from hop.to ≡ true
hop_has_link board hop pin =
    let over : HopLink board hop = hop_link board hop pin in
    any_stands (λ (link : Link). link.from == hop.from && link.to == hop.to) over.link board.links (over.number, over.there) over.carried

-- a walk of some number of links
record WalkOf (links : List Link) (from to count : ℕ) : Type 0 where
  nodes : List ℕ
  walk : IsWalk links from nodes to
  long : length nodes ≡ count

-- the hops before one are a walk to where it begins
walk_before : (board : Board) (hops : List Hop) (from to : ℕ) → leads_to from hops to ≡ true → All (λ hop. has_pin board.links hop ≡ true) hops
    → (place : ℕ) (hop : Hop) → slice_get hops place ≡ Some hop → WalkOf board.links from hop.from place
walk_before board [] from to leads pins place hop at = cc
walk_before board (first ∷ hops) from to leads pins zero hop at =
    let same : first ≡ hop = cc in
    let starts = eqb-true first.from from (and_parts (eqb first.from from) (leads_to first.to hops to) leads).0 in
    record { nodes = []; walk = sym starts ∙ ap (λ (one : Hop). one.from) same; long = refl }
walk_before board (first ∷ hops) from to leads pins (suc place) hop at =
    let parts = and_parts (eqb first.from from) (leads_to first.to hops to) leads in
    let starts : first.from ≡ from = eqb-true first.from from parts.0 in
    let has = hop_has_link board first (All-head (λ (one : Hop). has_pin board.links one ≡ true) first hops pins) in
    let rest : WalkOf board.links first.to hop.from place = walk_before board hops first.to to parts.1 (All-tail (λ (one : Hop). has_pin board.links one ≡ true) first hops pins) place hop at in
    record { nodes = first.to ∷ rest.nodes; walk = (ap (λ (node : ℕ). has_link board.links node first.to) (sym starts) ∙ has, rest.walk); long = ap suc rest.long }

-- ---- the one wire of a pair

-- where no more than one passes, one that passes is the first
find_only : {X : Type 0} (test : X → Bool) (xs : List X) (place : ℕ) (x : X) → count_by test xs ≤ 1 → slice_get xs place ≡ Some x → test x ≡ true → find test xs ≡ Some x
find_only test [] place x few at passes = cc
find_only test (y ∷ ys) zero x few at passes =
    let same : y ≡ x = cc in
    let here : test y ≡ true = ap test same ∙ passes in
    ap (λ (is : Bool). cond is (Some y) (find test ys)) here ∙ ap (λ one. Some one) same
find_only test (y ∷ ys) (suc place) x few at passes =
    let rest : 1 ≤ count_by test ys = any_counted test ys (any_stands test x ys (place, at) passes) in
    let if_here = λ (here : test y ≡ true). let whole : find test (y ∷ ys) ≡ Some x = absurd (omega (arith, few, rest, count_cons test y ys, ap one_if here)) in whole in
    let if_later = λ (later : test y ≡ false).
    let whole : find test (y ∷ ys) ≡ Some x = ap (λ (is : Bool). cond is (Some y) (find test ys)) later ∙ find_only test ys place x (omega (arith, few, count_cons test y ys)) at passes in whole in
    ⊎_elim if_here if_later (cases_Bool (test y))

module _ (planned : PlannedBoard) (sound : IsSound planned) where
  -- a wire says when its net is there
  pub brought_is : (number : ℕ) (wire : Wire) → slice_get planned.plan.wires number ≡ Some wire → brought_at planned wire.to wire.net ≡ after_last planned.board.links wire.hops
  brought_is number wire stands =
      let one = sound.one_wire_for_each_need wire.net wire.to in
      let few : count_by (brings wire.net wire.to) planned.plan.wires ≤ 1 = by (is_needed planned.ordered.flat planned.plan.chip_of wire.net wire.to) one in
      ap (λ found. option_map_or (λ (w : Wire). after_last planned.board.links w.hops) found 0) (find_only (brings wire.net wire.to) planned.plan.wires number wire few stands (own_pair wire))
    where
      by : (needed : Bool) → count_by (brings wire.net wire.to) planned.plan.wires ≡ cond needed 1 0 → count_by (brings wire.net wire.to) planned.plan.wires ≤ 1
      by true is = omega (arith, is)
      by false is = omega (arith, is)

  -- the node of a net is one of the board
  pub home_low : (net : ℕ) → home planned net ≤ planned.board.chips
  home_low net = by (nat_lt net planned.ordered.flat.inputs) where
    chip_low : (chips : List ℕ) (place : ℕ) → All (λ chip. chip ≤ planned.board.chips) chips → slice_index chips place ≤ planned.board.chips
    chip_low [] place low = omega arith
    chip_low (chip ∷ chips) zero low = All-head (λ (c : ℕ). c ≤ planned.board.chips) chip chips low
    chip_low (chip ∷ chips) (suc place) low = chip_low chips place (All-tail (λ (c : ℕ). c ≤ planned.board.chips) chip chips low)

    by : (input : Bool) → cond input 0 (slice_index planned.plan.chip_of (net - planned.ordered.flat.inputs)) ≤ planned.board.chips
    by true = omega arith
    by false = chip_low planned.plan.chip_of (net - planned.ordered.flat.inputs) (low_chips planned.board planned.plan.chip_of sound.one_chip_each.chips)

  -- the last link of a shortest wire can be the last of a shortest walk
  pub last_can : AreShort planned → (number : ℕ) (wire : Wire) → slice_get planned.plan.wires number ≡ Some wire → (own : LastLink planned wire)
      → can_be_last planned.board (home planned wire.net) wire.to own.over.link ≡ true
  last_can short number wire stands own =
      let board = planned.board in
      let from = home planned wire.net in
      let hop = own.hop in
      let link = own.over.link in
      let routed : IsRouted planned wire = at_place (IsRouted planned) planned.plan.wires number wire sound.routes stands in
      let long : length wire.hops ≡ distance board from wire.to = at_place (λ (w : Wire). length w.hops ≡ distance board (home planned w.net) w.to) planned.plan.wires number wire short stands in
      let before : WalkOf board.links from hop.from own.place = walk_before board wire.hops from wire.to routed.leads routed.pins own.place hop own.at in
      let ends : (link.from ≤ board.chips) × (link.to ≤ board.chips) = at_place (λ (l : Link). (l.from ≤ board.chips) × (l.to ≤ board.chips)) board.links own.over.number link board.linked.separate.ends own.over.there in
      let near : IsDistance board.links from link.from (distance board from link.from) = distance_is_least board from link.from (home_low wire.net) ends.0 in
      let far : IsDistance board.links from link.to (distance board from link.to) = distance_is_least board from link.to (home_low wire.net) ends.1 in
      let to_node : link.to ≡ wire.to = own.over.to ∙ own.to in
      let over_it : has_link board.links link.from link.to ≡ true = any_stands (λ (l : Link). l.from == link.from && l.to == link.to) link board.links (own.over.number, own.over.there) (and_from (link.from == link.from) (link.to == link.to) (eq-eqb link.from link.from refl) (eq-eqb link.to link.to refl)) in
      let nearer : distance board from link.from ≤ length before.nodes = near.least before.nodes (subst (λ (node : ℕ). IsWalk board.links from before.nodes node) (sym own.over.from) before.walk) in
      let further : distance board from link.to ≤ length (near.nodes ++ link.to ∷ []) = far.least (near.nodes ++ link.to ∷ []) (walk_more board.links from near.nodes link.from link.to near.walk over_it) in
      let same : distance board from link.to ≡ distance board from wire.to = ap (distance board from) to_node in
      let near_long = near.count in
      let is : distance board from link.from + 1 ≡ distance board from wire.to = omega (arith, long, own.last, before.long, nearer, further, near_long, length-append near.nodes (link.to ∷ []), same) in
      and_from (link.to == wire.to) (distance board from link.from + 1 == distance board from wire.to) (eq-eqb link.to wire.to to_node) (eq-eqb (distance board from link.from + 1) (distance board from wire.to) is)
