-- Faults in lanes, as they are put there one after the other.
use Rattle.std.proofs.Common.{◌≡◌, ◌<◌, ◌≤◌, ◌≢◌, ◌+◌, ◌-◌, ◌*◌, ◌%◌, ◌^◌, ◌==◌, ◌&&◌, ◌||◌, ◌∙◌, not, ℕ, zero, suc, Bool, true, false, List, length, replicate, get_or, set, slice_get, Some, bit_and, bit_or, bit_xor, if◌then◌else◌, ap, ap₂, sym, refl, ⊎_elim, arith}
use Rattle.std.proofs.Math.Pow.{pow_mono}
use Rattle.std.proofs.lemmas.Bool.{cases_eq, eq-eqb, ne_eqb}
use Rattle.std.proofs.lemmas.Grind.{get_or-set_at}
use Rattle.std.proofs.lemmas.List.{get_or_default, get_or-set_other}
use Rattle.std.proofs.lemmas.Option.{same_Some}
use Rattle.vw_net.specs.TruthTable.{bit_of}
use Rattle.vw_fault.specs.declared.open.Open.{Open}
use Rattle.vw_fault.specs.declared.stuck.Stuck.{Stuck}
use Rattle.vw_fault.specs.Steps.Lanes.{find_in}
use Rattle.vw_fault.specs.Stuck.{find_stuck}
use Rattle.vw_fault.proofs.Lanes.{lane_and, lane_below, lane_none, lane_not, lane_ones, lane_or, lane_other, lane_own}

-- the word of a lane alone
pub one_lane : (lane : ℕ) → lane < 64 → 1 * 2 ^ lane % 2 ^ 64 ≡ 2 ^ lane
one_lane lane low = let few : lane ≤ 63 = omega arith in omega (arith, pow_mono few)

filled : {X : Type 0} (count at : ℕ) (x : X) → get_or (replicate count x) at x ≡ x
filled zero at x = refl
filled (suc count) zero x = refl
filled (suc count) (suc at) x = filled count at x

-- where each word of a net keeps each lane and forces none, each net is found as it is
pub none_stuck : (stuck : Stuck) (nets lane net : ℕ) (bit : Bool) → lane < 64 → stuck.kept ≡ replicate nets (2 ^ 64 - 1)
    → stuck.forced ≡ replicate nets 0 → find_in stuck lane net bit ≡ bit
none_stuck stuck nets lane net bit low kept forced =
    ap₂ (λ (k f : List ℕ). (bit && bit_of (get_or k net (2 ^ 64 - 1)) lane) || bit_of (get_or f net 0) lane) kept forced
    ∙ ap₂ (λ (k f : ℕ). (bit && bit_of k lane) || bit_of f lane) (filled nets net (2 ^ 64 - 1)) (filled nets net 0)
    ∙ ap₂ (λ (k f : Bool). (bit && k) || f) (lane_ones lane low) (lane_none lane)
    ∙ by bit where
      by : (value : Bool) → ((value && true) || false) ≡ value
      by true = refl
      by false = refl

-- the bits of one lane, and of the others
in_lane : (bit kept forced stuck_bit : Bool) → ((bit && (kept && false)) || ((forced && false) || (true && stuck_bit))) ≡ stuck_bit
in_lane true true true stuck_bit = refl
in_lane true true false stuck_bit = refl
in_lane true false true stuck_bit = refl
in_lane true false false stuck_bit = refl
in_lane false true true stuck_bit = refl
in_lane false true false stuck_bit = refl
in_lane false false true stuck_bit = refl
in_lane false false false stuck_bit = refl

in_others : (bit kept forced stuck_bit : Bool) → ((bit && (kept && true)) || ((forced && true) || (false && stuck_bit))) ≡ ((bit && kept) || forced)
in_others true true true stuck_bit = refl
in_others true true false stuck_bit = refl
in_others true false true stuck_bit = refl
in_others true false false stuck_bit = refl
in_others false true true stuck_bit = refl
in_others false true false stuck_bit = refl
in_others false false true stuck_bit = refl
in_others false false false stuck_bit = refl

module _ (old new : Stuck) (lane own others spread : ℕ) (fault : Open) (inside : fault.net < length old.kept) (inside_forced : fault.net < length old.forced)
    (kept : new.kept ≡ set old.kept fault.net (bit_and (get_or old.kept fault.net 0) others))
    (forced : new.forced ≡ set old.forced fault.net (bit_or (bit_and (get_or old.forced fault.net 0) others) (bit_and own spread)))
    (is_own : own ≡ 2 ^ lane) (are_others : others ≡ bit_xor own (2 ^ 64 - 1)) (spreads : (at : ℕ) → at < 64 → bit_of spread at ≡ fault.bit) where
  -- what the words of the fault's net say in a lane, where the lane is the fault's own or not
  at_net : (other : ℕ) → other < 64 → (bit its : Bool) → bit_of own other ≡ its
      → find_in new other fault.net bit ≡ ((bit && (bit_of (get_or old.kept fault.net (2 ^ 64 - 1)) other && not its)) || ((bit_of (get_or old.forced fault.net 0) other && not its) || (its && fault.bit)))
  at_net other low bit its is =
      let rest : bit_of others other ≡ not its = ap (λ (n : ℕ). bit_of n other) are_others ∙ lane_not own other low ∙ ap not is in
      let kept_is = ap (λ (k : List ℕ). get_or k fault.net (2 ^ 64 - 1)) kept ∙ get_or-set_at old.kept fault.net fault.net _ (2 ^ 64 - 1) refl inside in
      let forced_is = ap (λ (f : List ℕ). get_or f fault.net 0) forced ∙ get_or-set_at old.forced fault.net fault.net _ 0 refl inside_forced in
      let first = ap (λ (n : ℕ). bit_of n other) kept_is ∙ lane_and (get_or old.kept fault.net 0) others other
      ∙ ap₂ (λ (k : ℕ) (o : Bool). bit_of k other && o) (get_or_default old.kept fault.net 0 (2 ^ 64 - 1) inside) rest in
      let second = ap (λ (n : ℕ). bit_of n other) forced_is ∙ lane_or (bit_and (get_or old.forced fault.net 0) others) (bit_and own spread) other
      ∙ ap₂ (λ (x y : Bool). x || y)
      (lane_and (get_or old.forced fault.net 0) others other ∙ ap (λ (o : Bool). bit_of (get_or old.forced fault.net 0) other && o) rest)
      (lane_and own spread other ∙ ap₂ (λ (x y : Bool). x && y) is (spreads other low)) in
      ap₂ (λ (x y : Bool). (bit && x) || y) first second

  -- other nets have what they had
  at_others : (other net : ℕ) (bit : Bool) → (net ≡ fault.net → ⊥) → find_in new other net bit ≡ find_in old other net bit
  at_others other net bit apart =
      ap₂ (λ (k f : ℕ). (bit && bit_of k other) || bit_of f other)
      (ap (λ (k : List ℕ). get_or k net (2 ^ 64 - 1)) kept ∙ get_or-set_other old.kept fault.net net _ (2 ^ 64 - 1) apart)
      (ap (λ (f : List ℕ). get_or f net 0) forced ∙ get_or-set_other old.forced fault.net net _ 0 apart)

  own_lane : (net : ℕ) (bit : Bool) → lane < 64 → find_in new lane net bit ≡ find_stuck fault net (find_in old lane net bit)
  own_lane net bit low =
      let its : bit_of own lane ≡ true = ap (λ (n : ℕ). bit_of n lane) is_own ∙ lane_own lane in
      let if_here = λ (same : net ≡ fault.net).
      ap (λ (at : ℕ). find_in new lane at bit) same ∙ at_net lane low bit true its ∙ in_lane bit _ _ fault.bit
      ∙ sym (ap (λ (here : Bool). if here then fault.bit else find_in old lane net bit) (eq-eqb net fault.net same)) in
      let if_other = λ (apart : net ≡ fault.net → ⊥). at_others lane net bit apart ∙ sym (ap (λ (here : Bool). if here then fault.bit else find_in old lane net bit) (ne_eqb net fault.net apart)) in
      ⊎_elim if_here if_other (cases_eq net fault.net)

  other_lane : (other net : ℕ) (bit : Bool) → other < 64 → other ≢ lane → find_in new other net bit ≡ find_in old other net bit
  other_lane other net bit low apart_lane =
      let its : bit_of own other ≡ false = ap (λ (n : ℕ). bit_of n other) is_own ∙ lane_other lane other apart_lane in
      let if_here = λ (same : net ≡ fault.net).
      ap (λ (at : ℕ). find_in new other at bit) same ∙ at_net other low bit false its ∙ in_others bit _ _ fault.bit ∙ ap (λ (at : ℕ). find_in old other at bit) (sym same) in
      let if_other = λ (apart : net ≡ fault.net → ⊥). at_others other net bit apart in
      ⊎_elim if_here if_other (cases_eq net fault.net)

  -- the fault is in its lane, and the other lanes are as they were
  pub put_found : lane < 64 → (other : ℕ) → other < 64 → (net : ℕ) (bit : Bool)
      → find_in new other net bit ≡ (if other == lane then find_stuck fault net (find_in old other net bit) else find_in old other net bit)
  put_found lane_low other low net bit =
      let whole = λ (here : Bool). if here then find_stuck fault net (find_in old other net bit) else find_in old other net bit in
      let if_own = λ (same : other ≡ lane).
      ap (λ (at : ℕ). find_in new at net bit) same ∙ own_lane net bit lane_low ∙ ap (λ (at : ℕ). find_stuck fault net (find_in old at net bit)) (sym same) ∙ sym (ap whole (eq-eqb other lane same)) in
      let if_other = λ (apart : other ≡ lane → ⊥). other_lane other net bit low apart ∙ sym (ap whole (ne_eqb other lane apart)) in
      ⊎_elim if_own if_other (cases_eq other lane)

-- one fault more, of which the others know nothing
module _ (old new : Stuck) (faults : List Open) (place : ℕ) (fault : Open) (here : slice_get faults place ≡ Some fault)
    (found : (other : ℕ) → other < 64 → (net : ℕ) (bit : Bool) → find_in new other net bit ≡ (if other == place then find_stuck fault net (find_in old other net bit) else find_in old other net bit)) (few : length faults ≤ 64)
    (plain : (lane : ℕ) → lane < 64 → place ≤ lane → (net : ℕ) (bit : Bool) → find_in old lane net bit ≡ bit) where
  pub plain_further : (lane : ℕ) → lane < 64 → place + 1 ≤ lane → (net : ℕ) (bit : Bool) → find_in new lane net bit ≡ bit
  plain_further lane low past net bit =
      let apart : lane ≡ place → ⊥ = λ same. omega (arith, past, same) in
      found lane low net bit ∙ ap (λ (its : Bool). if its then find_stuck fault net (find_in old lane net bit) else find_in old lane net bit) (ne_eqb lane place apart) ∙ plain lane low (omega (arith, past)) net bit

  pub put_further : place < 64
      → ((lane : ℕ) (one : Open) → lane < place → slice_get faults lane ≡ Some one → (net : ℕ) (bit : Bool) → find_in old lane net bit ≡ find_stuck one net bit)
      → (lane : ℕ) (one : Open) → lane < place + 1 → slice_get faults lane ≡ Some one → (net : ℕ) (bit : Bool)
      → find_in new lane net bit ≡ find_stuck one net bit
  put_further low before lane one within is net bit = ⊎_elim if_own if_before (cases_eq lane place) where
    if_own : lane ≡ place → find_in new lane net bit ≡ find_stuck one net bit
    if_own same =
        let its : one ≡ fault = same_Some one fault (sym is ∙ ap (slice_get faults) same ∙ here) in
        found lane (omega (arith, same, low)) net bit ∙ ap (λ (own : Bool). if own then find_stuck fault net (find_in old lane net bit) else find_in old lane net bit) (eq-eqb lane place same)
        ∙ ap (find_stuck fault net) (plain lane (omega (arith, same, low)) (omega (arith, same)) net bit) ∙ ap (λ (f : Open). find_stuck f net bit) (sym its)

    if_before : (lane ≡ place → ⊥) → find_in new lane net bit ≡ find_stuck one net bit
    if_before apart =
        found lane (omega (arith, within, low)) net bit ∙ ap (λ (own : Bool). if own then find_stuck fault net (find_in old lane net bit) else find_in old lane net bit) (ne_eqb lane place apart)
        ∙ before lane one (omega (arith, within, apart)) is net bit

-- the lanes behind the first so many are none of them
pub lane_first : (used lane : ℕ) → lane < used → lane < 64 → bit_of (bit_xor (2 ^ used - 1) (2 ^ 64 - 1)) lane ≡ false
lane_first used lane within low = lane_not (2 ^ used - 1) lane low ∙ ap not (lane_below used lane within)
