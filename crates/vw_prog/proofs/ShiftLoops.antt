-- Shift loops made of actions: which nets each has, and that each pin has one.
use Rattle.std.proofs.Common.{◌≡◌, ◌<◌, ◌&&◌, ◌||◌, ◌∷◌, ◌++◌, ℕ, zero, suc, Bool, true, false, List, [], length, map, get_or, set, eqb, slice_get, Some, if◌then◌else◌, ap, ap₂, refl, sym, subst, ◌∙◌, ⊎_elim, true≢false, eqb-true, eq-eqb, append_assoc, arith}
use Rattle.std.specs.List.{AllByRecursion, list_any}
use Rattle.std.proofs.lemmas.Bool.{and_from, and_parts, cases_Bool, or_left, or_right}
use Rattle.std.proofs.lemmas.List.{append-nil, map-append}
use Rattle.vw_net.proofs.ListParts.{all_append}
use Rattle.vw_prog.specs.declared.action.Action.{Action}
use Rattle.vw_prog.specs.declared.action.Action.TheVariants as action
use Rattle.vw_prog.specs.declared.shift.LoopNet.{LoopNet}
use Rattle.vw_prog.specs.declared.shift.ShiftLoop.{ShiftLoop}
use Rattle.vw_prog.specs.Coding.{all_loops, slot_in, with_net}
use Rattle.vw_prog.specs.Loops.{AreLoops, is_of, loop_place, loop_nets, sent_over}

-- ---- pins

of_pin : (link pin : ℕ) (one : ShiftLoop) → is_of link pin one ≡ true → (one.link ≡ link) × (one.pin ≡ pin)
of_pin link pin one is = let parts = and_parts (eqb one.link link) (eqb one.pin pin) is in (eqb-true one.link link parts.0, eqb-true one.pin pin parts.1)

pub same_pin : (its other link pin : ℕ) → its ≡ link → other ≡ pin → (eqb its link && eqb other pin) ≡ true
same_pin its other link pin first second = and_from (eqb its link) (eqb other pin) (eq-eqb its link first) (eq-eqb other pin second)

pub other_pin : (its other link pin : ℕ) → (its ≡ link → other ≡ pin → ⊥) → (eqb its link && eqb other pin) ≡ false
other_pin its other link pin apart =
    ⊎_elim (λ (is : (eqb its link && eqb other pin) ≡ true). let parts = and_parts (eqb its link) (eqb other pin) is in absurd (apart (eqb-true its link parts.0) (eqb-true other pin parts.1)))
    (λ (no : (eqb its link && eqb other pin) ≡ false). no) (cases_Bool (eqb its link && eqb other pin))

neither : (one two : Bool) → (one || two) ≡ false → (one ≡ false) × (two ≡ false)
neither true two is = absurd (true≢false is)
neither false two is = (refl, is)

-- ---- the nets of a pin

-- the nets of the loop of a pin, where there is one
abbrev pub nets_over : ℕ → ℕ → List ShiftLoop → List ℕ
nets_over link pin [] = []
nets_over link pin (one ∷ loops) = if is_of link pin one then loop_nets one else nets_over link pin loops

over_same : (link pin : ℕ) (item : LoopNet) (loops : List ShiftLoop)
    → nets_over link pin (with_net link pin item loops) ≡ nets_over link pin loops ++ item.net ∷ []
over_same link pin item [] = ap (λ (own : Bool). if own then item.net ∷ [] else []) (same_pin link pin link pin refl refl)
over_same link pin item (one ∷ loops) = by (is_of link pin one) refl (over_same link pin item loops) where
  by : (own : Bool) → is_of link pin one ≡ own → nets_over link pin (with_net link pin item loops) ≡ nets_over link pin loops ++ item.net ∷ []
      → nets_over link pin (if own then record one { nets = one.nets ++ item ∷ [] } ∷ loops else one ∷ with_net link pin item loops) ≡ (if own then loop_nets one else nets_over link pin loops) ++ item.net ∷ []
  by true is rest = ap (λ (own : Bool). if own then map (λ (one : LoopNet). one.net) (one.nets ++ item ∷ []) else nets_over link pin loops) is ∙ map-append (λ (one : LoopNet). one.net) one.nets (item ∷ [])
  by false is rest = ap (λ (own : Bool). if own then loop_nets one else nets_over link pin (with_net link pin item loops)) is ∙ rest

over_other : (its other link pin : ℕ) → (its ≡ link → other ≡ pin → ⊥) → (item : LoopNet) (loops : List ShiftLoop)
    → nets_over link pin (with_net its other item loops) ≡ nets_over link pin loops
over_other its other link pin apart item [] = ap (λ (own : Bool). if own then item.net ∷ [] else []) (other_pin its other link pin apart)
over_other its other link pin apart item (one ∷ loops) = by (is_of its other one) refl (over_other its other link pin apart item loops) where
  by : (own : Bool) → is_of its other one ≡ own → nets_over link pin (with_net its other item loops) ≡ nets_over link pin loops
      → nets_over link pin (if own then record one { nets = one.nets ++ item ∷ [] } ∷ loops else one ∷ with_net its other item loops) ≡ (if is_of link pin one then loop_nets one else nets_over link pin loops)
  by true is rest =
      let its_pin = of_pin its other one is in
      let no : is_of link pin one ≡ false = other_pin one.link one.pin link pin (λ first second. apart (sym its_pin.0 ∙ first) (sym its_pin.1 ∙ second)) in
      ap (λ (own : Bool). if own then map (λ (one : LoopNet). one.net) (one.nets ++ item ∷ []) else nets_over link pin loops) no ∙ sym (ap (λ (own : Bool). if own then loop_nets one else nets_over link pin loops) no)
  by false is rest = ap (λ (list : List ℕ). if is_of link pin one then loop_nets one else list) rest

over_all : (table : List ℕ) (link pin : ℕ) (actions : List Action) (loops : List ShiftLoop)
    → nets_over link pin (all_loops table loops actions) ≡ nets_over link pin loops ++ sent_over link pin actions
over_all table link pin [] loops = sym (append-nil (nets_over link pin loops))
over_all table link pin (action.Evaluate number ∷ actions) loops = over_all table link pin actions loops
over_all table link pin (action.Take its other net ∷ actions) loops = over_all table link pin actions loops
over_all table link pin (action.Step ∷ actions) loops = over_all table link pin actions loops
over_all table link pin (action.Send its other net ∷ actions) loops =
    over_all table link pin actions (with_net its other (record { net = net; slot = slot_in table net }) loops) ∙ by (eqb its link && eqb other pin) refl where
      item : LoopNet
      item = record { net = net; slot = slot_in table net }

      by : (own : Bool) → (eqb its link && eqb other pin) ≡ own → nets_over link pin (with_net its other (record { net = net; slot = slot_in table net }) loops) ++ sent_over link pin actions ≡ nets_over link pin loops ++ (if own then net ∷ sent_over link pin actions else sent_over link pin actions)
      by true is =
          let parts = and_parts (eqb its link) (eqb other pin) is in
          let here : nets_over link pin (with_net its other item loops) ≡ nets_over link pin loops ++ net ∷ [] =
          ap₂ (λ (one two : ℕ). nets_over link pin (with_net one two item loops)) (eqb-true its link parts.0) (eqb-true other pin parts.1) ∙ over_same link pin item loops in
          ap (λ (list : List ℕ). list ++ sent_over link pin actions) here ∙ append_assoc (nets_over link pin loops) (net ∷ []) (sent_over link pin actions)
      by false is =
          let apart = λ (first : its ≡ link) (second : other ≡ pin). true≢false (sym (same_pin its other link pin first second) ∙ is) in
          ap (λ (list : List ℕ). list ++ sent_over link pin actions) (over_other its other link pin apart item loops)

-- ---- each pin has one loop

abbrev pub Apart : List ShiftLoop → Type 0
Apart [] = true ≡ true
Apart (one ∷ loops) = (list_any (is_of one.link one.pin) loops ≡ false) × Apart loops

none_with : (its other link pin : ℕ) → (its ≡ link → other ≡ pin → ⊥) → (item : LoopNet) (loops : List ShiftLoop)
    → list_any (is_of link pin) loops ≡ false → list_any (is_of link pin) (with_net its other item loops) ≡ false
none_with its other link pin apart item [] none = ap (λ (own : Bool). own || false) (other_pin its other link pin apart)
none_with its other link pin apart item (one ∷ loops) none = by (is_of its other one) (none_with its other link pin apart item loops (neither (is_of link pin one) (list_any (is_of link pin) loops) none).1) where
  by : (own : Bool) → list_any (is_of link pin) (with_net its other item loops) ≡ false
      → list_any (is_of link pin) (if own then record one { nets = one.nets ++ item ∷ [] } ∷ loops else one ∷ with_net its other item loops) ≡ false
  by true rest = none
  by false rest = ap₂ (λ (first later : Bool). first || later) (neither (is_of link pin one) (list_any (is_of link pin) loops) none).0 rest

apart_with : (link pin : ℕ) (item : LoopNet) (loops : List ShiftLoop) → Apart loops → Apart (with_net link pin item loops)
apart_with link pin item [] apart = (refl, refl)
apart_with link pin item (one ∷ loops) apart = by (is_of link pin one) refl (apart_with link pin item loops apart.1) where
  by : (own : Bool) → is_of link pin one ≡ own → Apart (with_net link pin item loops) → Apart (if own then record one { nets = one.nets ++ item ∷ [] } ∷ loops else one ∷ with_net link pin item loops)
  by true is rest = apart
  by false is rest = (none_with link pin one.link one.pin (λ first second. true≢false (sym (same_pin one.link one.pin link pin (sym first) (sym second)) ∙ is)) item loops apart.0, rest)

apart_all : (table : List ℕ) (actions : List Action) (loops : List ShiftLoop) → Apart loops → Apart (all_loops table loops actions)
apart_all table [] loops apart = apart
apart_all table (action.Evaluate number ∷ actions) loops apart = apart_all table actions loops apart
apart_all table (action.Send link pin net ∷ actions) loops apart = apart_all table actions (with_net link pin (record { net = net; slot = slot_in table net }) loops) (apart_with link pin (record { net = net; slot = slot_in table net }) loops apart)
apart_all table (action.Take link pin net ∷ actions) loops apart = apart_all table actions loops apart
apart_all table (action.Step ∷ actions) loops apart = apart_all table actions loops apart

any_at : (link pin : ℕ) (loops : List ShiftLoop) (place : ℕ) (one : ShiftLoop) → slice_get loops place ≡ Some one → one.link ≡ link
    → one.pin ≡ pin → list_any (is_of link pin) loops ≡ true
any_at link pin [] place one at first second = cc
any_at link pin (own ∷ loops) zero one at first second =
    let same : own ≡ one = cc in
    or_left (is_of link pin own) (list_any (is_of link pin) loops) (ap (is_of link pin) same ∙ same_pin one.link one.pin link pin first second)
any_at link pin (own ∷ loops) (suc place) one at first second = or_right (is_of link pin own) (list_any (is_of link pin) loops) (any_at link pin loops place one at first second)

nets_at : (loops : List ShiftLoop) → Apart loops → (place : ℕ) (one : ShiftLoop) → slice_get loops place ≡ Some one
    → nets_over one.link one.pin loops ≡ loop_nets one
nets_at [] apart place one at = cc
nets_at (first ∷ loops) apart zero one at =
    let same : first ≡ one = cc in
    subst (λ (own : ShiftLoop). nets_over own.link own.pin (first ∷ loops) ≡ loop_nets own) same (ap (λ (is : Bool). if is then loop_nets first else nets_over first.link first.pin loops) (same_pin first.link first.pin first.link first.pin refl refl))
nets_at (first ∷ loops) apart (suc place) one at =
    let no : is_of one.link one.pin first ≡ false = other_pin first.link first.pin one.link one.pin (λ link pin. true≢false (sym (any_at first.link first.pin loops place one at (sym link) (sym pin)) ∙ apart.0)) in
    ap (λ (is : Bool). if is then loop_nets first else nets_over one.link one.pin loops) no ∙ nets_at loops apart.1 place one at

one_place : (loops : List ShiftLoop) → Apart loops → (place other : ℕ) (one two : ShiftLoop) → slice_get loops place ≡ Some one
    → slice_get loops other ≡ Some two → one.link ≡ two.link → one.pin ≡ two.pin → place ≡ other
one_place [] apart place other one two at there link pin = cc
one_place (first ∷ loops) apart zero zero one two at there link pin = refl
one_place (first ∷ loops) apart zero (suc other) one two at there link pin =
    let same : first ≡ one = cc in
    absurd (true≢false (sym (any_at first.link first.pin loops other two there (sym link ∙ ap (λ (own : ShiftLoop). own.link) (sym same)) (sym pin ∙ ap (λ (own : ShiftLoop). own.pin) (sym same))) ∙ apart.0))
one_place (first ∷ loops) apart (suc place) zero one two at there link pin =
    let same : first ≡ two = cc in
    absurd (true≢false (sym (any_at first.link first.pin loops place one at (link ∙ ap (λ (own : ShiftLoop). own.link) (sym same)) (pin ∙ ap (λ (own : ShiftLoop). own.pin) (sym same))) ∙ apart.0))
one_place (first ∷ loops) apart (suc place) (suc other) one two at there link pin = ap suc (one_place loops apart.1 place other one two at there link pin)

pub are_loops : (table : List ℕ) (actions : List Action) → AreLoops actions (all_loops table [] actions)
are_loops table actions =
    let apart = apart_all table actions [] refl in
    record {
      nets = λ place one at. sym (nets_at (all_loops table [] actions) apart place one at) ∙ over_all table one.link one.pin actions [];
      apart = one_place (all_loops table [] actions) apart;
    }

-- ---- the loop of a send

abbrev pub HasPin : List ShiftLoop → ℕ → ℕ → ℕ → Type 0
HasPin loops place link pin = (one : ShiftLoop) × (slice_get loops place ≡ Some one) × (one.link ≡ link) × (one.pin ≡ pin)

pub here_with : (link pin : ℕ) (item : LoopNet) (loops : List ShiftLoop) → HasPin (with_net link pin item loops) (loop_place link pin loops) link pin
here_with link pin item [] = (record { link = link; pin = pin; nets = item ∷ [] }, refl, refl, refl)
here_with link pin item (one ∷ loops) = by (is_of link pin one) refl (here_with link pin item loops) where
  by : (own : Bool) → is_of link pin one ≡ own → HasPin (with_net link pin item loops) (loop_place link pin loops) link pin
      → HasPin (if own then record one { nets = one.nets ++ item ∷ [] } ∷ loops else one ∷ with_net link pin item loops) (if own then 0 else suc (loop_place link pin loops)) link pin
  by true is rest = let its = of_pin link pin one is in (record one { nets = one.nets ++ item ∷ [] }, refl, its.0, its.1)
  by false is rest = rest

stays_with : (its other : ℕ) (item : LoopNet) (loops : List ShiftLoop) (place link pin : ℕ) → HasPin loops place link pin
    → HasPin (with_net its other item loops) place link pin
stays_with its other item [] place link pin has = let none = has.1 in cc
stays_with its other item (one ∷ loops) zero link pin has =
    let at = has.1 in
    let same : one ≡ has.0 = cc in
    by (is_of its other one) (ap (λ (own : ShiftLoop). own.link) same ∙ has.2) (ap (λ (own : ShiftLoop). own.pin) same ∙ has.3) where
      by : (own : Bool) → one.link ≡ link → one.pin ≡ pin → HasPin (if own then record one { nets = one.nets ++ item ∷ [] } ∷ loops else one ∷ with_net its other item loops) zero link pin
      by true first second = (record one { nets = one.nets ++ item ∷ [] }, refl, first, second)
      by false first second = (one, refl, first, second)
stays_with its other item (one ∷ loops) (suc place) link pin has = by (is_of its other one) (stays_with its other item loops place link pin has) where
  by : (own : Bool) → HasPin (with_net its other item loops) place link pin → HasPin (if own then record one { nets = one.nets ++ item ∷ [] } ∷ loops else one ∷ with_net its other item loops) (suc place) link pin
  by true rest = has
  by false rest = rest

pub stays_all : (table : List ℕ) (actions : List Action) (loops : List ShiftLoop) (place link pin : ℕ) → HasPin loops place link pin
    → HasPin (all_loops table loops actions) place link pin
stays_all table [] loops place link pin has = has
stays_all table (action.Evaluate number ∷ actions) loops place link pin has = stays_all table actions loops place link pin has
stays_all table (action.Send its other net ∷ actions) loops place link pin has = stays_all table actions (with_net its other (record { net = net; slot = slot_in table net }) loops) place link pin (stays_with its other (record { net = net; slot = slot_in table net }) loops place link pin has)
stays_all table (action.Take its other net ∷ actions) loops place link pin has = stays_all table actions loops place link pin has
stays_all table (action.Step ∷ actions) loops place link pin has = stays_all table actions loops place link pin has

-- ---- the slots of the nets

module _ (table : List ℕ) (P : LoopNet → Type 0) where
  abbrev pub AllNets : List ShiftLoop → Type 0
  AllNets loops = AllByRecursion (λ one. AllByRecursion P one.nets) loops

  -- what holds of the net that an action sends
  abbrev pub OfSent : Action → Type 0
  OfSent (action.Evaluate number) = true ≡ true
  OfSent (action.Send link pin net) = P (record { net = net; slot = slot_in table net })
  OfSent (action.Take link pin net) = true ≡ true
  OfSent action.Step = true ≡ true

  nets_with : (link pin : ℕ) (item : LoopNet) → P item → (loops : List ShiftLoop) → AllNets loops → AllNets (with_net link pin item loops)
  nets_with link pin item its [] all = ((its, tt), tt)
  nets_with link pin item its (one ∷ loops) all = by (is_of link pin one) (nets_with link pin item its loops all.1) where
    by : (own : Bool) → AllNets (with_net link pin item loops) → AllNets (if own then record one { nets = one.nets ++ item ∷ [] } ∷ loops else one ∷ with_net link pin item loops)
    by true rest = (all_append P one.nets (item ∷ []) all.0 (its, tt), all.1)
    by false rest = (all.0, rest)

  pub nets_all : (actions : List Action) → AllByRecursion OfSent actions → (loops : List ShiftLoop) → AllNets loops → AllNets (all_loops table loops actions)
  nets_all [] its loops all = all
  nets_all (action.Evaluate number ∷ actions) its loops all = nets_all actions its.1 loops all
  nets_all (action.Send link pin net ∷ actions) its loops all = nets_all actions its.1 (with_net link pin (record { net = net; slot = slot_in table net }) loops) (nets_with link pin (record { net = net; slot = slot_in table net }) its.0 loops all)
  nets_all (action.Take link pin net ∷ actions) its loops all = nets_all actions its.1 loops all
  nets_all (action.Step ∷ actions) its loops all = nets_all actions its.1 loops all

-- ---- one net more, by places

pub with_there : (link pin : ℕ) (item : LoopNet) (loops : List ShiftLoop) (one : ShiftLoop) → loop_place link pin loops < length loops → one ≡ get_or loops (loop_place link pin loops) one → with_net link pin item loops ≡ set loops (loop_place link pin loops) (record one { nets = one.nets ++ item ∷ [] })
with_there link pin item [] one inside is = absurd (omega (arith, inside))
with_there link pin item (first ∷ loops) one inside is = by (is_of link pin first) inside is (with_there link pin item loops one) where
  by : (own : Bool) → (if own then 0 else suc (loop_place link pin loops)) < length (first ∷ loops)
      → one ≡ get_or (first ∷ loops) (if own then 0 else suc (loop_place link pin loops)) one
      → (loop_place link pin loops < length loops → one ≡ get_or loops (loop_place link pin loops) one → with_net link pin item loops ≡ set loops (loop_place link pin loops) (record one { nets = one.nets ++ item ∷ [] }))
      → (if own then record first { nets = first.nets ++ item ∷ [] } ∷ loops else first ∷ with_net link pin item loops) ≡ set (first ∷ loops) (if own then 0 else suc (loop_place link pin loops)) (record one { nets = one.nets ++ item ∷ [] })
  by true inside is rest = ap (λ (own : ShiftLoop). record own { nets = own.nets ++ item ∷ [] } ∷ loops) (sym is)
  by false inside is rest = ap (λ (list : List ShiftLoop). first ∷ list) (rest (omega (arith, inside)) is)

pub with_new : (link pin : ℕ) (item : LoopNet) (loops : List ShiftLoop) → length loops ≡ loop_place link pin loops → with_net link pin item loops ≡ loops ++ record { link = link; pin = pin; nets = item ∷ [] } ∷ []
with_new link pin item [] past = refl
with_new link pin item (first ∷ loops) past = by (is_of link pin first) past (with_new link pin item loops) where
  by : (own : Bool) → length (first ∷ loops) ≡ (if own then 0 else suc (loop_place link pin loops)) → (length loops ≡ loop_place link pin loops → with_net link pin item loops ≡ loops ++ record { link = link; pin = pin; nets = item ∷ [] } ∷ [])
      → (if own then record first { nets = first.nets ++ item ∷ [] } ∷ loops else first ∷ with_net link pin item loops) ≡ first ∷ (loops ++ record { link = link; pin = pin; nets = item ∷ [] } ∷ [])
  by true past rest = absurd (omega (arith, past))
  by false past rest = ap (λ (list : List ShiftLoop). first ∷ list) (rest (omega (arith, past)))

pub place_inside : (link pin : ℕ) (loops : List ShiftLoop) → (loop_place link pin loops < length loops → ⊥) → length loops ≡ loop_place link pin loops
place_inside link pin [] past = refl
place_inside link pin (first ∷ loops) past = by (is_of link pin first) past (place_inside link pin loops) where
  by : (own : Bool) → ((if own then 0 else suc (loop_place link pin loops)) < length (first ∷ loops) → ⊥)
      → ((loop_place link pin loops < length loops → ⊥) → length loops ≡ loop_place link pin loops)
      → length (first ∷ loops) ≡ (if own then 0 else suc (loop_place link pin loops))
  by true past rest = absurd (past (omega arith))
  by false past rest = ap suc (rest (λ inside. past (omega (arith, inside))))
