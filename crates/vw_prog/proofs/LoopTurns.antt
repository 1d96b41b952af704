-- Shift loops are turned by the sends of actions.
use Rattle.std.proofs.Common.{◌≡◌, ◌<◌, ◌≤◌, ◌+◌, ◌&&◌, ◌∷◌, ◌++◌, ℕ, zero, suc, Bool, true, false, List, [], length, take, set, eqb, slice_get, Some, if◌then◌else◌, ap, ap₂, refl, sym, ◌∙◌, ⊎_elim, eq-eqb, ne_eqb, arith}
use Rattle.std.specs.Prelude.{slice_index_or}
use Rattle.std.proofs.lemmas.Bool.{cases_eq}
use Rattle.std.proofs.lemmas.List.{append-nil, get_or-set_other, get_or-set_same, length-append, length-map, length-set, take_all}
use Rattle.std.proofs.lemmas.Option.{slice_get_within}
use Rattle.vw_prog.specs.declared.action.Action.{Action}
use Rattle.vw_prog.specs.declared.action.Action.TheVariants as action
use Rattle.vw_prog.specs.declared.shift.LoopNet.{LoopNet}
use Rattle.vw_prog.specs.declared.shift.ShiftLoop.{ShiftLoop}
use Rattle.vw_prog.specs.Loops.{AreLoops, Stand, loop_nets, place_after, sent_over}
use Rattle.vw_prog.proofs.ShiftLoops.{other_pin, same_pin}
use Rattle.vw_prog.proofs.UnfoldedCodes.{sent_there}

-- ---- places

none_after : (count : ℕ) → place_after count 0 ≡ 0
none_after count = by (eqb 0 count) 0 where
  by : (all : Bool) (none : ℕ) → (if all then none else none) ≡ none
  by true none = refl
  by false none = refl

all_after : (count turns : ℕ) → turns ≡ count → place_after count turns ≡ 0
all_after count turns all = ap (λ (is : Bool). if is then 0 else turns) (eq-eqb turns count all)

some_after : (count turns : ℕ) → turns < count → place_after count turns ≡ turns
some_after count turns some = ap (λ (is : Bool). if is then 0 else turns) (ne_eqb turns count (λ all. omega (arith, all, some)))

-- ---- one action more

sent_step : (link pin : ℕ) (program : List Action) (made : ℕ) (next : Action) → slice_get program made ≡ Some next
    → sent_over link pin (take (suc made) program) ≡ sent_over link pin (take made program) ++ sent_over link pin (next ∷ [])
sent_step link pin [] made next at = cc
sent_step link pin (one ∷ program) zero next at = let same : one ≡ next = cc in ap (λ (own : Action). sent_over link pin (own ∷ [])) same
sent_step link pin (action.Evaluate number ∷ program) (suc made) next at = sent_step link pin program made next at
sent_step link pin (action.Take its other net ∷ program) (suc made) next at = sent_step link pin program made next at
sent_step link pin (action.Step ∷ program) (suc made) next at = sent_step link pin program made next at
sent_step link pin (action.Send its other net ∷ program) (suc made) next at = by (eqb its link && eqb other pin) (sent_step link pin program made next at) where
  by : (own : Bool) → sent_over link pin (take (suc made) program) ≡ sent_over link pin (take made program) ++ sent_over link pin (next ∷ [])
      → (if own then net ∷ sent_over link pin (take (suc made) program) else sent_over link pin (take (suc made) program)) ≡ (if own then net ∷ sent_over link pin (take made program) else sent_over link pin (take made program)) ++ sent_over link pin (next ∷ [])
  by true rest = ap (λ (nets : List ℕ). net ∷ nets) rest
  by false rest = rest

-- an action that sends nothing
abbrev pub SendsNothing : Action → Type 0
SendsNothing next = (link pin : ℕ) → sent_over link pin (next ∷ []) ≡ []

module _ (program : List Action) (loops : List ShiftLoop) where
  pub stand_first : (places : List ℕ) → length places ≡ length loops → ((place : ℕ) → slice_index_or places place 0 ≡ 0) → Stand program loops 0 places
  stand_first places count zeros = record { count = count; stands = λ place one at. zeros place ∙ sym (none_after (length one.nets)) }

  module _ (made : ℕ) (places : List ℕ) (stand : Stand program loops made places) where
    pub stand_on : (next : Action) → slice_get program made ≡ Some next → SendsNothing next → Stand program loops (made + 1) places
    stand_on next at nothing =
        let one_more : suc made ≡ made + 1 = omega arith in
        record {
          count = stand.count;
          stands = λ place one there.
              stand.stands place one there
              ∙ ap (λ (nets : List ℕ). place_after (length one.nets) (length nets))
              (sym (sent_step one.link one.pin program made next at ∙ ap (λ (nets : List ℕ). sent_over one.link one.pin (take made program) ++ nets) (nothing one.link one.pin) ∙ append-nil (sent_over one.link one.pin (take made program)))
              ∙ ap (λ (count : ℕ). sent_over one.link one.pin (take count program)) one_more);
        }

    module _ (are : AreLoops program loops) where
      -- when all are made, each stands at its first net again
      pub stand_again : length program ≤ made → Stand program loops 0 places
      stand_again all = record {
        count = stand.count;
        stands = λ place one there.
            let whole : take made program ≡ program = take_all made program all in
            let nets : sent_over one.link one.pin (take made program) ≡ loop_nets one = ap (sent_over one.link one.pin) whole ∙ sym (are.nets place one there) in
            let many : length (sent_over one.link one.pin (take made program)) ≡ length one.nets = ap (λ (list : List ℕ). length list) nets ∙ length-map one.nets (λ (item : LoopNet). item.net) in
            stand.stands place one there ∙ all_after (length one.nets) (length (sent_over one.link one.pin (take made program))) many ∙ sym (none_after (length one.nets));
      }

      module _ (link pin net at : ℕ) (one : ShiftLoop) (next : slice_get program made ≡ Some (action.Send link pin net)) (there : slice_get loops at ≡ Some one) (its_link : one.link ≡ link) (its_pin : one.pin ≡ pin) where
        abbrev turns : ℕ
        turns = length (sent_over one.link one.pin (take made program))

        sent : slice_get (loop_nets one) turns ≡ Some net
        sent =
            ap (λ (nets : List ℕ). slice_get nets turns) (are.nets at one there)
            ∙ ap₂ (λ (link pin : ℕ). slice_get (sent_over link pin program) (length (sent_over link pin (take made program)))) its_link its_pin
            ∙ sent_there link pin net program made next

        turns_inside : turns < length one.nets
        turns_inside = omega (arith, slice_get_within (loop_nets one) turns net sent, length-map one.nets (λ (item : LoopNet). item.net))

        place_is : slice_index_or places at 0 ≡ turns
        place_is = stand.stands at one there ∙ some_after (length one.nets) turns turns_inside

        -- the loop of a send stands at a net, which is the net of the send
        pub place_inside : slice_index_or places at 0 < length one.nets
        place_inside = omega (arith, place_is, turns_inside)

        pub net_here : slice_get (loop_nets one) (slice_index_or places at 0) ≡ Some net
        net_here = ap (slice_get (loop_nets one)) place_is ∙ sent

        own_sent : sent_over one.link one.pin (action.Send link pin net ∷ []) ≡ net ∷ []
        own_sent = ap (λ (own : Bool). if own then net ∷ [] else []) (same_pin link pin one.link one.pin (sym its_link) (sym its_pin))

        -- and it alone is turned
        pub stand_turned : (new : List ℕ) → new ≡ set places at (place_after (length one.nets) (slice_index_or places at 0 + 1))
            → Stand program loops (made + 1) new
        stand_turned new is = record {
          count = ap (λ (list : List ℕ). length list) is ∙ length-set places at _ ∙ stand.count;
          stands = λ place two here. ⊎_elim (own place two here) (other place two here) (cases_eq place at);
        } where
          one_more : suc made ≡ made + 1
          one_more = omega arith

          now : (two : ShiftLoop)
              → sent_over two.link two.pin (take (made + 1) program) ≡ sent_over two.link two.pin (take made program) ++ sent_over two.link two.pin (action.Send link pin net ∷ [])
          now two = ap (λ (count : ℕ). sent_over two.link two.pin (take count program)) (sym one_more) ∙ sent_step two.link two.pin program made (action.Send link pin net) next

          own : (place : ℕ) (two : ShiftLoop) → slice_get loops place ≡ Some two → place ≡ at
              → slice_index_or new place 0 ≡ place_after (length two.nets) (length (sent_over two.link two.pin (take (made + 1) program)))
          own place two here same =
              let its : one ≡ two = cc (there, here, same) in
              let within : at < length places = omega (arith, stand.count, slice_get_within loops at one there) in
              let more : slice_index_or places at 0 + 1 ≡ length (sent_over one.link one.pin (take (made + 1) program)) =
              omega (arith, place_is, ap (λ (list : List ℕ). length list) (now one ∙ ap (λ (nets : List ℕ). sent_over one.link one.pin (take made program) ++ nets) own_sent), length-append (sent_over one.link one.pin (take made program)) (net ∷ [])) in
              ap₂ (λ (list : List ℕ) (spot : ℕ). slice_index_or list spot 0) is same
              ∙ get_or-set_same places at (place_after (length one.nets) (slice_index_or places at 0 + 1)) 0 within
              ∙ ap (place_after (length one.nets)) more
              ∙ ap (λ (its : ShiftLoop). place_after (length its.nets) (length (sent_over its.link its.pin (take (made + 1) program)))) its

          other : (place : ℕ) (two : ShiftLoop) → slice_get loops place ≡ Some two → (place ≡ at → ⊥)
              → slice_index_or new place 0 ≡ place_after (length two.nets) (length (sent_over two.link two.pin (take (made + 1) program)))
          other place two here apart =
              let pins = λ (first : link ≡ two.link) (second : pin ≡ two.pin). apart (sym (are.apart at place one two there here (its_link ∙ first) (its_pin ∙ second))) in
              let none : sent_over two.link two.pin (action.Send link pin net ∷ []) ≡ [] = ap (λ (own : Bool). if own then net ∷ [] else []) (other_pin link pin two.link two.pin pins) in
              ap (λ (list : List ℕ). slice_index_or list place 0) is
              ∙ get_or-set_other places at place (place_after (length one.nets) (slice_index_or places at 0 + 1)) 0 apart
              ∙ stand.stands place two here
              ∙ ap (λ (nets : List ℕ). place_after (length two.nets) (length nets)) (sym (now two ∙ ap (λ (nets : List ℕ). sent_over two.link two.pin (take made program) ++ nets) none ∙ append-nil (sent_over two.link two.pin (take made program))))
