-- The shift loops of a code unfold to the actions that it was made for.
use Rattle.std.proofs.Common.{◌≡◌, ◌<◌, ◌+◌, ◌-◌, ◌&&◌, ◌∷◌, ◌++◌, ℕ, zero, suc, Bool, true, false, List, [], length, map, take, get_or, eqb, slice_get, Option, Some, None, if◌then◌else◌, ap, ap₂, refl, sym, subst, ◌∙◌, true≢false, eqb-true, eq-eqb, append_assoc, arith}
use Rattle.std.specs.Prelude.{slice_index_or, option_map}
use Rattle.std.proofs.lemmas.List.{append-nil, get_or-map, length-map}
use Rattle.std.proofs.lemmas.Option.{get_or_from_slice_get, slice_get-get_or}
use Rattle.vw_net.specs.declared.flat.Flat.{Flat}
use Rattle.vw_plan.specs.PlannedBoard.{PlannedBoard}
use Rattle.vw_prog.specs.declared.action.Action.{Action}
use Rattle.vw_prog.specs.declared.action.Action.TheVariants as action
use Rattle.vw_prog.specs.declared.code.Code.{Code}
use Rattle.vw_prog.specs.declared.code.Op.{Op}
use Rattle.vw_prog.specs.declared.code.Op.TheVariants as op
use Rattle.vw_prog.specs.declared.shift.ShiftLoop.{ShiftLoop}
use Rattle.vw_prog.specs.Actions.{ArePrograms, actions}
use Rattle.vw_prog.specs.Codes.{BeginsWithAction, IsCode, net_slot}
use Rattle.vw_prog.specs.Loops.{AreLoops, loop_nets, sent_over}
use Rattle.vw_prog.specs.Unfolded.{action_by, actions_from, send_of, turns_of, unfolded, wide_number}
use Rattle.vw_prog.proofs.ShiftLoops.{other_pin, same_pin}

-- ---- lists

-- the net at the slot of a net
net_there : (nets : List ℕ) (net slot : ℕ) → net_slot nets net ≡ Some slot → slice_index_or nets slot 0 ≡ net
net_there [] net slot is = cc
net_there (first ∷ nets) net slot is = by (eqb first net) refl (net_slot nets net) refl is (net_there nets net) where
  by : (same : Bool) → eqb first net ≡ same → (rest : Option ℕ) → net_slot nets net ≡ rest
      → (if same then Some 0 else option_map suc rest) ≡ Some slot
      → ((place : ℕ) → net_slot nets net ≡ Some place → slice_index_or nets place 0 ≡ net)
      → slice_index_or (first ∷ nets) slot 0 ≡ net
  by true test rest there at further = let zero_is : 0 ≡ slot = cc in ap (λ (place : ℕ). slice_index_or (first ∷ nets) place 0) (sym zero_is) ∙ eqb-true first net test
  by false test (Some place) there at further = let next : suc place ≡ slot = cc in ap (λ (own : ℕ). slice_index_or (first ∷ nets) own 0) (sym next) ∙ further place there
  by false test None there at further = cc

-- a send finds its net behind those that were sent before it
pub sent_there : (link pin net : ℕ) (program : List Action) (place : ℕ) → slice_get program place ≡ Some (action.Send link pin net)
    → slice_get (sent_over link pin program) (length (sent_over link pin (take place program))) ≡ Some net
sent_there link pin net [] place at = cc
sent_there link pin net (one ∷ program) zero at =
    let same : one ≡ action.Send link pin net = cc in
    ap (λ (own : Action). slice_get (sent_over link pin (own ∷ program)) 0) same ∙ ap (λ (own : Bool). slice_get (if own then net ∷ sent_over link pin program else sent_over link pin program) 0) (same_pin link pin link pin refl refl)
sent_there link pin net (action.Evaluate number ∷ program) (suc place) at = sent_there link pin net program place at
sent_there link pin net (action.Take its other own ∷ program) (suc place) at = sent_there link pin net program place at
sent_there link pin net (action.Step ∷ program) (suc place) at = sent_there link pin net program place at
sent_there link pin net (action.Send its other own ∷ program) (suc place) at = by (eqb its link && eqb other pin) (sent_there link pin net program place at) where
  by : (here : Bool) → slice_get (sent_over link pin program) (length (sent_over link pin (take place program))) ≡ Some net
      → slice_get (if here then own ∷ sent_over link pin program else sent_over link pin program) (length (if here then own ∷ sent_over link pin (take place program) else sent_over link pin (take place program))) ≡ Some net
  by true rest = rest
  by false rest = rest

-- ---- actions of ops

pub length-from : (inputs : ℕ) (code : Code) (before ops : List Op) → length (actions_from inputs code before ops) ≡ length ops
length-from inputs code before [] = refl
length-from inputs code before (one ∷ ops) = ap suc (length-from inputs code (before ++ one ∷ []) ops)

pub action_there : (inputs : ℕ) (code : Code) (before ops : List Op) (place : ℕ) (one : Op) → slice_get ops place ≡ Some one
    → slice_get (actions_from inputs code before ops) place ≡ Some (action_by inputs code (before ++ take place ops) one)
action_there inputs code before [] place one at = cc
action_there inputs code before (first ∷ ops) zero one at =
    let same : first ≡ one = cc in
    ap₂ (λ (ops : List Op) (own : Op). Some (action_by inputs code ops own)) (sym (append-nil before)) same
action_there inputs code before (first ∷ ops) (suc place) one at =
    action_there inputs code (before ++ first ∷ []) ops place one at ∙ ap (λ (ops : List Op). Some (action_by inputs code ops one)) (append_assoc before (first ∷ []) (take place ops))

actions_are : (inputs : ℕ) (code : Code) (before ops : List Op) (program : List Action) → length ops ≡ length program
    → ((place : ℕ) (next : Action) (one : Op) → slice_get program place ≡ Some next → slice_get ops place ≡ Some one → action_by inputs code (before ++ take place ops) one ≡ next)
    → actions_from inputs code before ops ≡ program
actions_are inputs code before [] [] long each = refl
actions_are inputs code before [] (next ∷ program) long each = absurd (omega (arith, long))
actions_are inputs code before (one ∷ ops) [] long each = absurd (omega (arith, long))
actions_are inputs code before (one ∷ ops) (next ∷ program) long each =
    ap₂ (λ (own : Action) (rest : List Action). own ∷ rest) (ap (λ (ops : List Op). action_by inputs code ops one) (sym (append-nil before)) ∙ each 0 next one refl refl)
    (actions_are inputs code (before ++ one ∷ []) ops program (omega (arith, long)) (λ place later other at there. ap (λ (ops : List Op). action_by inputs code ops other) (append_assoc before (one ∷ []) (take place ops)) ∙ each (suc place) later other at there))

-- ---- a code that stands for actions

module _ (flat : Flat) (code : Code) where
  abbrev pub Begins : List Op → List Action → Type 0
  Begins ops program = (place : ℕ) (next : Action) → slice_get program place ≡ Some next → (one : Op) × (slice_get ops place ≡ Some one) × BeginsWithAction flat code next one

  module _ (all : List Action) (loops : AreLoops all code.loops.items) where
    -- a loop is turned by the sends over its pin
    module _ (at : ℕ) (own : ShiftLoop) (there : slice_get code.loops.items at ≡ Some own) where
      turned : (next : Action) (one : Op) (ops : List Op) (program : List Action) → BeginsWithAction flat code next one
          → turns_of at ops ≡ length (sent_over own.link own.pin program)
          → turns_of at (one ∷ ops) ≡ length (sent_over own.link own.pin (next ∷ program))
      turned (action.Evaluate number) (op.Run first end slot) ops program begins rest = rest
      turned (action.Evaluate number) (op.Wide place) ops program begins rest = rest
      turned (action.Evaluate number) (op.Send place) ops program begins rest = absurd begins
      turned (action.Evaluate number) (op.Take its other slot) ops program begins rest = absurd begins
      turned (action.Evaluate number) op.Step ops program begins rest = absurd begins
      turned (action.Take link pin net) (op.Run first end slot) ops program begins rest = absurd begins
      turned (action.Take link pin net) (op.Wide place) ops program begins rest = absurd begins
      turned (action.Take link pin net) (op.Send place) ops program begins rest = absurd begins
      turned (action.Take link pin net) (op.Take its other slot) ops program begins rest = rest
      turned (action.Take link pin net) op.Step ops program begins rest = absurd begins
      turned action.Step (op.Run first end slot) ops program begins rest = absurd begins
      turned action.Step (op.Wide place) ops program begins rest = absurd begins
      turned action.Step (op.Send place) ops program begins rest = absurd begins
      turned action.Step (op.Take its other slot) ops program begins rest = absurd begins
      turned action.Step op.Step ops program begins rest = rest
      turned (action.Send link pin net) (op.Run first end slot) ops program begins rest = absurd begins
      turned (action.Send link pin net) (op.Wide place) ops program begins rest = absurd begins
      turned (action.Send link pin net) (op.Take its other slot) ops program begins rest = absurd begins
      turned (action.Send link pin net) op.Step ops program begins rest = absurd begins
      turned (action.Send link pin net) (op.Send place) ops program begins rest = by (eqb place at) refl where
        by : (here : Bool) → eqb place at ≡ here
            → (if here then suc (turns_of at ops) else turns_of at ops) ≡ length (if eqb link own.link && eqb pin own.pin then net ∷ sent_over own.link own.pin program else sent_over own.link own.pin program)
        by true test =
            let same : place ≡ at = eqb-true place at test in
            let its : begins.0 ≡ own = cc (begins.1, there, same) in
            let pins : (eqb link own.link && eqb pin own.pin) ≡ true = same_pin link pin own.link own.pin (sym begins.2 ∙ ap (λ (one : ShiftLoop). one.link) its) (sym begins.3 ∙ ap (λ (one : ShiftLoop). one.pin) its) in
            ap suc rest ∙ sym (ap (λ (one : Bool). length (if one then net ∷ sent_over own.link own.pin program else sent_over own.link own.pin program)) pins)
        by false test =
            let apart = λ (first : link ≡ own.link) (second : pin ≡ own.pin).
            true≢false (sym (eq-eqb place at (loops.apart place at begins.0 own begins.1 there (begins.2 ∙ first) (begins.3 ∙ second))) ∙ test) in
            rest ∙ sym (ap (λ (one : Bool). length (if one then net ∷ sent_over own.link own.pin program else sent_over own.link own.pin program)) (other_pin link pin own.link own.pin apart))

      pub turns_are : (ops : List Op) (program : List Action) → length ops ≡ length program → Begins ops program → (made : ℕ)
          → turns_of at (take made ops) ≡ length (sent_over own.link own.pin (take made program))
      turns_are [] [] long begins zero = refl
      turns_are [] [] long begins (suc made) = refl
      turns_are [] (next ∷ program) long begins made = absurd (omega (arith, long))
      turns_are (one ∷ ops) [] long begins made = absurd (omega (arith, long))
      turns_are (one ∷ ops) (next ∷ program) long begins zero = refl
      turns_are (one ∷ ops) (next ∷ program) long begins (suc made) =
          let first = begins 0 next refl in
          let found = first.1 in
          let same : first.0 ≡ one = cc in
          turned next one (take made ops) (take made program) (subst (BeginsWithAction flat code next) same first.2)
          (turns_are ops program (omega (arith, long)) (λ place later at_place. begins (suc place) later at_place) made)

    -- each op stands for its action
    module _ (long : length code.ops.items ≡ length all) (begins : Begins code.ops.items all) where
      each_is : (place : ℕ) (next : Action) (one : Op) → slice_get all place ≡ Some next → BeginsWithAction flat code next one
          → action_by flat.inputs code (take place code.ops.items) one ≡ next
      each_is place (action.Evaluate number) (op.Run first end slot) at own =
          let its = own.3 in
          let back : slice_index_or code.nets.items slot 0 - flat.inputs ≡ number = omega (arith, net_there code.nets.items (flat.inputs + number) slot its.target) in
          ap action.Evaluate back
      each_is place (action.Evaluate number) (op.Wide gate) at own = ap action.Evaluate (ap wide_number own.1 ∙ own.2.same)
      each_is place (action.Evaluate number) (op.Send loop) at own = absurd own
      each_is place (action.Evaluate number) (op.Take its other slot) at own = absurd own
      each_is place (action.Evaluate number) op.Step at own = absurd own
      each_is place (action.Take link pin net) (op.Run first end slot) at own = absurd own
      each_is place (action.Take link pin net) (op.Wide gate) at own = absurd own
      each_is place (action.Take link pin net) (op.Send loop) at own = absurd own
      each_is place (action.Take link pin net) (op.Take its other slot) at own = λ i. action.Take (own.0 i) (own.1 i) (net_there code.nets.items net slot own.2 i)
      each_is place (action.Take link pin net) op.Step at own = absurd own
      each_is place action.Step (op.Run first end slot) at own = absurd own
      each_is place action.Step (op.Wide gate) at own = absurd own
      each_is place action.Step (op.Send loop) at own = absurd own
      each_is place action.Step (op.Take its other slot) at own = absurd own
      each_is place action.Step op.Step at own = refl
      each_is place (action.Send link pin net) (op.Run first end slot) at own = absurd own
      each_is place (action.Send link pin net) (op.Wide gate) at own = absurd own
      each_is place (action.Send link pin net) (op.Take its other slot) at own = absurd own
      each_is place (action.Send link pin net) op.Step at own = absurd own
      each_is place (action.Send link pin net) (op.Send loop) at own =
          let one = own.0 in
          let turns = turns_are loop one own.1 code.ops.items all long begins place in
          let sent : slice_get (loop_nets one) (length (sent_over one.link one.pin (take place all))) ≡ Some net =
          ap (λ (nets : List ℕ). slice_get nets (length (sent_over one.link one.pin (take place all)))) (loops.nets loop one own.1)
          ∙ ap₂ (λ (link pin : ℕ). slice_get (sent_over link pin all) (length (sent_over link pin (take place all)))) own.2 own.3
          ∙ sent_there link pin net all place at in
          let here : slice_get (loop_nets one) (turns_of loop (take place code.ops.items)) ≡ Some net = ap (slice_get (loop_nets one)) turns ∙ sent in
          ap (λ (its : Option ShiftLoop). send_of its (turns_of loop (take place code.ops.items))) own.1
          ∙ (λ i. action.Send (own.2 i) (own.3 i) (get_or_from_slice_get (loop_nets one) (turns_of loop (take place code.ops.items)) net 0 here i))

      found_is : (place : ℕ) (next : Action) (one : Op) → slice_get all place ≡ Some next → slice_get code.ops.items place ≡ Some one
          → action_by flat.inputs code (take place code.ops.items) one ≡ next
      found_is place next one at there =
          let found = begins place next at in
          let is = found.1 in
          let same : found.0 ≡ one = cc in
          each_is place next one at (subst (BeginsWithAction flat code next) same found.2)

      pub unfolds : unfolded flat.inputs code ≡ all
      unfolds = actions_are flat.inputs code [] code.ops.items all long found_is

-- ---- programs as contracts see them

pub code_there : (inputs : ℕ) (codes : List Code) (lists : List (List Action)) (node : ℕ) (code : Code)
    → map (unfolded inputs) codes ≡ lists → node < length lists → code ≡ get_or codes node code
    → (node < length codes) × (slice_index_or lists node [] ≡ unfolded inputs code)
code_there inputs codes lists node code are low is =
    let within : node < length codes = omega (arith, low, ap (λ (all : List (List Action)). length all) are, length-map codes (unfolded inputs)) in
    (within, ap (λ (all : List (List Action)). slice_index_or all node []) (sym are) ∙ get_or-map (unfolded inputs) codes node code [] within ∙ ap (unfolded inputs) (sym is))

-- and there is an op for each number
pub op_there : (inputs : ℕ) (codes : List Code) (lists : List (List Action)) (node number : ℕ) (code : Code)
    → map (unfolded inputs) codes ≡ lists → node < length lists → code ≡ get_or codes node code
    → number < length (slice_index_or lists node []) → number < length code.ops.items
op_there inputs codes lists node number code are low is inside = omega (arith, inside, ap (λ (list : List Action). length list) (code_there inputs codes lists node code are low is).1, length-from inputs code [] code.ops.items)

pub action_is : (inputs : ℕ) (code : Code) (list : List Action) (number : ℕ) (one : Op) (next : Action) → list ≡ unfolded inputs code
    → number < length code.ops.items → one ≡ get_or code.ops.items number one
    → next ≡ action_by inputs code (take number code.ops.items) one → next ≡ slice_index_or list number next
action_is inputs code list number one next are low is next_is =
    let there : slice_get code.ops.items number ≡ Some one = slice_get-get_or code.ops.items number one low ∙ ap Some (sym is) in
    next_is ∙ sym (get_or_from_slice_get (unfolded inputs code) number (action_by inputs code (take number code.ops.items) one) next (action_there inputs code [] code.ops.items number one there)) ∙ ap (λ (all : List Action). slice_index_or all number next) (sym are)

none_inside : (codes : List Code) (node : ℕ) → node < length codes → slice_get codes node ≡ None → ⊥
none_inside [] node low at = omega (arith, low)
none_inside (code ∷ codes) zero low at = cc
none_inside (code ∷ codes) (suc node) low at = none_inside codes node (omega (arith, low)) at

pub are_programs : (planned : PlannedBoard) (inputs : ℕ) (codes : List Code) → inputs ≡ planned.ordered.flat.inputs
    → length codes ≡ suc planned.board.chips
    → ((node : ℕ) (code : Code) → slice_get codes node ≡ Some code → IsCode planned node (actions planned node) code)
    → ArePrograms planned (record { lists = map (unfolded inputs) codes; codes = codes })
are_programs planned inputs codes inputs_are count stand = record {
  count = length-map codes (unfolded inputs) ∙ count;
  each = λ node low. by node (slice_get codes node) refl (omega (arith, low, count));
  codes = count;
  stand = stand;
} where
  by : (node : ℕ) (found : Option Code) → slice_get codes node ≡ found → node < length codes
      → slice_index_or (map (unfolded inputs) codes) node [] ≡ actions planned node
  by node None at low = absurd (none_inside codes node low at)
  by node (Some code) at low =
      let is_code = stand node code at in
      get_or-map (unfolded inputs) codes node code [] low
      ∙ ap (unfolded inputs) (get_or_from_slice_get codes node code code at)
      ∙ ap (λ (count : ℕ). unfolded count code) inputs_are
      ∙ unfolds planned.ordered.flat code (actions planned node) is_code.loops is_code.count is_code.begins
