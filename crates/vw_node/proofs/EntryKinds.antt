-- Which entry an action is of.
use Rattle.std.proofs.Common.{◌≡◌, ◌≢◌, ◌<◌, ◌≤◌, ◌+◌, ◌-◌, ◌%◌, ◌∷◌, ℕ, zero, suc, Bool, true, false, List, [], length, map, get_or, eqb, slice_get, if◌then◌else◌, ap, refl, sym, ◌∙◌, ⊎_elim, inl, inr, ◌⊎◌, true≢false, eqb-true, Some, arith}
use Rattle.std.proofs.lemmas.Bool.{cases_lt}
use Rattle.std.proofs.lemmas.List.{length-append, length-map}
use Rattle.std.proofs.lemmas.Option.{slice_get-get_or}
use Rattle.vw_plan.specs.PlannedBoard.{PlannedBoard}
use Rattle.vw_prog.specs.declared.action.Action.{Action}
use Rattle.vw_prog.specs.declared.action.Action.TheVariants.{Evaluate, Send, Step, Take}
use Rattle.vw_prog.specs.declared.entry.Entry.{Entry}
use Rattle.vw_prog.specs.Actions.{action_of, actions}
use Rattle.vw_prog.specs.Timetable.{entries_at, is_evaluating, is_sending, is_taking, timetable}
use Rattle.vw_prog.proofs.LinkPasses.{turn_of}
use Rattle.vw_node.proofs.Words.{get_append_left, get_append_right, get_map}

-- an entry has one turn
pub other_turn : (entry : Entry) (own other : ℕ) → eqb (entry.moment % 3) own ≡ true → own ≢ other → eqb (entry.moment % 3) other ≡ false
other_turn entry own other is apart = turn_of (entry.moment % 3) own other (eqb-true (entry.moment % 3) own is) apart

pub last_turn : (rest : ℕ) → rest < 3 → eqb rest 0 ≡ false → eqb rest 1 ≡ false → eqb rest 2 ≡ true
last_turn zero low none one = absurd (true≢false none)
last_turn (suc zero) low none one = absurd (true≢false one)
last_turn (suc (suc zero)) low none one = refl
last_turn (suc (suc (suc rest))) low none one = absurd (omega (arith, low))

pub evaluates : (inputs gate : ℕ) (entry : Entry) → Evaluate gate ≡ action_of inputs entry → (is_evaluating entry ≡ true) × (gate ≡ entry.net - inputs)
evaluates inputs gate entry is = by (is_evaluating entry) (is_sending entry) refl is where
  by : (first second : Bool) → is_evaluating entry ≡ first
      → Evaluate gate ≡ (if first then Evaluate (entry.net - inputs) else (if second then Send entry.link entry.place entry.net else Take entry.link entry.place entry.net))
      → (is_evaluating entry ≡ true) × (gate ≡ entry.net - inputs)
  by true second one same = (one, cc)
  by false true one same = cc
  by false false one same = cc

pub sends : (inputs link pin net : ℕ) (entry : Entry) → Send link pin net ≡ action_of inputs entry
    → (is_sending entry ≡ true) × (link ≡ entry.link) × (pin ≡ entry.place) × (net ≡ entry.net)
sends inputs link pin net entry is = by (is_evaluating entry) (is_sending entry) refl is where
  by : (first second : Bool) → is_sending entry ≡ second
      → Send link pin net ≡ (if first then Evaluate (entry.net - inputs) else (if second then Send entry.link entry.place entry.net else Take entry.link entry.place entry.net))
      → (is_sending entry ≡ true) × (link ≡ entry.link) × (pin ≡ entry.place) × (net ≡ entry.net)
  by true second two same = cc
  by false true two same = (two, cc, cc, cc)
  by false false two same = cc

pub takes : (inputs link pin net : ℕ) (entry : Entry) → Take link pin net ≡ action_of inputs entry
    → (is_taking entry ≡ true) × (link ≡ entry.link) × (net ≡ entry.net)
takes inputs link pin net entry is = by (is_evaluating entry) (is_sending entry) refl refl is where
  by : (first second : Bool) → is_evaluating entry ≡ first → is_sending entry ≡ second
      → Take link pin net ≡ (if first then Evaluate (entry.net - inputs) else (if second then Send entry.link entry.place entry.net else Take entry.link entry.place entry.net))
      → (is_taking entry ≡ true) × (link ≡ entry.link) × (net ≡ entry.net)
  by true second one two same = cc
  by false true one two same = cc
  by false false one two same = (last_turn (entry.moment % 3) (omega arith) one two, cc, cc)

module _ (planned : PlannedBoard) (node made : ℕ) (under : made ≤ length (entries_at node (timetable planned))) where
  abbrev own : List Entry
  own = entries_at node (timetable planned)

  abbrev inputs : ℕ
  inputs = planned.ordered.flat.inputs

  -- the next action is an entry's, or the step
  pub next_entry : (action : Action) → slice_get (actions planned node) made ≡ Some action
      → ((entry : Entry) × ((slice_get own made ≡ Some entry) × (action ≡ action_of inputs entry))) ⊎ ((made ≡ length own) × (action ≡ Step))
  next_entry action is =
      let none : Entry = record { moment = 0; link = 0; place = 0; node = 0; net = 0 } in
      let if_entry = λ (below : made < length own).
      let at : slice_get own made ≡ Some (get_or own made none) = slice_get-get_or own made none below in
      let there = get_append_left (map (action_of inputs) own) (Step ∷ []) made (action_of inputs (get_or own made none)) (get_map (action_of inputs) own made (get_or own made none) at) in
      let same : action ≡ action_of inputs (get_or own made none) = cc in
      inl (get_or own made none, (at, same)) in
      let if_step = λ (past : length own ≤ made).
      let all : made ≡ length own = omega (arith, past, under) in
      let place : made ≡ length (map (action_of inputs) own) + 0 = omega (arith, all, length-map own (action_of inputs)) in
      let there : slice_get (actions planned node) made ≡ Some Step = ap (slice_get (actions planned node)) place ∙ get_append_right (map (action_of inputs) own) (Step ∷ []) 0 in
      let same : action ≡ Step = cc in
      inr (all, same) in
      ⊎_elim if_entry if_step (cases_lt made (length own))

  -- an action that a program has there
  pub next_is : (program : List Action) (default action : Action) → program ≡ actions planned node → get_or program made default ≡ action
      → slice_get (actions planned node) made ≡ Some action
  next_is program default action is here =
      let within : made < length program = omega (arith, under, ap length is, length-append (map (action_of inputs) own) (Step ∷ []), length-map own (action_of inputs)) in
      ap (λ (list : List Action). slice_get list made) (sym is) ∙ slice_get-get_or program made default within ∙ ap Some here
