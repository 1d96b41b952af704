-- What the ops of a node do, as actions.
use Rattle.std.proofs.Common.{◌≡◌, ◌<◌, ◌≤◌, ◌+◌, ◌-◌, ◌∷◌, ◌++◌, ℕ, zero, suc, Bool, true, false, List, [], length, map, get_or, set, take, drop, slice_get, Option, Some, None, ap, ap₂, refl, sym, subst, ◌∙◌, ⊎_elim, All, arith}
use Rattle.std.specs.List.{AllByRecursion, slice_range}
use Rattle.std.proofs.lemmas.List.{drop_more, length-map, length-set}
use Rattle.std.proofs.lemmas.Option.{get_or_from_slice_get, slice_get-get_or, slice_get_within}
use Rattle.vw_net.specs.declared.cell.Cell.{Cell}
use Rattle.vw_net.specs.declared.cell.Cell.TheVariants.{Gate, Latch}
use Rattle.vw_net.specs.declared.cover.Cover.{Cover}
use Rattle.vw_net.specs.declared.flat.Flat.{Flat}
use Rattle.vw_net.specs.Cover.{cover_value}
use Rattle.vw_net.specs.TruthTable.{bit_of, place_of}
use Rattle.vw_net.proofs.FittingCells.{cell_fits}
use Rattle.vw_net.proofs.DrivenValues.{map_agree}
use Rattle.vw_net.proofs.TruthTables.{truth_table_repeats}
use Rattle.vw_plan.specs.PlannedBoard.{PlannedBoard}
use Rattle.vw_prog.specs.declared.action.Action.{Action}
use Rattle.vw_prog.specs.declared.action.Action.TheVariants as action
use Rattle.vw_prog.specs.declared.code.Code.{Code}
use Rattle.vw_prog.specs.declared.code.Op.{Op}
use Rattle.vw_prog.specs.declared.code.Op.TheVariants as op
use Rattle.vw_prog.specs.declared.code.WideGate.{WideGate}
use Rattle.vw_prog.specs.declared.entry.Entry.{Entry}
use Rattle.vw_prog.specs.declared.job.Job.{Job}
use Rattle.vw_prog.specs.Actions.{action_of, actions}
use Rattle.vw_prog.specs.Codes.{BeginsWithAction, IsCode, IsTableGate, IsWideGate, net_slot}
use Rattle.vw_prog.specs.Ends.{SeenEnds}
use Rattle.vw_prog.specs.Loops.{Stand}
use Rattle.vw_prog.specs.Scripts.{planned_of}
use Rattle.vw_prog.specs.SeenGates.{SeenGate, seen_gates}
use Rattle.vw_prog.specs.Timetable.{entries_at, is_evaluating, timetable}
use Rattle.vw_prog.proofs.LoopTurns.{stand_on}
use Rattle.vw_node.specs.declared.step.Step.TheVariants.{Moved}
use Rattle.vw_node.specs.Fits.{bit_by, bit_at_slot}
use Rattle.vw_node.specs.Left.{left}
use Rattle.vw_node.specs.Lists.{tabulate}
use Rattle.vw_node.specs.Moves.{MakesActions, Steps}
use Rattle.vw_node.specs.Positions.{Agrees}
use Rattle.vw_node.specs.Slots.{HasArity, ReadsWithin, wide_by, with_gates}
use Rattle.vw_node.specs.States.{NodeState, evaluated, gate_bit, slot}
use Rattle.vw_node.proofs.EntryKinds.{evaluates, next_entry}
use Rattle.vw_node.proofs.MovesOn.{goes_before, less_left}
use Rattle.vw_node.proofs.NodeSteps.{evaluated_agrees, gate_net, next_of}
use Rattle.vw_node.proofs.SlotBits.{bits_are, known_written, slot_within, slots_long}
use Rattle.vw_node.proofs.Values.{get_or-tabulate}

-- a range of a list, from its first element on
range_more : {X : Type 0} (xs : List X) (first stop : ℕ) (x : X) → slice_get xs first ≡ Some x → first < stop
    → slice_range xs first stop ≡ x ∷ slice_range xs (first + 1) stop
range_more xs first stop x is some =
    let left : stop - first ≡ suc (stop - (first + 1)) = omega (arith, some) in
    let opened : drop first xs ≡ x ∷ drop (first + 1) xs = drop_more xs first x (slice_get_within xs first x is) ∙ ap (λ (one : _). one ∷ drop (first + 1) xs) (get_or_from_slice_get xs first x x is) in
    ap₂ take left opened

range_none : {X : Type 0} (xs : List X) (first : ℕ) → slice_range xs first first ≡ []
range_none xs first = let none : first - first ≡ 0 = omega arith in ap (λ (many : ℕ). take many (drop first xs)) none

module _ (ends : SeenEnds) (node : ℕ) (code : Code) (is_code : IsCode (planned_of ends.job) node (actions (planned_of ends.job) node) code) where
  abbrev job : Job
  job = ends.job

  abbrev planned : PlannedBoard
  planned = planned_of job

  abbrev flat : Flat
  flat = job.checked.ordered.flat

  abbrev program : List Action
  program = actions planned node

  abbrev nets : List ℕ
  nets = code.nets.items

  abbrev all_nets : ℕ
  all_nets = flat.inputs + length flat.cells

  -- the action of an op
  pub op_begins : (place : ℕ) (one : Op) → slice_get code.ops.items place ≡ Some one
      → (next : Action) × ((slice_get program place ≡ Some next) × BeginsWithAction flat code next one)
  op_begins place one is =
      let within : place < length program = omega (arith, slice_get_within code.ops.items place one is, is_code.count) in
      let next = get_or program place action.Step in
      let there : slice_get program place ≡ Some next = slice_get-get_or program place action.Step within in
      let begins = is_code.begins place next there in
      let found : begins.0 ≡ one = cc (begins.1, is) in
      (next, (there, subst (λ (other : Op). BeginsWithAction flat code next other) found begins.2))

  -- ---- gates

  abbrev pub RunsOn : ℕ → ℕ → List SeenGate → Type 0
  RunsOn made slot [] = made ≡ made
  RunsOn made slot (gate ∷ gates) = (number : ℕ) × (slice_get program made ≡ Some (action.Evaluate number)) × IsTableGate flat nets number gate slot × RunsOn (made + 1) (slot + 1) gates

  pub run_begins : (place first end slot : ℕ) → slice_get code.ops.items place ≡ Some (op.Run first end slot)
      → (number : ℕ) × (slice_get program place ≡ Some (action.Evaluate number)) × BeginsWithAction flat code (action.Evaluate number) (op.Run first end slot)
  run_begins place first end slot is = let found = op_begins place (op.Run first end slot) is in by found.0 found.1.0 found.1.1 where
    by : (next : Action) → slice_get program place ≡ Some next → BeginsWithAction flat code next (op.Run first end slot)
        → (number : ℕ) × (slice_get program place ≡ Some (action.Evaluate number)) × BeginsWithAction flat code (action.Evaluate number) (op.Run first end slot)
    by (action.Evaluate number) at begins = (number, at, begins)
    by (action.Send link pin net) at begins = absurd begins
    by (action.Take link pin net) at begins = absurd begins
    by action.Step at begins = absurd begins

  -- the gates of a part of a run
  pub run_of : (count place first stop end slot : ℕ) → stop ≡ first + suc count → stop ≤ end
      → slice_get code.ops.items place ≡ Some (op.Run first end slot)
      → RunsOn place slot (slice_range (seen_gates code.gates) first stop) × (stop ≤ length (seen_gates code.gates))
  run_of zero place first stop end slot is within at =
      let found = run_begins place first end slot at in
      let gate = found.2.1 in
      let last : stop ≡ first + 1 = omega (arith, is) in
      let one : slice_range (seen_gates code.gates) first stop ≡ gate ∷ [] = range_more (seen_gates code.gates) first stop gate found.2.2 (omega (arith, is)) ∙ ap (λ (stop : ℕ). gate ∷ slice_range (seen_gates code.gates) (first + 1) stop) last ∙ ap (λ (gates : List SeenGate). gate ∷ gates) (range_none (seen_gates code.gates) (first + 1)) in
      (subst (RunsOn place slot) (sym one) (found.0, found.1, found.2.3, refl), omega (arith, is, slice_get_within (seen_gates code.gates) first gate found.2.2))
  run_of (suc count) place first stop end slot is within at =
      let found = run_begins place first end slot at in
      let gate = found.2.1 in
      let more : slice_range (seen_gates code.gates) first stop ≡ gate ∷ slice_range (seen_gates code.gates) (first + 1) stop = range_more (seen_gates code.gates) first stop gate found.2.2 (omega (arith, is)) in
      let rest = run_of count (place + 1) (first + 1) stop end (slot + 1) (omega (arith, is)) within (is_code.runs place first end slot at (omega (arith, is, within))) in
      (subst (RunsOn place slot) (sym more) (found.0, found.1, found.2.3, rest.0), rest.1)

  pub runs_inside : (made slot : ℕ) (gates : List SeenGate) → RunsOn made slot gates → made ≤ length program → made + length gates ≤ length program
  runs_inside made slot [] runs under = omega (arith, under)
  runs_inside made slot (gate ∷ gates) (number, at, is, rest) under =
      let inside : made < length program = slice_get_within program made (action.Evaluate number) at in
      omega (arith, runs_inside (made + 1) (slot + 1) gates rest (omega (arith, inside)))

  pub runs_within : (made slot : ℕ) (gates : List SeenGate) → RunsOn made slot gates → AllByRecursion (ReadsWithin (length nets)) gates
  runs_within made slot [] runs = tt
  runs_within made slot (gate ∷ gates) (number, at, is, rest) = (is.within, runs_within (made + 1) (slot + 1) gates rest)

  -- none of them turns a loop
  pub runs_stand : (made slot : ℕ) (gates : List SeenGate) (places : List ℕ) → RunsOn made slot gates
      → Stand program code.loops.items made places → Stand program code.loops.items (made + length gates) places
  runs_stand made slot [] places runs stand = let none : made ≡ made + 0 = omega arith in subst (λ (count : ℕ). Stand program code.loops.items count places) none stand
  runs_stand made slot (gate ∷ gates) places (number, at, is, rest) stand =
      let all : made + 1 + length gates ≡ made + suc (length gates) = omega arith in
      subst (λ (count : ℕ). Stand program code.loops.items count places) all
      (runs_stand (made + 1) (slot + 1) gates places rest (stand_on program code.loops.items made places stand (action.Evaluate number) at (λ link pin. refl)))

  -- there are slots for all of them
  pub runs_room : (made slot : ℕ) (gates : List SeenGate) → RunsOn made slot gates → 0 < length gates → slot + length gates ≤ length nets
  runs_room made slot [] runs some = absurd (omega (arith, some))
  runs_room made slot (gate ∷ []) (number, at, is, rest) some = omega (arith, slot_within nets (flat.inputs + number) slot is.target)
  runs_room made slot (gate ∷ second ∷ gates) (number, at, is, rest) some = omega (arith, runs_room (made + 1) (slot + 1) (second ∷ gates) rest (omega arith))

  -- what a gate reads are nets
  ins_within : (number : ℕ) (ins : List ℕ) (cover : Cover) → slice_get flat.cells number ≡ Some (Gate ins cover)
      → (length ins ≡ cover.inputs) × All (λ net. net < all_nets) ins
  ins_within number ins cover is = cell_fits all_nets flat.cells number (Gate ins cover) flat.cells_fit is

  pub length-with_gates : (slot : ℕ) (gates : List SeenGate) (bits : List Bool) → length (with_gates slot gates bits) ≡ length bits
  length-with_gates slot [] bits = refl
  length-with_gates slot (gate ∷ gates) bits =
      let bit = bit_of gate.truth_table (place_of (map (bit_at_slot bits) gate.reads)) in
      length-with_gates (slot + 1) gates (set bits slot bit) ∙ length-set bits slot bit

  module _ (number : ℕ) (bits : List Bool) where
    -- a gate by its truth table has the value of its cover
    pub table_bit : (gate : SeenGate) (slot : ℕ) → IsTableGate flat nets number gate slot
        → bit_of gate.truth_table (place_of (map (bit_at_slot bits) gate.reads)) ≡ gate_bit (bit_by nets bits) (slice_get flat.cells number)
    table_bit gate slot is =
        let fits = ins_within number is.ins is.cover is.cell in
        let own_bits : map (bit_at_slot bits) is.own ≡ map (bit_by nets bits) is.ins = bits_are nets bits is.ins is.own is.slots in
        let parts : map (bit_at_slot bits) gate.reads ≡ map (bit_by nets bits) is.ins ++ map (bit_at_slot bits) is.more =
        ap (map (bit_at_slot bits)) is.reads ∙ map_parts (bit_at_slot bits) is.own is.more ∙ ap (λ (some : List Bool). some ++ map (bit_at_slot bits) is.more) own_bits in
        let long : length (map (bit_by nets bits) is.ins ++ map (bit_at_slot bits) is.more) ≡ length gate.reads = ap (λ (some : List Bool). length some) (sym parts) ∙ length-map gate.reads (bit_at_slot bits) in
        ap₂ (λ (table : ℕ) (some : List Bool). bit_of table (place_of some)) is.truth_table parts
        ∙ truth_table_repeats is.cover (map (bit_by nets bits) is.ins) (map (bit_at_slot bits) is.more) (length-map is.ins (bit_by nets bits) ∙ fits.0) (omega (arith, long, is.few))
        ∙ ap (gate_bit (bit_by nets bits)) (sym is.cell) where
          map_parts : (f : ℕ → Bool) (xs ys : List ℕ) → map f (xs ++ ys) ≡ map f xs ++ map f ys
          map_parts f [] ys = refl
          map_parts f (x ∷ xs) ys = ap (λ (rest : List Bool). f x ∷ rest) (map_parts f xs ys)

    -- and so has one by its rows
    pub wide_arity : (gate : WideGate) → IsWideGate flat nets number gate → HasArity (slice_get flat.cells gate.number) gate.reads
    wide_arity gate is =
        let cell : slice_get flat.cells gate.number ≡ Some (Gate is.ins is.cover) = ap (slice_get flat.cells) is.same ∙ is.cell in
        let long : length gate.reads ≡ is.cover.inputs = sym (slots_long nets is.ins gate.reads is.slots) ∙ (ins_within number is.ins is.cover is.cell).0 in
        subst (λ (one : Option Cell). HasArity one gate.reads) (sym cell) long

    pub wide_is : (gate : WideGate) → IsWideGate flat nets number gate
        → wide_by (slice_get flat.cells gate.number) bits gate.reads ≡ gate_bit (bit_by nets bits) (slice_get flat.cells number)
    wide_is gate is =
        let cell : slice_get flat.cells gate.number ≡ Some (Gate is.ins is.cover) = ap (slice_get flat.cells) is.same ∙ is.cell in
        ap (λ (one : Option Cell). wide_by one bits gate.reads) cell
        ∙ ap (cover_value is.cover) (bits_are nets bits is.ins gate.reads is.slots)
        ∙ ap (gate_bit (bit_by nets bits)) (sym is.cell)

  -- ---- states

  module _ (clock many : ℕ) (rows : List (List Bool)) (many_are : many ≡ all_nets) (unfinished : clock < length job.rows) where
    -- the node with these bits, when so many actions are made
    abbrev pub known : ℕ → List Bool → NodeState
    known made bits = record { clock = clock; made = made; slots = tabulate (bit_by nets bits) many; rows = rows }

    -- the bits of the slots are those that the list of all nets has
    slots_agree : (bits : List Bool) (made number : ℕ) (cell : Option Cell) → slice_get flat.cells number ≡ cell
        → gate_bit (bit_by nets bits) cell ≡ gate_bit (slot (known made bits)) cell
    slots_agree bits made number None at = refl
    slots_agree bits made number (Some (Latch d init)) at = refl
    slots_agree bits made number (Some (Gate ins cover)) at =
        let fits = ins_within number ins cover at in
        ap (cover_value cover) (map_agree (bit_by nets bits) (slot (known made bits)) ins (λ place default within. sym (get_or-tabulate (bit_by nets bits) many (get_or ins place default) false (omega (arith, many_are, fits.1 place default within)))))

    -- ---- a gate, at any point of a run

    module _ (made : ℕ) (bits : List Bool) (size : length bits ≡ length nets) (agree : Agrees job node (known made bits) ends) (number : ℕ) (at : slice_get program made ≡ Some (action.Evaluate number))
        (target : ℕ) (bit : Bool) (is : net_slot nets (flat.inputs + number) ≡ Some target) (right : bit ≡ gate_bit (bit_by nets bits) (slice_get flat.cells number)) where
      found : (entry : Entry) × ((slice_get (entries_at node (timetable planned)) made ≡ Some entry) × (action.Evaluate number ≡ action_of flat.inputs entry))
      found = ⊎_elim (λ entry. entry) (λ last. absurd (no_step last.1)) (next_entry planned node made agree.holds.under (action.Evaluate number) at) where
        no_step : action.Evaluate number ≡ action.Step → ⊥
        no_step same = cc

      kind : (is_evaluating found.0 ≡ true) × (number ≡ found.0.net - flat.inputs)
      kind = evaluates flat.inputs number found.0 found.1.1

      inside : flat.inputs + number < all_nets
      inside = gate_net ends node (known made bits) agree unfinished found.0 found.1.0 number kind.0 kind.1

      next_state : known (made + 1) (set bits target bit) ≡ evaluated planned number (known made bits)
      next_state =
          ap (λ (all : List Bool). let state : NodeState = record { clock = clock; made = made + 1; slots = all; rows = rows } in state)
          (known_written nets bits (flat.inputs + number) target bit many is (omega (arith, size, slot_within nets (flat.inputs + number) target is)) (omega (arith, inside, many_are))
          ∙ ap (set (tabulate (bit_by nets bits) many) (flat.inputs + number)) (right ∙ slots_agree bits made number (slice_get flat.cells number) refl))

      pub gate_agrees : Agrees job node (known (made + 1) (set bits target bit)) ends
      gate_agrees = subst (λ (state : NodeState). Agrees job node state ends) (sym next_state) (evaluated_agrees ends node (known made bits) agree unfinished found.0 found.1.0 number kind.0 kind.1)

      pub gate_steps : Steps job node (known made bits) (known (made + 1) (set bits target bit)) ends ends Moved
      gate_steps = (action.Evaluate number, next_of ends node (known made bits) agree unfinished (action.Evaluate number) at, (next_state, refl))

    -- ---- the gates of a run

    abbrev pub HasGone : ℕ → List SeenGate → ℕ → ℕ → List Bool → Type 0
    HasGone place gates made last bits =
        Agrees job node (known last (with_gates place gates bits)) ends
        × MakesActions job node (known made bits) (known last (with_gates place gates bits)) ends ends (length gates)
        × (left job node (known last (with_gates place gates bits)) + length gates ≡ left job node (known made bits))

    pub gates_go : (gates : List SeenGate) (place made last : ℕ) (bits : List Bool) → last ≡ made + length gates → length bits ≡ length nets
        → RunsOn made place gates → Agrees job node (known made bits) ends → HasGone place gates made last bits
    gates_go [] place made last bits is size runs agree =
        let same : made ≡ last = omega (arith, is) in
        (subst (λ (at : ℕ). Agrees job node (known at bits) ends) same agree, (ap (λ (at : ℕ). known at bits) (sym same), refl), omega (arith, ap (λ (at : ℕ). left job node (known at bits)) same))
    gates_go (gate ∷ gates) place made last bits is size (number, at, table, rest) agree =
        let bit = bit_of gate.truth_table (place_of (map (bit_at_slot bits) gate.reads)) in
        let right = table_bit number bits gate place table in
        let step = gate_steps made bits size agree number at place bit table.target right in
        let gone = gates_go gates (place + 1) (made + 1) last (set bits place bit) (omega (arith, is)) (length-set bits place bit ∙ size) rest (gate_agrees made bits size agree number at place bit table.target right) in
        let less = less_left job node (known made bits) (known (made + 1) (set bits place bit)) ends ends step agree.holds in
        (gone.0, goes_before job node (known made bits) (known (made + 1) (set bits place bit)) (known last (with_gates (place + 1) gates (set bits place bit))) ends ends ends (length gates) step gone.1, omega (arith, gone.2, less))
