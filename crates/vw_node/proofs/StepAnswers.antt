-- What a try of a node comes to, by its next op.
use Rattle.std.proofs.Common.{◌≡◌, ◌<◌, ◌≤◌, ◌+◌, ◌-◌, ℕ, Bool, true, false, List, length, get_or, set, take, drop, slice_get, if◌then◌else◌, ap, refl, sym, subst, ◌∙◌, ⊎_elim, Some, None, All, arith}
use Rattle.std.specs.Global.{Vec}
use Rattle.std.specs.List.{slice_range}
use Rattle.std.specs.Prelude.{slice_index_or, option_map}
use Rattle.std.proofs.lemmas.List.{get_or_default, length-append, length-drop, length-map, length-set, length-take}
use Rattle.std.proofs.lemmas.List.Elements.{All-from_recursion}
use Rattle.std.proofs.lemmas.Option.{get_or_from_slice_get, slice_get-get_or, slice_get-map, slice_get_within}
use Rattle.vw_net.specs.declared.flat.Flat.{Flat}
use Rattle.vw_plan.specs.declared.checked.Checked.{Checked}
use Rattle.vw_plan.specs.PlannedBoard.{PlannedBoard}
use Rattle.vw_prog.specs.declared.action.Action.{Action}
use Rattle.vw_prog.specs.declared.action.Action.TheVariants as action
use Rattle.vw_prog.specs.declared.code.Code.{Code}
use Rattle.vw_prog.specs.declared.code.Op.{Op}
use Rattle.vw_prog.specs.declared.code.Op.TheVariants as op
use Rattle.vw_prog.specs.declared.code.WideGate.{WideGate}
use Rattle.vw_prog.specs.declared.entry.Entry.{Entry}
use Rattle.vw_prog.specs.declared.job.Job.{Job}
use Rattle.vw_prog.specs.declared.job.Share.{Share}
use Rattle.vw_prog.specs.declared.shift.LoopNet.{LoopNet}
use Rattle.vw_prog.specs.declared.shift.ShiftLoop.{ShiftLoop}
use Rattle.vw_prog.specs.declared.word.Word.{Word}
use Rattle.vw_prog.specs.Actions.{action_of, actions}
use Rattle.vw_prog.specs.Codes.{BeginsWithAction, IsWideGate, net_slot}
use Rattle.vw_prog.specs.Ends.{IsExpected, IsNextWord, Puts, SeenEnds, Takes, counted_at}
use Rattle.vw_prog.specs.Loops.{Stand, loop_nets, place_after}
use Rattle.vw_prog.specs.Scripts.{planned_of}
use Rattle.vw_prog.specs.SeenGates.{SeenGate, seen_gates}
use Rattle.vw_prog.specs.Timetable.{entries_at, timetable}
use Rattle.vw_prog.proofs.LoopTurns.{net_here, place_inside, stand_on, stand_turned}
use Rattle.vw_node.specs.declared.node.Node.{Node}
use Rattle.vw_node.specs.declared.step.Step.TheVariants.{Empty, Full, Moved}
use Rattle.vw_node.specs.Fits.{FitsJob, bit_by, slot_bit, state_of}
use Rattle.vw_node.specs.Lists.{tabulate}
use Rattle.vw_node.specs.Moves.{MakesSome, Steps}
use Rattle.vw_node.specs.Positions.{Agrees}
use Rattle.vw_node.specs.Slots.{HasArity, ReadsWithin, wide_by, with_gates}
use Rattle.vw_node.specs.Starts.{net_count}
use Rattle.vw_node.specs.States.{NodeState, gate_bit, moved_on, slot, written}
use Rattle.vw_node.proofs.EntryKinds.{next_entry, sends, takes}
use Rattle.vw_node.proofs.MovesOn.{makes_many, makes_none, makes_one}
use Rattle.vw_node.proofs.NodeSteps.{is_expected, next_of, sent_agrees, sent_net, sent_next, taken_agrees, taken_net}
use Rattle.vw_node.proofs.OpActions.{HasGone, RunsOn, gate_agrees, gate_steps, gates_go, length-with_gates, op_begins, run_begins, run_of, runs_inside, runs_room, runs_stand, runs_within, wide_arity, wide_is}
use Rattle.vw_node.proofs.SlotBits.{known_written, slot_within, slots_within}
use Rattle.vw_node.proofs.Values.{get_or-tabulate}

-- a node that stands where its ends do, and has a clock left
pub record AtWork (ends : SeenEnds) (old : Node) : Type 0 where
  pub fits : FitsJob ends.job old
  pub agrees : Agrees ends.job old.share.node (state_of old) ends
  pub differ : old.clock ≡ old.share.clocks → ⊥

-- the next op is a gate by its rows: the gate that was read, and the netlist of its cell
pub record ReadsGate (ends : SeenEnds) (old : Node) (read : Op) (place : ℕ) (gate : WideGate) (its_flat : Flat) : Type 0 where
  pub found : read ≡ get_or old.code.now.ops.items old.made read
  pub is : read ≡ op.Wide place
  pub here : gate ≡ get_or old.code.now.wide.items place gate
  pub flat_is : its_flat ≡ ends.job.checked.ordered.flat

-- the next op is a send: the shift loop that was read, and its link
pub record ReadsLoop (old : Node) (read : Op) (at : ℕ) (one : ShiftLoop) (link : ℕ) : Type 0 where
  pub found : read ≡ get_or old.code.now.ops.items old.made read
  pub is : read ≡ op.Send at
  pub there : one ≡ get_or old.code.now.loops.items at one
  pub link_is : link ≡ one.link

module _ {ends : SeenEnds} {old : Node} (works : AtWork ends old) where
  abbrev fits : FitsJob ends.job old
  fits = works.fits

  abbrev agrees : Agrees ends.job old.share.node (state_of old) ends
  agrees = works.agrees

  abbrev job : Job
  job = ends.job

  abbrev planned : PlannedBoard
  planned = planned_of job

  abbrev node : ℕ
  node = old.share.node

  abbrev state : NodeState
  state = state_of old

  abbrev flat : Flat
  flat = job.checked.ordered.flat

  abbrev code : Code
  code = old.code.now

  abbrev nets : List ℕ
  nets = code.nets.items

  abbrev many : ℕ
  many = net_count old.share

  abbrev own : List Entry
  own = entries_at node (timetable planned)

  -- the node with these bits, when so many actions are made
  abbrev known_now : ℕ → List Bool → NodeState
  known_now made bits = record { clock = old.clock; made = made; slots = tabulate (bit_by nets bits) many; rows = take old.clock old.rows }

  pub many_are : many ≡ flat.inputs + length flat.cells
  many_are = ap (λ (checked : Checked). checked.ordered.flat.inputs + length checked.ordered.flat.cells) fits.share.checked

  pub unfinished : old.clock < length job.rows
  unfinished = omega (arith, agrees.holds.within, fits.share.clocks, works.differ)

  pub actions_long : length (actions planned node) ≡ length own + 1
  actions_long = length-append _ _ ∙ ap (λ (count : ℕ). count + 1) (length-map own (action_of flat.inputs))

  -- there is an op
  op_within : old.made < length code.ops.items
  op_within = omega (arith, fits.code.count, actions_long, agrees.holds.under)

  -- and the one that was read is it
  pub op_is : {read one : Op} → read ≡ get_or code.ops.items old.made read → read ≡ one → slice_get code.ops.items old.made ≡ Some one
  op_is {read} found is = slice_get-get_or code.ops.items old.made read op_within ∙ ap Some (sym found ∙ is)

  abbrev program : List Action
  program = actions planned node

  abbrev loops : List ShiftLoop
  loops = code.loops.items

  -- what a node has stays, as long as there are as many slots, and its loops stand as its actions have turned them
  fits_then : (made : ℕ) (places : Vec ℕ) (slots : Vec Bool) → Stand program loops made places.items → length slots.items ≡ length old.slots.items → FitsJob job (record old { made = made; places = places; slots = slots })
  fits_then made places slots stand long = record { share = fits.share; code = fits.code; loops = stand; slots = long ∙ fits.slots; next = fits.next; count = fits.count; wide = fits.wide }

  fits_again : (new : Node) (made : ℕ) → new ≡ record old { made = made; slots = new.slots } → Stand program loops made old.places.items → length new.slots.items ≡ length old.slots.items → FitsJob job new
  fits_again new made rest stand long = subst (FitsJob job) (sym rest) (fits_then made old.places new.slots stand long)

  -- an answer about a node and its ends that are as they were is one about these
  pub moved_to : (new : Node) (state_then : NodeState) (after : SeenEnds) → new.share ≡ old.share → state_of new ≡ state_then → Agrees job node state_then after → Agrees job new.share.node (state_of new) after
  moved_to new so after share is agree = subst (λ (one : ℕ). Agrees job one (state_of new) after) (sym (ap (λ (own : Share). own.node) share)) (subst (λ (one : NodeState). Agrees job node one after) (sym is) agree)

  state_then : (new : Node) (made : ℕ) (bits : List Bool) → new ≡ record old { made = made; slots = new.slots } → new.slots.items ≡ bits → state_of new ≡ known_now made bits
  state_then new made bits rest wrote = ap state_of rest ∙ ap (known_now made) wrote

  -- ---- gates

  module _ {read : Op} {first end place : ℕ} (found : read ≡ get_or code.ops.items old.made read) (is : read ≡ op.Run first end place) where
    pub run_begins_first : first < end
    run_begins_first = (run_begins ends node code fits.code old.made first end place (op_is found is)).2.0

    module _ {stop : ℕ} (whole : Bool) (stop_is : stop ≡ (if whole then end else first + 1)) where
      pub run_some : first < stop
      run_some = by whole stop_is where
        by : (all : Bool) → stop ≡ (if all then end else first + 1) → first < stop
        by true at = omega (arith, at, run_begins_first)
        by false at = omega (arith, at)

      run_ends : stop ≤ end
      run_ends = by whole stop_is where
        by : (all : Bool) → stop ≡ (if all then end else first + 1) → stop ≤ end
        by true at = omega (arith, at)
        by false at = omega (arith, at, run_begins_first)

      abbrev gates : List SeenGate
      gates = slice_range (seen_gates code.gates) first stop

      runs : RunsOn ends node code fits.code old.made place gates × (stop ≤ length (seen_gates code.gates))
      runs = run_of ends node code fits.code (stop - first - 1) old.made first stop end place (omega (arith, run_some)) run_ends (op_is found is)

      pub run_last : stop ≤ length (seen_gates code.gates)
      run_last = runs.1

      pub run_within : All (ReadsWithin (length old.slots.items)) gates
      run_within = subst (λ (count : ℕ). All (ReadsWithin count) gates) (sym fits.slots) (All-from_recursion (ReadsWithin (length nets)) gates (runs_within ends node code fits.code old.made place gates runs.0))

      gates_long : length gates ≡ stop - first
      gates_long = omega (arith, run_last, length-take (stop - first) (drop first (seen_gates code.gates)), length-drop first (seen_gates code.gates))

      pub run_made : old.made + (stop - first) ≤ length code.ops.items
      run_made = omega (arith, gates_long, runs_inside ends node code fits.code old.made place gates runs.0 (omega (arith, op_within, fits.code.count)), fits.code.count)

      pub run_room : place + (stop - first) ≤ length old.slots.items
      run_room = omega (arith, gates_long, fits.slots, runs_room ends node code fits.code old.made place gates runs.0 (omega (arith, gates_long, run_some)))

      module _ {new : Node} (rest : new ≡ record old { made = old.made + (stop - first); slots = new.slots }) (wrote : new.slots.items ≡ with_gates place gates old.slots.items) where
        run_state : state_of new ≡ known_now (old.made + (stop - first)) (with_gates place gates old.slots.items)
        run_state = state_then new (old.made + (stop - first)) (with_gates place gates old.slots.items) rest wrote

        gone : HasGone ends node code fits.code old.clock many (take old.clock old.rows) many_are unfinished place gates old.made (old.made + (stop - first)) old.slots.items
        gone = gates_go ends node code fits.code old.clock many (take old.clock old.rows) many_are unfinished gates place old.made (old.made + (stop - first)) old.slots.items (omega (arith, gates_long)) fits.slots runs.0 agrees

        pub run_fits : FitsJob job new
        run_fits =
            let many_gates : old.made + length gates ≡ old.made + (stop - first) = ap (λ (count : ℕ). old.made + count) gates_long in
            fits_again new (old.made + (stop - first)) rest
            (subst (λ (count : ℕ). Stand program loops count old.places.items) many_gates (runs_stand ends node code fits.code old.made place gates old.places.items runs.0 fits.loops)) (ap (λ (bits : List Bool). length bits) wrote ∙ length-with_gates ends node code fits.code place gates old.slots.items)

        pub run_agrees : Agrees job new.share.node (state_of new) ends
        run_agrees = moved_to new (known_now (old.made + (stop - first)) (with_gates place gates old.slots.items)) ends (ap (λ (one : Node). one.share) rest) run_state gone.0

        pub run_makes : MakesSome job node state (state_of new) ends ends whole Moved
        run_makes =
            let single = λ (part : whole ≡ false). let one : stop ≡ first + 1 = stop_is ∙ ap (λ (all : Bool). if all then end else first + 1) part in let count : length gates ≡ 1 = omega (arith, gates_long, one) in count in
            subst (λ (one : NodeState). MakesSome job node state one ends ends whole Moved) (sym run_state)
            (makes_many job node state (known_now (old.made + (stop - first)) (with_gates place gates old.slots.items)) ends ends whole (length gates) (omega (arith, gates_long, run_some)) single gone.1 gone.2)

  -- ---- a gate by its rows

  module _ {read : Op} {place : ℕ} (found : read ≡ get_or code.ops.items old.made read) (is : read ≡ op.Wide place) where
    pub wide_gate : (number : ℕ) × (slice_get (actions planned node) old.made ≡ Some (action.Evaluate number)) × BeginsWithAction flat code (action.Evaluate number) (op.Wide place)
    wide_gate = let found = op_begins ends node code fits.code old.made (op.Wide place) (op_is found is) in by found.0 found.1.0 found.1.1 where
      by : (next : Action) → slice_get (actions planned node) old.made ≡ Some next → BeginsWithAction flat code next (op.Wide place) → (number : ℕ) × (slice_get (actions planned node) old.made ≡ Some (action.Evaluate number)) × BeginsWithAction flat code (action.Evaluate number) (op.Wide place)
      by (action.Evaluate number) at begins = (number, at, begins)
      by (action.Send link pin net) at begins = absurd begins
      by (action.Take link pin net) at begins = absurd begins
      by action.Step at begins = absurd begins

    pub wide_inside : place < length code.wide.items
    wide_inside = slice_get_within code.wide.items place wide_gate.2.0 wide_gate.2.1

  module _ {read : Op} {place : ℕ} {gate : WideGate} {its_flat : Flat} (its : ReadsGate ends old read place gate its_flat) where
    -- the number of its cell
    abbrev evaluated : ℕ
    evaluated = (wide_gate its.found its.is).0

    is_gate : IsWideGate flat nets evaluated gate
    is_gate =
        let its_gate = wide_gate its.found its.is in
        let here : slice_get code.wide.items place ≡ Some gate = slice_get-get_or code.wide.items place gate (wide_inside its.found its.is) ∙ ap Some (sym its.here) in
        let same : its_gate.2.0 ≡ gate = cc (its_gate.2.1, here) in subst (IsWideGate flat nets evaluated) same its_gate.2.2

    pub wide_reads : HasArity (slice_get its_flat.cells gate.number) gate.reads
    wide_reads = subst (λ (one : Flat). HasArity (slice_get one.cells gate.number) gate.reads) (sym its.flat_is) (wide_arity ends node code fits.code evaluated old.slots.items gate is_gate)

    pub wide_within : All (λ slot. slot < length old.slots.items) gate.reads
    wide_within = subst (λ (count : ℕ). All (λ slot. slot < count) gate.reads) (sym fits.slots) (slots_within nets is_gate.ins gate.reads is_gate.slots)

    pub wide_target : gate.target < length old.slots.items
    wide_target = omega (arith, fits.slots, slot_within nets (flat.inputs + evaluated) gate.target is_gate.target)

    module _ {new : Node} {bit : Bool} {bits : List Bool} (rest : new ≡ record old { made = old.made + 1; slots = new.slots }) (wrote : new.slots.items ≡ set old.slots.items gate.target bit)
        (bit_is : bit ≡ wide_by (slice_get its_flat.cells gate.number) bits gate.reads) (bits_are : bits ≡ old.slots.items) where
      wide_state : state_of new ≡ known_now (old.made + 1) (set old.slots.items gate.target bit)
      wide_state = state_then new (old.made + 1) (set old.slots.items gate.target bit) rest wrote

      right : bit ≡ gate_bit (bit_by nets old.slots.items) (slice_get flat.cells evaluated)
      right =
          bit_is ∙ ap (λ (all : List Bool). wide_by (slice_get its_flat.cells gate.number) all gate.reads) bits_are
          ∙ ap (λ (one : Flat). wide_by (slice_get one.cells gate.number) old.slots.items gate.reads) its.flat_is ∙ wide_is ends node code fits.code evaluated old.slots.items gate is_gate

      pub wide_fits : FitsJob job new
      wide_fits = fits_again new (old.made + 1) rest (stand_on program loops old.made old.places.items fits.loops (action.Evaluate evaluated) (wide_gate its.found its.is).1 (λ link pin. refl)) (ap (λ (bits : List Bool). length bits) wrote ∙ length-set old.slots.items gate.target bit)

      pub wide_agrees : Agrees job new.share.node (state_of new) ends
      wide_agrees =
          moved_to new (known_now (old.made + 1) (set old.slots.items gate.target bit)) ends (ap (λ (one : Node). one.share) rest) wide_state
          (gate_agrees ends node code fits.code old.clock many (take old.clock old.rows) many_are unfinished old.made old.slots.items fits.slots agrees evaluated (wide_gate its.found its.is).1 gate.target bit is_gate.target right)

      pub wide_makes : (whole : Bool) → MakesSome job node state (state_of new) ends ends whole Moved
      wide_makes whole =
          makes_one job node state (state_of new) ends ends whole
          (subst (λ (one : NodeState). Steps job node state one ends ends Moved) (sym wide_state)
          (gate_steps ends node code fits.code old.clock many (take old.clock old.rows) many_are unfinished old.made old.slots.items fits.slots agrees evaluated (wide_gate its.found its.is).1 gate.target bit is_gate.target right))
          agrees.holds

  -- the entry of an action that isn't the step
  entry_for : (next : Action) → slice_get (actions planned node) old.made ≡ Some next → (next ≡ action.Step → ⊥) → (entry : Entry) × ((slice_get own old.made ≡ Some entry) × (next ≡ action_of flat.inputs entry))
  entry_for next at other = ⊎_elim (λ found. found) (λ last. absurd (other last.1)) (next_entry planned node old.made agrees.holds.under next at)

  -- ---- a send

  module _ {read : Op} {at : ℕ} (found : read ≡ get_or code.ops.items old.made read) (is : read ≡ op.Send at) where
    -- the loop, and the action
    sending : (one : ShiftLoop) × (net : ℕ) × (slice_get loops at ≡ Some one) × (slice_get program old.made ≡ Some (action.Send one.link one.pin net))
    sending = let found = op_begins ends node code fits.code old.made (op.Send at) (op_is found is) in by found.0 found.1.0 found.1.1 where
      by : (next : Action) → slice_get program old.made ≡ Some next → BeginsWithAction flat code next (op.Send at) → (one : ShiftLoop) × (net : ℕ) × (slice_get loops at ≡ Some one) × (slice_get program old.made ≡ Some (action.Send one.link one.pin net))
      by (action.Evaluate number) there begins = absurd begins
      by (action.Send link pin net) there begins =
          let same : action.Send link pin net ≡ action.Send begins.0.link begins.0.pin net = λ i. action.Send (sym begins.2 i) (sym begins.3 i) net in
          (begins.0, net, begins.1, there ∙ ap Some same)
      by (action.Take link pin net) there begins = absurd begins
      by action.Step there begins = absurd begins

    pub send_loop : at < length loops
    send_loop = slice_get_within loops at sending.0 sending.2

    pub send_place : at < length old.places.items
    send_place = omega (arith, send_loop, fits.loops.count)

  module _ {read : Op} {at : ℕ} {one : ShiftLoop} {link place : ℕ} (its : ReadsLoop old read at one link) (stood : place ≡ get_or old.places.items at place) where
    there : slice_get loops at ≡ Some one
    there = slice_get-get_or loops at one (send_loop its.found its.is) ∙ ap Some (sym its.there)

    stands : place ≡ slice_index_or old.places.items at 0
    stands = stood ∙ get_or_default old.places.items at place 0 (send_place its.found its.is)

    abbrev sent : ℕ
    sent = (sending its.found its.is).1

    next_send : slice_get program old.made ≡ Some (action.Send link one.pin sent)
    next_send =
        let sending = sending its.found its.is in
        let same : sending.0 ≡ one = cc (sending.2, there) in
        subst (λ (own : ShiftLoop). slice_get program old.made ≡ Some (action.Send own.link own.pin sent)) same sending.3 ∙ ap (λ (its_link : ℕ). Some (action.Send its_link one.pin sent)) (sym its.link_is)

    entry_of_send : (entry : Entry) × ((slice_get own old.made ≡ Some entry) × (action.Send link one.pin sent ≡ action_of flat.inputs entry))
    entry_of_send = entry_for (action.Send link one.pin sent) next_send (λ same. cc)

    pub send_inside : place < length one.nets
    send_inside = subst (λ (spot : ℕ). spot < length one.nets) (sym stands) (place_inside program loops old.made old.places.items fits.loops fits.code.loops link one.pin sent at one next_send there (sym its.link_is) refl)

    -- its net is that of the loop, and has the slot that stands there
    item_is : (item : LoopNet) → slice_get one.nets place ≡ Some item → (item.net ≡ sent) × (net_slot nets sent ≡ Some item.slot)
    item_is item here =
        let found : slice_get (loop_nets one) place ≡ Some sent = ap (slice_get (loop_nets one)) stands ∙ net_here program loops old.made old.places.items fits.loops fits.code.loops link one.pin sent at one next_send there (sym its.link_is) refl in
        let mapped : slice_get (loop_nets one) place ≡ Some item.net = slice_get-map (λ (item : LoopNet). item.net) one.nets place ∙ ap (option_map (λ (item : LoopNet). item.net)) here in
        let same : item.net ≡ sent = cc (found, mapped) in
        let its_slot : net_slot nets item.net ≡ Some item.slot = subst (λ (own : LoopNet). net_slot nets own.net ≡ Some own.slot) (get_or_from_slice_get one.nets place item item here) (fits.code.sends at one there place item send_inside) in
        (same, ap (net_slot nets) (sym same) ∙ its_slot)

    module _ {item : LoopNet} (here : slice_get one.nets place ≡ Some item) where
      pub send_slot : item.slot < length old.slots.items
      send_slot = omega (arith, fits.slots, slot_within nets sent item.slot (item_is item here).1)

      send_net : sent < length state.slots
      send_net = let found = entry_of_send in let kind = sends flat.inputs link one.pin sent found.0 found.1.1 in sent_net ends node state agrees unfinished found.0 found.1.0 link one.pin sent kind.0 kind.1 kind.2 kind.3

      bit_there : get_or old.slots.items item.slot false ≡ slot state sent
      bit_there = sym (ap (slot_bit old.slots.items) (item_is item here).1) ∙ sym (get_or-tabulate (bit_by nets old.slots.items) many sent false (omega (arith, send_net, agrees.holds.size, many_are)))

      pub send_next : (word : Word) → word.clock ≡ old.share.first + old.clock → word.net ≡ item.net → word.pin ≡ one.pin → word.bit ≡ get_or old.slots.items item.slot false → IsNextWord ends link word
      send_next word clock its_net its_pin bit =
          let found = entry_of_send in
          let kind = sends flat.inputs link one.pin sent found.0 found.1.1 in
          sent_next ends node state agrees unfinished found.0 found.1.0 link one.pin sent kind.0 kind.1 kind.2 kind.3 word (clock ∙ ap (λ (first : ℕ). first + old.clock) fits.share.first) (its_net ∙ (item_is item here).0) its_pin (bit ∙ bit_there)

    module _ {new : Node} {after : SeenEnds} {turned : ℕ} (rest : new ≡ record old { made = old.made + 1; places = new.places }) (places : new.places.items ≡ set old.places.items at turned)
        (turns : turned ≡ place_after (length one.nets) (place + 1)) (puts : Puts link ends after true) where
      stand_now : Stand program loops (old.made + 1) new.places.items
      stand_now =
          stand_turned program loops old.made old.places.items fits.loops fits.code.loops link one.pin sent at one next_send there (sym its.link_is) refl new.places.items
          (places ∙ ap (set old.places.items at) turns ∙ ap (λ (spot : ℕ). set old.places.items at (place_after (length one.nets) (spot + 1))) stands)

      pub send_fits : FitsJob after.job new
      send_fits = subst (λ (one : SeenEnds). FitsJob one.job new) (sym puts.ends) (subst (FitsJob job) (sym rest) (fits_then (old.made + 1) new.places old.slots stand_now refl))

      pub send_agrees : Agrees after.job new.share.node (state_of new) after
      send_agrees =
          let found = entry_of_send in
          let kind = sends flat.inputs link one.pin sent found.0 found.1.1 in
          let agree = sent_agrees ends node state agrees unfinished found.0 found.1.0 link one.pin sent kind.0 kind.1 kind.2 kind.3 in
          let so = moved_to new (moved_on state) (record ends { sent = counted_at link ends.sent }) (ap (λ (one : Node). one.share) rest) (ap state_of rest) agree in
          subst (λ (one : SeenEnds). Agrees one.job new.share.node (state_of new) one) (sym puts.ends) so

      pub send_makes : (whole : Bool) → MakesSome job node state (state_of new) ends after whole Moved
      send_makes whole = makes_one job node state (state_of new) ends after whole (action.Send link one.pin sent, next_of ends node state agrees unfinished (action.Send link one.pin sent) next_send, (ap state_of rest, puts)) agrees.holds

    pub full_makes : {after : SeenEnds} (whole : Bool) → Puts link ends after false → MakesSome job node state state ends after whole (Full link)
    full_makes {after} whole puts = makes_none job node state state ends after whole (Full link) refl (one.pin, sent, next_of ends node state agrees unfinished (action.Send link one.pin sent) next_send, refl, puts)

  -- ---- a take

  module _ {read : Op} {link pin place : ℕ} (found : read ≡ get_or code.ops.items old.made read) (is : read ≡ op.Take link pin place) where
    taking : (net : ℕ) × (slice_get program old.made ≡ Some (action.Take link pin net)) × (net_slot nets net ≡ Some place)
    taking = let found = op_begins ends node code fits.code old.made (op.Take link pin place) (op_is found is) in by found.0 found.1.0 found.1.1 where
      by : (next : Action) → slice_get program old.made ≡ Some next → BeginsWithAction flat code next (op.Take link pin place) → (net : ℕ) × (slice_get program old.made ≡ Some (action.Take link pin net)) × (net_slot nets net ≡ Some place)
      by (action.Evaluate number) at begins = absurd begins
      by (action.Send its_link its_pin its_net) at begins = absurd begins
      by (action.Take its_link its_pin its_net) at begins =
          let same : action.Take its_link its_pin its_net ≡ action.Take link pin its_net = λ i. action.Take (sym begins.0 i) (sym begins.1 i) its_net in
          (its_net, at ∙ ap Some same, begins.2)
      by action.Step at begins = absurd begins

    abbrev net : ℕ
    net = taking.0

    entry_of_take : (entry : Entry) × ((slice_get own old.made ≡ Some entry) × (action.Take link pin net ≡ action_of flat.inputs entry))
    entry_of_take = entry_for (action.Take link pin net) taking.1 (λ same. cc)

    take_net : net < length state.slots
    take_net = let found = entry_of_take in let kind = takes flat.inputs link pin net found.0 found.1.1 in taken_net ends node state agrees unfinished found.0 found.1.0 link net kind.0 kind.1 kind.2

    pub take_slot : place < length old.slots.items
    take_slot = omega (arith, fits.slots, slot_within nets net place taking.2)

    pub take_expected : IsExpected ends link
    take_expected = let found = entry_of_take in let kind = takes flat.inputs link pin net found.0 found.1.1 in is_expected ends node state agrees unfinished found.0 found.1.0 link net kind.0 kind.1 kind.2

    module _ {new : Node} {after : SeenEnds} {word : Word} {bit : Bool} (took : Takes link ends after (Some word)) (rest : new ≡ record old { made = old.made + 1; slots = new.slots })
        (wrote : new.slots.items ≡ set old.slots.items place bit) (its_bit : bit ≡ word.bit) where
      take_state : state_of new ≡ written state net word.bit
      take_state =
          state_then new (old.made + 1) (set old.slots.items place bit) rest wrote
          ∙ ap (λ (all : List Bool). let state : NodeState = record { clock = old.clock; made = old.made + 1; slots = all; rows = take old.clock old.rows } in state)
          (known_written nets old.slots.items net place bit many taking.2 take_slot (omega (arith, take_net, agrees.holds.size, many_are)) ∙ ap (set (tabulate (bit_by nets old.slots.items) many) net) its_bit)

      pub take_fits : FitsJob after.job new
      take_fits = subst (λ (one : SeenEnds). FitsJob one.job new) (sym took.0) (fits_again new (old.made + 1) rest (stand_on program loops old.made old.places.items fits.loops (action.Take link pin net) taking.1 (λ its other. refl)) (ap (λ (bits : List Bool). length bits) wrote ∙ length-set old.slots.items place bit))

      pub take_agrees : Agrees after.job new.share.node (state_of new) after
      take_agrees =
          let found = entry_of_take in
          let kind = takes flat.inputs link pin net found.0 found.1.1 in
          let agree = taken_agrees ends node state agrees unfinished found.0 found.1.0 link net kind.0 kind.1 kind.2 word took.1 in
          let so = moved_to new (written state net word.bit) (record ends { taken = counted_at link ends.taken }) (ap (λ (one : Node). one.share) rest) take_state agree in
          subst (λ (one : SeenEnds). Agrees one.job new.share.node (state_of new) one) (sym took.0) so

      pub take_makes : (whole : Bool) → MakesSome job node state (state_of new) ends after whole Moved
      take_makes whole = makes_one job node state (state_of new) ends after whole (action.Take link pin net, next_of ends node state agrees unfinished (action.Take link pin net) taking.1, (word, take_state, took)) agrees.holds

    pub empty_makes : {after : SeenEnds} (whole : Bool) → Takes link ends after None → MakesSome job node state state ends after whole (Empty link)
    empty_makes {after} whole took = makes_none job node state state ends after whole (Empty link) refl (pin, net, next_of ends node state agrees unfinished (action.Take link pin net) taking.1, refl, took)
