-- What a run of an emitted board says of each net of a node, microclock by microclock.
use Rattle.std.proofs.Common.{◌≡◌, ◌<◌, ◌≤◌, ◌+◌, ◌-◌, ◌&&◌, ◌||◌, ◌∙◌, ℕ, zero, suc, Bool, true, false, cond, List, [], ◌∷◌, length, map, take, get_or, slice_get, slice_index, Some, ap, ap₂, refl, sym, add-one, arith}
use Rattle.std.specs.List.{list_any}
use Rattle.std.proofs.lemmas.List.{length-map, take_all}
use Rattle.std.proofs.lemmas.List.Folds.{list_any_more}
use Rattle.std.proofs.lemmas.Option.{get_or_from_slice_get}
use Rattle.std.proofs.lemmas.Simd.{map-map}
use Rattle.vw_net.specs.Cells.{start_value}
use Rattle.vw_net.specs.Cover.{cover_value}
use Rattle.vw_net.specs.declared.cell.Cell.TheVariants.{Gate, Latch}
use Rattle.vw_net.specs.declared.cell.Init.{Init}
use Rattle.vw_net.specs.declared.cell.Init.TheVariants.{One as StartsAtOne, Zero as StartsAtZero}
use Rattle.vw_net.specs.declared.cover.Cover.{Cover}
use Rattle.vw_net.proofs.ListedLists.{stands_below}
use Rattle.vw_plan.specs.Lead.{arrival, carries}
use Rattle.vw_plan.specs.PlannedBoard.{PlannedBoard}
use Rattle.vw_plan.specs.declared.link.Link.{Link}
use Rattle.vw_plan.specs.declared.wire.Hop.{Hop}
use Rattle.vw_plan.specs.declared.wire.Wire.{Wire}
use Rattle.vw_emit_hardware.specs.Items.{User, late_name, users}
use Rattle.vw_emit_hardware.specs.Locals.{caught, coming, delayed, gate, held, kept, moment, pin_in, pin_out, result, sent}
use Rattle.vw_emit_hardware.specs.Names.{name_at}
use Rattle.vw_emit_hardware.specs.Run.{IsItem, IsRun, Values}
use Rattle.vw_emit_hardware.specs.Tables.{both, both_or, choice, pass}
use Rattle.vw_emit_hardware.proofs.Members.{has_catch_register, has_catch_table, has_delay, has_first_stage, has_gate, has_latch_register, has_latch_table, has_out, has_result, has_send, has_stage}
use Rattle.vw_emit_hardware.proofs.TableValues.{both_or_value, both_value, choice_value, cover_says, pass_value}

module _ (planned : PlannedBoard) (unknown : Bool) (rows : List (List Bool)) (value : Values) (run : IsRun planned unknown rows value) where
  -- ---- the sequencer of a node

  module _ (node : ℕ) (among : node ≤ planned.board.chips) where
    pub first_stage : 0 < length rows → value 0 node (moment 0) ≡ true
    first_stage some = run.starts node (moment planned.plan.period) (moment 0) StartsAtOne some (has_first_stage planned node among)

    pub other_stage : (before : ℕ) → before < planned.plan.period → 0 < length rows → value 0 node (moment (suc before)) ≡ false
    other_stage before below some = run.starts node (moment before) (moment (suc before)) StartsAtZero some (has_stage planned node among before below)

    pub stage_wraps : (time : ℕ) → suc time < length rows → value (suc time) node (moment 0) ≡ value time node (moment planned.plan.period)
    stage_wraps time within = run.steps time node (moment planned.plan.period) (moment 0) StartsAtOne within (has_first_stage planned node among)

    pub stage_moves : (before time : ℕ) → before < planned.plan.period → suc time < length rows
        → value (suc time) node (moment (suc before)) ≡ value time node (moment before)
    stage_moves before time below within = run.steps time node (moment before) (moment (suc before)) StartsAtZero within (has_stage planned node among before below)

    -- ---- its cells

    -- a gate has its cover's value of what its nets are called
    pub gate_bit : (time cell : ℕ) (ins : List ℕ) (cover : Cover) → time < length rows
        → slice_get planned.ordered.flat.cells cell ≡ Some (Gate ins cover) → slice_index planned.plan.chip_of cell ≡ node
        → length ins ≡ cover.inputs
        → value time node (gate cell) ≡ cover_value cover (map (λ net. value time node (name_at planned node net)) ins)
    gate_bit time cell ins cover within at chip wide =
        let names = map (name_at planned node) ins in
        let bits = map (value time node) names in
        let long : length bits ≡ cover.inputs = length-map names (value time node) ∙ length-map ins (name_at planned node) ∙ wide in
        cover_says (IsItem planned node) names (gate cell) cover bits (value time node (gate cell)) (λ on marks item. run.tables time node names (gate cell) on marks within item) long (has_gate planned node among cell ins cover at chip)
        ∙ ap (cover_value cover) (map-map (value time node) (name_at planned node) ins)

    -- a latch keeps its bit, and takes that of the net that it reads where the last microcycle's stage is 1
    pub latch_bit : (time cell d : ℕ) (init : Init) → suc time < length rows
        → slice_get planned.ordered.flat.cells cell ≡ Some (Latch d init) → slice_index planned.plan.chip_of cell ≡ node
        → value (suc time) node (kept cell) ≡ cond (value time node (moment planned.plan.period)) (value time node (name_at planned node d)) (value time node (kept cell))
    latch_bit time cell d init within at chip =
        run.steps time node (coming cell) (kept cell) init within (has_latch_register planned node among cell d init at chip)
        ∙ run.tables time node (moment planned.plan.period ∷ name_at planned node d ∷ kept cell ∷ []) (coming cell) true choice (omega (arith, within)) (has_latch_table planned node among cell d init at chip)
        ∙ choice_value (value time node (moment planned.plan.period)) (value time node (name_at planned node d)) (value time node (kept cell))

    -- and it starts at its initial value
    pub latch_start : (cell d : ℕ) (init : Init) → 0 < length rows → slice_get planned.ordered.flat.cells cell ≡ Some (Latch d init)
        → slice_index planned.plan.chip_of cell ≡ node → value 0 node (kept cell) ≡ start_value unknown init
    latch_start cell d init some at chip = run.starts node (coming cell) (kept cell) init some (has_latch_register planned node among cell d init at chip)

    -- ---- a hop that reaches it

    -- its register keeps its bit, and takes the pin's where the stage of the arrival is 1
    pub hop_bit : (wire place : ℕ) (is : Wire) (hop : Hop) (there : slice_get planned.plan.wires wire ≡ Some is) (stands_there : slice_get is.hops place ≡ Some hop) (reaches : hop.to ≡ node)
        (at : ℕ) (link : Link) (linked : slice_get planned.board.links at ≡ Some link) (carried : carries hop link ≡ true) (time : ℕ) → suc time < length rows
        → value (suc time) node (held wire place) ≡ cond (value time node (moment (arrival planned.board.links hop))) (value time node (pin_in at hop.pin)) (value time node (held wire place))
    hop_bit wire place is hop there stands_there reaches at link linked carried time within =
        let arrives = arrival planned.board.links hop in
        run.steps time node (caught wire place) (held wire place) StartsAtZero within (has_catch_register planned node among wire place is hop there stands_there reaches at link linked carried)
        ∙ run.tables time node (moment arrives ∷ pin_in at hop.pin ∷ held wire place ∷ []) (caught wire place) true choice (omega (arith, within)) (has_catch_table planned node among wire place is hop there stands_there reaches at link linked carried)
        ∙ choice_value (value time node (moment arrives)) (value time node (pin_in at hop.pin)) (value time node (held wire place))

    -- ---- a used pin by which it is left

    module _ (at pin : ℕ) (link : Link) (linked : slice_get planned.board.links at ≡ Some link) (leaves : link.from ≡ node) (within : pin < link.width)
        (user : User) (others : List User) (used : users planned link pin ≡ user ∷ others) where
      -- whether a user's bit goes out
      abbrev goes : ℕ → User → Bool
      goes time one = value time node (moment one.at) && value time node one.name

      -- what goes out up to one of the users
      sent_upto : (time number : ℕ) → time < length rows → number < length (user ∷ others)
          → value time node (sent at pin number) ≡ list_any (goes time) (take (suc number) (user ∷ others))
      sent_upto time zero inside below =
          run.tables time node (moment user.at ∷ user.name ∷ []) (sent at pin 0) true both inside (has_send planned node among at pin link linked leaves within user others used 0 user refl)
          ∙ both_value (value time node (moment user.at)) (value time node user.name) ∙ single (goes time user) where
            single : (bit : Bool) → bit ≡ (bit || false)
            single true = refl
            single false = refl
      sent_upto time (suc before) inside below =
          let all = user ∷ others in
          let one = stands_below all (suc before) below in
          let item = has_send planned node among at pin link linked leaves within user others used (suc before) one.0 one.1 in
          let sooner = sent_upto time before inside (omega (arith, below)) in
          let longer : list_any (goes time) (take (suc (suc before)) all) ≡ (list_any (goes time) (take (suc before) all) || goes time (get_or all (suc before) user)) = rw add-one at (list_any_more (goes time) all (suc before) user below) in
          run.tables time node (moment one.0.at ∷ one.0.name ∷ sent at pin before ∷ []) (sent at pin (suc before)) true both_or inside item
          ∙ both_or_value (value time node (moment one.0.at)) (value time node one.0.name) (value time node (sent at pin before))
          ∙ ap₂ (λ (first : Bool) (is : User). first || goes time is) sooner (sym (get_or_from_slice_get all (suc before) one.0 user one.1)) ∙ sym longer

      -- what goes out: the bit of each user whose stage is 1
      pub sent_bit : (time : ℕ) → time < length rows → value time node (sent at pin (length others)) ≡ list_any (goes time) (user ∷ others)
      sent_bit time inside =
          sent_upto time (length others) inside (omega arith)
          ∙ ap (list_any (goes time)) (take_all (suc (length others)) (user ∷ others) (omega arith))

      -- so many microclocks later it has come so far
      pub late_bit : (time later : ℕ) → later ≤ link.delay - 1 → later + time < length rows
          → value (later + time) node (late_name at pin (length others) later) ≡ value time node (sent at pin (length others))
      late_bit time zero below inside = let none : 0 + time ≡ time = omega arith in ap (λ (now : ℕ). value now node (sent at pin (length others))) none
      late_bit time (suc later) below inside =
          let one : suc later + time ≡ suc (later + time) = omega arith in
          ap (λ (now : ℕ). value now node (delayed at pin later)) one
          ∙ run.steps (later + time) node (late_name at pin (length others) later) (delayed at pin later) StartsAtZero (omega (arith, inside)) (has_delay planned node among at pin link linked leaves within user others used later (omega (arith, below)))
          ∙ late_bit time later (omega (arith, below)) (omega (arith, inside))

      -- the pin's port has what has come through all of them
      pub out_bit : (time : ℕ) → time < length rows → value time node (pin_out at pin) ≡ value time node (late_name at pin (length others) (link.delay - 1))
      out_bit time inside =
          let late = late_name at pin (length others) (link.delay - 1) in
          run.tables time node (late ∷ []) (pin_out at pin) true pass inside (has_out planned node among at pin link linked leaves within user others used) ∙ pass_value (value time node late)

  -- ---- an output of the host

  pub result_bit : (time output net : ℕ) → time < length rows → slice_get planned.ordered.flat.outputs output ≡ Some net
      → value time 0 (result output) ≡ value time 0 (name_at planned 0 net)
  result_bit time output net within at =
      run.tables time 0 (name_at planned 0 net ∷ []) (result output) true pass within (has_result planned output net at) ∙ pass_value (value time 0 (name_at planned 0 net))
