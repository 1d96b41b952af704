use Rattle.std.proofs.Common.{◌++◌, ◌∷◌, [], ◌∙◌, ℕ, List, ap}
use Rattle.vw_net.specs.declared.cell.Cell.{Cell}
use Rattle.vw_net.specs.declared.flat.Flat.{Flat}
use Rattle.vw_emit_hardware.specs.Items.{cell_items, gate_items, hops_to, latch_items, pins_from, results, sequencer}
use Rattle.vw_emit_hardware.specs.Locals.{LocalItem}
use Rattle.vw_emit_text.specs.Steps.{items_text, of_cells, planned_by, registers, sent_items}
use Rattle.vw_emit_text.specs.declared.numbered_hop.NumberedHop.{NumberedHop}
use Rattle.vw_emit_text.specs.declared.outlet.Outlet.{Outlet}
use Rattle.vw_emit_text.proofs.HopItems.{registers_are}
use Rattle.vw_emit_text.proofs.PrintedItems.{grown_items}
use Rattle.vw_emit_text.proofs.PinCells.{all_outlets}
use Rattle.vw_emit_text.proofs.SentItems.{senders_are}
use Rattle.vw_emit_text.proofs.models.push_items.Goals as goal

pub returns : goal.returns
returns c =
    let emitter = c.args.emitter.now in
    let planned = planned_by emitter in
    let node = c.args.node in
    let chip_of = planned.plan.chip_of in
    let cells_are = c.cells-cells.ensures ∙ ap (λ (flat : Flat). flat.cells) c.flat.ensures in
    let written = λ (before : List ℕ) (items : List LocalItem). before ++ items_text items in
    grown_items c.args.text.now.items (sequencer planned.plan.period)
    (cell_items (gate_items planned) planned node ∷ cell_items (latch_items planned) planned node ∷ hops_to planned node ∷ pins_from planned node ∷ results planned node ∷ [])
    c.push_results_at.new.text.items (
      _,
      c.in_ok-push_sequencer.ensures ∙ ap (λ (period : ℕ). written c.args.text.now.items (sequencer period)) c.period.ensures,
      (
        _,
        c.in_ok-push_gates.ensures ∙ ap (λ (list : List Cell). written c.push_sequencer.new.text.items (of_cells (gate_items planned node) chip_of node 0 list)) cells_are,
        (
          _,
          c.in_ok-push_latches.ensures ∙ ap (λ (list : List Cell). written c.push_gates.new.text.items (of_cells (latch_items planned node) chip_of node 0 list)) cells_are,
          (
            _,
            c.in_ok-push_registers.ensures ∙ ap (λ (hops : List NumberedHop). written c.push_latches.new.text.items (registers node hops)) emitter.hops_are
                ∙ ap (written c.push_latches.new.text.items) (registers_are planned emitter.sound node),
            (
              _,
              c.in_ok-push_senders.ensures
                  ∙ ap (λ (list : List Outlet). written c.push_registers.new.text.items (sent_items planned node list)) (all_outlets emitter)
                  ∙ ap (written c.push_registers.new.text.items) (senders_are planned emitter.sound node),
              c.in_ok-push_results_at.ensures,
            ),
          ),
        ),
      ),
    )
