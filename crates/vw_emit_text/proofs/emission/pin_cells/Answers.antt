use Rattle.std.proofs.Common.{◌∙◌, ap}
use Rattle.vw_emit_text.specs.Steps.{outlet_cells, planned_by}
use Rattle.vw_emit_text.proofs.PinCells.{all_outlets, pins_are}
use Rattle.vw_emit_text.proofs.emission.pin_cells.Goals as goal

pub returns-clause-value : goal.returns-clause-value
returns-clause-value c =
    let emitter = c.args.emitter.now in
    c.outlet_cells.ensures.value ∙ ap outlet_cells (all_outlets emitter) ∙ pins_are (planned_by emitter) emitter.sound
