use Rattle.std.proofs.Common.{◌+◌, ℕ}
use Rattle.vw_net.specs.declared.cell.Init.TheVariants.{Zero as StartsAtZero}
use Rattle.vw_emit_hardware.specs.Locals.{moment, register}
use Rattle.vw_emit_text.specs.Steps.{item_text}
use Rattle.vw_text.proofs.WrittenPieces.{mapped_more}
use Rattle.vw_emit_text.proofs.cells.push_stages.Goals as goal

pub loop-before-preserved : goal.loop-before-preserved
loop-before-preserved c =
    mapped_more item_text (λ (before : ℕ). register (moment before) (moment (before + 1)) StartsAtZero) c.loop-before.before c.args.period c.loop-before.text.items
    c.push_item.new.text.items _ c.loop-before-test.true c.in_ok-push_item.ensures c.loop-before.invariant
