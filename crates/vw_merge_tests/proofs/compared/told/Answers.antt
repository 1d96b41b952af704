use Rattle.std.proofs.Common.{◌≡◌, ◌∙◌, ◌+◌, Bool, List, length, ap, ap₂, ℕ}
use Rattle.vw_net.specs.declared.flat.Flat.{Flat}
use Rattle.vw_net.specs.declared.ordered.Ordered.{Ordered}
use Rattle.vw_net.specs.Cells.{latch_count, start_values}
use Rattle.vw_net.proofs.Counts.{length-start_values}
use Rattle.vw_merge_tests.proofs.compared.told.Goals as goal

-- as many start values as latches
pub loop-place-init : goal.loop-place-init
loop-place-init c = record {
  latches = ap (λ (bits : List Bool). length bits) (c.in_ok-state.ensures ∙ ap (λ (one : Flat). start_values c.args.unknown one.cells) c.flat-flat.ensures) ∙ length-start_values c.args.unknown c.args.ordered.now.flat.cells;
  nets = c.in_ok-values.ensures ∙ ap (λ (one : Flat). one.inputs + length one.cells) c.flat-flat.ensures;
}
