use Rattle.std.proofs.Common.{◌≡◌, ◌<◌, ◌≤◌, ◌+◌, ◌^◌, ◌∙◌, ℕ, length, arith}
use Rattle.vw_net.specs.declared.flat.Flat.{Flat}
use Rattle.vw_net.specs.Cells.{latch_count}
use Rattle.vw_net.proofs.Counts.{latch_count-le}
use Rattle.vw_wave.proofs.WaveLeft.{fresh_wave}
use Rattle.vw_wave.proofs.recorder.WaveRecorder.make.Goals as goal

-- a netlist has few outputs and few latches
few : (flat : Flat) (outputs latches : ℕ) → outputs ≤ length flat.outputs → latches ≡ latch_count flat.cells → outputs + latches < 2 ^ 32
few flat outputs latches fewer latch = omega (arith, fewer, latch, latch_count-le flat.cells, flat.few_cells, flat.few_outputs)

pub overflow_add-outputs : goal.overflow_add-outputs
overflow_add-outputs c = omega (arith, few c.args.flat.now c.args.outputs c.len-latches.result c.requires.few (c.len-latches.ensures ∙ c.requires.latches))

pub overflow_cast-outputs : goal.overflow_cast-outputs
overflow_cast-outputs c = omega (arith, few c.args.flat.now c.args.outputs c.len-latches.result c.requires.few (c.len-latches.ensures ∙ c.requires.latches))

-- behind a head it has the whole wave left
pub returns-clause-fresh : goal.returns-clause-fresh
returns-clause-fresh c names history same = fresh_wave c.args.first names c.in_ok-wave.wave history c.in_ok-wave.ensures.clock c.in_ok-wave.ensures.unbegun same
