-- the greatest so far, or that of the nets that are left
use Rattle.std.proofs.Common.{◌≡◌, ◌+◌, ℕ, max, drop, map, slice_index}
use Rattle.vw_net.specs.Lists.{greatest}
use Rattle.vw_plan.specs.Needs.{crossing}
use Rattle.vw_wires.proofs.table.deepest.Given as goal

abbrev pub invariant-loop-read : goal.invariant-loop-read
invariant-loop-read l =
    let depth_of = λ (read : ℕ). slice_index l.table read + crossing l.flat l.chip_of l.net read in
    max l.most (greatest (map depth_of (drop l.read-index l.ins))) ≡ greatest (map depth_of l.ins)
