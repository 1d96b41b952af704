-- the pairs so far are counted
use Rattle.vw_place.proofs.PairTables.{IsCounted}
use Rattle.vw_place.proofs.pair_table.PairTable.of.Given as goal

abbrev pub invariant-loop-need : goal.invariant-loop-need
invariant-loop-need l = IsCounted l.flat l.chip_of l.need-items l.need-index l.counts.items
