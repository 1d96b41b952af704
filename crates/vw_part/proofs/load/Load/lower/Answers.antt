use Rattle.std.proofs.Common.{◌∙◌, sym, refl, arith}
use Rattle.vw_part.proofs.KeptGains.{freed_fits, freed_there, last_left, many_stay, met_there, one_left_there}
use Rattle.vw_part.proofs.load.Load.lower.Goals as goal

pub take-requires-clause-there : goal.take-requires-clause-there
take-requires-clause-there c = λ cell. met_there _ _ _ _ _ _ _ cell c.requires.gains c.cells_of-cells.ensures c.requires.there

pub take_on-requires-clause-there : goal.take_on-requires-clause-there
take_on-requires-clause-there c = λ cell on. freed_there _ _ _ _ _ _ _ cell c.requires.gains c.cells_of-cells.ensures (sym c.at-count.ensures ∙ c.if-count-eq1.true) on

pub add_on-requires-clause-fits : goal.add_on-requires-clause-fits
add_on-requires-clause-fits c = λ cell on. freed_fits _ _ _ _ _ _ _ cell c.requires.gains c.cells_of-cells.ensures on

-- the last cell of the chip that had the net
pub returns-then-count-eq1-clause-gains : goal.returns-then-count-eq1-clause-gains
returns-then-count-eq1-clause-gains c =
    last_left _ _ _ _ _ _ _ _ _ _ c.requires.gains c.cells_of-cells.ensures (omega arith) c.set.ensures
    (sym c.at-count.ensures ∙ c.if-count-eq1.true)
    (omega arith)
    (record { long = c.take.ensures.long; counts = c.take.ensures.counts })
    (record { long = c.take_on.ensures.long; counts = c.take_on.ensures.counts })

-- the last but one
pub returns-then-count-eq2-clause-gains : goal.returns-then-count-eq2-clause-gains
returns-then-count-eq2-clause-gains c =
    one_left_there _ _ _ _ _ _ _ _ _ _ c.requires.gains c.cells_of-cells.ensures (omega arith) c.set.ensures
    (sym c.at-count.ensures ∙ c.if-count-eq2.true)
    (omega arith)
    refl
    (record { long = c.add_on.ensures.long; counts = c.add_on.ensures.counts })

-- one of many
pub returns-else-count-eq2-clause-gains : goal.returns-else-count-eq2-clause-gains
returns-else-count-eq2-clause-gains c = many_stay _ _ _ _ _ _ _ _ _ _ c.requires.gains c.cells_of-cells.ensures (omega arith) c.set.ensures (omega arith) (omega arith) refl refl
