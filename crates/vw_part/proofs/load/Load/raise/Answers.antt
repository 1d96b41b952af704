use Rattle.std.proofs.Common.{◌∙◌, sym, refl, arith}
use Rattle.vw_part.proofs.KeptGains.{first_came, freed_fits, freed_there, many_stay, met_fits, second_came}
use Rattle.vw_part.proofs.load.Load.raise.Goals as goal

pub add-requires-clause-fits : goal.add-requires-clause-fits
add-requires-clause-fits c = λ cell. met_fits _ _ _ _ _ _ _ cell c.requires.gains c.cells_of-cells.ensures

pub add_on-requires-clause-fits : goal.add_on-requires-clause-fits
add_on-requires-clause-fits c = λ cell on. freed_fits _ _ _ _ _ _ _ cell c.requires.gains c.cells_of-cells.ensures on

pub take_on-requires-clause-there : goal.take_on-requires-clause-there
take_on-requires-clause-there c = λ cell on. freed_there _ _ _ _ _ _ _ cell c.requires.gains c.cells_of-cells.ensures (sym c.at-count.ensures ∙ c.if-count-eq1.true) on

-- the first cell of the chip that has the net
pub returns-then-count-eq0-clause-gains : goal.returns-then-count-eq0-clause-gains
returns-then-count-eq0-clause-gains c =
    first_came _ _ _ _ _ _ _ _ _ _ c.requires.gains c.cells_of-cells.ensures (omega arith) c.set.ensures
    (sym c.at-count.ensures ∙ c.if-count-eq0.true)
    (omega arith)
    (record { long = c.add.ensures.long; counts = c.add.ensures.counts })
    (record { long = c.add_on.ensures.long; counts = c.add_on.ensures.counts })

-- the second one
pub returns-then-count-eq1-clause-gains : goal.returns-then-count-eq1-clause-gains
returns-then-count-eq1-clause-gains c =
    second_came _ _ _ _ _ _ _ _ _ _ c.requires.gains c.cells_of-cells.ensures (omega arith) c.set.ensures
    (sym c.at-count.ensures ∙ c.if-count-eq1.true)
    (omega arith)
    refl
    (record { long = c.take_on.ensures.long; counts = c.take_on.ensures.counts })

-- one of many
pub returns-else-count-eq1-clause-gains : goal.returns-else-count-eq1-clause-gains
returns-else-count-eq1-clause-gains c = many_stay _ _ _ _ _ _ _ _ _ _ c.requires.gains c.cells_of-cells.ensures (omega arith) c.set.ensures (omega arith) (omega arith) refl refl
