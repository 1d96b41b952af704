use Rattle.std.proofs.Common.{ℕ, Option, Some, ◌∙◌, ap}
use Rattle.vw_design.specs.NetReads.{net_at}
use Rattle.vw_flat.proofs.Readings.{IsReadAt, IsNumbered, numbered, read_at}
use Rattle.vw_flat.proofs.number.number_read.Goals.{After-read}
use Rattle.vw_flat.proofs.number.number_read.Goals as goal

-- the driver of what is read has a number
reading : (c : After-read) → IsReadAt c.args.elaborated.now c.args.cell c.args.input
reading c = read_at c.args.elaborated.now c.args.cell c.args.input c.requires

driven : (c : After-read) → IsNumbered c.args.elaborated.now (net_at (reading c).site.path (reading c).name) c.columns.result c.read.result
driven c =
    let is = reading c in
    numbered c.args.elaborated.now c.is_accepted.ensures (net_at is.site.path is.name) is.has c.columns.result c.columns.ensures c.read.result (c.read.ensures is.site is.name is.at is.reads)

pub number-requires : goal.number-requires
number-requires c = (driven c).has

pub returns-clause-number : goal.returns-clause-number
returns-clause-number c =
    let at = (goal.at.returns-clause-number c).After-read in
    (reading at).listed ∙ ap (λ (n : Option ℕ). Some n) ((driven at).number c.number.result c.number.ensures)

pub returns-clause-fits : goal.returns-clause-fits
returns-clause-fits c = (driven (goal.at.returns-clause-fits c).After-read).fits c.number.result c.number.ensures
