use Rattle.std.proofs.Common.{◌∙◌}
use Rattle.vw_part.proofs.KeptDeals.{met_is}
use Rattle.vw_part.proofs.deal.Deal.reach.Goals as goal

pub returns-clause-met : goal.returns-clause-met
returns-clause-met c = λ target. c.at.ensures ∙ met_is c.args.self.now c.args.cell c.args.chip c.index-load.result.now c.requires.chip.1 c.index-load.ensures
