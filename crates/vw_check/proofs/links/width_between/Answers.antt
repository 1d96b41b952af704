use Rattle.std.proofs.Common.{◌∙◌, ap, sym, Option}
use Rattle.std.specs.Option.{option_map_or}
use Rattle.vw_plan.specs.declared.link.Link.{Link}
use Rattle.vw_check.proofs.links.width_between.Goals as goal

pub returns-in-Some : goal.returns-in-Some
returns-in-Some c = c.width.ensures ∙ ap (λ (found : Option Link). option_map_or (λ (link : Link). link.width) found 0) (sym c.in-Some.is ∙ c.between.ensures)

pub returns-in-None : goal.returns-in-None
returns-in-None c = ap (λ (found : Option Link). option_map_or (λ (link : Link). link.width) found 0) (sym c.in-None.is ∙ c.between.ensures)
