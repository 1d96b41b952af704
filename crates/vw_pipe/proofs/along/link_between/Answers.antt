use Rattle.std.proofs.Common.{◌≡◌, ◌∙◌, List, Some, None, ap, sym}
use Rattle.vw_plan.specs.declared.link.Link.{Link}
use Rattle.vw_ready.specs.Links.{link_number}
use Rattle.vw_pipe.specs.Steps.SentHops.{link_place}
use Rattle.vw_pipe.proofs.LinkPlaces.{number_there}
use Rattle.vw_pipe.proofs.along.link_between.Goals as goal

-- the table has the link's number
pub returns-in-Some : goal.returns-in-Some
returns-in-Some c =
    let given = c.args.given.now in
    let links = given.board.now.links in
    let same_links = ap (λ (links : List Link). link_number links c.args.from c.args.to) given.has_links in
    let found : Some c.in-Some.number ≡ Some (link_place links c.args.from c.args.to) =
    sym c.in-Some.is ∙ c.number.ensures ∙ same_links ∙ number_there links c.args.from c.args.to c.requires in
    cc

pub returns-in-None : goal.returns-in-None
returns-in-None c =
    let given = c.args.given.now in
    let links = given.board.now.links in
    let same_links = ap (λ (links : List Link). link_number links c.args.from c.args.to) given.has_links in
    let found : None ≡ Some (link_place links c.args.from c.args.to) =
    sym c.in-None.is ∙ c.number.ensures ∙ same_links ∙ number_there links c.args.from c.args.to c.requires in
    cc
