use Rattle.std.proofs.Common.{◌∙◌, List, Some, None, length, get_or, ap, sym, subst, arith}
use Rattle.std.proofs.lemmas.Option.{slice_get-get_or}
use Rattle.vw_plan.specs.declared.link.Link.{Link}
use Rattle.vw_ready.specs.Links.{joins}
use Rattle.vw_ready.proofs.FirstPlaces.{LeadsTo}
use Rattle.vw_ready.proofs.LinkPlaces.{link_leads}
use Rattle.vw_ready.proofs.links.LinkTable.between.Goals as goal

-- the number leads to the link
pub bounds-self-inside-number : goal.bounds-self-inside-number
bounds-self-inside-number c =
    let links = c.args.self.now in
    let there : LeadsTo (joins c.args.from c.args.to) links (Some c.in-Some.number) = subst (LeadsTo (joins c.args.from c.args.to) links) (sym c.number.ensures ∙ c.in-Some.is) (link_leads links c.args.from c.args.to) in
    omega (arith, there.0, ap length c.self.view_is)

pub returns-in-Some : goal.returns-in-Some
returns-in-Some c =
    let links = c.args.self.now in
    let none : Link = record { from = 0; to = 0; width = 0; delay = 0 } in
    let there : LeadsTo (joins c.args.from c.args.to) links (Some c.in-Some.number) = subst (LeadsTo (joins c.args.from c.args.to) links) (sym c.number.ensures ∙ c.in-Some.is) (link_leads links c.args.from c.args.to) in
    ap (λ (list : List Link). Some (get_or list c.in-Some.number none)) c.self.view_is ∙ sym (slice_get-get_or links c.in-Some.number none there.0) ∙ there.1

pub returns-in-None : goal.returns-in-None
returns-in-None c =
    let links = c.args.self.now in
    let there : LeadsTo (joins c.args.from c.args.to) links None = subst (LeadsTo (joins c.args.from c.args.to) links) (sym c.number.ensures ∙ c.in-None.is) (link_leads links c.args.from c.args.to) in
    sym there
