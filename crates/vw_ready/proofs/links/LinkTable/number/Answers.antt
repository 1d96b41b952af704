use Rattle.std.proofs.Common.{ap, sym, ◌∙◌, List, arith}
use Rattle.vw_plan.specs.declared.link.Link.{Link}
use Rattle.vw_ready.specs.Links.{link_number}
use Rattle.vw_ready.proofs.links.LinkTable.number.Goals as goal
use Rattle.vw_ready.proofs.links.LinkTable.number.Goals.{then-from-gt32-via-then-from-gt32, then-from-gt32-via-else-from-gt32+then-to-gt32}

-- no link has such an end
pub returns-then-from-gt32 : goal.returns-then-from-gt32
returns-then-from-gt32 c =
    let here = ap (λ (links : List Link). link_number links c.args.from c.args.to) c.self.view_is in
    elim c.then-from-gt32.branch [
      | then-from-gt32-via-then-from-gt32 w ↦ sym (sym here ∙ c.self.invariant.from_far c.args.from c.args.to (omega (arith, w.if-from-gt32.true)))
      | then-from-gt32-via-else-from-gt32+then-to-gt32 w ↦ sym (sym here ∙ c.self.invariant.to_far c.args.from c.args.to (omega (arith, w.if-to-gt32.true)))
    ]
