use Rattle.std.proofs.Common.{◌+◌, ◌∙◌, sym, ap, ℕ}
use Rattle.vw_ready.proofs.LastHops.{after_last-last}
use Rattle.vw_ready.proofs.links.LinkTable.after_last.Goals as goal

pub returns-in-Some-clause-value : goal.returns-in-Some-clause-value
returns-in-Some-clause-value c = ap (λ (at : ℕ). at + 1) c.arrival.ensures.value ∙ after_last-last c.args.self.now c.args.hops.now c.in-Some.hop.now (sym c.in-Some.ensures.value)
