use Rattle.std.proofs.Common.{[], ℕ, List, Bool, length, ap, sym, subst, ◌∙◌}
use Rattle.vw_net.specs.Cut.{cut, AreEnds}
use Rattle.vw_net.proofs.Cuts.{no_ends, no_cuts}
use Rattle.vw_net.proofs.rows.Rows.new.Goals as goal

pub invariant_of-result : goal.invariant_of-result
invariant_of-result c =
    subst (λ (xs : List ℕ). AreEnds 0 xs (length c.new.result.items)) (sym c.new-2.ensures.items)
    (subst (λ (n : ℕ). AreEnds 0 [] n) (sym (ap (λ (xs : List Bool). length xs) c.new.ensures.items)) no_ends)

pub returns : goal.returns
returns c = ap (λ (xs : List ℕ). cut 0 xs c.new.result.items) c.new-2.ensures.items ∙ no_cuts c.new.result.items
