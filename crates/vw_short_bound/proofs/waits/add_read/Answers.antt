use Rattle.std.proofs.Common.{◌≡◌, ◌≤◌, ◌∙◌, ℕ, inl, inr, ap, sym, subst, ⊎_elim}
use Rattle.vw_net.specs.declared.flat.Flat.{Flat}
use Rattle.vw_bound.specs.Given.{design_in}
use Rattle.vw_short_bound.proofs.PlanFacts.{brought_waits, own_waits}
use Rattle.vw_short_bound.proofs.waits.add_read.Goals as goal

-- a net of another node is there when it is brought
pub returns-then-home-node-clause-bits : goal.returns-then-home-node-clause-bits
returns-then-home-node-clause-bits c at is =
    ⊎_elim (λ old. inl old) (λ net. inr (brought_waits (design_in c.args.placed.now) c.args.node c.args.inlets.now.nets c.args.read at (λ same. c.if-home-node.true (c.home.ensures.value ∙ same)) net)) (c.add_brought.ensures.bits at is)

-- one of the node waits for what its row has
pub returns-then-inputs-read-clause-bits : goal.returns-then-inputs-read-clause-bits
returns-then-inputs-read-clause-bits c at is =
    let placed = design_in c.args.placed.now in
    let inputs : c.inputs-inputs.result ≡ placed.ordered.flat.inputs = c.inputs-inputs.ensures ∙ ap (λ (flat : Flat). flat.inputs) c.flat.ensures in
    let driven : placed.ordered.flat.inputs ≤ c.args.read = subst (λ (n : ℕ). n ≤ c.args.read) inputs c.if-inputs-read.true in
    let here = sym c.home.ensures.value ∙ c.if-home-node.false in
    ⊎_elim (λ old. inl old) (λ own. inr (own_waits placed c.args.tables.now c.args.rows.now c.args.node c.args.inlets.now.nets c.args.read at c.requires.rows c.requires.inlets here driven (rw inputs at own))) (c.add_own.ensures.bits at is)
