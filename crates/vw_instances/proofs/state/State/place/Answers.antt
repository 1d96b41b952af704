use Rattle.std.proofs.Common.{◌≡◌, ◌++◌, ◌∷◌, [], ℕ, subst, ◌∙◌}
use Rattle.std.specs.Result.{OnOk}
use Rattle.vw_instances.specs.Steps.Frames.{placed_in_frame}
use Rattle.vw_instances.proofs.state.State.place.Goals as goal

pub returns-clause-instances : goal.returns-clause-instances
returns-clause-instances c =
    let state = c.args.self.now in
    subst (λ (count : ℕ). OnOk c.open.result (c.open.new.self.instances.items ≡ state.instances.items ++ placed_in_frame c.args.frame c.args.model count ∷ []))
    (c.len.ensures ∙ state.cells.ok.0) c.open.ensures.instances
