use Rattle.std.proofs.Common.{◌≡◌, ◌++◌, ℕ, List, [], ◌∷◌, true, true≢false, get_or, sym, ◌∙◌, ap, subst, refl}
use Rattle.vw_order.specs.declared.progress.Progress.{Progress}
use Rattle.vw_order.specs.declared.progress.Progress.TheVariants.{Fresh, Open, Done}
use Rattle.vw_order.specs.Steps.SearchProgress.{is_fresh_progress}
use Rattle.vw_order.specs.Steps.Searches.{IsSearch}
use Rattle.vw_order.proofs.DepthSearches.{rooted, same_search}
use Rattle.vw_order.proofs.depth_first.visit.Goals as goal

fresh_is : (progress : Progress) → is_fresh_progress progress ≡ true → progress ≡ Fresh
fresh_is Fresh is = refl
fresh_is Open is = absurd (true≢false (sym is))
fresh_is Done is = absurd (true≢false (sym is))

-- the first number is open, and nothing else
pub go_on-requires-clause-depth : goal.go_on-requires-clause-depth
go_on-requires-clause-depth g c =
    let graph = g.D.Digraph.graph c.args.digraph.now in
    let depth = c.args.depth.now in
    let number = c.args.number in
    let far : IsSearch graph depth.progress.items depth.cursors.items depth.order.items [] = subst (λ (l : List ℕ). IsSearch graph depth.progress.items depth.cursors.items depth.order.items l) c.requires.rests c.requires.depth in
    let counts = c.requires.within.started number (sym c.starts.ensures ∙ c.if-starts.true) in
    let new = c.in_ok-open.ensures in
    same_search graph _ _ _ _ _ _ _ _
    (rooted graph depth.progress.items depth.cursors.items depth.order.items number far (fresh_is (get_or depth.progress.items number Fresh) (sym c.is_fresh.ensures ∙ c.if-is_fresh.true)) c.requires.number counts)
    new.progress new.cursors new.order (new.stack ∙ ap (λ (l : List ℕ). l ++ number ∷ []) c.requires.rests)
