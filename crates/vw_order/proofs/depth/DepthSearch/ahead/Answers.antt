use Rattle.std.proofs.Common.{◌≡◌, ◌≤◌, ◌+◌, ℕ, List, Option, Some, None, true, true≢false, get_or, slice_get, below_more, refl, sym, ◌∙◌, ap, arith}
use Rattle.std.proofs.lemmas.Option.{same_Some, none-some, slice_get_within, get_or_from_slice_get}
use Rattle.std.specs.Prelude.{slice_index}
use Rattle.vw_order.specs.declared.progress.Progress.{Progress}
use Rattle.vw_order.specs.declared.progress.Progress.TheVariants.{Fresh, Open, Done}
use Rattle.vw_order.specs.Steps.SearchProgress.{AreDone, is_done_progress}
use Rattle.vw_order.proofs.depth.DepthSearch.ahead.Goals as goal
use Rattle.vw_order.proofs.depth.DepthSearch.ahead.Goals.{in-Some+else-not-is_finished, in_default}

done_is : (progress : Progress) → is_done_progress progress ≡ true → progress ≡ Done
done_is Fresh is = absurd (true≢false (sym is))
done_is Open is = absurd (true≢false (sym is))
done_is Done is = refl

-- what stands at one place more is done, too
done_further : (progress : List Progress) (reads : List (Option ℕ)) (from place : ℕ) → AreDone progress reads from place
    → ((other : ℕ) → get_or reads place None ≡ Some other → get_or progress other Fresh ≡ Done) → AreDone progress reads from (place + 1)
done_further progress reads from place before here k other least under at =
    below_more (λ (k : ℕ). (other : ℕ) → from ≤ k → slice_get reads k ≡ Some (Some other) → get_or progress other Fresh ≡ Done) place
    (λ k under other least at. before k other least under at) (λ other least at. here other (get_or_from_slice_get reads place (Some other) None at)) k under other least at

pub loop-place-preserved : goal.loop-place-preserved
loop-place-preserved g c =
    let progress = c.args.self.now.progress.items in
    let reads = (g.D.Digraph.graph c.args.digraph.now).reads c.args.number in
    done_further progress reads (slice_index c.args.self.now.cursors.items c.args.number) c.loop-place.place c.loop-place.invariant
    (elim c.match-read.branch [
      | in-Some+else-not-is_finished w ↦
          λ other at. ap (λ (n : ℕ). get_or progress n Fresh) (sym (same_Some w.in-Some.read other (sym w.in-Some.is ∙ c.read.ensures ∙ at)))
          ∙ done_is (get_or progress w.in-Some.read Fresh) (sym w.is_finished.ensures ∙ w.if-not-is_finished.false)
      | in_default w ↦ λ other at. absurd (none-some other (sym w.in_default.is ∙ c.read.ensures ∙ at))
    ])

pub returns : goal.returns
returns g c = λ place other least at.
    let reads = (g.D.Digraph.graph c.args.digraph.now).reads c.args.number in
    c.loop-place.invariant place other least (omega (arith, c.loop-place-test.false, slice_get_within reads place (Some other) at)) at
