use Rattle.std.proofs.Common.{◌≡◌, ◌≢◌, ◌<◌, ◌≤◌, ◌+◌, ◌-◌, ◌*◌, ◌++◌, ℕ, List, [], ◌∷◌, Option, Some, None, length, length-append, get_or, take, arith, sym, ◌∙◌, ap, refl, subst, true, false, true≢false, append-nil}
use Rattle.std.specs.Vec.{vec_len}
use Rattle.std.specs.Option.{option_to_list, MatchOption}
use Rattle.std.proofs.lemmas.Option.{none-some}
use Rattle.vw_net.specs.Order.{is_among}
use Rattle.vw_order.specs.declared.progress.Progress.{Progress}
use Rattle.vw_order.specs.declared.progress.Progress.TheVariants.{Fresh, Open, Done}
use Rattle.vw_order.specs.declared.depth.DepthSearch.{DepthSearch}
use Rattle.vw_order.specs.Circles.{IsNumberCircle}
use Rattle.vw_order.specs.Steps.SearchProgress.{is_open_progress}
use Rattle.vw_order.specs.Steps.Rounds.{round_from}
use Rattle.vw_order.specs.Steps.Searches.{KeepsNumbers, IsSearch}
use Rattle.vw_order.proofs.DepthSearches.{IsAtTop, at_top, moved, finished, joined, opened_on, circled, same_search}
use Rattle.vw_order.proofs.depth_first.go_on.Given.{Over}
use Rattle.vw_order.proofs.depth_first.go_on.Goals as goal
use Rattle.vw_order.proofs.depth_first.go_on.Goals.{In-Some}
use Rattle.vw_order.proofs.NoValue.{none_is}

-- what a test of a progress says
open_is : (progress : Progress) → is_open_progress progress ≡ true → progress ≡ Open
open_is Fresh is = absurd (true≢false (sym is))
open_is Open is = refl
open_is Done is = absurd (true≢false (sym is))

open_not : (progress : Progress) → is_open_progress progress ≡ false → progress ≢ Open
open_not Fresh is same = cc
open_not Open is same = absurd (true≢false is)
open_not Done is same = cc

-- nothing was popped
nothing_left : (stack rest : List ℕ) (popped : Option ℕ) (count left : ℕ) → popped ≡ None → stack ≡ rest ++ option_to_list popped
    → rest ≡ take (count - 1) stack
    → MatchOption popped ((count ≡ 0) × (left ≡ 0)) (λ _. left + 1 ≡ count) → stack ≡ []
nothing_left stack rest None count left none items front cases = items ∙ append-nil rest ∙ front ∙ ap (λ (n : ℕ). take (n - 1) stack) cases.0
nothing_left stack rest (Some x) count left none items front cases = absurd (none-some x (sym none))

rest_empty : (stack rest : List ℕ) (popped : Option ℕ) → popped ≡ None → stack ≡ [] → stack ≡ rest ++ option_to_list popped → rest ≡ []
rest_empty stack rest None none empty items = sym (append-nil rest) ∙ sym items ∙ empty
rest_empty stack rest (Some x) none empty items = absurd (none-some x (sym none))

-- what was done or open before is so afterwards
kept : (old depth new : DepthSearch) (stack order' stack' : List ℕ) (number : ℕ) → depth.stack.items ≡ stack ++ number ∷ []
    → new.order.items ≡ order' → new.stack.items ≡ stack' → KeepsNumbers old depth
    → ((other : ℕ) → is_among (depth.order.items ++ (stack ++ number ∷ [])) other ≡ true → is_among (order' ++ stack') other ≡ true) → KeepsNumbers old new
kept old depth new stack order' stack' number was order_is stack_is before step = λ other among.
    let there : is_among (depth.order.items ++ (stack ++ number ∷ [])) other ≡ true = subst (λ (l : List ℕ). is_among (depth.order.items ++ l) other ≡ true) was (before other among) in
    subst (λ (l : List ℕ). is_among (l ++ new.stack.items) other ≡ true) (sym order_is) (subst (λ (l : List ℕ). is_among (order' ++ l) other ≡ true) (sym stack_is) (step other there))

-- one more is opened or done
smaller : (n a b a' b' : ℕ) → a + b ≤ n → 0 < b → 2 * a' + b' ≡ 2 * a + b + 1 → 2 * n - (2 * a' + b') < 2 * n - (2 * a + b)
smaller n a b a' b' most some more = omega arith

-- the search with the last open number apart
far : (g : Over) (c : In-Some g) → let depth = c.loop-number.depth in
    IsSearch (g.D.Digraph.graph c.args.digraph.now) depth.progress.items depth.cursors.items depth.order.items (c.pop.new.self.items ++ c.in-Some.number ∷ [])
far g c =
    let depth = c.loop-number.depth in
    subst (λ (l : List ℕ). IsSearch (g.D.Digraph.graph c.args.digraph.now) depth.progress.items depth.cursors.items depth.order.items l) c.in-Some.ensures.items c.loop-number.invariant.0

top : (g : Over) (c : In-Some g) → let depth = c.loop-number.depth in
    IsAtTop (g.D.Digraph.graph c.args.digraph.now) depth.progress.items depth.cursors.items depth.order.items c.pop.new.self.items c.in-Some.number
top g c =
    let depth = c.loop-number.depth in
    at_top (g.D.Digraph.graph c.args.digraph.now) c.requires.within depth.progress.items depth.cursors.items depth.order.items c.pop.new.self.items c.in-Some.number (far g c)

pub ahead-requires-clause-number : goal.ahead-requires-clause-number
ahead-requires-clause-number g c = omega (arith, (top g (goal.at.ahead-requires-clause-number g c).In-Some).in_cursors)

pub ahead-requires-clause-within : goal.ahead-requires-clause-within
ahead-requires-clause-within g c = λ place other reads. omega (arith, (top g (goal.at.ahead-requires-clause-within g c).In-Some).read_in place other reads)

pub finish-requires : goal.finish-requires
finish-requires g c = omega (arith, (top g (goal.at.finish-requires g c).In-Some).in_progress)

pub loop-number-smaller-in_default-ahead : goal.loop-number-smaller-in_default-ahead
loop-number-smaller-in_default-ahead g c =
    let depth = c.loop-number.depth in
    let stack = c.pop.new.self.items in
    let number = c.in-Some.number in
    let most = (top g (goal.at.loop-number-smaller-in_default-ahead g c).In-Some).most in
    let new = c.in_ok-finish.ensures in
    let before : length depth.stack.items ≡ length (stack ++ number ∷ []) = ap (λ (l : List ℕ). length l) c.in-Some.ensures.items in
    let done : length c.finish.new.self.order.items ≡ length (depth.order.items ++ number ∷ []) = ap (λ (l : List ℕ). length l) new.order in
    let left : length c.finish.new.self.stack.items ≡ length stack = ap (λ (l : List ℕ). length l) new.stack in
    smaller (g.D.Digraph.graph c.args.digraph.now).count (length depth.order.items) (length depth.stack.items) (length c.finish.new.self.order.items) (length c.finish.new.self.stack.items) (omega arith)
    (omega (arith, length-append stack (number ∷ []))) (omega (arith, length-append stack (number ∷ []), length-append depth.order.items (number ∷ [])))

pub loop-number-preserved-in_default-ahead : goal.loop-number-preserved-in_default-ahead
loop-number-preserved-in_default-ahead g c =
    let graph = g.D.Digraph.graph c.args.digraph.now in
    let depth = c.loop-number.depth in
    let stack = c.pop.new.self.items in
    let number = c.in-Some.number in
    let far = far g (goal.at.loop-number-preserved-in_default-ahead g c).In-Some in
    let new = c.in_ok-finish.ensures in (
      same_search graph _ _ _ _ _ _ _ _ (finished graph c.requires.within depth.progress.items depth.cursors.items depth.order.items stack number far c.in_default-ahead.ensures) new.progress new.cursors new.order new.stack,
      kept c.args.depth.now depth c.finish.new.self stack (depth.order.items ++ number ∷ []) stack number c.in-Some.ensures.items new.order new.stack c.loop-number.invariant.1
          (moved graph c.requires.within depth.progress.items depth.cursors.items depth.order.items stack number far),
    )

pub is_on_stack-requires : goal.is_on_stack-requires
is_on_stack-requires g c =
    omega (arith, (top g (goal.at.is_on_stack-requires g c).In-Some).read_in c.in-Some-ahead.ahead.place c.in-Some-ahead.ahead.number c.in-Some-ahead.ensures.1)

pub returns-then-is_on_stack : goal.returns-then-is_on_stack
returns-then-is_on_stack g c =
    let graph = g.D.Digraph.graph c.args.digraph.now in
    let depth = c.loop-number.depth in
    let stack = c.pop.new.self.items in
    let number = c.in-Some.number in
    let next = c.in-Some-ahead.ahead in
    let far = far g (goal.at.returns-then-is_on_stack g c).In-Some in
    let on = open_is (get_or depth.progress.items next.number Fresh) (sym c.is_on_stack.ensures ∙ c.if-is_on_stack.true) in
    let is : c.in_ok-circle.circle.items ≡ round_from next.number stack ++ number ∷ [] =
    ◌∙◌ {b = round_from next.number c.as_slice.result.now ++ number ∷ []} c.in_ok-circle.ensures (ap (λ (l : List ℕ). round_from next.number l ++ number ∷ []) c.as_slice.ensures.value) in
    subst (λ (l : List ℕ). IsNumberCircle graph l) (sym is) (circled graph c.requires.within depth.progress.items depth.cursors.items depth.order.items stack number far next c.in-Some-ahead.ensures on)

pub open_ahead-requires-clause-number : goal.open_ahead-requires-clause-number
open_ahead-requires-clause-number g c = omega (arith, (top g (goal.at.open_ahead-requires-clause-number g c).In-Some).in_cursors)

pub open_ahead-requires-clause-ahead : goal.open_ahead-requires-clause-ahead
open_ahead-requires-clause-ahead g c =
    omega (arith, (top g (goal.at.open_ahead-requires-clause-ahead g c).In-Some).read_in c.in-Some-ahead.ahead.place c.in-Some-ahead.ahead.number c.in-Some-ahead.ensures.1)

pub loop-number-smaller : goal.loop-number-smaller
loop-number-smaller g c =
    let depth = c.loop-number.depth in
    let stack = c.pop.new.self.items in
    let number = c.in-Some.number in
    let next = c.in-Some-ahead.ahead in
    let most = (top g (goal.at.loop-number-smaller g c).In-Some).most in
    let new = c.in_ok-open_ahead.ensures in
    let before : length depth.stack.items ≡ length (stack ++ number ∷ []) = ap (λ (l : List ℕ). length l) c.in-Some.ensures.items in
    let done : length c.open_ahead.new.self.order.items ≡ length depth.order.items = ap (λ (l : List ℕ). length l) new.order in
    let left : length c.open_ahead.new.self.stack.items ≡ length (stack ++ number ∷ next.number ∷ []) = ap (λ (l : List ℕ). length l) new.stack in
    smaller (g.D.Digraph.graph c.args.digraph.now).count (length depth.order.items) (length depth.stack.items) (length c.open_ahead.new.self.order.items) (length c.open_ahead.new.self.stack.items) (omega arith)
    (omega (arith, length-append stack (number ∷ []))) (omega (arith, length-append stack (number ∷ []), length-append stack (number ∷ next.number ∷ [])))

pub loop-number-preserved : goal.loop-number-preserved
loop-number-preserved g c =
    let graph = g.D.Digraph.graph c.args.digraph.now in
    let depth = c.loop-number.depth in
    let stack = c.pop.new.self.items in
    let number = c.in-Some.number in
    let next = c.in-Some-ahead.ahead in
    let far = far g (goal.at.loop-number-preserved g c).In-Some in
    let new = c.in_ok-open_ahead.ensures in
    let off = open_not (get_or depth.progress.items next.number Fresh) (sym c.is_on_stack.ensures ∙ c.if-is_on_stack.false) in (
      same_search graph _ _ _ _ _ _ _ _ (opened_on graph c.requires.within depth.progress.items depth.cursors.items depth.order.items stack number far next c.in-Some-ahead.ensures off) new.progress new.cursors new.order new.stack,
      kept c.args.depth.now depth c.open_ahead.new.self stack depth.order.items (stack ++ number ∷ next.number ∷ []) number c.in-Some.ensures.items new.order new.stack c.loop-number.invariant.1
          (joined graph c.requires.within depth.progress.items depth.cursors.items depth.order.items stack number far next c.in-Some-ahead.ensures),
    )

pub returns : goal.returns
returns g c =
    let graph = g.D.Digraph.graph c.args.digraph.now in
    let depth = c.loop-number.depth in
    let left = c.pop.new.self.items in
    let none : c.pop.result ≡ None = none_is c.pop.result c.in_default.not-Some in
    let empty : depth.stack.items ≡ [] = nothing_left depth.stack.items left c.pop.result (vec_len depth.stack) (vec_len c.pop.new.self) none c.pop.ensures.items c.pop.ensures.rest c.pop.ensures.cases in
    let rests : left ≡ [] = rest_empty depth.stack.items left c.pop.result none empty c.pop.ensures.items in
    let same : depth.stack.items ≡ left = empty ∙ sym rests in
    record {
      depth = subst (λ (l : List ℕ). IsSearch graph depth.progress.items depth.cursors.items depth.order.items l) same c.loop-number.invariant.0;
      rests = rests;
      kept = λ number among. subst (λ (l : List ℕ). is_among (depth.order.items ++ l) number ≡ true) same (c.loop-number.invariant.1 number among);
    }
