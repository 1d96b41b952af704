use Rattle.std.proofs.Common.{◌<◌, ◌≤◌, ◌+◌, ◌++◌, ◌∙◌, Bool, List, length, refl, sym, ap, append-nil, arith}
use Rattle.std.proofs.lemmas.List.{drop_all}
use Rattle.std.proofs.lemmas.Option.{get_or_from_slice_get}
use Rattle.vw_resume.specs.Steps.Kept.{kept_before}
use Rattle.vw_resume.proofs.KeptStates.{state_further}
use Rattle.vw_resume.proofs.keeping.kept_states.Goals as goal

pub loop-i-preserved : goal.loop-i-preserved
loop-i-preserved c =
    let i = c.loop-i.i in
    let states = c.args.states.now in
    let state = c.row.result.now in
    let inside : i < length states = omega (arith, c.loop-i-test.true, c.len-i-end.ensures) in
    state_further c.args.every c.args.first i (c.args.first + i) states state c.loop-i.text.items c.push_kept.new.text.items inside
    (sym (get_or_from_slice_get states i state state c.row.ensures)) refl c.in_ok-push_kept.ensures c.loop-i.invariant

pub returns : goal.returns
returns c =
    let i = c.loop-i.i in
    let text = c.loop-i.text.items in
    let states = c.args.states.now in
    let past : length states ≤ i = omega (arith, c.loop-i-test.false, c.len-i-end.ensures) in
    sym (append-nil text) ∙ ap (λ (ss : List (List Bool)). text ++ kept_before c.args.every (c.args.first + i) ss) (sym (drop_all i states past)) ∙ c.loop-i.invariant
