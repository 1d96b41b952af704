use Rattle.std.proofs.Common.{◌≡◌, ◌<◌, ◌+◌, ℕ, List, [], Option, length, get_or, slice_get, arith, sym, ◌∙◌, ap, subst}
use Rattle.std.proofs.lemmas.List.{get_or_default}
use Rattle.vw_net.specs.Order.{is_among}
use Rattle.vw_models.specs.Steps.Reach.{with_number, with_targets}
use Rattle.vw_models.proofs.Reaches.{IsReaching, start, go_on, short, all_reached}
use Rattle.vw_net.proofs.Orders.{at_among}
use Rattle.vw_models.proofs.reach.reach.Goals as goal
use Rattle.vw_models.proofs.reach.reach.Goals.{else-loop-at-test, then-loop-at-test+then-at-len}

pub loop-at-init : goal.loop-at-init
loop-at-init c = record {
  far = subst (λ (found : List ℕ). IsReaching c.args.targets.now 0 found) (sym (c.in_ok-add.ensures.found ∙ ap (λ (l : List ℕ). with_number l 0) c.in_ok-reached.ensures.found)) (start c.args.targets.now c.requires);
  flags = c.in_ok-add.ensures.flags ∙ c.in_ok-reached.ensures.flags;
  flagged = c.in_ok-add.ensures.flagged;
}

-- the number at a place
number_is : (found : List ℕ) (at number : ℕ) → at < length found → number ≡ get_or found at number → number ≡ get_or found at 0
number_is found at number within is = is ∙ get_or_default found at number 0 within

pub bounds-targets-number : goal.bounds-targets-number
bounds-targets-number c =
    let far = c.loop-at.invariant.far in
    let found = c.loop-at.reached.found.items in
    let within : c.loop-at.at < length found = omega (arith, c.if-at-len.false, c.len.ensures) in
    let is = number_is found c.loop-at.at c.index-number.result.now within c.index-number.ensures in
    far.good.within c.index-number.result.now (ap (is_among found) is ∙ at_among found c.loop-at.at 0 within)

pub add_all-requires-clause-within : goal.add_all-requires-clause-within
add_all-requires-clause-within c = λ place placed at.
    let number = c.index-number.result.now in
    let found = c.loop-at.reached.found.items in
    let far = c.loop-at.invariant.far in
    let here : c.loop-at.at < length found = omega (arith, c.if-at-len.false, c.len.ensures) in
    let is = number_is found c.loop-at.at number here c.index-number.ensures in
    let within : number < length c.args.targets.now = far.good.within number (ap (is_among found) is ∙ at_among found c.loop-at.at 0 here) in
    let list : c.as_slice.result.now ≡ get_or c.args.targets.now number [] = c.as_slice.ensures ∙ c.index-targets-number.is ∙ get_or_default c.args.targets.now number c.index-targets-number.result [] within in
    let below : placed < length c.args.targets.now = c.requires.within number place placed (ap (λ (l : List (Option ℕ)). slice_get l place) (sym list) ∙ at) in
    omega (arith, below, c.loop-at.invariant.flags)

pub loop-at-preserved : goal.loop-at-preserved
loop-at-preserved c =
    let found = c.loop-at.reached.found.items in
    let number = c.index-number.result.now in
    let within : c.loop-at.at < length found = omega (arith, c.if-at-len.false, c.len.ensures) in
    let is = number_is found c.loop-at.at number within c.index-number.ensures in
    let below : number < length c.args.targets.now = c.loop-at.invariant.far.good.within number (ap (is_among found) is ∙ at_among found c.loop-at.at 0 within) in
    let list : c.as_slice.result.now ≡ get_or c.args.targets.now (get_or found c.loop-at.at 0) [] =
    c.as_slice.ensures ∙ c.index-targets-number.is ∙ get_or_default c.args.targets.now number c.index-targets-number.result [] below ∙ ap (λ (n : ℕ). get_or c.args.targets.now n []) is in
    record {
      far = subst (λ (l : List ℕ). IsReaching c.args.targets.now (c.loop-at.at + 1) l) (sym (c.in_ok-add_all.ensures.found ∙ ap (λ (l : List (Option ℕ)). with_targets found l) list)) (go_on c.args.targets.now c.requires c.loop-at.at found c.loop-at.invariant.far within);
      flags = c.in_ok-add_all.ensures.flags ∙ c.loop-at.invariant.flags;
      flagged = c.in_ok-add_all.ensures.flagged;
    }

pub returns : goal.returns
returns c =
    let targets = c.args.targets.now in
    let reached = c.loop-at.reached in
    let far = c.loop-at.invariant.far in
    let each : length reached.flags.items ≡ length targets = omega (arith, c.loop-at.invariant.flags) in
    let few = short targets c.loop-at.at reached.found.items far in
    elim c.loop-at-test.branch [
      | else-loop-at-test w ↦
          all_reached targets c.loop-at.at reached.found.items reached.flags.items far (let past = w.loop-at-test.false in omega (arith, few, past)) c.loop-at.invariant.flagged each
      | then-loop-at-test+then-at-len w ↦
          all_reached targets c.loop-at.at reached.found.items reached.flags.items far (omega (arith, w.if-at-len.true, w.len.ensures)) c.loop-at.invariant.flagged each
    ]
