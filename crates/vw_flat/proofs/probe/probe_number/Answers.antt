use Rattle.std.proofs.Common.{◌≡◌, ◌∙◌, ℕ, Bool, true, false, Option, Some, None, sym, subst, true≢false}
use Rattle.std.specs.Prelude.{is_some}
use Rattle.std.proofs.lemmas.Option.{slice_get_within}
use Rattle.vw_design.specs.declared.design.Design.{Design}
use Rattle.vw_design.specs.Accepted.{IsAccepted}
use Rattle.vw_design.specs.Preorder.{instances}
use Rattle.vw_design.specs.Flattened.{number_of}
use Rattle.vw_design.specs.Paths.{Word}
use Rattle.vw_flat.specs.Steps.Searches.{IsNumberOf}
use Rattle.vw_flat.proofs.SearchSteps.{IsOnTheWay, at_root, found_here, none_without_place, none_without_child, on_deeper, word_shorter, found_from_root, number_fits}
use Rattle.vw_flat.proofs.probe.probe_number.Goals as goal

pub loop-name-init : goal.loop-name-init
loop-name-init c = at_root c.args.elaborated.now c.args.probe.now

pub number_named-number-requires : goal.number_named-number-requires
number_named-number-requires c =
    let on = c.loop-name.invariant in
    slice_get_within (instances c.args.elaborated.now) c.loop-name.instance on.path on.at

-- the net is one of this instance
found : (design : Design) → IsAccepted design → (probe : Word) (instance : ℕ) (name : Word) (on : IsOnTheWay design probe instance name) (found : Option ℕ)
    → found ≡ number_of design on.path name → is_some found ≡ true → IsNumberOf design probe found
found design accepted probe instance name on None is some = absurd (true≢false (sym some))
found design accepted probe instance name on (Some number) is some =
    found_from_root design accepted probe (Some number)
    (on.further (Some number) (found_here design accepted on.path name number (sym is) (number_fits design accepted on.path name number (sym is))))

pub returns-then-is_some : goal.returns-then-is_some
returns-then-is_some c =
    let on = c.loop-name.invariant in
    found c.args.elaborated.now c.is_accepted.ensures c.args.probe.now c.loop-name.instance c.loop-name.name.now on c.number_named-number.result (c.number_named-number.ensures on.path on.at)
    (sym c.is_some.ensures ∙ c.if-is_some.true)

-- it has none in this instance
none : (found there : Option ℕ) (some : Bool) → some ≡ is_some found → some ≡ false → found ≡ there → there ≡ None
none None there some tested not_some same = sym same
none (Some number) there some tested not_some same = absurd (true≢false (sym tested ∙ not_some))

pub returns-in_err-place : goal.returns-in_err-place
returns-in_err-place c =
    let on = c.loop-name.invariant in
    let here = none c.number_named-number.result (number_of c.args.elaborated.now on.path c.loop-name.name.now) c.is_some.result c.is_some.ensures c.if-is_some.false (c.number_named-number.ensures on.path on.at) in
    subst (IsNumberOf c.args.elaborated.now c.args.probe.now) (sym c.from_residual.ensures)
    (found_from_root c.args.elaborated.now c.is_accepted.ensures c.args.probe.now None
    (on.further None (none_without_place c.args.elaborated.now c.is_accepted.ensures on.path c.loop-name.name.now here c.in_err-place.ensures.none)))

pub returns-in_err-instance : goal.returns-in_err-instance
returns-in_err-instance c =
    let on = c.loop-name.invariant in
    let here = none c.number_named-number.result (number_of c.args.elaborated.now on.path c.loop-name.name.now) c.is_some.result c.is_some.ensures c.if-is_some.false (c.number_named-number.ensures on.path on.at) in
    subst (IsNumberOf c.args.elaborated.now c.args.probe.now) (sym c.from_residual-in_err-instance.ensures)
    (found_from_root c.args.elaborated.now c.is_accepted.ensures c.args.probe.now None
    (on.further None (none_without_child c.args.elaborated.now c.is_accepted.ensures on.path c.loop-name.name.now here c.in_ok-place.place c.in_ok-place.behind.now c.in_ok-place.ensures.some
    (sym (c.in_err-instance.ensures on.path on.at)))))

pub loop-name-smaller : goal.loop-name-smaller
loop-name-smaller c = word_shorter c.args.elaborated.now c.is_accepted.ensures c.loop-name.name.now c.in_ok-place.behind.now c.in_ok-place.place c.in_ok-place.ensures.some

pub loop-name-preserved : goal.loop-name-preserved
loop-name-preserved c =
    let on = c.loop-name.invariant in
    let here = none c.number_named-number.result (number_of c.args.elaborated.now on.path c.loop-name.name.now) c.is_some.result c.is_some.ensures c.if-is_some.false (c.number_named-number.ensures on.path on.at) in
    on_deeper c.args.elaborated.now c.is_accepted.ensures c.args.probe.now c.loop-name.instance c.loop-name.name.now on here c.in_ok-place.place c.in_ok-place.behind.now c.in_ok-place.ensures.some c.in_ok-instance.instance
    (c.in_ok-instance.ensures on.path on.at)
