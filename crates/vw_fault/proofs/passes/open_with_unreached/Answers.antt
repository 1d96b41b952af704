use Rattle.std.proofs.Common.{◌≡◌, ◌<◌, ◌∙◌, Bool, List, IfOk, All, not, filter, ap, subst, sym}
use Rattle.std.proofs.lemmas.List.Elements.{All-filter}
use Rattle.vw_net.specs.declared.flat.Flat.{Flat}
use Rattle.vw_fault.specs.declared.open.Open.{Open}
use Rattle.vw_fault.specs.Reached.{IsClosedByReading}
use Rattle.vw_fault.specs.Steps.Groups.{is_seen, net_count}
use Rattle.vw_fault.specs.Steps.Reaching.{is_marked}
use Rattle.vw_fault.proofs.Rounds.{unreached_listed}
use Rattle.vw_fault.proofs.passes.open_with_unreached.Goals as goal

-- they are some of the faults
pub open_in_passes-requires-clause-within : goal.open_in_passes-requires-clause-within
open_in_passes-requires-clause-within g c κs alive =
    let fits = λ (fault : Open). fault.net < net_count c.args.grading.now in
    subst (All fits) (sym c.in_ok-reached.ensures) (All-filter (λ (fault : Open). is_marked c.deref.result.now fault.net) fits c.args.faults.now c.requires.within)

-- those of the other nets are open
pub returns : goal.returns
returns g c =
    let grading = c.args.grading.now in
    let marks = c.deref-2.result.now in
    let test = λ (fault : Open). not (is_seen grading fault) in
    let closed = subst (λ (list : List Bool). IsClosedByReading grading.ordered.now.flat (is_marked list)) (sym c.deref-2.ensures.value) (subst (λ (flat : Flat). IsClosedByReading flat (is_marked c.in_ok-marks.marks.items)) c.flat.ensures c.in_ok-marks.ensures) in
    let same : c.deref.result.now ≡ marks = c.deref.ensures.value ∙ sym c.deref-2.ensures.value in
    let are = c.deref-3.ensures.value ∙ c.in_ok-left.ensures ∙ ap (filter test) (c.in_ok-reached.ensures ∙ ap (λ (list : List Bool). filter (λ (fault : Open). is_marked list fault.net) c.args.faults.now) same) in
    subst (λ (wanted : List Open). IfOk c.with_unmarked.result (λ all. all.items ≡ wanted)) (unreached_listed grading marks closed c.args.faults.now) (c.with_unmarked.ensures test are)
