use Rattle.std.proofs.Common.{◌≤◌, List, length, sym, subst, refl, arith}
use Rattle.std.specs.List.{AllZip}
use Rattle.std.proofs.lemmas.List.{take_all}
use Rattle.std.proofs.lemmas.Option.{slice_get_read}
use Rattle.vw_design.specs.Paths.{Word}
use Rattle.vw_design.specs.Probes.{FindsNone, IsFirstWithoutNet}
use Rattle.vw_flat.specs.Steps.Searches.{HasNumberOf}
use Rattle.vw_flat.proofs.LongerLists.{zip_more}
use Rattle.vw_flat.proofs.ProbedFlats.{first_without}
use Rattle.vw_flat.proofs.netlist.probe_numbers.Goals as goal

-- the probes before it have their numbers
pub returns-in-None-clause-fault : goal.returns-in-None-clause-fault
returns-in-None-clause-fault c =
    let design = c.args.elaborated.now in
    let probes = c.args.probes.now in
    let place = c.loop-probe.probe-index in
    let probe = c.probe-item.result in
    let at = slice_get_read probes (length probes) place probe refl c.loop-probe-test.true c.probe-item.is in
    let none : FindsNone design probe = subst (FindsNone design) c.as_slice.ensures c.in-None.ensures in
    subst (IsFirstWithoutNet design probes) (sym c.in_ok-copy-in-None.ensures) (first_without design probes place probe c.loop-probe.numbers.items at c.loop-probe.invariant none)

-- one number more
pub loop-probe-preserved : goal.loop-probe-preserved
loop-probe-preserved c =
    let design = c.args.elaborated.now in
    let probes = c.args.probes.now in
    let place = c.loop-probe.probe-index in
    let probe = c.probe-item.result in
    let at = slice_get_read probes (length probes) place probe refl c.loop-probe-test.true c.probe-item.is in
    let has : HasNumberOf design probe c.in-Some.number = subst (λ (word : Word). HasNumberOf design word c.in-Some.number) c.as_slice.ensures c.in-Some.ensures in
    zip_more (HasNumberOf design) probes c.loop-probe.numbers.items c.push.new.self.items place probe c.in-Some.number at has c.loop-probe.invariant c.in_ok-push-in-Some.ensures.items

pub returns-clause-found : goal.returns-clause-found
returns-clause-found c =
    let probes = c.args.probes.now in
    let past : length probes ≤ c.loop-probe.probe-index = omega (arith, c.loop-probe-test.false) in
    subst (λ (list : List Word). AllZip (HasNumberOf c.args.elaborated.now) list c.loop-probe.numbers.items) (take_all c.loop-probe.probe-index probes past) c.loop-probe.invariant
