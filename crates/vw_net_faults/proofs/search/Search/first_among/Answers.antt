use Rattle.std.proofs.Common.{◌∙◌, sym, refl, length}
use Rattle.std.proofs.lemmas.Option.{slice_get_read}
use Rattle.vw_design.specs.Drivers.{driver}
use Rattle.vw_design.specs.Paths.{Word}
use Rattle.vw_net_faults.specs.Steps.Wanted.{wants}
use Rattle.vw_net_faults.proofs.SearchSteps.{find_next, find_now}
use Rattle.vw_net_faults.proofs.search.Search.first_among.Goals as goal

pub returns-then-is_wanted : goal.returns-then-is_wanted
returns-then-is_wanted c = λ path listed are.
    let names = c.args.names.now in
    let i = c.loop-place.place in
    let name = c.index-names-place.result in
    let number = c.number_in_row-number.ensures ∙ are i name (slice_get_read names (length names) i name refl c.loop-place-test.true c.index-names-place.is) in
    find_now (λ (w : Word). wants c.args.self.now.nets.now.design.now c.args.self.now.wanted.now (driver c.args.self.now.nets.now.design.now path w)) names i name c.loop-place-test.true c.index-names-place.is
    (sym (c.is_wanted.ensures path name listed number) ∙ c.if-is_wanted.true) (c.loop-place.invariant path listed are)

pub loop-place-preserved : goal.loop-place-preserved
loop-place-preserved c = λ path listed are.
    let names = c.args.names.now in
    let i = c.loop-place.place in
    let name = c.index-names-place.result in
    let number = c.number_in_row-number.ensures ∙ are i name (slice_get_read names (length names) i name refl c.loop-place-test.true c.index-names-place.is) in
    find_next (λ (w : Word). wants c.args.self.now.nets.now.design.now c.args.self.now.wanted.now (driver c.args.self.now.nets.now.design.now path w)) names i name c.loop-place-test.true c.index-names-place.is
    (sym (c.is_wanted.ensures path name listed number) ∙ c.if-is_wanted.false) (c.loop-place.invariant path listed are)
