use Rattle.std.proofs.Common.{◌≡◌, ℕ, Some, option_map, slice_get}
use Rattle.std.proofs.lemmas.Option.{slice_get-get_or}
use Rattle.vw_design.specs.Paths.{Word}
use Rattle.vw_design.specs.Preorder.{cells}
use Rattle.vw_flat.specs.Printed.{printed_site}
use Rattle.vw_flat.proofs.LongerLists.{zip_more}
use Rattle.vw_front.proofs.netlist.nets_of.Goals as goal

-- one net more
pub loop-number-preserved : goal.loop-number-preserved
loop-number-preserved c =
    let design = c.args.elaborated.now in
    let numbers = c.args.numbers.now in
    let place = c.loop-number.number-index in
    zip_more (λ (number : ℕ) (name : Word). option_map printed_site (slice_get (cells design) number) ≡ Some name) numbers c.loop-number.names.items c.push.new.self.items place _ c.in_ok-path_of.field-0
    (slice_get-get_or numbers place 0 c.loop-number-test.true) c.in_ok-path_of.ensures c.loop-number.invariant c.in_ok-push.ensures.items
