use Rattle.std.proofs.Common.{◌≡◌, ◌∙◌, sym, ap, Option}
use Rattle.std.specs.Option.{option_or}
use Rattle.std.proofs.lemmas.List.Folds.{find-append}
use Rattle.vw_design.specs.declared.design.Design.{Design}
use Rattle.vw_design.specs.declared.item.Item.{Item}
use Rattle.vw_design.specs.Drivers.{driver}
use Rattle.vw_design.specs.Paths.{Word, Path}
use Rattle.vw_design.specs.NetReads.{data_of, controls_of}
use Rattle.vw_net_faults.specs.Steps.Wanted.{wants, wanted_among, wanted_names}
use Rattle.vw_net_faults.specs.declared.wanted.Wanted.{Wanted}
use Rattle.vw_net_faults.specs.declared.wanted.Wanted.TheVariants.{Undriven}
use Rattle.vw_net_faults.proofs.search.Search.read_found.Goals as goal

-- data first, and then the control
both : (design : Design) (wanted : Wanted) (path : Path) (item : Item) → wanted ≡ Undriven
    → wanted_among design wanted path (wanted_names wanted item) ≡ option_or (wanted_among design wanted path (data_of item)) (wanted_among design wanted path (controls_of item))
both design wanted path item is =
    ap (λ (w : Wanted). wanted_among design wanted path (wanted_names w item)) is
    ∙ find-append (λ (name : Word). wants design wanted (driver design path name)) (data_of item) (controls_of item)

pub returns-in-Some : goal.returns-in-Some
returns-in-Some c = λ path listed are.
    let design = c.args.self.now.nets.now.design.now in
    let wanted = c.args.self.now.wanted.now in
    let item = c.args.item.now in
    sym (both design wanted path item c.in-Undriven.is ∙ ap (λ (o : Option Word). option_or o (wanted_among design wanted path (controls_of item))) (sym (c.in-Some.ensures path listed are)))

pub returns-in-None : goal.returns-in-None
returns-in-None c = λ path listed are.
    let design = c.args.self.now.nets.now.design.now in
    let wanted = c.args.self.now.wanted.now in
    let item = c.args.item.now in
    c.control_found.ensures path listed are
    ∙ sym (both design wanted path item c.in-Undriven.is ∙ ap (λ (o : Option Word). option_or o (wanted_among design wanted path (controls_of item))) (sym (c.in-None.ensures path listed are)))
