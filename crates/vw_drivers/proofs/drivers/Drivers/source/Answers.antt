use Rattle.std.proofs.Common.{sym, ◌∙◌, ap₂, subst}
use Rattle.vw_drivers.specs.Drivers.{IsSource}
use Rattle.vw_drivers.specs.Steps.FoundDrivers.{DriverRows, led}
use Rattle.vw_drivers.proofs.NumberedSources.{source_is}
use Rattle.vw_drivers.proofs.drivers.Drivers.source.Goals as goal

pub returns : goal.returns
returns c = λ design faultless tables drivers.
    subst (IsSource design c.args.tables.now c.args.instance c.args.claim)
    (sym (c.led_driver.ensures ∙ ap₂ (λ (outputs ports : DriverRows). led c.args.tables.now outputs ports c.args.instance c.args.claim) c.as_slice-outputs.ensures c.as_slice.ensures))
    (source_is design faultless c.args.tables.now tables c.args.self.now drivers c.args.instance c.args.claim)
