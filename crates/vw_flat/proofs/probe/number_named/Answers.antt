use Rattle.std.proofs.Common.{◌≡◌, ℕ, Option, Some, None, length, sym, ◌∙◌, ap, arith}
use Rattle.vw_design.specs.declared.design.Design.{Design}
use Rattle.vw_design.specs.Accepted.{IsAccepted}
use Rattle.vw_design.specs.Clocks.{columns}
use Rattle.vw_design.specs.Drivers.{driver}
use Rattle.vw_design.specs.Flattened.{number_of}
use Rattle.vw_design.specs.Paths.{Path, Word}
use Rattle.vw_design.specs.Preorder.{instances}
use Rattle.vw_design.proofs.ListPlaces.{at_within}
use Rattle.vw_design.proofs.Sizes.{few_columns}
use Rattle.vw_elab.specs.declared.driver.Driver.{Driver}
use Rattle.vw_elab.specs.Numbers.{driver_of}
use Rattle.vw_flat.specs.Steps.Numbers.{number_by, Has32Bits}
use Rattle.vw_flat.proofs.Readings.{numbers_agree}
use Rattle.vw_flat.proofs.SearchSteps.{number_fits}
use Rattle.vw_flat.proofs.probe.number_named.Goals as goal

module _ (design : Design) (path : Path) (name : Word) where
  -- the number of the driver is that of the net
  same_number : (count : ℕ) (driven : Option Driver) → count ≡ length (columns design) → driven ≡ driver_of design (driver design path name)
      → number_by count driven ≡ number_of design path name
  same_number count driven counted is =
      ap (λ (n : ℕ). number_by n driven) counted ∙ ap (number_by (length (columns design))) is ∙ numbers_agree design (driver design path name)

  is_small : IsAccepted design → (number : Option ℕ) → number ≡ number_of design path name → Has32Bits number
  is_small accepted None is = tt
  is_small accepted (Some number) is =
      omega (arith, number_fits design accepted path name number (sym is), few_columns design, accepted.models.small.inputs, accepted.models.small.cells)

pub number_by_driver-requires : goal.number_by_driver-requires
number_by_driver-requires c =
    let design = c.args.elaborated.now in
    let at = at_within (instances design) c.args.instance c.requires in
    is_small design at.0 c.args.name.now c.is_accepted.ensures (number_by c.columns.result c.driver_named.result)
    (same_number design at.0 c.args.name.now c.columns.result c.driver_named.result c.columns.ensures (c.driver_named.ensures at.0 at.1))

pub returns : goal.returns
returns c = λ path at.
    c.number_by_driver.ensures ∙ same_number c.args.elaborated.now path c.args.name.now c.columns.result c.driver_named.result c.columns.ensures (c.driver_named.ensures path at)
