use Rattle.std.proofs.Common.{subst}
use Rattle.vw_instances.specs.declared.sizes.Sizes.{Sizes}
use Rattle.vw_instances.specs.Sizes.{AreSizes, IsMeasured}
use Rattle.vw_design.specs.Accepted.{HasNoModelFault}
use Rattle.vw_design.proofs.Sizes.{small_of}
use Rattle.vw_elab.specs.declared.fault.DesignFault.TheVariants.{NoMemory}
use Rattle.vw_elab.proofs.RefusedDesigns.{judged_by}
use Rattle.vw_elab.proofs.models.check_sizes.Goals as goal

pub returns-in-Fits : goal.returns-in-Fits
returns-in-Fits c =
    let design = c.args.targets.now.design.now in
    let bindings = c.requires.bindings in
    let sizes : AreSizes design c.in-Fits.sizes = subst (IsMeasured design) c.in-Fits.is c.in_ok-sizes.ensures in (
      sizes,
      record {
        models_known = bindings.models.known;
        no_circle = bindings.models.no_circle;
        formals_known = bindings.formals_known;
        inputs_bound = bindings.inputs_bound;
        one_way = bindings.one_way;
        small = small_of design sizes.small;
      },
    )

pub returns-in_err-sizes : goal.returns-in_err-sizes
returns-in_err-sizes c =
    let design = c.args.targets.now.design.now in
    judged_by design (λ (sizes : Sizes). AreSizes design sizes × HasNoModelFault design) c.from_residual.result NoMemory c.from_residual.ensures tt
