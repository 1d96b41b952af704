use Rattle.std.proofs.Common.{ℕ, List, Err, sym, ◌∙◌, ap, subst}
use Rattle.std.proofs.lemmas.Result.{err_from_is_err_and}
use Rattle.vw_net.specs.declared.ordered.Ordered.{Ordered}
use Rattle.vw_design.specs.declared.design.Design.{Design}
use Rattle.vw_design.specs.Accepted.{IsAccepted}
use Rattle.vw_design.specs.Paths.{Word}
use Rattle.vw_front.specs.declared.fault.NetlistFault.{NetlistFault}
use Rattle.vw_front.specs.Designs.{SpellsDesign, IsNetlistOf, RefusesDesign, Judges}
use Rattle.vw_front.specs.Steps.OrderedDesigns.{IsOrderedOf}
use Rattle.vw_front.proofs.MadeOfTexts.{of_models, of_design}
use Rattle.vw_front.proofs.netlist.netlist_of_text.Goals as goal

-- a netlist of the design is one of its text
of_text : (probes : List Word) (text : List ℕ) (design : Design) → SpellsDesign text design → IsAccepted design → (ordered : Ordered) → IsOrderedOf probes design ordered → IsNetlistOf probes text ordered
of_text probes text design spelled accepted ordered is = record {
  watched = record { design = design; nets = is.probed.nets };
  is = record { design_of = record { spelled = spelled; accepted = accepted; loop_free = is.loop_free }; found = is.probed.found };
  flat = is.probed.is;
}

pub returns-in_err-elaborated : goal.returns-in_err-elaborated
returns-in_err-elaborated c =
    let p = err_from_is_err_and c.from_residual.result c.from_residual.ensures.1 in
    let probes = c.args.probes.now in
    let text = c.args.text.now in
    subst (Judges (IsNetlistOf probes text) (RefusesDesign probes text)) (sym (p.1 ∙ ap (λ (one : NetlistFault). Err one) p.2))
    (of_models probes text (IsNetlistOf probes text) (λ (design : Design). SpellsDesign text design × IsAccepted design) c.in_err-elaborated.field-0.0 c.in_err-elaborated.ensures)

pub returns : goal.returns
returns c =
    let is = c.in_ok-elaborated.ensures in
    let design = c.in_ok-elaborated.elaborated in
    let probes = c.args.probes.now in
    let text = c.args.text.now in
    of_design probes text (IsNetlistOf probes text) design is.0 is.1 (IsOrderedOf probes design) (of_text probes text design is.0 is.1) c.ordered_of-ordered.result c.ordered_of-ordered.ensures
