use Rattle.std.proofs.Common.{ℕ, List, Err, sym, ◌∙◌, ap, subst}
use Rattle.std.proofs.lemmas.Result.{err_from_is_err_and}
use Rattle.vw_design.specs.declared.design.Design.{Design}
use Rattle.vw_design.specs.Accepted.{IsAccepted}
use Rattle.vw_design.specs.Paths.{Word}
use Rattle.vw_front.specs.declared.fault.NetlistFault.{NetlistFault}
use Rattle.vw_front.specs.declared.named.NamedNetlist.{NamedNetlist}
use Rattle.vw_front.specs.Designs.{SpellsDesign, RefusesDesign, Judges}
use Rattle.vw_front.specs.NamedNetlists.{IsNamedNetlistOf}
use Rattle.vw_front.specs.Steps.OrderedDesigns.{IsNamedOf}
use Rattle.vw_front.proofs.MadeOfTexts.{of_models, of_design}
use Rattle.vw_front.proofs.netlist.named_netlist_of_text.Goals as goal

-- a netlist of the design with its names is one of its text
of_text : (probes : List Word) (text : List ℕ) (design : Design) → SpellsDesign text design → IsAccepted design → (named : NamedNetlist) → IsNamedOf probes design named → IsNamedNetlistOf probes text named
of_text probes text design spelled accepted named is = record {
  watched = record { design = design; nets = is.ordered.probed.nets };
  is = record { design_of = record { spelled = spelled; accepted = accepted; loop_free = is.ordered.loop_free }; found = is.ordered.probed.found };
  flat = is.ordered.probed.is;
  nets = is.nets;
  outputs = is.outputs;
}

pub returns-in_err-elaborated : goal.returns-in_err-elaborated
returns-in_err-elaborated c =
    let p = err_from_is_err_and c.from_residual.result c.from_residual.ensures.1 in
    let probes = c.args.probes.now in
    let text = c.args.text.now in
    subst (Judges (IsNamedNetlistOf probes text) (RefusesDesign probes text)) (sym (p.1 ∙ ap (λ (one : NetlistFault). Err one) p.2))
    (of_models probes text (IsNamedNetlistOf probes text) (λ (design : Design). SpellsDesign text design × IsAccepted design) c.in_err-elaborated.field-0.0 c.in_err-elaborated.ensures)

pub returns : goal.returns
returns c =
    let is = c.in_ok-elaborated.ensures in
    let design = c.in_ok-elaborated.elaborated in
    let probes = c.args.probes.now in
    let text = c.args.text.now in
    of_design probes text (IsNamedNetlistOf probes text) design is.0 is.1 (IsNamedOf probes design) (of_text probes text design is.0 is.1) c.named_of-named.result c.named_of-named.ensures
