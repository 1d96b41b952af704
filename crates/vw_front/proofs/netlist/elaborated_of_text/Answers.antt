use Rattle.std.proofs.Common.{◌≡◌, ℕ, List, Result, Ok, Err, sym, subst, inr}
use Rattle.vw_design.specs.declared.design.Design.{Design}
use Rattle.vw_design.specs.Accepted.{IsAccepted}
use Rattle.vw_front.specs.declared.fault.NetlistFault.{NetlistFault}
use Rattle.vw_front.specs.declared.fault.NetlistFault.TheVariants.{Text, Design as DesignFault, NoNet, Loop, NoMemory}
use Rattle.vw_front.specs.Designs.{SpellsDesign, RefusesModels, RefusesElaboration, Judges}
use Rattle.vw_front.proofs.netlist.elaborated_of_text.Goals as goal

module _ (text : List ℕ) (design : Design) (spelled : SpellsDesign text design) where
  -- the fault is that of the design that was read
  of_design : (result : Result Design NetlistFault) → Judges (λ elaborated. (elaborated ≡ design) × IsAccepted design) (RefusesElaboration design) result
      → Judges (λ elaborated. SpellsDesign text elaborated × IsAccepted elaborated) (RefusesModels text) result
  of_design (Ok elaborated) is = (subst (SpellsDesign text) (sym is.0) spelled, subst IsAccepted (sym is.0) is.1)
  of_design (Err (Text fault)) is = inr (design, spelled, is)
  of_design (Err (DesignFault fault)) is = inr (design, spelled, is)
  of_design (Err (NoNet probe)) is = inr (design, spelled, is)
  of_design (Err (Loop names)) is = inr (design, spelled, is)
  of_design (Err NoMemory) is = is

pub returns : goal.returns
returns c = of_design c.args.text.now c.in_ok-design.design c.in_ok-design.ensures c.elaborated_of.result c.elaborated_of.ensures
