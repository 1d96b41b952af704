-- What is made of a design is made of the text that spells it, and what refuses the design refuses the text.
use Rattle.std.proofs.Common.{ℕ, List, Result, Ok, Err, inl, inr}
use Rattle.vw_design.specs.declared.design.Design.{Design}
use Rattle.vw_design.specs.Accepted.{IsAccepted}
use Rattle.vw_design.specs.Paths.{Word}
use Rattle.vw_front.specs.declared.fault.NetlistFault.{NetlistFault}
use Rattle.vw_front.specs.declared.fault.NetlistFault.TheVariants.{Text, Design as DesignFault, NoNet, Loop, NoMemory}
use Rattle.vw_front.specs.Designs.{SpellsDesign, RefusesModels, RefusesDesign, RefusesNetlist, Judges}

-- a fault is the same whatever was to be made
pub same_fault : {A B : Type 0} → (One : A → Type 0) (Other : B → Type 0) (Bad : NetlistFault → Type 0) (fault : NetlistFault) → Judges One Bad (Err fault) → Judges Other Bad (Err fault)
same_fault One Other Bad (Text fault) is = is
same_fault One Other Bad (DesignFault fault) is = is
same_fault One Other Bad (NoNet probe) is = is
same_fault One Other Bad (Loop names) is = is
same_fault One Other Bad NoMemory is = is

-- and a reason for which it is one is a reason for a wider fault
pub wider_fault : {A : Type 0} → (Good : A → Type 0) (Bad Wider : NetlistFault → Type 0) → ((why : NetlistFault) → Bad why → Wider why) → (fault : NetlistFault) → Judges Good Bad (Err fault) → Judges Good Wider (Err fault)
wider_fault Good Bad Wider wider (Text fault) is = wider (Text fault) is
wider_fault Good Bad Wider wider (DesignFault fault) is = wider (DesignFault fault) is
wider_fault Good Bad Wider wider (NoNet probe) is = wider (NoNet probe) is
wider_fault Good Bad Wider wider (Loop names) is = wider (Loop names) is
wider_fault Good Bad Wider wider NoMemory is = is

module _ {A : Type 0} (probes : List Word) (text : List ℕ) (OfText : A → Type 0) where
  -- what refuses the models refuses the design
  models_refuse : (why : NetlistFault) → RefusesModels text why → RefusesDesign probes text why
  models_refuse why (inl refused) = inl refused
  models_refuse why (inr (design, spelled, refused)) = inr (design, spelled, inl refused)

  pub of_models : {B : Type 0} → (Good : B → Type 0) (fault : NetlistFault) → Judges Good (RefusesModels text) (Err fault) → Judges OfText (RefusesDesign probes text) (Err fault)
  of_models Good fault is =
      wider_fault OfText (RefusesModels text) (RefusesDesign probes text) models_refuse fault (same_fault Good OfText (RefusesModels text) fault is)

  module _ (design : Design) (spelled : SpellsDesign text design) (accepted : IsAccepted design)
      (OfDesign : A → Type 0) (of_text : (made : A) → OfDesign made → OfText made) where
    -- what is made of the design is made of its text
    pub of_design : (result : Result A NetlistFault) → Judges OfDesign (RefusesNetlist probes design) result → Judges OfText (RefusesDesign probes text) result
    of_design (Ok made) is = of_text made is
    of_design (Err fault) is =
        wider_fault OfText (RefusesNetlist probes design) (RefusesDesign probes text) (λ why refused. inr (design, spelled, inr (accepted, refused))) fault
        (same_fault OfDesign OfText (RefusesNetlist probes design) fault is)
