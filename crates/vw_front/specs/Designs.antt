-- The design of a text with the nets that probes find, and why a text has none that runs.
use Rattle.std.specs.Prelude.{◌≡◌, ◌==◌, ◌⊎◌, ℕ, List, map, slice_get, Some, IsTrue, Result, Ok, Err}
use Rattle.std.proofs.Common.{refl, sym, subst, inl, inr}
use Rattle.std.specs.List.{AllZip, IsDistinct}
use Rattle.vw_net.specs.declared.ordered.Ordered.{Ordered}
use Rattle.vw_design.specs.declared.design.Design.{Design}
use Rattle.vw_design.specs.Paths.{Word, Net}
use Rattle.vw_design.specs.Preorder.{Site, cells}
use Rattle.vw_design.specs.Accepted.{IsAccepted}
use Rattle.vw_design.specs.Flattened.{IsFlatOf}
use Rattle.vw_design.specs.Loops.{gate_at, IsLoop, IsLoopFree}
use Rattle.vw_design.specs.Probes.{FindAll, IsFirstWithoutNet}
use Rattle.vw_order.specs.Circles.{BeginsWithLeast}
use Rattle.vw_blif.specs.declared.fault.TextFault.{TextFault}
use Rattle.vw_blif.specs.Spelled.{SpelledModel, spelled_model}
use Rattle.vw_blif.specs.Read.{design_of}
use Rattle.vw_blif.proofs.SpelledOnce.{spelled_once}
use Rattle.vw_elab.specs.declared.fault.DesignFault.{DesignFault}
use Rattle.vw_elab.specs.Refusals.{IsRefusal, is_design_fault}
use Rattle.vw_elab.proofs.RefusedDesigns.{accepted_unrefused}
use Rattle.vw_flat.specs.Printed.{printed_site}
use Rattle.vw_flat.proofs.FirstProbes.{found_apart}
use Rattle.vw_front.specs.declared.fault.NetlistFault.{NetlistFault}
use Rattle.vw_front.specs.declared.fault.NetlistFault.TheVariants as faults

-- the text spells the design, and no other one
abbrev pub SpellsDesign : List ℕ → Design → Type 0
SpellsDesign text design = design_of text ≡ Ok (map spelled_model design.models)

-- the design of a text that runs: it has no fault, and its gates don't read each other in a circle
pub record IsDesignOf (text : List ℕ) (design : Design) : Type 0 where
  pub spelled : SpellsDesign text design
  pub accepted : IsAccepted design
  pub loop_free : IsLoopFree design

-- a design, and nets of it that are watched
pub record WatchedDesign : Type 0 where
  pub design : Design
  pub nets : List Net

-- the design of a text that runs, with the net that each probe finds
pub record IsWatchedDesignOf (probes : List Word) (text : List ℕ) (watched : WatchedDesign) : Type 0 where
  pub design_of : IsDesignOf text watched.design
  pub found : FindAll watched.design probes watched.nets

-- a text has such a design
abbrev pub Runs : List Word → List ℕ → Type 0
Runs probes text = (watched : WatchedDesign) × IsWatchedDesignOf probes text watched

-- a netlist of that design, with an order of its gates
pub record IsNetlistOf (probes : List Word) (text : List ℕ) (ordered : Ordered) : Type 0 where
  pub watched : WatchedDesign
  pub is : IsWatchedDesignOf probes text watched
  pub flat : IsFlatOf watched.design watched.nets ordered.flat

-- gates of a design that read each other in a circle, each the next one and the last one the first, with their numbers
-- among the cells: none stands twice, and the least number stands first. They are named by the nets that they drive
pub record IsLoopOf (design : Design) (names : List Word) : Type 0 where
  pub numbers : List ℕ
  pub gates : List Site
  pub are : AllZip (λ number gate. slice_get (cells design) number ≡ Some gate) numbers gates
  pub loop : IsLoop design (map gate_at gates)
  pub once : IsDistinct ◌==◌ numbers
  pub least : BeginsWithLeast numbers
  pub named : names ≡ map printed_site gates

-- the text has this fault
abbrev pub RefusesText : List ℕ → NetlistFault → Type 0
RefusesText text why = (fault : TextFault) × (why ≡ faults.Text fault) × (design_of text ≡ Err fault)

-- the design has this fault
abbrev pub RefusesElaboration : Design → NetlistFault → Type 0
RefusesElaboration design why =
    (fault : DesignFault) × (why ≡ faults.Design fault) × IsTrue (is_design_fault fault) × IsRefusal design fault

-- the text has a fault, or it spells a design that has one
abbrev pub RefusesModels : List ℕ → NetlistFault → Type 0
RefusesModels text why =
    RefusesText text why ⊎ ((design : Design) × SpellsDesign text design × RefusesElaboration design why)

-- a probe finds no net in the design, and it is the first such one
abbrev pub RefusesProbe : List Word → Design → NetlistFault → Type 0
RefusesProbe probes design why = (probe : Word) × (why ≡ faults.NoNet probe) × IsFirstWithoutNet design probes probe

-- the design has this loop
abbrev pub RefusesLoop : Design → NetlistFault → Type 0
RefusesLoop design why = (names : List Word) × (why ≡ faults.Loop names) × IsLoopOf design names

-- a probe finds no net in the design, or all do and it has a loop
abbrev pub RefusesNetlist : List Word → Design → NetlistFault → Type 0
RefusesNetlist probes design why =
    RefusesProbe probes design why ⊎ ((nets : List Net) × FindAll design probes nets × RefusesLoop design why)

-- the text has a fault, or it spells a design that has a fault, or an accepted one in which a probe finds no net, or in which
-- all do and that has a loop
abbrev pub RefusesDesign : List Word → List ℕ → NetlistFault → Type 0
RefusesDesign probes text why =
    RefusesText text why
    ⊎ ((design : Design) × SpellsDesign text design
    × (RefusesElaboration design why ⊎ (IsAccepted design × RefusesNetlist probes design why)))

-- there is such a fault
abbrev pub IsNoDesign : List Word → List ℕ → Type 0
IsNoDesign probes text = (why : NetlistFault) × RefusesDesign probes text why

-- ---- one text has one design, and a text with a design that runs is not refused

abbrev pub SpellsModels : List SpelledModel → Result (List SpelledModel) TextFault → Type 0
SpellsModels models (Ok others) = models ≡ others
SpellsModels models (Err fault) = ⊥

abbrev pub models_said : (text : List ℕ) (design : Design) → SpellsDesign text design → SpellsModels (map spelled_model design.models) (design_of text)
models_said text design is = subst (SpellsModels (map spelled_model design.models)) (sym is) refl

abbrev pub spells_once : (text : List ℕ) (one other : Design) → SpellsDesign text one → SpellsDesign text other → one ≡ other
spells_once text one other is its = spelled_once one other (subst (SpellsModels (map spelled_model one.models)) its (models_said text one is))

abbrev pub netlist_unrefused : (probes : List Word) (text : List ℕ) (watched : WatchedDesign) (why : NetlistFault) → IsWatchedDesignOf probes text watched
    → RefusesNetlist probes watched.design why → ⊥
netlist_unrefused probes text watched why is (inl refused) = found_apart watched.design probes watched.nets refused.0 is.found refused.2
netlist_unrefused probes text watched why is (inr (nets, found, refused)) =
    is.design_of.loop_free (map gate_at refused.2.gates) refused.2.loop

abbrev pub design_apart : (probes : List Word) (text : List ℕ) (watched : WatchedDesign) (why : NetlistFault) → IsWatchedDesignOf probes text watched
    → RefusesDesign probes text why → ⊥
design_apart probes text watched why is (inl refused) =
    subst (SpellsModels (map spelled_model watched.design.models)) refused.2 (models_said text watched.design is.design_of.spelled)
design_apart probes text watched why is (inr (other, spelled, inl refused)) =
    let same = spells_once text other watched.design spelled is.design_of.spelled in
    accepted_unrefused watched.design is.design_of.accepted refused.0 refused.2 (subst (λ (d : Design). IsRefusal d refused.0) same refused.3)
design_apart probes text watched why is (inr (other, spelled, inr (accepted, refused))) =
    let same = spells_once text other watched.design spelled is.design_of.spelled in
    netlist_unrefused probes text watched why is (subst (λ (d : Design). RefusesNetlist probes d why) same refused)

abbrev pub netlist_apart : (probes : List Word) (text : List ℕ) (ordered : Ordered) (why : NetlistFault) → IsNetlistOf probes text ordered
    → RefusesDesign probes text why → ⊥
netlist_apart probes text ordered why is refused = design_apart probes text is.watched why is.is refused

-- ---- answers

-- such a thing was made, or there is a fault, or memory ran out
abbrev pub Judges : {A : Type 0} → (A → Type 0) → (NetlistFault → Type 0) → Result A NetlistFault → Type 0
Judges Good Bad (Ok x) = Good x
Judges Good Bad (Err (faults.Text fault)) = Bad (faults.Text fault)
Judges Good Bad (Err (faults.Design fault)) = Bad (faults.Design fault)
Judges Good Bad (Err (faults.NoNet probe)) = Bad (faults.NoNet probe)
Judges Good Bad (Err (faults.Loop names)) = Bad (faults.Loop names)
Judges Good Bad (Err faults.NoMemory) = Unit {0}
