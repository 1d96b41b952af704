-- What each status of `nets` says of its design.
use Rattle.std.specs.Prelude.{◌≡◌, ℕ, List, [], ◌∷◌}
use Rattle.vw_design.specs.Paths.{Word}
use Rattle.vw_course.specs.Course.{writing}
use Rattle.vw_course.specs.Places.{Files}
use Rattle.vw_course.specs.Statuses.{NoWork, Holds, HasStatus, LeavesPart, FileStatuses, EndStatuses}
use Rattle.vw_front.specs.declared.named.NamedNetlist.{NamedNetlist}
use Rattle.vw_front.specs.Designs.{IsNoDesign}
use Rattle.vw_front.specs.NamedNetlists.{IsNamedNetlistOf}
use Rattle.vw_courses.specs.declared.vocabulary.File.TheVariants as files
use Rattle.vw_courses.specs.Messages.{vocabulary, Call, CallWork}
use Rattle.vw_courses.specs.Kinds.{IsBadDesign}
use Rattle.vw_courses.specs.Commands.{nets_text}

module _ (probes : List Word) (design : List ℕ) where
  -- its file
  abbrev pub its_design : Files vocabulary
  its_design = (files.Design, design) ∷ []

  -- the text of this netlist was written
  abbrev pub IsTextOf : NamedNetlist → CallWork → Type 0
  IsTextOf named did = did ≡ writing (nets_text probes named)

  -- that of a netlist of the design of this text was
  abbrev pub IsListed : List ℕ → CallWork → Type 0
  IsListed d did = (named : NamedNetlist) × IsNamedNetlistOf probes d named × IsTextOf named did

  -- the design is held, and a netlist is one of it
  abbrev pub HoldsNetlist : Call → List ℕ × NamedNetlist → Type 0
  HoldsNetlist call its = Holds call design its.0 × IsNamedNetlistOf probes its.0 its.1

  pub record NetsStatuses (call : Call) : Type 0 where
    -- 1: exactly where the design text has a fault, or its design has one, or a probe finds no net, or there is a loop
    pub of_design : FileStatuses vocabulary its_design design [] 1 (IsBadDesign probes) (IsNoDesign probes) (λ its. Unit {0}) call
    -- 0, 7, 8 and 9, and that it completes: the text of the netlist is written, and before that a read may fail alone
    pub ends : EndStatuses vocabulary its_design (λ its d. Holds its design d) IsListed NoWork HoldsNetlist (λ its. IsTextOf its.1) call
    -- what is written of a design that runs is one text, whichever order of the gates the netlist has; out has a part of it,
    -- whatever the status
    pub part : (its : List ℕ × NamedNetlist) → HoldsNetlist call its → LeavesPart (nets_text probes its.1) call.before.out call.after.out
    -- no other status comes
    pub comes : HasStatus (1 ∷ []) call
