-- What each status says of a command that reads a design and a stimulus, and writes a text of both: of a run, or of a grading.
use Rattle.std.specs.Prelude.{◌≡◌, ℕ, Bool, List, Option, [], ◌∷◌}
use Rattle.vw_design.specs.Paths.{Word}
use Rattle.vw_course.specs.Places.{Files}
use Rattle.vw_course.specs.Statuses.{IsAbsent, IsUnworked, HasStatus, FileStatuses}
use Rattle.vw_front.specs.declared.named.NamedNetlist.{NamedNetlist}
use Rattle.vw_front.specs.Designs.{WatchedDesign, IsWatchedDesignOf, IsNoDesign}
use Rattle.vw_front.specs.NamedNetlists.{IsNamedNetlistOf}
use Rattle.vw_courses.specs.declared.vocabulary.File.TheVariants as files
use Rattle.vw_courses.specs.Messages.{vocabulary, Call}
use Rattle.vw_courses.specs.Kinds.{IsBadDesign}
use Rattle.vw_courses.specs.Commands.{TextOver, Scripts, no_links, grading_of}
use Rattle.vw_statuses.specs.TracedStatuses.{design_subject, design_width, HoldTexts, TracedStatuses}

-- no link is used
abbrev pub UsesNone : Scripts → Type 0
UsesNone scripts = scripts ≡ no_links

-- of what the text of a design gives, where each probe finds a net
module _ (probes : List Word) {Thing : Type 0} (Spells : List ℕ → Thing → Type 0) (width : Thing → ℕ) (text : TextOver Thing) (design stimulus : List ℕ) where
  -- its files
  abbrev pub its_design : Files vocabulary
  its_design = (files.Design, design) ∷ []

  abbrev pub its_files : Files vocabulary
  its_files = (files.Design, design) ∷ (files.Stimulus, stimulus) ∷ []

  pub record OverDesignStatuses (call : Call) : Type 0 where
    -- 1: exactly where the design text has a fault, or its design has one, or a probe finds no net, or there is a loop
    pub of_design : FileStatuses vocabulary its_design design [] 1 (IsBadDesign probes) (IsNoDesign probes) (λ its. Unit {0}) call
    -- 0, 5, 7, 8 and 9, and that it completes; nothing comes between the design and the stimulus, and no link is used
    pub traced : TracedStatuses (design_subject Spells width design) text stimulus its_files (HoldTexts (design_subject Spells width design) text stimulus) UsesNone call
    -- no other status comes
    pub comes : HasStatus (1 ∷ 5 ∷ []) call
    -- a stimulus that is told to be absent is a read fault, unless memory runs out, or the design is refused before
    pub absent_stimulus : IsAbsent call stimulus → IsUnworked (1 ∷ []) call

-- a text of the run of a design, with the nets that probes find
abbrev pub SimStatuses : List Word → TextOver WatchedDesign → List ℕ → List ℕ → Call → Type 0
SimStatuses probes text design stimulus = OverDesignStatuses probes (IsWatchedDesignOf probes) design_width text design stimulus

-- the grading of the netlist of a design
abbrev pub netlist_width : NamedNetlist → ℕ
netlist_width named = named.ordered.flat.inputs

abbrev pub GradeStatuses : Option (ℕ × ℕ) → Bool → List ℕ → List ℕ → Call → Type 0
GradeStatuses share unknown design stimulus = OverDesignStatuses [] (IsNamedNetlistOf []) netlist_width (grading_of share unknown) design stimulus
