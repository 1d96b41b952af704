-- Texts of netlists as those of their designs.
use Rattle.std.proofs.Common.{◌≡◌, ◌∙◌, ℕ, Bool, List, Option, Some, None, length, sym, ap, subst}
use Rattle.std.proofs.Math.Path.{fun_ext}
use Rattle.vw_net.specs.declared.ordered.Ordered.{Ordered}
use Rattle.vw_design.specs.Flattened.{IsFlatOf}
use Rattle.vw_design.specs.PathHistory.{path_start}
use Rattle.vw_design.specs.Paths.{Word as ProbeWord}
use Rattle.vw_front.specs.Designs.{WatchedDesign}
use Rattle.vw_course.specs.Course.{Course}
use Rattle.vw_courses.specs.Messages.{vocabulary}
use Rattle.vw_resume.specs.Saved.{kept_texts}
use Rattle.vw_courses.specs.Commands.{watched_words, ends_by, counted_in, trace_of, trace_of_until, netlist_trace, netlist_trace_until, over_counted, netlist_counted, saved_of, netlist_state, texts_kept, TextOver, Scripts, rows_course, design_course, netlist_course}
use Rattle.vw_courses.proofs.FlatTraces.{trace_same, trace_until_same, saved_same, counted_same_from_start, words_counted}

-- a text of netlists is that of the designs of which they are
abbrev pub IsTextOfDesigns : List ProbeWord → TextOver WatchedDesign → TextOver Ordered → Type 0
IsTextOfDesigns probes text flat_text = (watched : WatchedDesign) (ordered : Ordered) → IsFlatOf watched.design watched.nets ordered.flat → length probes ≡ length watched.nets
    → (rows : List (List Bool)) → flat_text ordered rows ≡ text watched rows

-- so are traces
pub traces_agree : (probes : List ProbeWord) (unknown : Bool) → IsTextOfDesigns probes (trace_of unknown) (netlist_trace (length probes) unknown)
traces_agree probes unknown watched ordered is counted rows = trace_same unknown (length probes) watched ordered.flat is counted rows

-- and those that a trigger ends
pub traces_until_agree : (until : Option ProbeWord) (probes : List ProbeWord) (unknown : Bool)
    → IsTextOfDesigns (watched_words until probes) (trace_of_until (ends_by until) unknown) (netlist_trace_until (ends_by until) (length probes) unknown)
traces_until_agree until probes unknown watched ordered is counted rows =
    trace_until_same (ends_by until) unknown (length probes) watched ordered.flat is (words_counted until probes ∙ counted) rows

-- and so are saved states
pub saved_agree : (probes : List ProbeWord) (unknown : Bool) → IsTextOfDesigns probes (saved_of unknown) (netlist_state unknown)
saved_agree probes unknown watched ordered is counted rows = saved_same unknown watched ordered is rows

-- with those on the way, too
kept_agree : (every : Option ℕ) (probes : List ProbeWord) (text : TextOver WatchedDesign) (flat_text : TextOver Ordered) → IsTextOfDesigns probes text flat_text
    → IsTextOfDesigns probes (texts_kept every text) (texts_kept every flat_text)
kept_agree None probes text flat_text agree = agree
kept_agree (Some every) probes text flat_text agree = λ watched ordered is counted rows.
    ap (λ (its : List (List Bool) → List ℕ). kept_texts every its rows) (fun_ext (agree watched ordered is counted))

pub saves_agree : (every : Option ℕ) (probes : List ProbeWord) (unknown : Bool)
    → IsTextOfDesigns probes (texts_kept every (saved_of unknown)) (texts_kept every (netlist_state unknown))
saves_agree every probes unknown = kept_agree every probes (saved_of unknown) (netlist_state unknown) (saved_agree probes unknown)

-- and of the rows that count
counted_agree : (until unknown : Bool) (probes : List ProbeWord) (text : TextOver WatchedDesign) (flat_text : TextOver Ordered) → IsTextOfDesigns probes text flat_text
    → IsTextOfDesigns probes (over_counted until unknown text) (netlist_counted until unknown flat_text)
counted_agree until unknown probes text flat_text agree watched ordered is counted rows =
    ap (flat_text ordered) (counted_same_from_start watched ordered.flat is until unknown rows)
    ∙ agree watched ordered is counted (counted_in until watched (path_start unknown watched.design) rows)

pub saves_until_agree : (until : Bool) (every : Option ℕ) (probes : List ProbeWord) (unknown : Bool)
    → IsTextOfDesigns probes (over_counted until unknown (texts_kept every (saved_of unknown))) (netlist_counted until unknown (texts_kept every (netlist_state unknown)))
saves_until_agree until every probes unknown =
    counted_agree until unknown probes (texts_kept every (saved_of unknown)) (texts_kept every (netlist_state unknown)) (saves_agree every probes unknown)

module _ (F : Course vocabulary → Type 0) (stimulus : List ℕ) (text : TextOver WatchedDesign) (flat_text : TextOver Ordered) (scripts : Scripts) (watched : WatchedDesign) (ordered : Ordered) (is : IsFlatOf watched.design watched.nets ordered.flat)
    (same : (rows : List (List Bool)) → flat_text ordered rows ≡ text watched rows) where
  texts_same : flat_text ordered ≡ text watched
  texts_same = fun_ext same

  -- the course of a netlist is that of its design
  pub of_design : F (netlist_course stimulus flat_text scripts ordered) → F (design_course stimulus text scripts watched)
  of_design of =
      subst (λ (width : ℕ). F (rows_course stimulus width (text watched) scripts)) is.inputs
      (subst (λ (its : List (List Bool) → List ℕ). F (rows_course stimulus ordered.flat.inputs its scripts)) texts_same of)

  pub of_netlist : F (design_course stimulus text scripts watched) → F (netlist_course stimulus flat_text scripts ordered)
  of_netlist of =
      subst (λ (its : List (List Bool) → List ℕ). F (rows_course stimulus ordered.flat.inputs its scripts)) (sym texts_same)
      (subst (λ (width : ℕ). F (rows_course stimulus width (text watched) scripts)) (sym is.inputs) of)
