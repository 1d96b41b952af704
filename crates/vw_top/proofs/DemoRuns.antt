-- A run over the generated texts as the course of a demo.
use Rattle.std.proofs.Common.{◌≡◌, ◌≤◌, ◌∷◌, ℕ, zero, suc, List, [], Some, false, ◌∙◌, ap, ap₂, refl, subst, arith, if◌then◌else◌, None}
use Rattle.std.specs.Global.{Vec}
use Rattle.std.specs.Str.{bytes_eq}
use Rattle.std.proofs.Math.Path.{fun_ext}
use Rattle.vw_outside.specs.Reads.{SeenShelf, CountsFault}
use Rattle.vw_outside.specs.Writes.{SeenSink}
use Rattle.vw_outside.specs.Sure.{SureTexts, seen_sure, sure_text}
use Rattle.vw_course.specs.Outside.{Carried}
use Rattle.vw_course.specs.Course.{Course}
use Rattle.vw_course.specs.Follows.{Answer, Follows}
use Rattle.vw_course.specs.Goes.{IsFollowed, seen_outside}
use Rattle.vw_course.specs.OnTexts.{EndsSummed, on_texts}
use Rattle.vw_course.proofs.OnTexts.{summed_follows}
use Rattle.vw_gen.specs.Board.{board_text}
use Rattle.vw_gen.specs.Design.{design_text}
use Rattle.vw_gen.specs.Stimulus.{stimulus_text}
use Rattle.vw_prog.specs.declared.word.Word.{Word}
use Rattle.vw_gen.specs.Summary.{summary}
use Rattle.vw_courses.specs.Messages.{vocabulary}
use Rattle.vw_courses.specs.Demo.{board_name, design_name, generated, stimulus_name}
use Rattle.vw_courses.specs.MayPlan.{made_here}
use Rattle.vw_courses.specs.Commands.{demo_course, demo_run, run_course}

-- the names of the texts may be told otherwise
pub named : (workers : ℕ) (design board stimulus : List ℕ) (P : Course vocabulary → Type 0) → design ≡ design_name → board ≡ board_name → stimulus ≡ stimulus_name
    → P (run_course [] None design board made_here stimulus workers false) → P (demo_run workers)
named workers design board stimulus P design_is board_is stimulus_is is =
    subst (λ (s : List ℕ). P (run_course [] None design_name board_name made_here s workers false)) stimulus_is
    (subst (λ (b : List ℕ). P (run_course [] None design_name b made_here stimulus workers false)) board_is
    (subst (λ (d : List ℕ). P (run_course [] None d board made_here stimulus workers false)) design_is is))

-- no number of workers up to one uses links
pub one_worker : (workers : ℕ) → workers ≤ 1 → demo_run 1 ≡ demo_run workers
one_worker zero few = refl
one_worker (suc zero) few = refl
one_worker (suc (suc more)) few = absurd (omega (arith, few))

module _ (Moved : Carried Word → Carried Word → Type 0) (cells workers : ℕ) (files files_after : SureTexts)
    (texts_are : (name : List ℕ) → sure_text files name ≡ generated cells name)
    (sure : (name : List ℕ) (before after : SureTexts) → CountsFault name (seen_sure before) (seen_sure after) → ⊥)
    (out inner_out : SeenSink) (out_is : out.told ≡ Some []) (trace : List ℕ) (trace_is : inner_out.told ≡ Some trace) (ran answer : Answer vocabulary) where
  pub demo_followed : IsFollowed vocabulary Moved (demo_run workers) (seen_sure files) out (seen_sure files_after) inner_out ran
      → (shelf : SeenShelf) (real real_after : SeenSink) → EndsSummed vocabulary (summary cells trace) real real_after ran answer
      → IsFollowed vocabulary Moved (demo_course cells workers) shelf real shelf real_after answer
  demo_followed followed shelf real real_after ends = record {
    follows = λ links links_after moved.
        subst (λ (texts : List ℕ → List ℕ). Follows (on_texts texts (summary cells) (demo_run workers)) (seen_outside shelf real links) (seen_outside shelf real_after links_after) answer) (fun_ext texts_are)
        (summed_follows vocabulary (sure_text files) (summary cells) (λ name. 0) out links (seen_outside (seen_sure files_after) inner_out links_after)
        (λ name. sure name files files_after) trace out_is trace_is shelf real real_after (demo_run workers) ran answer (followed.follows links links_after moved) ends);
  }

-- three texts under the names of a demo
module _ (cells : ℕ) (design board stimulus : Vec ℕ) (design_is : design.items ≡ design_text cells) (board_is : board.items ≡ board_text cells)
    (stimulus_is : stimulus.items ≡ stimulus_text cells) where
  by_name : (name : List ℕ) → sure_text ((design_name, design) ∷ ((board_name, board) ∷ ((stimulus_name, stimulus) ∷ []))) name ≡ generated cells name
  by_name name =
      ap₂ (λ (here rest : List ℕ). if bytes_eq design_name name then here else rest) design_is
      (ap₂ (λ (here rest : List ℕ). if bytes_eq board_name name then here else rest) board_is
      (ap (λ (here : List ℕ). if bytes_eq stimulus_name name then here else []) stimulus_is))

  pub texts_are : (d b s name : List ℕ) → d ≡ design_name → b ≡ board_name → s ≡ stimulus_name
      → sure_text ((d, design) ∷ ((b, board) ∷ ((s, stimulus) ∷ []))) name ≡ generated cells name
  texts_are d b s name d_is b_is s_is =
      ap (λ (at : List ℕ). sure_text ((at, design) ∷ ((b, board) ∷ ((s, stimulus) ∷ []))) name) d_is
      ∙ ap (λ (at : List ℕ). sure_text ((design_name, design) ∷ ((at, board) ∷ ((s, stimulus) ∷ []))) name) b_is
      ∙ ap (λ (at : List ℕ). sure_text ((design_name, design) ∷ ((board_name, board) ∷ ((at, stimulus) ∷ []))) name) s_is
      ∙ by_name name
