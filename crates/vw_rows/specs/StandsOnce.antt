-- That a stimulus stands in a text has one proof at most, so that a struct may carry it.
use Rattle.std.specs.Prelude.{◌≡◌, ◌≤◌, ◌+◌, ℕ, Bool, List, ◌++◌, length, drop, replicate, false, Result, Ok}
use Rattle.std.specs.Coded.{Coded-set}
use Rattle.std.proofs.Props.{props}
use Rattle.std.proofs.Common.{sym, ◌∙◌}
use Rattle.std.proofs.lemmas.List.{append_cancel_right}
use Rattle.std.proofs.Math.Path.{fun_ext}
use mathlib.Core.HLevel.{is_prop→PathP}
use Rattle.vw_outside.specs.Told.{Told, held}
use Rattle.vw_text.specs.Physical.{text_lines}
use Rattle.vw_rows.specs.declared.fault.StimFault.{StimFault}
use Rattle.vw_rows.specs.contracts.fault.StimFault as fault
use Rattle.vw_rows.specs.declared.stimulus.Stimulus.{Stimulus}
use Rattle.vw_rows.specs.Stimulus.{behind, rows_of_lines, stimulus_rows}
use Rattle.vw_rows.specs.Standing.{StandsIn, StandsWhereHeld}

StimFault-set : IsSet StimFault
StimFault-set = Coded-set fault.the_row.coded

ruleset facts = (props, StimFault-set)

abbrev Rows : Type 0
Rows = Result (List (List Bool)) StimFault

Ok-injective : (one other : List (List Bool)) → (answer : Rows) → answer ≡ Ok one → answer ≡ Ok other → one ≡ other
Ok-injective one other answer first second = cc

-- that a stimulus stands in a text
pub StandsIn-prop : (stimulus : Stimulus) (text : List ℕ) → IsProp (StandsIn stimulus text)
StandsIn-prop stimulus text = λ one other.
    let rows : one.rows ≡ other.rows = Ok-injective one.rows other.rows (stimulus_rows stimulus.width text) one.accepted other.accepted in
    let lines : one.lines ≡ other.lines = append_cancel_right one.lines other.lines (text_lines (drop stimulus.at text)) (sym one.place ∙ other.place) in
    let inside_once : IsProp (stimulus.at ≤ length text) = Prim.hlevel facts in
    let first_once : IsProp (stimulus.done ≡ 0 → stimulus.before ≡ replicate stimulus.width false) = Prim.hlevel facts in
    λ i. record {
      rows = rows i;
      accepted = is_prop→PathP (λ j. stimulus_rows stimulus.width text ≡ Ok (rows j)) (λ j. Prim.hlevel facts) one.accepted other.accepted i;
      clocks = is_prop→PathP (λ j. length (rows j) ≡ stimulus.clocks) (λ j. Prim.hlevel facts) one.clocks other.clocks i;
      lines = lines i;
      place = is_prop→PathP (λ j. text_lines text ≡ lines j ++ text_lines (drop stimulus.at text)) (λ j. Prim.hlevel facts) one.place other.place i;
      inside = inside_once one.inside other.inside i;
      number = is_prop→PathP (λ j. stimulus.line ≡ length (lines j) + 1) (λ j. Prim.hlevel facts) one.number other.number i;
      left = is_prop→PathP (λ j. behind (replicate stimulus.owed stimulus.before) (rows_of_lines stimulus.width stimulus.line (stimulus.done + stimulus.owed) stimulus.before (text_lines (drop stimulus.at text))) ≡ Ok (drop stimulus.done (rows j))) (λ j. Prim.hlevel facts) one.left other.left i;
      first = first_once one.first other.first i;
    }

-- that it stands in the text that is told, where one is
pub StandsWhereHeld-prop : (stimulus : Stimulus) (told : Told) → IsProp (StandsWhereHeld stimulus told)
StandsWhereHeld-prop stimulus told = λ one other. fun_ext (λ (text : List ℕ). fun_ext (λ (is : told ≡ held text). StandsIn-prop stimulus text (one text is) (other text is)))
