-- Texts that were checked.
use Rattle.std.proofs.Common.{◌≡◌, ◌<◌, ◌≤◌, ℕ, Bool, false, List, [], length, replicate, Result, Ok, Err, refl, ◌∙◌, arith}
use Rattle.std.proofs.lemmas.Bool.{cond-true, cond-false, lt-ltb, le-ltb}
use Rattle.std.proofs.lemmas.List.{length-replicate}
use Rattle.vw_outside.specs.Told.{Told, absent, held, OfText}
use Rattle.vw_outside.proofs.TextsTold.{OfText-from_cases}
use Rattle.vw_rows.specs.declared.fault.StimFault.{StimFault}
use Rattle.vw_rows.specs.declared.fault.StimFault.TheVariants.{TooLarge}
use Rattle.vw_rows.specs.declared.stimulus.Stimulus.{Stimulus}
use Rattle.vw_rows.specs.Stimulus.{behind, stimulus_rows}
use Rattle.vw_rows.specs.Steps.Counting.{rows_in, HasRows, HasFault}
use Rattle.vw_rows.specs.Standing.{StandsIn}

too_large : (width : ℕ) (text : List ℕ) → 1073741824 < length text → stimulus_rows width text ≡ Err TooLarge
too_large width text large = cond-true _ _ _ (lt-ltb 1073741824 (length text) large)

not_large : (width : ℕ) (text : List ℕ) → length text ≤ 1073741824 → stimulus_rows width text ≡ rows_in width text
not_large width text short = cond-false _ _ _ (le-ltb 1073741824 (length text) short)

-- a text of some length
long_text : (n : ℕ) → (text : List ℕ) × (length text ≡ n)
long_text n = (replicate n 0, length-replicate n 0)

pub text_too_large : (told : Told) (width : ℕ) → (told ≡ absent → ⊥) → ((bytes : List ℕ) → told ≡ held bytes → 1073741824 < length bytes)
    → OfText told (λ text. stimulus_rows width text ≡ Err TooLarge)
text_too_large told width there large =
    let text = long_text 1073741825 in
    OfText-from_cases told (λ text. stimulus_rows width text ≡ Err TooLarge) text.0 (too_large width text.0 (omega (text.1, arith))) there (λ bytes is. too_large width bytes (large bytes is))

of_text_further : (told : Told) (P Q : List ℕ → Type 0) → ((text : List ℕ) → P text → Q text) → OfText told P → OfText told Q
of_text_further told P Q further found = (found.0, found.1, further found.0 found.2)

pub fault_checked : (told : Told) (width : ℕ) (fault : StimFault) → OfText told (λ text. HasFault width text fault)
    → OfText told (λ text. stimulus_rows width text ≡ Err fault)
fault_checked told width fault found = of_text_further told (λ text. HasFault width text fault) (λ text. stimulus_rows width text ≡ Err fault) (λ text has. not_large width text has.short ∙ has.is) found

behind_none : (said : Result (List (List Bool)) StimFault) → behind [] said ≡ said
behind_none (Ok rows) = refl
behind_none (Err fault) = refl

-- a stimulus of which nothing was given
stands_at_start : (text : List ℕ) (stimulus : Stimulus) (clocks : ℕ) → HasRows stimulus.width text clocks → clocks ≡ stimulus.clocks
    → stimulus.done ≡ 0 → stimulus.at ≡ 0 → stimulus.line ≡ 1 → stimulus.owed ≡ 0 → stimulus.before ≡ replicate stimulus.width false
    → StandsIn stimulus text
stands_at_start text stimulus clocks has same done at line owed before = record {
  rows = has.rows;
  accepted = not_large stimulus.width text has.short ∙ has.are;
  clocks = has.count ∙ same;
  lines = [];
  place = rw at refl;
  inside = omega (at, arith);
  number = line;
  left = rw (owed, done, at, line, before) (behind_none (rows_in stimulus.width text) ∙ has.are);
  first = λ _. before;
}

pub rows_checked : (told : Told) (stimulus : Stimulus) (clocks : ℕ) → OfText told (λ text. HasRows stimulus.width text clocks)
    → clocks ≡ stimulus.clocks → stimulus.done ≡ 0 → stimulus.at ≡ 0 → stimulus.line ≡ 1 → stimulus.owed ≡ 0
    → stimulus.before ≡ replicate stimulus.width false
    → OfText told (StandsIn stimulus)
rows_checked told stimulus clocks found same done at line owed before =
    of_text_further told (λ text. HasRows stimulus.width text clocks) (StandsIn stimulus) (λ text has. stands_at_start text stimulus clocks has same done at line owed before) found
