-- A stimulus text that is accepted has no more rows than a run can have.
use Rattle.std.proofs.Common.{◌≡◌, ◌≤◌, ◌+◌, ℕ, Bool, true, false, List, [], ◌∷◌, length, length-append, replicate, Result, Ok, Err, refl, subst, arith}
use Rattle.std.proofs.lemmas.Bool.{ltb-false}
use Rattle.std.specs.Prelude.{nat_lt, if◌then◌else◌}
use Rattle.vw_rows.specs.declared.fault.StimFault.{StimFault}
use Rattle.vw_rows.specs.declared.fault.StimFault.TheVariants.{TooLarge, TooManyClocks}
use Rattle.vw_rows.specs.declared.limits.TheConstants.{MOST_CLOCKS, MOST_STIMULUS_BYTES}
use Rattle.vw_rows.specs.Stimulus.{line_words, rows_added, last_row, within_run, and_then, behind, rows_of_lines, stimulus_rows}
use Rattle.vw_text.specs.Physical.{text_lines}

-- such an answer has few rows behind so many others
abbrev IsFew : ℕ → Result (List (List Bool)) StimFault → Type 0
IsFew count (Ok rows) = count + length rows ≤ MOST_CLOCKS
IsFew count (Err fault) = Unit {0}

-- what was added before counts
few_behind : (count : ℕ) (added : List (List Bool)) (more : Result (List (List Bool)) StimFault) → IsFew (count + length added) more
    → IsFew count (behind added more)
few_behind count added (Ok rows) few = omega (arith, few, length-append added rows)
few_behind count added (Err fault) few = tt

-- what a line adds, and then the lines behind it
few_added : (count : ℕ) (rest : List (List Bool) → Result (List (List Bool)) StimFault)
    → ((added : List (List Bool)) → count + length added ≤ MOST_CLOCKS → IsFew (count + length added) (rest added))
    → (added : Result (List (List Bool)) StimFault) → IsFew count (and_then (within_run count added) (λ added. behind added (rest added)))
few_added count rest few (Err fault) = tt
few_added count rest few (Ok added) = within (nat_lt MOST_CLOCKS (count + length added)) refl where
  within : (over : Bool) → nat_lt MOST_CLOCKS (count + length added) ≡ over
      → IsFew count (and_then (if over then Err (TooManyClocks (count + length added)) else Ok added) (λ added. behind added (rest added)))
  within true is = tt
  within false is = few_behind count added (rest added) (few added (ltb-false MOST_CLOCKS (count + length added) is))

few_lines : (width number count : ℕ) (before : List Bool) (lines : List (List ℕ)) → count ≤ MOST_CLOCKS
    → IsFew count (rows_of_lines width number count before lines)
few_lines width number count before [] few = omega (arith, few)
few_lines width number count before (line ∷ lines) few = few_added count
    (λ added. rows_of_lines width (number + 1) (count + length added) (last_row before added) lines)
    (λ added within. few_lines width (number + 1) (count + length added) (last_row before added) lines within)
    (rows_added width number before (line_words line))

few_text : (width : ℕ) (text : List ℕ) → IsFew 0 (stimulus_rows width text)
few_text width text = by (nat_lt MOST_STIMULUS_BYTES (length text)) where
  by : (large : Bool) → IsFew 0 (if large then Err TooLarge else rows_of_lines width 1 0 (replicate width false) (text_lines text))
  by true = tt
  by false = few_lines width 1 0 (replicate width false) (text_lines text) (omega arith)

pub few_rows : (width : ℕ) (text : List ℕ) (rows : List (List Bool)) → stimulus_rows width text ≡ Ok rows → length rows ≤ MOST_CLOCKS
few_rows width text rows is =
    let few : 0 + length rows ≤ MOST_CLOCKS = subst (IsFew 0) is (few_text width text) in
    omega (arith, few)
