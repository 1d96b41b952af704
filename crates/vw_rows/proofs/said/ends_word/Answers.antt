-- A word that a blank ends.
use Rattle.std.proofs.Common.{◌≡◌, ◌++◌, ℕ, Bool, List, length, refl, sym, ap, subst, ◌∙◌}
use Rattle.std.specs.Prelude.{codes}
use Rattle.vw_text.specs.WordLines.{words_of}
use Rattle.vw_rows.specs.declared.said.Said.{Said}
use Rattle.vw_rows.specs.Steps.Saying.{IsSaid, SpellsRow, counted_to_limit}
use Rattle.vw_rows.proofs.SaidWords.{is_row, some_bits, some_digits, is_times, word_done, word_done_behind, letters_end}
use Rattle.vw_rows.proofs.said.ends_word.Goals as goal

pub returns-in-Bits : goal.returns-in-Bits
returns-in-Bits c done part row was solid =
    let said = subst (λ (s : Said). IsSaid s done part row) c.in-Bits.is was in
    (part, word_done done part said.0 solid (some_bits part said.1), refl, is_row part row said.1 said.2, said.3)

pub returns-in-Dash : goal.returns-in-Dash
returns-in-Dash c done part row was solid =
    let said = subst (λ (s : Said). IsSaid s done part row) c.in-Dash.is was in
    let row_is : SpellsRow (codes "-") row = subst (λ (r : List Bool). SpellsRow (codes "-") r) (sym said.2) (record { spells = refl; other = refl }) in
    let none : 0 ≡ counted_to_limit (length row) = ap (λ (r : List Bool). counted_to_limit (length r)) (sym said.2) in
    (codes "-", ap (λ (d : List (List ℕ)). d ++ words_of part) said.0 ∙ ap words_of said.1, refl, row_is, none)

pub returns-else-count-eq4 : goal.returns-else-count-eq4
returns-else-count-eq4 c done part row was solid =
    let said = subst (λ (s : Said). IsSaid s done part row) c.in-Letters.is was in
    letters_end done part c.in-Letters.count said.0 said.1 said.2 said.3 c.if-count-eq4.false solid

pub returns-in-Number : goal.returns-in-Number
returns-in-Number c done part row was solid =
    let said = subst (λ (s : Said). IsSaid s done part row) c.in-Number.is was in
    (part, word_done_behind done (codes "hold") part said.0 solid (some_digits part said.1), refl, is_times part c.in-Number.times said.1 said.2 said.3, said.3, said.4)
