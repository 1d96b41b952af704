-- The parts of a wave: its clocks in two parts, and the pieces that its head is written of.
use Rattle.std.proofs.Common.{◌≡◌, ◌<◌, ◌+◌, ◌++◌, ◌∙◌, ℕ, suc, Bool, List, [], ◌∷◌, Option, Some, length, drop, get_or, ap, sym, append_assoc, arith}
use Rattle.std.specs.Prelude.{codes}
use Rattle.std.proofs.lemmas.List.{drop_more}
use Rattle.vw_text.specs.Physical.{lines_text}
use Rattle.vw_text.proofs.LineTexts.{lines_text-append}
use Rattle.vw_text.proofs.WrittenPieces.{joined, next_written}
use Rattle.vw_vcd.specs.Changes.{last_row}
use Rattle.vw_vcd.specs.Lines.{lines_of_clock, lines_of_clocks, var_line, var_lines}

-- ---- clocks

-- some clocks, and then others behind them
pub clocks_append : (clock : ℕ) (before : Option (List Bool)) (rows more : List (List Bool))
    → lines_of_clocks clock before (rows ++ more) ≡ lines_of_clocks clock before rows ++ lines_of_clocks (clock + length rows) (last_row before rows) more
clocks_append clock before [] more = let none : clock ≡ clock + 0 = omega arith in ap (λ (first : ℕ). lines_of_clocks first before more) none
clocks_append clock before (bits ∷ rows) more =
    let here = lines_of_clock clock before bits in
    let rest = lines_of_clocks (clock + 1) (Some bits) rows in
    let next : clock + 1 + length rows ≡ clock + suc (length rows) = omega arith in
    ap (λ (lines : List (List ℕ)). here ++ lines) (clocks_append (clock + 1) (Some bits) rows more)
    ∙ ap (λ (first : ℕ). here ++ (rest ++ lines_of_clocks first (last_row (Some bits) rows) more)) next
    ∙ sym (append_assoc here rest (lines_of_clocks (clock + suc (length rows)) (last_row (Some bits) rows) more))

-- ---- the head

-- the pieces of the line of a signal
pub var_pieces : (start id name end : List ℕ) → joined start (id ∷ (32 ∷ []) ∷ name ∷ (end ++ 10 ∷ []) ∷ []) ≡ (start ++ (id ++ 32 ∷ (name ++ end))) ++ 10 ∷ []
var_pieces start id name end = simp append_assoc

-- the line of a signal is the first of those that are left
pub vars_more : (nets : List (List ℕ)) (number : ℕ) (default net text more all : List ℕ) → number < length nets → net ≡ get_or nets number default → more ≡ text ++ (var_line number net ++ 10 ∷ [])
    → text ++ lines_text (var_lines number (drop number nets)) ≡ all → more ++ lines_text (var_lines (number + 1) (drop (number + 1) nets)) ≡ all
vars_more nets number default net text more all within is written so_far =
    let rest = drop (number + 1) nets in
    next_written text more all (var_line number net ++ 10 ∷ []) (lines_text (var_lines (number + 1) rest)) (lines_text (var_lines number (drop number nets))) written
    (ap (λ (left : List (List ℕ)). lines_text (var_lines number left)) (drop_more nets number default within ∙ ap (λ (one : List ℕ). one ∷ rest) (sym is))) so_far

-- the pieces of the head
pub head_pieces : (vars : List (List ℕ)) → joined (codes "$timescale 1 s $end\n$scope module design $end\n") (lines_text vars ∷ codes "$upscope $end\n$enddefinitions $end\n" ∷ [])
    ≡ lines_text (codes "$timescale 1 s $end" ∷ codes "$scope module design $end" ∷ (vars ++ codes "$upscope $end" ∷ codes "$enddefinitions $end" ∷ []))
head_pieces vars =
    ap (λ (text : List ℕ). codes "$timescale 1 s $end\n$scope module design $end\n" ++ text) (sym (lines_text-append vars (codes "$upscope $end" ∷ codes "$enddefinitions $end" ∷ [])))
