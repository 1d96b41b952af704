-- Texts of chips alone.
use Rattle.std.proofs.Common.{◌≡◌, ◌==◌, ◌||◌, ◌<◌, ◌≤◌, ◌^◌, ◌++◌, ◌∙◌, ℕ, Bool, true, false, List, [], ◌∷◌, length, Vec, Global, Result, Ok, Err, Option, Some, None, ap, refl, sym, subst, true≢false, All, arith}
use Rattle.std.specs.List.{list_any}
use Rattle.std.proofs.lemmas.List.Folds.{list_any-append}
use Rattle.std.specs.Prelude.{codes, MatchOption, unwrap_or, IfOk}
use Rattle.vw_plantext.specs.ChipsText.{AreInRange, BeginsWithChips}
use Rattle.vw_plantext.specs.Grammar.{chips_line}
use Rattle.vw_plantext.specs.Steps.ChipsLines.{IsLineOf, IsNoLine}
use Rattle.vw_plantext.specs.Steps.Cuts.{IsOneLine, IsLineCut}
use Rattle.vw_plantext.specs.Steps.Starts.{AreChips, AreNoChips, IsChipsLine, IsNoChipsLine}
use Rattle.vw_plantext.specs.Steps.Words.{line_numbers}
use Rattle.vw_plantext.proofs.LineEnds.{cut_once}
use Rattle.vw_plantext.proofs.LineReads.{chips_back, chips_line_none, chips_line_found}
use Rattle.vw_plantext.proofs.Lines.{one_line, small_chips}

-- ---- the line

-- the numbers that are read are those of the line
numbers_are : (line numbers : List ℕ) → line_numbers (codes "chips") line ≡ Some numbers → (chips : List ℕ) → All (λ chip. chip < 2 ^ 32) chips → line ≡ chips_line chips → numbers ≡ chips
numbers_are line numbers read chips fit is = ap (λ (o : Option (List ℕ)). unwrap_or o []) (sym read ∙ ap (line_numbers (codes "chips")) is ∙ chips_back chips fit)

-- another word, or a word that is no number
pub no_numbers : (line : List ℕ) → line_numbers (codes "chips") line ≡ None → IsNoLine line
no_numbers line none chips are is = chips_line_none (length chips) line none chips refl are.fit is

-- too many numbers
pub too_many : (line numbers : List ℕ) → line_numbers (codes "chips") line ≡ Some numbers → 2 ^ 32 ≤ length numbers → IsNoLine line
too_many line numbers read many chips are is =
    let same : length numbers ≡ length chips = ap (λ (list : List ℕ). length list) (numbers_are line numbers read chips are.fit is) in
    let few = are.few in
    omega (arith, same, few, many)

-- chips for as many cells as there are numbers
line_found : (line numbers : List ℕ) → line_numbers (codes "chips") line ≡ Some numbers → length numbers < 2 ^ 32 → (found : Option (Vec ℕ Global))
    → MatchOption found (AreNoChips (length numbers) numbers) (λ chips. AreChips (length numbers) numbers chips.items)
    → MatchOption found (IsNoLine line) (λ chips. IsLineOf line chips.items)
line_found line numbers read few None says =
    let none : IsNoChipsLine (length numbers) line = chips_line_found (length numbers) line numbers read None says in
    λ chips are is. none chips (ap (λ (list : List ℕ). length list) (sym (numbers_are line numbers read chips are.fit is))) are.fit is
line_found line numbers read few (Some chips) says =
    let found : IsChipsLine (length numbers) line chips.items = chips_line_found (length numbers) line numbers read (Some chips) says in
    let each = found.each in
    (record { few = omega (arith, each, few); fit = found.fit }, found.is)

pub line_read : {E : Type 0} (line numbers : List ℕ) (cells : ℕ) → line_numbers (codes "chips") line ≡ Some numbers → cells ≡ length numbers → cells < 2 ^ 32 → (result : Result (Option (Vec ℕ Global)) E)
    → IfOk result (λ found. MatchOption found (AreNoChips cells numbers) (λ chips. AreChips cells numbers chips.items))
    → IfOk result (λ found. MatchOption found (IsNoLine line) (λ chips. IsLineOf line chips.items))
line_read line numbers cells read same few (Err error) says = tt
line_read line numbers cells read same few (Ok found) says =
    line_found line numbers read (omega (arith, same, few)) found (subst (λ (count : ℕ). MatchOption found (AreNoChips count numbers) (λ chips. AreChips count numbers chips.items)) same says)

-- ---- the text

pub line_alone : (chips : List ℕ) → AreInRange chips → IsOneLine (chips_line chips)
line_alone chips are = one_line (codes "chips") chips refl (small_chips chips are.fit)

-- a text whose first line isn't one of chips
pub no_line : (text line rest : List ℕ) → IsLineCut text line rest → IsNoLine line → (chips behind : List ℕ) → ¬ (BeginsWithChips text chips behind)
no_line text line rest cut none chips behind (are, begins) =
    let same = cut_once line (chips_line chips) rest behind cut.one_line (line_alone chips are) (sym cut.whole ∙ begins) in
    none chips are same.line

-- a text without the end of a line
with_end : (before : Bool) → (before || true) ≡ false → ⊥
with_end true none = true≢false none
with_end false none = true≢false none

pub no_end : (text : List ℕ) → IsOneLine text → (chips behind : List ℕ) → ¬ (BeginsWithChips text chips behind)
no_end text alone chips behind (are, begins) =
    let is_end = λ (b : ℕ). b == 10 in
    with_end (list_any is_end (chips_line chips)) (sym (list_any-append is_end (chips_line chips) (10 ∷ behind)) ∙ ap (list_any is_end) (sym begins) ∙ alone)

-- a text whose first line is one of chips
pub begins_with : (text line rest chips : List ℕ) → IsLineCut text line rest → IsLineOf line chips → BeginsWithChips text chips rest
begins_with text line rest chips cut is = (is.0, cut.whole ∙ ap (λ (front : List ℕ). front ++ 10 ∷ rest) is.1)
