-- A text is accepted as one board, and then it isn't refused.
use Rattle.std.proofs.Common.{◌≡◌, ◌≤◌, ℕ, true, List, Some, None, IsTrue, sym, subst, ◌∙◌, inl, inr, true≢false, arith}
use Rattle.std.proofs.lemmas.Option.{none-some}
use Rattle.std.proofs.Math.Bridge.{le_prop}
use Rattle.std.proofs.Math.Nat.{ℕ_set}
use mathlib.Core.HLevel.{is_prop→PathP}
use mathlib.Core.Logic.{∥∥₁_elim}
use Rattle.vw_text.specs.declared.line.Line.{Line}
use Rattle.vw_text.specs.WordLines.{word_lines}
use Rattle.vw_plan.specs.declared.link.Link.{Link}
use Rattle.vw_plan.specs.declared.board.Board.{Board}
use Rattle.vw_plan.specs.Links.{AreLinks}
use Rattle.vw_plan.specs.Walks.{IsReachable}
use Rattle.vw_board.specs.declared.fault.BoardFault.{BoardFault}
use Rattle.vw_board.specs.declared.fault.BoardFault.TheVariants.{TooLarge, BadLine, BadNumber, SelfLink, DuplicateLink, PinsExceeded, Unreachable, NoMemory}
use Rattle.vw_board.specs.BoardText.{line_fault, RefusesLines, IsBoardOfLines, Spells, Refuses, is_text_fault}

no_fault : (lines : List Line) (fault : BoardFault) → line_fault lines ≡ None → line_fault lines ≡ Some fault → ⊥
no_fault lines fault none some = none-some fault (sym none ∙ some)

fine_lines : (lines : List Line) (board : Board) → IsBoardOfLines lines board → (fault : BoardFault) → is_text_fault fault ≡ true → RefusesLines lines fault → ⊥
fine_lines lines board is TooLarge content refused = refused
fine_lines lines board is (BadLine line) content refused = no_fault lines (BadLine line) is.fine refused
fine_lines lines board is (BadNumber line) content refused = no_fault lines (BadNumber line) is.fine refused
fine_lines lines board is (SelfLink a) content refused = no_fault lines (SelfLink a) is.fine refused
fine_lines lines board is (DuplicateLink a b) content refused = no_fault lines (DuplicateLink a b) is.fine refused
fine_lines lines board is (PinsExceeded chip used limit) content refused =
    let over = refused.1 in
    let enough = is.enough chip over.some over.few in
    omega (arith, over.uses, over.over, enough)
fine_lines lines board is (Unreachable a b) content refused =
    let apart = refused.1.1 in
    let from_node : a ≤ board.chips = omega (arith, apart.from_node, is.chips) in
    let to_node : b ≤ board.chips = omega (arith, apart.to_node, is.chips) in
    let joined = subst (λ (links : List Link). IsReachable links a b) is.links (board.linked.joined a b from_node to_node) in
    ∥∥₁_elim joined (hlevel) (λ walk. apart.apart walk.0 walk.1)
fine_lines lines board is NoMemory content refused = absurd (true≢false (sym content))

pub accepted_unrefused : (text : List ℕ) (board : Board) (fault : BoardFault) → Spells text board → IsTrue (is_text_fault fault) → Refuses text fault → ⊥
accepted_unrefused text board fault is content (inl (same, large)) = omega (arith, is.small, large)
accepted_unrefused text board fault is content (inr (small, lines)) = fine_lines (word_lines text) board is.spells fault content lines

-- ---- boards of one text

board_same : (one other : Board) → one.chips ≡ other.chips → one.cells ≡ other.cells → one.settle ≡ other.settle → one.links ≡ other.links → one ≡ other
board_same one other chips cells settle links = λ i. record {
  chips = chips i;
  cells = cells i;
  settle = settle i;
  links = links i;
  some_chips = is_prop→PathP (λ j. 1 ≤ chips j) (λ j. le_prop) one.some_chips other.some_chips i;
  few_chips = is_prop→PathP (λ j. chips j ≤ 32) (λ j. le_prop) one.few_chips other.few_chips i;
  some_cells = is_prop→PathP (λ j. 1 ≤ cells j) (λ j. le_prop) one.some_cells other.some_cells i;
  few_cells = is_prop→PathP (λ j. cells j ≤ 65536) (λ j. le_prop) one.few_cells other.few_cells i;
  quick = is_prop→PathP (λ j. settle j ≤ 15) (λ j. le_prop) one.quick other.quick i;
  linked = is_prop→PathP (λ j. AreLinks (chips j) (links j)) (λ j. hlevel (le_prop, ℕ_set)) one.linked other.linked i;
}

pub accepted_once : (text : List ℕ) (one other : Board) → Spells text one → Spells text other → one ≡ other
accepted_once text one other is its =
    board_same one other (is.spells.chips ∙ sym its.spells.chips) (is.spells.cells ∙ sym its.spells.cells) (is.spells.settle ∙ sym its.spells.settle) (is.spells.links ∙ sym its.spells.links)
