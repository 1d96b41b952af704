-- A text spells the chips of one list, and then it isn't refused.
use Rattle.std.proofs.Common.{◌≡◌, ◌∙◌, ℕ, List, [], IsTrue, refl, sym, inl, inr, true≢false, arith}
use Rattle.std.specs.Prelude.{codes}
use Rattle.vw_plantext.specs.declared.fault.PlanTextFault.{PlanTextFault}
use Rattle.vw_plantext.specs.declared.fault.PlanTextFault.TheVariants.{TooLarge, BadLine, NoMemory}
use Rattle.vw_plantext.specs.ChipsText.{SpellsChips, IsBadAt, RefusesChips}
use Rattle.vw_plantext.specs.Grammar.{chips_line}
use Rattle.vw_plantext.specs.PlanText.{is_text_fault}
use Rattle.vw_plantext.proofs.ChipsLines.{line_alone}
use Rattle.vw_plantext.proofs.LineEnds.{cut_once}
use Rattle.vw_plantext.proofs.Lines.{small_chips}
use Rattle.vw_plantext.proofs.NumberLines.{number_line_injective}
use Rattle.vw_plantext.proofs.Spellings.{plain_chips}

pub chips_once : (text one other : List ℕ) → SpellsChips text one → SpellsChips text other → one ≡ other
chips_once text one other is its =
    let cut = cut_once (chips_line one) (chips_line other) [] [] (line_alone one is.is.0) (line_alone other its.is.0) (sym is.is.1 ∙ its.is.1) in
    number_line_injective (codes "chips") one other plain_chips refl (small_chips one is.is.0.fit) (small_chips other its.is.0.fit) cut.line

pub chips_unrefused : (text chips : List ℕ) (fault : PlanTextFault) → SpellsChips text chips → IsTrue (is_text_fault fault) → RefusesChips text fault → ⊥
chips_unrefused text chips TooLarge is content refused = let small = is.small in omega (arith, small, refused)
chips_unrefused text chips (BadLine line) is content refused = by refused.1 where
  by : IsBadAt text line → ⊥
  by (inl bad) = bad.1 chips [] is.is
  by (inr bad) = let cut = cut_once (chips_line chips) (chips_line bad.1) [] bad.2 (line_alone chips is.is.0) (line_alone bad.1 bad.3.0) (sym is.is.1 ∙ bad.3.1) in bad.4 (sym cut.rest)
chips_unrefused text chips NoMemory is content refused = true≢false (sym content)
