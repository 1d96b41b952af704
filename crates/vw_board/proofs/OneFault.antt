-- A text has one fault at most.
use Rattle.std.proofs.Common.{◌≡◌, ◌<◌, ◌⊎◌, inl, inr, ℕ, true, List, Some, None, IsTrue, refl, sym, ap, ap₂, ◌∙◌, true≢false, ⊎_elim, arith}
use Rattle.std.proofs.lemmas.Bool.{cases_order}
use Rattle.std.proofs.lemmas.Option.{none-some, same_Some}
use mathlib.Core.Logic.{∥∥₁_elim}
use Rattle.vw_text.specs.declared.line.Line.{Line}
use Rattle.vw_text.specs.WordLines.{word_lines}
use Rattle.vw_plan.specs.declared.link.Link.{Link}
use Rattle.vw_board.specs.declared.fault.BoardFault.{BoardFault}
use Rattle.vw_board.specs.declared.fault.BoardFault.TheVariants.{TooLarge, BadLine, BadNumber, SelfLink, DuplicateLink, PinsExceeded, Unreachable, NoMemory}
use Rattle.vw_board.specs.Headers.{chips_of, pins_of}
use Rattle.vw_board.specs.LinkLines.{links_of}
use Rattle.vw_board.specs.Pins.{AreEnoughPins, IsFirstOver, used_pins}
use Rattle.vw_board.specs.BoardText.{line_fault, ComesBefore, IsFirstApart, RefusesLinks, RefusesLines, Refuses, is_text_fault}

-- a chip with too few pins
record IsOver (chips pins : ℕ) (links : List Link) (fault : BoardFault) : Type 0 where
  chip : ℕ
  used : ℕ
  limit : ℕ
  is : fault ≡ PinsExceeded chip used limit
  first : IsFirstOver chips pins links chip used limit

-- enough pins, and two nodes with no walk from one to the other
record IsApart (chips pins : ℕ) (links : List Link) (fault : BoardFault) : Type 0 where
  from : ℕ
  to : ℕ
  is : fault ≡ Unreachable from to
  enough : AreEnoughPins chips pins links
  first : IsFirstApart chips links from to

module _ (chips pins : ℕ) (links : List Link) where
  link_reason : (fault : BoardFault) → is_text_fault fault ≡ true → RefusesLinks chips pins links fault → IsOver chips pins links fault ⊎ IsApart chips pins links fault
  link_reason TooLarge content refused = absurd refused
  link_reason (BadLine line) content refused = absurd refused
  link_reason (BadNumber line) content refused = absurd refused
  link_reason (SelfLink a) content refused = absurd refused
  link_reason (DuplicateLink a b) content refused = absurd refused
  link_reason (PinsExceeded chip used limit) content refused = inl (record { chip = chip; used = used; limit = limit; is = refl; first = refused })
  link_reason (Unreachable a b) content refused = inr (record { from = a; to = b; is = refl; enough = refused.0; first = refused.1 })
  link_reason NoMemory content refused = absurd (true≢false (sym content))

  not_over_before : (chip used limit other other_used other_limit : ℕ) → IsFirstOver chips pins links chip used limit → IsFirstOver chips pins links other other_used other_limit → chip < other → ⊥
  not_over_before chip used limit other other_used other_limit is its before =
      let enough = its.first chip is.some before in
      omega (arith, is.uses, is.over, enough)

  over_chip : (chip used limit other other_used other_limit : ℕ) → IsFirstOver chips pins links chip used limit → IsFirstOver chips pins links other other_used other_limit → chip ≡ other
  over_chip chip used limit other other_used other_limit is its =
      ⊎_elim
      (λ same. same)
      (λ differ. absurd (⊎_elim (not_over_before chip used limit other other_used other_limit is its) (not_over_before other other_used other_limit chip used limit its is) differ))
      (cases_order chip other)

  over_same : (chip used limit other other_used other_limit : ℕ) → IsFirstOver chips pins links chip used limit → IsFirstOver chips pins links other other_used other_limit → PinsExceeded chip used limit ≡ PinsExceeded other other_used other_limit
  over_same chip used limit other other_used other_limit is its =
      let chip_same = over_chip chip used limit other other_used other_limit is its in
      let used_same : used ≡ other_used = is.uses ∙ ap (λ (c : ℕ). used_pins links c) chip_same ∙ sym its.uses in
      let limit_same : limit ≡ other_limit = is.has ∙ sym its.has in
      ap (λ (c : ℕ). PinsExceeded c used limit) chip_same ∙ ap₂ (λ (u l : ℕ). PinsExceeded other u l) used_same limit_same

  not_apart_before : (a b c d : ℕ) → IsFirstApart chips links a b → IsFirstApart chips links c d → ComesBefore a b c d → ⊥
  not_apart_before a b c d is its before =
      ∥∥₁_elim (its.first a b is.from_node is.to_node before) (hlevel) (λ walk. is.apart walk.0 walk.1)

  apart_same : (a b c d : ℕ) → IsFirstApart chips links a b → IsFirstApart chips links c d → Unreachable a b ≡ Unreachable c d
  apart_same a b c d is its =
      ⊎_elim
      (λ same. ⊎_elim
      (λ same_to. ap₂ (λ (from to : ℕ). Unreachable from to) same same_to)
      (λ differ. absurd (⊎_elim (λ before. not_apart_before a b c d is its (inr (same, before))) (λ behind. not_apart_before c d a b its is (inr (sym same, behind))) differ))
      (cases_order b d))
      (λ differ. absurd (⊎_elim (λ before. not_apart_before a b c d is its (inl before)) (λ behind. not_apart_before c d a b its is (inl behind)) differ))
      (cases_order a c)

  over_not_apart : (fault other : BoardFault) → IsOver chips pins links fault → IsApart chips pins links other → ⊥
  over_not_apart fault other over apart =
      let enough = apart.enough over.chip over.first.some over.first.few in
      let uses = over.first.uses in
      let more = over.first.over in
      omega (arith, uses, more, enough)

  link_fault_once : (one other : BoardFault) → IsOver chips pins links one ⊎ IsApart chips pins links one → IsOver chips pins links other ⊎ IsApart chips pins links other → one ≡ other
  link_fault_once one other (inl is) (inl its) = is.is ∙ over_same is.chip is.used is.limit its.chip its.used its.limit is.first its.first ∙ sym its.is
  link_fault_once one other (inl is) (inr its) = absurd (over_not_apart one other is its)
  link_fault_once one other (inr is) (inl its) = absurd (over_not_apart other one its is)
  link_fault_once one other (inr is) (inr its) = is.is ∙ apart_same is.from is.to its.from its.to is.first its.first ∙ sym its.is

-- a line is at fault, or none is and the links are
abbrev HasReason : List Line → BoardFault → Type 0
HasReason lines fault = (line_fault lines ≡ Some fault) ⊎ ((line_fault lines ≡ None) × RefusesLinks (chips_of lines) (pins_of lines) (links_of lines) fault)

line_reason : (lines : List Line) (fault : BoardFault) → is_text_fault fault ≡ true → RefusesLines lines fault → HasReason lines fault
line_reason lines TooLarge content refused = absurd refused
line_reason lines (BadLine line) content refused = inl refused
line_reason lines (BadNumber line) content refused = inl refused
line_reason lines (SelfLink a) content refused = inl refused
line_reason lines (DuplicateLink a b) content refused = inl refused
line_reason lines (PinsExceeded chip used limit) content refused = inr refused
line_reason lines (Unreachable a b) content refused = inr refused
line_reason lines NoMemory content refused = absurd (true≢false (sym content))

line_fault_once : (lines : List Line) (one other : BoardFault) → is_text_fault one ≡ true → is_text_fault other ≡ true → HasReason lines one → HasReason lines other → one ≡ other
line_fault_once lines one other content its_content (inl is) (inl its) = same_Some one other (sym is ∙ its)
line_fault_once lines one other content its_content (inl is) (inr its) = absurd (none-some one (sym its.0 ∙ is))
line_fault_once lines one other content its_content (inr is) (inl its) = absurd (none-some other (sym is.0 ∙ its))
line_fault_once lines one other content its_content (inr is) (inr its) =
    link_fault_once (chips_of lines) (pins_of lines) (links_of lines) one other
    (link_reason (chips_of lines) (pins_of lines) (links_of lines) one content is.1)
    (link_reason (chips_of lines) (pins_of lines) (links_of lines) other its_content its.1)

pub fault_once : (text : List ℕ) (one other : BoardFault) → IsTrue (is_text_fault one) → IsTrue (is_text_fault other) → Refuses text one → Refuses text other → one ≡ other
fault_once text one other content its_content (inl is) (inl its) = is.0 ∙ sym its.0
fault_once text one other content its_content (inl is) (inr its) = let large = is.1 in let small = its.0 in absurd (let false : ⊥ = omega (arith, large, small) in false)
fault_once text one other content its_content (inr is) (inl its) = let large = its.1 in let small = is.0 in absurd (let false : ⊥ = omega (arith, large, small) in false)
fault_once text one other content its_content (inr is) (inr its) =
    line_fault_once (word_lines text) one other content its_content (line_reason (word_lines text) one content is.1) (line_reason (word_lines text) other its_content its.1)
