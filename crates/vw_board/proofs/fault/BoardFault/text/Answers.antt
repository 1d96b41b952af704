use Rattle.std.proofs.Common.{◌≡◌, ℕ, ◌++◌, ◌∷◌, [], sym, subst, ◌∙◌, ap, append_assoc, IfOk}
use Rattle.std.specs.Prelude.{codes}
use Rattle.std.specs.Fmt.{decimal}
use Rattle.vw_board.specs.Messages.{fault_text}
use Rattle.vw_board.specs.declared.fault.BoardFault.TheVariants.{SelfLink, DuplicateLink}
use Rattle.vw_board.proofs.fault.BoardFault.text.Goals as goal

-- the pieces of a line, in the order in which they are joined
self_pieces : (a : ℕ) → codes "board 4: self link " ++ decimal a ++ [] ++ 10 ∷ [] ≡ fault_text (SelfLink a)
self_pieces a = simp append_assoc

duplicate_pieces : (a b : ℕ) → codes "board 5: duplicate link " ++ decimal a ++ codes " " ++ decimal b ++ 10 ∷ [] ≡ fault_text (DuplicateLink a b)
duplicate_pieces a b = simp append_assoc

pub returns-in-SelfLink : goal.returns-in-SelfLink
returns-in-SelfLink c =
    subst (λ text. IfOk c.numbered_line-in-SelfLink.result (λ line. line.items ≡ text)) (self_pieces _ ∙ ap (λ (a : ℕ). fault_text (SelfLink a)) c.from.ensures ∙ ap fault_text (sym c.in-SelfLink.is)) c.numbered_line-in-SelfLink.ensures

pub returns-in-DuplicateLink : goal.returns-in-DuplicateLink
returns-in-DuplicateLink c =
    subst (λ text. IfOk c.with_two.result (λ line. line.items ≡ text)) (duplicate_pieces _ _ ∙ ap fault_text (sym c.in-DuplicateLink.is)) c.with_two.ensures
