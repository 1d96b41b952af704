use Rattle.std.proofs.Common.{◌≡◌, ℕ, ◌++◌, ◌∷◌, [], ◌∙◌, ap, append_assoc}
use Rattle.std.specs.Prelude.{codes}
use Rattle.std.specs.Fmt.{decimal}
use Rattle.vw_board.specs.Messages.{fault_text}
use Rattle.vw_board.specs.declared.fault.BoardFault.TheVariants.{PinsExceeded}
use Rattle.vw_board.proofs.fault.of_pins.Goals as goal

-- the pieces of the format, in the order in which it joins them
pieces : (chip used limit : ℕ) → codes "board 6: chip " ++ (decimal chip ++ (codes " uses " ++ (decimal used ++ (codes " pins of " ++ (decimal limit ++ 10 ∷ []))))) ≡ fault_text (PinsExceeded chip used limit)
pieces chip used limit = simp append_assoc

pub returns : goal.returns
returns c = ap (λ text. text.items) c.into_bytes.ensures.value ∙ c.in_ok-line.ensures.ok ∙ pieces _ _ _
