use Rattle.std.proofs.Common.{◌≡◌, ℕ, ◌++◌, ◌∷◌, [], ◌∙◌, ap, append_assoc}
use Rattle.std.specs.Prelude.{codes}
use Rattle.std.specs.Fmt.{decimal}
use Rattle.vw_rows.specs.Messages.{fault_text}
use Rattle.vw_rows.specs.declared.fault.StimFault.TheVariants.{WrongWidth}
use Rattle.vw_rows.proofs.fault.of_width.Goals as goal

-- the pieces of the format, in the order in which it joins them
pieces : (line found wanted : ℕ)
    → codes "stimulus 3: line " ++ (decimal line ++ (codes ": found " ++ (decimal found ++ (codes " bits, wanted " ++ (decimal wanted ++ 10 ∷ []))))) ≡ fault_text (WrongWidth line found wanted)
pieces line found wanted = simp append_assoc

pub returns : goal.returns
returns c = ap (λ text. text.items) c.into_bytes.ensures.value ∙ c.in_ok-line.ensures.ok ∙ pieces _ _ _
