use Rattle.std.proofs.Common.{◌≡◌, ℕ, List, ◌++◌, ◌∷◌, [], ◌∙◌, ap, append_assoc}
use Rattle.std.specs.Fmt.{decimal}
use Rattle.vw_text.proofs.message.numbered_line.Goals as goal

-- the pieces of the format, in the order in which it joins them
pieces : (before number after : List ℕ) → before ++ (number ++ (after ++ 10 ∷ [])) ≡ before ++ number ++ after ++ 10 ∷ []
pieces before number after = simp append_assoc

pub returns : goal.returns
returns c = ap (λ text. text.items) c.into_bytes.ensures.value ∙ c.in_ok-line.ensures.ok ∙ pieces c.args.before.now (decimal c.args.number) c.args.after.now
