use Rattle.std.proofs.Common.{◌≡◌, ℕ, List, ◌++◌, ◌∷◌, [], codes, ◌∙◌, ap, append_assoc}
use Rattle.std.specs.Fmt.{decimal}
use Rattle.vw_blif.proofs.fault.at_line.Goals as goal

-- the pieces of the format, in the order in which it joins them
pieces : (fault line : ℕ) → codes "design " ++ (decimal fault ++ (codes ": line " ++ (decimal line ++ codes ": "))) ≡ codes "design " ++ decimal fault ++ codes ": line " ++ decimal line ++ codes ": "
pieces fault line = simp append_assoc

pub returns : goal.returns
returns c =
    c.in_ok-push.ensures.items
    ∙ ap (λ (front : List ℕ). front ++ 10 ∷ []) (c.in_ok-extend_from_slice.ensures.items
    ∙ ap (λ (front : List ℕ). front ++ c.args.what.now) (ap (λ text. text.items) c.into_bytes-text.ensures.value ∙ c.in_ok-format.ensures.ok ∙ pieces c.args.fault c.args.line))
