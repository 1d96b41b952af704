use Rattle.std.proofs.Common.{◌≡◌, ℕ, List, ◌++◌, ◌∷◌, [], codes, ◌∙◌, ap, ap₂, append_assoc}
use Rattle.std.specs.Fmt.{decimal}
use Rattle.vw_instances.specs.Quantities.{quantity_word}
use Rattle.vw_elab.proofs.fault.of_limit.Goals as goal

-- the pieces in the order in which they are joined
limit_pieces : (number word : List ℕ) → (codes "design 18: more than " ++ (number ++ 32 ∷ [])) ++ word ++ 10 ∷ [] ≡ codes "design 18: more than " ++ number ++ 32 ∷ word ++ 10 ∷ []
limit_pieces number word = simp append_assoc

pub returns : goal.returns
returns c =
    c.in_ok-add_last.ensures
    ∙ ap₂ (λ (front word : List ℕ). front ++ word ++ 10 ∷ []) (ap (λ text. text.items) c.into_bytes-text.ensures.value ∙ c.in_ok-format.ensures.ok) c.name.ensures
    ∙ limit_pieces (decimal c.args.limit) (quantity_word c.args.quantity)
