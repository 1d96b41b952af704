-- A map from names to numbers of models.
use Rattle.std.specs.Prelude.{◌≡◌, ◌<◌, ℕ, true, false, List, Option, Some, None, slice_get}
use Rattle.std.specs.Str.{bytes_eq}
use Rattle.std.specs.HashMap as hash
use Rattle.std.specs.Borrow.{Bor}
use Rattle.vw_design.specs.declared.model.Model.{Model}
use Rattle.vw_design.specs.Paths.{Word}

abbrev pub model_number_in : {X S : Type 0} → hash.HashMap (Bor (List ℕ)) X S → Word → Option X
model_number_in names name = hash.get_by (λ key. bytes_eq name key.now) names

-- among the first models, a number is that of one with the name, and without a number there is none
abbrev pub IsNumberAmong : List Model → ℕ → Word → Option ℕ → Type 0
IsNumberAmong models count name None =
    (number : ℕ) (model : Model) → number < count → slice_get models number ≡ Some model → bytes_eq model.name name ≡ false
IsNumberAmong models count name (Some number) =
    (number < count) × ((model : Model) × (slice_get models number ≡ Some model) × (bytes_eq model.name name ≡ true))

abbrev pub AreNumbers : {S : Type 0} → List Model → ℕ → hash.HashMap (Bor (List ℕ)) ℕ S → Type 0
AreNumbers models count names = (name : Word) → IsNumberAmong models count name (model_number_in names name)
