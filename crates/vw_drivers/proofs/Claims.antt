-- The claims of one model more.
use Rattle.std.proofs.Common.{◌≡◌, ◌<◌, ◌+◌, ℕ, List, [], ◌∷◌, ◌++◌, length, Option, Some, slice_get, ⊎_elim, ◌∙◌, ap, subst, arith, length-append}
use Rattle.std.proofs.lemmas.Bool.{cases_lt}
use Rattle.vw_design.specs.declared.model.Model.{Model}
use Rattle.vw_design.specs.declared.design.Design.{Design}
use Rattle.vw_design.proofs.ListPlaces.{in_front, at_end}
use Rattle.vw_drivers.specs.declared.model_claims.ModelClaims.{ModelClaims}
use Rattle.vw_drivers.specs.Claimed.{AreClaims}

-- the models below a number have their claims
pub record AreClaimsBelow (design : Design) (below : ℕ) (claims : List ModelClaims) : Type 0 where
  pub long : length claims ≡ below
  pub each : (k : ℕ) (model : Model) → k < below → slice_get design.models k ≡ Some model
      → (found : ModelClaims) × (slice_get claims k ≡ Some found) × AreClaims design (Some model) found

pub claims_more : (design : Design) (k : ℕ) (claims : ModelClaims) (list more : List ModelClaims) → AreClaims design (slice_get design.models k) claims
    → AreClaimsBelow design k list → more ≡ list ++ claims ∷ [] → AreClaimsBelow design (k + 1) more
claims_more design k claims list more are below more_is = record {
  long = ap length more_is ∙ length-append list (claims ∷ []) ∙ omega (arith, below.long);
  each = λ j model within at. ⊎_elim (λ less. earlier j model less at) (λ least. here j model (omega (arith, within, least)) at) (cases_lt j k);
} where
  earlier : (j : ℕ) (model : Model) → j < k → slice_get design.models j ≡ Some model → (found : ModelClaims) × (slice_get more j ≡ Some found) × AreClaims design (Some model) found
  earlier j model less at =
      let found = below.each j model less at in
      (found.0, ap (λ (l : List ModelClaims). slice_get l j) more_is ∙ in_front list (claims ∷ []) j found.0 found.1, found.2)

  here : (j : ℕ) (model : Model) → k ≡ j → slice_get design.models j ≡ Some model → (found : ModelClaims) × (slice_get more j ≡ Some found) × AreClaims design (Some model) found
  here j model same at = (
    claims,
    ap (λ (l : List ModelClaims). slice_get l j) more_is ∙ at_end list claims j (below.long ∙ same),
    subst (λ (m : Option Model). AreClaims design m claims) (ap (slice_get design.models) same ∙ at) are,
  )
