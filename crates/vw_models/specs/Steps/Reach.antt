-- Models that place each other, by their numbers, and what is reached from number 0. Source: this project.
use Rattle.std.specs.Prelude.{◌≡◌, ◌<◌, ℕ, Bool, false, List, [], ◌∷◌, ◌++◌, length, Option, Some, None, slice_get, slice_index_or, if◌then◌else◌, IsTrue}
use Rattle.vw_net.specs.Order.{is_among}

-- for each model, the numbers of those that it places
abbrev pub Targets : Type 0
Targets = List (List (Option ℕ))

-- a model places another one at a place
abbrev pub PlacesAt : Targets → ℕ → ℕ → ℕ → Type 0
PlacesAt targets number place placed = slice_get (slice_index_or targets number []) place ≡ Some (Some placed)

-- there is a model, and the numbers are those of models
pub record AreWithin (targets : Targets) : Type 0 where
  pub some : 0 < length targets
  pub within : (number place placed : ℕ) → PlacesAt targets number place placed → placed < length targets

-- a test that number 0 passes, and with a model those that it places
pub record IsClosedByPlacing (targets : Targets) (test : ℕ → Bool) : Type 0 where
  pub root : IsTrue (test 0)
  pub placed : (number place placed : ℕ) → IsTrue (test number) → PlacesAt targets number place placed → IsTrue (test placed)

-- each of some numbers is reached from 0: it passes whatever is closed
abbrev pub AreReached : Targets → List ℕ → Type 0
AreReached targets numbers =
    (test : ℕ → Bool) → IsClosedByPlacing targets test → (number : ℕ) → IsTrue (is_among numbers number) → IsTrue (test number)

-- numbers, with one more where it isn't among them, and with those that a model places
abbrev pub with_number : List ℕ → ℕ → List ℕ
with_number numbers number = if is_among numbers number then numbers else (numbers ++ number ∷ [])

abbrev pub with_targets : List ℕ → List (Option ℕ) → List ℕ
with_targets numbers [] = numbers
with_targets numbers (None ∷ rest) = with_targets numbers rest
with_targets numbers (Some number ∷ rest) = with_targets (with_number numbers number) rest

-- flags that say which numbers are among some
abbrev pub AreFlagged : List ℕ → List Bool → Type 0
AreFlagged numbers flags = (number : ℕ) → slice_index_or flags number false ≡ is_among numbers number

-- the flags of all that is reached, and of nothing else
pub record AreReachFlags (targets : Targets) (flags : List Bool) : Type 0 where
  pub each : length flags ≡ length targets
  pub closed : IsClosedByPlacing targets (λ number. slice_index_or flags number false)
  pub reached : (test : ℕ → Bool) → IsClosedByPlacing targets test → (number : ℕ) → IsTrue (slice_index_or flags number false) → IsTrue (test number)
