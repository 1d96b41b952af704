-- The first value of several that may be there.
use Rattle.std.proofs.Common.{◌≡◌, true, Option, Some, None, is_some, refl, sym}
use Rattle.std.specs.Option.{option_or}
use Rattle.std.proofs.lemmas.Option.{none-some}

-- neither of two is there
pub or_none : {A : Type 0} (one other : Option A) → option_or one other ≡ None → (one ≡ None) × (other ≡ None)
or_none None other none = (refl, none)
or_none (Some x) other none = absurd (none-some x (sym none))

pub none_or : {A : Type 0} (one other : Option A) → one ≡ None → other ≡ None → option_or one other ≡ None
none_or None other here there = there
none_or (Some x) other here there = here

-- the first one, if it is there, and in place of none
pub or_some : {A : Type 0} (found other : Option A) → is_some found ≡ true → found ≡ option_or found other
or_some None other is = cc
or_some (Some x) other is = refl

pub or_nothing : {A : Type 0} (found : Option A) → option_or found None ≡ found
or_nothing None = refl
or_nothing (Some x) = refl

-- what holds of each holds of the first
pub or_is : {A : Type 0} (one other : Option A) (x : A) (P : A → Type 0) → option_or one other ≡ Some x → (one ≡ Some x → P x) → (other ≡ Some x → P x) → P x
or_is None other x P is here there = there is
or_is (Some y) other x P is here there = here is

-- of three
pub or_assoc : {A : Type 0} (one other third : Option A) → option_or (option_or one other) third ≡ option_or one (option_or other third)
or_assoc None other third = refl
or_assoc (Some x) other third = refl
