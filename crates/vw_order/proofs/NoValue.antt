-- Where no value is there.
use Rattle.std.proofs.Common.{◌≡◌, Option, Some, None, refl}

pub none_is : {A : Type 0} (found : Option A) → ((x : A) → found ≡ Some x → ⊥) → found ≡ None
none_is None other = refl
none_is (Some x) other = absurd (other x refl)
