-- From a course to its places: one induction for each way to say something of a place.
use Rattle.std.proofs.Common.{◌≡◌, ℕ, List, inl, inr, subst, sym, refl}
use Rattle.vw_outside.specs.Told.{Told, untold, absent, held, IsTextOf}
use Rattle.vw_course.specs.Vocabulary.{Vocabulary}
use Rattle.vw_course.specs.Course.{Course, works, refuses, reads, makes}
use Rattle.vw_course.specs.Follows.{May}
use Rattle.vw_course.specs.Places.{IsOneOf, Files, StandsAt}

-- ---- what is told of a file

-- the text of a name that is held
pub its_text : (told : Told) (text bytes : List ℕ) → told ≡ held bytes → IsTextOf told text → text ≡ bytes
its_text told text bytes is may = subst (λ (t : Told). IsTextOf t text) is may

pub of_held : (told : Told) (text : List ℕ) → told ≡ held text → IsTextOf told text
of_held told text is = subst (λ (t : Told). IsTextOf t text) (sym is) refl

pub no_text : (told : Told) (text : List ℕ) → told ≡ absent → IsTextOf told text → ⊥
no_text told text is may = subst (λ (t : Told). IsTextOf t text) is may

abbrev IsUntold : Told → Type 0
IsUntold untold = Unit {0}
IsUntold absent = ⊥
IsUntold (held text) = ⊥

pub not_untold : (told : Told) (text : List ℕ) → told ≡ held text → told ≡ untold → ⊥
not_untold told text is its = subst (λ (t : Told). IsUntold t) is (subst (λ (t : Told). IsUntold t) (sym its) tt)

-- ---- places

module _ {V : Vocabulary} (told : List ℕ → Told) where
  -- what each place of a kind says of something, the course says of such a thing
  module _ {X : Type 0} (P : Course V → Type 0) (Q : X → Course V → Type 0) (says : (place : Course V) → P place → (x : X) × Q x place) where
    pub some_place : (course : Course V) → May told P course → (x : X) × May told (Q x) course
    some_place (works over work) here = says (works over work) here
    some_place (refuses reason) here = says (refuses reason) here
    some_place (reads file name next) (inl here) = let is = says (reads file name next) here in (is.0, inl is.1)
    some_place (reads file name next) (inr (text, of, later)) =
        let is = some_place (next text) later in (is.0, inr (text, of, is.1))
    some_place (makes A Good Bad Comes apart sure next) (inl here) =
        let is = says (makes A Good Bad Comes apart sure next) here in (is.0, inl is.1)
    some_place (makes A Good Bad Comes apart sure next) (inr (x, good, later)) =
        let is = some_place (next x good) later in (is.0, inr (x, good, is.1))

  -- these files are held and good, so the course comes to the place behind them, or not beyond a file or something made
  -- on the way
  module _ (files : Files V) {R : Type 0} (P E : Course V → Type 0)
      (there : (place : Course V) → P place → May told E place → R)
      (reading : (file : V.File) (name : List ℕ) (next : List ℕ → Course V) → IsOneOf files (file, name) → E (reads file name next) → R)
      (making : (A : Type 0) (Good : A → Type 0) (Bad : V.Reason → Type 0) (Comes : Type 0)
      (apart : (x : A) (reason : V.Reason) → Good x → Bad reason → ⊥) (sure : (reason : V.Reason) → Comes → Bad reason → ⊥)
      (next : (x : A) → Good x → Course V) → Comes → E (makes A Good Bad Comes apart sure next) → R) where
    pub stands : (course : Course V) → StandsAt told files P course → May told E course → R
    stands (works over work) is ends = there (works over work) is ends
    stands (refuses reason) is ends = there (refuses reason) is ends
    stands (reads file name next) (inl is) ends = there (reads file name next) is ends
    stands (reads file name next) (inr (one, text, holds, later)) (inl ends) = reading file name next one ends
    stands (reads file name next) (inr (one, text, holds, later)) (inr (other, of, ends)) =
        stands (next text) later (subst (λ (t : List ℕ). May told E (next t)) (its_text (told name) other text holds of) ends)
    stands (makes A Good Bad Comes apart sure next) (inl is) ends = there (makes A Good Bad Comes apart sure next) is ends
    stands (makes A Good Bad Comes apart sure next) (inr (comes, later)) (inl ends) = making A Good Bad Comes apart sure next comes ends
    stands (makes A Good Bad Comes apart sure next) (inr (comes, later)) (inr (x, good, ends)) = stands (next x good) (later x good) ends

  -- what holds at the place to which the course comes may be said in weaker words
  module _ (files : Files V) (P Q : Course V → Type 0) (weaker : (place : Course V) → P place → Q place) where
    pub stands_on : (course : Course V) → StandsAt told files P course → StandsAt told files Q course
    stands_on (works over work) is = weaker (works over work) is
    stands_on (refuses reason) is = weaker (refuses reason) is
    stands_on (reads file name next) (inl is) = inl (weaker (reads file name next) is)
    stands_on (reads file name next) (inr (one, text, holds, later)) = inr (one, text, holds, stands_on (next text) later)
    stands_on (makes A Good Bad Comes apart sure next) (inl is) = inl (weaker (makes A Good Bad Comes apart sure next) is)
    stands_on (makes A Good Bad Comes apart sure next) (inr (comes, later)) = inr (comes, λ x good. stands_on (next x good) (later x good))
