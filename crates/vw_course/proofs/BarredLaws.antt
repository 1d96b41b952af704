-- A file that is absent, behind files of any kind.
use Rattle.std.proofs.Common.{◌≡◌, ◌⊎◌, ℕ, List, ◌∷◌, Ok, Err, inl, inr, refl, sym, subst}
use Rattle.vw_outside.specs.Told.{Told, absent, IsTextOf}
use Rattle.vw_course.specs.declared.unfinished.Unfinished.TheVariants.{ReadFault, WriteFault, NoMemory, Refused}
use Rattle.vw_course.specs.Vocabulary.{Vocabulary}
use Rattle.vw_course.specs.Outside.{SeenOutside}
use Rattle.vw_course.specs.Course.{Course, works, refuses, reads, makes, Kind, stage}
use Rattle.vw_course.specs.Follows.{Answer, EndsRefused, EndsReading, Follows}
use Rattle.vw_course.specs.Endings.{SeenCall, Ends, IsCallOf}
use Rattle.vw_course.specs.Places.{IsOneOf}
use Rattle.vw_course.specs.Statuses.{NothingDone, IsUnworked}
use Rattle.vw_course.proofs.Inductions.{no_text}
use Rattle.vw_course.proofs.CallLaws.{nothing_done, shelf_alone}

-- whatever its files have, the course reads a file that is absent, or refuses before with one of these statuses
abbrev pub IsBarred : {V : Vocabulary} → (List ℕ → Told) → List ℕ → Course V → Type 0
IsBarred told numbers (works over work) = ⊥
IsBarred {V = V} told numbers (refuses reason) = IsOneOf numbers (V.status reason)
IsBarred told numbers (reads file name next) =
    (told name ≡ absent) ⊎ ((text : List ℕ) → IsTextOf (told name) text → IsBarred told numbers (next text))
IsBarred {V = V} told numbers (makes A Good Bad Comes apart sure next) =
    ((reason : V.Reason) → Bad reason → IsOneOf numbers (V.status reason))
    × ((x : A) (good : Good x) → IsBarred told numbers (next x good))

-- a stage at an absent file, and one before it
pub barred_here : {V : Vocabulary} (told : List ℕ → Told) (numbers : List ℕ) {A : Type 0} (kind : Kind V A) (name : List ℕ) (next : A → Course V)
    → told name ≡ absent → IsBarred told numbers (stage kind name next)
barred_here told numbers kind name next gone = inl gone

pub barred_later : {V : Vocabulary} (told : List ℕ → Told) (numbers : List ℕ) {A : Type 0} (kind : Kind V A) (name : List ℕ) (next : A → Course V)
    → IsOneOf numbers kind.number → ((x : A) → IsBarred told numbers (next x)) → IsBarred told numbers (stage kind name next)
barred_later told numbers kind name next one later =
    inr (λ text of. (λ reason bad. subst (IsOneOf numbers) (sym ((kind.judged text).its_status reason bad)) one, λ x good. later x))

module _ (V : Vocabulary) (numbers : List ℕ) (call : SeenCall V.Word) (answer : Answer V) (ends : Ends V answer call.err_before call.err_after call.status) where
  abbrev before : SeenOutside V.Word
  before = call.before

  abbrev after : SeenOutside V.Word
  after = call.after

  abbrev told : List ℕ → Told
  told = call.before.shelf.told

  unworked : (number : ℕ) → NothingDone before after → call.status ≡ number → IsOneOf (7 ∷ 9 ∷ numbers) number → IsUnworked numbers call
  unworked number nothing is one = (nothing, subst (IsOneOf (7 ∷ 9 ∷ numbers)) (sym is) one)

  refusing : (Bad : V.Reason → Type 0) (so : Answer V) → Ends V so call.err_before call.err_after call.status
      → ((reason : V.Reason) → Bad reason → IsOneOf numbers (V.status reason)) → EndsRefused V Bad before after so → IsUnworked numbers call
  refusing Bad (Ok done) so_ends all refused = absurd refused
  refusing Bad (Err (ReadFault file)) so_ends all refused = absurd refused
  refusing Bad (Err WriteFault) so_ends all refused = absurd refused
  refusing Bad (Err NoMemory) so_ends all same = unworked 9 (nothing_done V before after same) so_ends.0 (inr (inl refl))
  refusing Bad (Err (Refused reason)) so_ends all (same, bad) =
      unworked (V.status reason) (nothing_done V before after same) so_ends.0 (inr (inr (all reason bad)))

  reading : (file : V.File) (name : List ℕ) (so : Answer V) → Ends V so call.err_before call.err_after call.status
      → EndsReading V file name before after so → IsUnworked numbers call
  reading file name (Ok done) so_ends read = absurd read
  reading file name (Err (ReadFault other)) so_ends (is, counted, alone) =
      unworked 7 (shelf_alone V before after alone) so_ends.0 (inl refl)
  reading file name (Err WriteFault) so_ends read = absurd read
  reading file name (Err NoMemory) so_ends same = unworked 9 (nothing_done V before after same) so_ends.0 (inr (inl refl))
  reading file name (Err (Refused reason)) so_ends read = absurd read

  pub barred : (course : Course V) → IsBarred told numbers course → Follows course before after answer → IsUnworked numbers call
  barred (works over work) none follows = absurd none
  barred (refuses reason) one follows =
      refusing (λ other. other ≡ reason) answer ends (λ other same. subst (λ (r : V.Reason). IsOneOf numbers (V.status r)) (sym same) one) follows
  barred (reads file name next) is (inl follows) = reading file name answer ends follows
  barred (reads file name next) (inl gone) (inr (text, of, follows)) = absurd (no_text (told name) text gone of)
  barred (reads file name next) (inr later) (inr (text, of, follows)) = barred (next text) (later text of) follows
  barred (makes A Good Bad Comes apart sure next) (all, later) (inl follows) = refusing Bad answer ends all follows
  barred (makes A Good Bad Comes apart sure next) (all, later) (inr (x, good, follows)) = barred (next x good) (later x good) follows

-- a call whose course reads an absent file, or is refused before
pub call_barred : {V : Vocabulary} (numbers : List ℕ) (course : Course V) (call : SeenCall V.Word) → IsCallOf course call
    → IsBarred call.before.shelf.told numbers course → IsUnworked numbers call
call_barred {V = V} numbers course call is bars = barred V numbers call is.answer is.ends course bars is.follows
