-- Words that stand among those before them.
use Rattle.std.proofs.Common.{◌≡◌, ◌<◌, ◌+◌, ℕ, Bool, true, false, not, ◌||◌, List, [], ◌∷◌, ◌++◌, length, take, drop, get_or, refl, sym, ◌∙◌, ap, ap₂, append_assoc, append-nil}
use Rattle.std.specs.Str.{bytes_eq}
use Rattle.std.proofs.Math.Bool.{or_assoc, or_comm, or-false}
use Rattle.std.proofs.lemmas.List.{take-append-drop, drop_more, take_more}
use Rattle.std.proofs.lemmas.List.Folds.{list_any-append}
use Rattle.vw_design.specs.Distinct.{has_name}
use Rattle.vw_design.specs.Paths.{Word}
use Rattle.vw_blif.specs.Bindings.{repeats}

-- a word that was added at the end
pub has_name-push : (names : List Word) (name other : Word) → has_name (names ++ name ∷ []) other ≡ (has_name names other || bytes_eq name other)
has_name-push names name other =
    list_any-append (λ n. bytes_eq n other) names (name ∷ []) ∙ ap (λ b. has_name names other || b) (or-false (bytes_eq name other))

-- words and then others
pub repeats-append : (before words others : List Word) → repeats before (words ++ others) ≡ (repeats before words || repeats (before ++ words) others)
repeats-append before [] others = ap (λ (front : List Word). repeats front others) (sym (append-nil before))
repeats-append before (word ∷ words) others =
    ap (λ b. has_name before word || b) (repeats-append (before ++ word ∷ []) words others
    ∙ ap (λ (front : List Word). repeats (before ++ word ∷ []) words || repeats front others) (append_assoc before (word ∷ []) words))
    ∙ sym (or_assoc (has_name before word) (repeats (before ++ word ∷ []) words) (repeats (before ++ word ∷ words) others))

pub more_words : (words : List Word) (i : ℕ) (word : Word) → i < length words → word ≡ get_or words i word → take (i + 1) words ≡ take i words ++ word ∷ []
more_words words i word within is = take_more words i word within ∙ ap (λ (w : Word). take i words ++ w ∷ []) (sym is)

-- words, cut at a place
pub cut_at : (words : List Word) (i : ℕ) (word : Word) → i < length words → word ≡ get_or words i word → words ≡ take i words ++ word ∷ drop (i + 1) words
cut_at words i word within is =
    sym (take-append-drop i words) ∙ ap (λ (rest : List Word). take i words ++ rest) (drop_more words i word within ∙ ap (λ (w : Word). w ∷ drop (i + 1) words) (sym is))

-- one word more, which is new or not
module _ (before words : List Word) (word : Word) (old : Word → Bool) (knows : (other : Word) → old other ≡ has_name (before ++ words) other) (is_new : Bool) (answer : is_new ≡ not (old word)) where
  was_seen : has_name (before ++ words) word ≡ not is_new
  was_seen = sym (knows word) ∙ sym (not_not (old word)) ∙ ap not (sym answer)
    where
      not_not : (b : Bool) → not (not b) ≡ b
      not_not true = refl
      not_not false = refl

  pub new_word : is_new ≡ true → repeats before words ≡ false → repeats before (words ++ word ∷ []) ≡ false
  new_word yes_ none =
      repeats-append before words (word ∷ []) ∙ ap₂ (λ (a b : Bool). a || (b || false)) none (was_seen ∙ ap not yes_)

  pub known_words : (new : Word → Bool) → ((other : Word) → new other ≡ (bytes_eq word other || old other)) → (other : Word) → new other ≡ has_name (before ++ (words ++ word ∷ [])) other
  known_words new adds other =
      adds other ∙ ap (λ b. bytes_eq word other || b) (knows other) ∙ or_comm (bytes_eq word other) (has_name (before ++ words) other)
      ∙ sym (has_name-push (before ++ words) word other) ∙ ap (λ (names : List Word). has_name names other) (append_assoc before words (word ∷ []))

  pub old_word : (others : List Word) → is_new ≡ false → repeats before words ≡ false → repeats before (words ++ word ∷ others) ≡ true
  old_word others no_ none =
      repeats-append before words (word ∷ others) ∙ ap₂ (λ (a b : Bool). a || (b || repeats ((before ++ words) ++ word ∷ []) others)) none (was_seen ∙ ap not no_)
