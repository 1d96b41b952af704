-- Steps on the way to the word with a number.
use Rattle.std.proofs.Common.{subst, ◌≡◌, ◌≤◌, ◌<◌, ◌+◌, ◌-◌, ◌^◌, ◌==◌, ℕ, zero, suc, Bool, true, false, List, [], ◌∷◌, ◌++◌, length, slice_get, Box, if◌then◌else◌, refl, sym, ap, ◌∙◌, arith}
use Rattle.std.proofs.lemmas.List.{append-nil, length-append}
use Rattle.std.specs.declared.alloc.Global.{Global}
use Rattle.vw_prog.specs.declared.word.Word.{Word}
use Rattle.vw_link.specs.declared.chain.Piece.{Piece}
use Rattle.vw_link.specs.declared.chain.Chain.TheViews.{Hung}
use Rattle.vw_link.specs.Chains.{IsNear, IsOlder, IsPassed, Lift, lifts_of, newest, lift_words}

-- a chain with a piece in front
pub hung : (piece : Box Piece Global) → lifts_of (Hung piece) ≡ record { link = piece.value.link; words = piece.value.words.items } ∷ lifts_of piece.value.older
hung piece = refl

nth_left : {X : Type 0} (xs ys : List X) (k : ℕ) → k < length xs → slice_get (xs ++ ys) k ≡ slice_get xs k
nth_left [] ys k below = absurd (omega (arith, below))
nth_left (x ∷ xs) ys zero below = refl
nth_left (x ∷ xs) ys (suc k) below = nth_left xs ys k (omega (arith, below))

-- the words of a link in a newest lift, and how many they are
abbrev own : ℕ → Lift → List Word
own link lift = if link == lift.link then lift.words else []

words_are : (link : ℕ) (lift : Lift) (older : List Lift) → lift_words link (lift ∷ older) ≡ lift_words link older ++ own link lift
words_are link lift older = by (link == lift.link) where
  by : (same : Bool) → (if same then lift_words link older ++ lift.words else lift_words link older) ≡ lift_words link older ++ (if same then lift.words else [])
  by true = refl
  by false = sym (append-nil (lift_words link older))

own_count : (link : ℕ) (lift : Lift) (older : List Lift) → newest link (lift ∷ older) ≡ length (own link lift)
own_count link lift older = by (link == lift.link) where
  by : (same : Bool) → (if same then length lift.words else 0) ≡ length (if same then lift.words else [])
  by true = refl
  by false = refl

count_is : (link : ℕ) (lift : Lift) (older : List Lift) → length (lift_words link (lift ∷ older)) ≡ length (lift_words link older) + newest link (lift ∷ older)
count_is link lift older = omega (arith, ap (λ (words : List Word). length words) (words_are link lift older), length-append (lift_words link older) (own link lift), own_count link lift older)

module _ (link number : ℕ) (old : List Lift) (before : ℕ) where
  -- a newest lift whose words are all behind the number is left out
  pub left_out : (lift : Lift) (older : List Lift) (counted : ℕ) → IsOlder link number old before (lift ∷ older) counted → number + newest link (lift ∷ older) < counted → IsOlder link number old before older (counted - newest link (lift ∷ older))
  left_out lift older counted is behind = record {
    count = λ rest whole. omega (arith, is.count rest whole, count_is link lift older, behind);
    same = λ rest whole.
        let here : number < length (lift_words link older) = omega (arith, is.count rest whole, count_is link lift older, behind) in
        sym (ap (λ (words : List Word). slice_get words number) (words_are link lift older) ∙ nth_left (lift_words link older) (own link lift) number here) ∙ is.same rest whole;
  }

  -- one of which some words aren't is the last that is looked at
  pub reached : (lift : Lift) (older : List Lift) (counted : ℕ) → IsOlder link number old before (lift ∷ older) counted → counted ≤ number + newest link (lift ∷ older) → number < 2 ^ 64 → newest link (lift ∷ older) < 2 ^ 64 → IsPassed link number old before (lift ∷ older) counted
  reached lift older counted is within low short = record {
    near = λ rest whole. record { count = is.count rest whole; near = within; low = omega (arith, within, low, short) };
    same = is.same;
  }

  -- and so is the end
  pub ended : (counted : ℕ) → IsOlder link number old before [] counted → IsPassed link number old before [] counted
  ended counted is = record {
    near = λ rest whole. let none = is.count rest whole in record { count = none; near = omega (arith, none); low = omega (arith, none) };
    same = is.same;
  }

-- the same at a piece of a chain
pub on_older : (link number : ℕ) (old : List Lift) (before : ℕ) (lifts : List Lift) (counted : ℕ) (piece its next : Piece) (own_words number_is : ℕ) → IsOlder link number old before lifts counted
    → lifts ≡ record { link = piece.link; words = piece.words.items } ∷ lifts_of piece.older → its ≡ piece → next ≡ piece
    → own_words ≡ (if link == its.link then length its.words.items else 0) → number_is ≡ number → number_is + own_words < counted
    → IsOlder link number old before (lifts_of next.older) (counted - own_words)
on_older link number old before lifts counted piece its next own_words number_is is split its_is next_is own_is same behind =
    let lift : Lift = record { link = piece.link; words = piece.words.items } in
    let here : IsOlder link number old before (lift ∷ lifts_of piece.older) counted = subst (λ (all : List Lift). IsOlder link number old before all counted) split is in
    let mine : own_words ≡ newest link (lift ∷ lifts_of piece.older) = own_is ∙ ap (λ (one : Piece). if link == one.link then length one.words.items else 0) its_is in
    let past = left_out link number old before lift (lifts_of piece.older) counted here (omega (arith, mine, same, behind)) in
    subst (λ (at : List Lift × ℕ). IsOlder link number old before at.0 at.1) (λ i. (lifts_of (sym next_is i).older, counted - sym mine i)) past

-- one at which the search stops
pub on_reached : (link number : ℕ) (old : List Lift) (before : ℕ) (lifts : List Lift) (counted : ℕ) (piece its : Piece) (own_words number_is : ℕ) → IsOlder link number old before lifts counted
    → lifts ≡ record { link = piece.link; words = piece.words.items } ∷ lifts_of piece.older → its ≡ piece
    → own_words ≡ (if link == its.link then length its.words.items else 0) → number_is ≡ number → counted ≤ number_is + own_words → number < 2 ^ 64 → own_words < 2 ^ 64
    → IsPassed link number old before lifts counted
on_reached link number old before lifts counted piece its own_words number_is is split its_is own_is same within low short =
    let lift : Lift = record { link = piece.link; words = piece.words.items } in
    let here : IsOlder link number old before (lift ∷ lifts_of piece.older) counted = subst (λ (all : List Lift). IsOlder link number old before all counted) split is in
    let mine : own_words ≡ newest link (lift ∷ lifts_of piece.older) = own_is ∙ ap (λ (one : Piece). if link == one.link then length one.words.items else 0) its_is in
    subst (λ (all : List Lift). IsPassed link number old before all counted) (sym split)
    (reached link number old before lift (lifts_of piece.older) counted here (omega (arith, mine, same, within)) low (omega (arith, mine, short)))

pub on_ended : (link number : ℕ) (old : List Lift) (before : ℕ) (lifts : List Lift) (counted : ℕ) → IsOlder link number old before lifts counted → lifts ≡ [] → IsPassed link number old before lifts counted
on_ended link number old before lifts counted is none =
    subst (λ (all : List Lift). IsPassed link number old before all counted) (sym none) (ended link number old before counted (subst (λ (all : List Lift). IsOlder link number old before all counted) none is))

-- one more piece was counted, and newest ones were left out
pub counted_on : (link number : ℕ) (from rest new : List Lift) (counted now : ℕ) (piece its next : Piece) (own_words : ℕ) → IsNear link number (length (lift_words link rest)) from counted
    → rest ≡ record { link = piece.link; words = piece.words.items } ∷ lifts_of piece.older → its ≡ piece → next ≡ piece
    → own_words ≡ (if link == its.link then length its.words.items else 0) → IsPassed link number from (counted + own_words) new now
    → IsNear link number (length (lift_words link (lifts_of next.older))) new now × (slice_get (lift_words link new) number ≡ slice_get (lift_words link from) number)
counted_on link number from rest new counted now piece its next own_words near split its_is next_is own_is passed =
    let lift : Lift = record { link = piece.link; words = piece.words.items } in
    let mine : own_words ≡ newest link (lift ∷ lifts_of piece.older) = own_is ∙ ap (λ (one : Piece). if link == one.link then length one.words.items else 0) its_is in
    let all : length (lift_words link rest) ≡ length (lift_words link (lift ∷ lifts_of piece.older)) = ap (λ (lifts : List Lift). length (lift_words link lifts)) split in
    let left : length (lift_words link (lifts_of next.older)) ≡ length (lift_words link (lifts_of piece.older)) = ap (λ (one : Piece). length (lift_words link (lifts_of one.older))) next_is in
    let whole : length (lift_words link from) ≡ (counted + own_words) + length (lift_words link (lifts_of next.older)) = omega (arith, near.count, all, left, mine, count_is link lift (lifts_of piece.older)) in
    (passed.near (length (lift_words link (lifts_of next.older))) whole, passed.same (length (lift_words link (lifts_of next.older))) whole)
