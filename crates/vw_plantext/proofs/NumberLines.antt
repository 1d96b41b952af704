-- Lines of a word and numbers, and what is read of them.
use Rattle.std.proofs.Common.{◌≡◌, ◌<◌, ◌^◌, ◌==◌, ℕ, Bool, true, false, List, [], ◌∷◌, ◌++◌, map, Option, Some, None, if◌then◌else◌, ap, ap₂, refl, sym, subst, ◌∙◌, eqb-true, true≢false, append-nil, All, arith}
use Rattle.std.specs.Prelude.{unwrap_or}
use Rattle.std.specs.Fmt.{decimal}
use Rattle.std.specs.List.{join_with_byte}
use Rattle.std.specs.Str.{bytes_eq}
use Rattle.std.proofs.lemmas.Bool.{and_parts}
use Rattle.std.proofs.lemmas.List.Elements.{All-head, All-tail, All-nil, All-cons}
use Rattle.std.proofs.lemmas.List.Splits.{slice_split_at, slice_split_none, join_with_byte-slice_split}
use Rattle.vw_text.specs.Number.{spelled_number}
use Rattle.vw_plantext.specs.Grammar.{numbers_text, number_line}
use Rattle.vw_plantext.specs.Steps.Words.{words_between_spaces, with_next_number, numbers_of, numbers_behind, line_numbers}
use Rattle.vw_text.proofs.DecimalDigits.{decimal_without}
use Rattle.vw_text.proofs.Decimals.{number_of-decimal, IsDecimal, decimal-number_of}

-- a word has no space
abbrev pub HasNoSpace : List ℕ → Type 0
HasNoSpace word = All (λ b. (b == 32) ≡ false) word

-- numbers have no more than 64 bits
abbrev pub AreSmall : List ℕ → Type 0
AreSmall numbers = All (λ number. number < 2 ^ 64) numbers

-- a word and numbers are cut into the word and their digits
words_of-number_line : (word : List ℕ) (numbers : List ℕ) → HasNoSpace word → AreSmall numbers → words_between_spaces (word ++ numbers_text numbers) ≡ word ∷ map decimal numbers
words_of-number_line word [] plain small = ap words_between_spaces (append-nil word) ∙ slice_split_none (λ b. b == 32) word plain
words_of-number_line word (number ∷ numbers) plain small =
    let rest : AreSmall numbers = All-tail (λ n. n < 2 ^ 64) number numbers small in
    slice_split_at (λ b. b == 32) word 32 (decimal number ++ numbers_text numbers) plain refl ∙ ap (λ (words : List (List ℕ)). word ∷ words) (words_of-number_line (decimal number) numbers (decimal_without 32 (omega arith) number) rest)

-- the digits are read back
numbers_of-decimals : (numbers : List ℕ) → AreSmall numbers → numbers_of (map decimal numbers) ≡ Some numbers
numbers_of-decimals [] small = refl
numbers_of-decimals (number ∷ numbers) small =
    let here : spelled_number (decimal number) ≡ Some number = number_of-decimal number (All-head (λ n. n < 2 ^ 64) number numbers small) in
    let rest : numbers_of (map decimal numbers) ≡ Some numbers = numbers_of-decimals numbers (All-tail (λ n. n < 2 ^ 64) number numbers small) in
    ap₂ with_next_number here rest

-- so a line of a word and numbers is read back
pub line_numbers-number_line : (word : List ℕ) (numbers : List ℕ) → HasNoSpace word → bytes_eq word word ≡ true → AreSmall numbers → line_numbers word (number_line word numbers) ≡ Some numbers
line_numbers-number_line word numbers plain same small =
    ap (numbers_behind word) (words_of-number_line word numbers plain small) ∙ ap (λ (is : Bool). if is then numbers_of (map decimal numbers) else None) same ∙ numbers_of-decimals numbers small

-- numbers that words spell are these words
record AreDecimals (words : List (List ℕ)) (numbers : List ℕ) : Type 0 where
  are : words ≡ map decimal numbers
  small : AreSmall numbers

one_more_number : (word : List ℕ) (words : List (List ℕ)) (first : Option ℕ) (rest : Option (List ℕ)) (numbers : List ℕ) → spelled_number word ≡ first → ((more : List ℕ) → rest ≡ Some more → AreDecimals words more) → with_next_number first rest ≡ Some numbers → AreDecimals (word ∷ words) numbers
one_more_number word words None rest numbers is behind found = absurd (cc)
one_more_number word words (Some number) None numbers is behind found = absurd (cc)
one_more_number word words (Some number) (Some more) numbers is behind found =
    let here : IsDecimal word number = decimal-number_of word number is in
    let there : AreDecimals words more = behind more refl in
    let same : number ∷ more ≡ numbers = ap (λ (o : Option (List ℕ)). unwrap_or o []) found in
    let both : word ∷ words ≡ map decimal (number ∷ more) = ap₂ (λ (w : List ℕ) (ws : List (List ℕ)). w ∷ ws) here.is there.are in
    let whole : AreDecimals (word ∷ words) (number ∷ more) = record { are = both; small = All-cons (λ n. n < 2 ^ 64) number more here.small there.small } in
    subst (AreDecimals (word ∷ words)) same whole

decimals_found : (words : List (List ℕ)) (numbers : List ℕ) → numbers_of words ≡ Some numbers → AreDecimals words numbers
decimals_found [] numbers found =
    let none : [] ≡ numbers = ap (λ (o : Option (List ℕ)). unwrap_or o []) found in
    let whole : AreDecimals [] [] = record { are = refl; small = All-nil (λ n. n < 2 ^ 64) } in
    subst (AreDecimals []) none whole
decimals_found (word ∷ words) numbers found = one_more_number word words (spelled_number word) (numbers_of words) numbers refl (decimals_found words) found

-- words joined by spaces
join-decimals : (word : List ℕ) (numbers : List ℕ) → join_with_byte 32 (word ∷ map decimal numbers) ≡ word ++ numbers_text numbers
join-decimals word [] = sym (append-nil word)
join-decimals word (number ∷ numbers) = ap (λ (rest : List ℕ). word ++ (32 ∷ rest)) (join-decimals (decimal number) numbers)

-- a line of which numbers are read behind a word
pub record IsNumberLine (word line numbers : List ℕ) : Type 0 where
  pub is : line ≡ number_line word numbers
  pub small : AreSmall numbers

bytes_same : (one other : List ℕ) → bytes_eq one other ≡ true → one ≡ other
bytes_same [] [] same = refl
bytes_same [] (b ∷ ys) same = absurd (true≢false (sym same))
bytes_same (a ∷ xs) [] same = absurd (true≢false (sym same))
bytes_same (a ∷ xs) (b ∷ ys) same =
    let parts : ((a == b) ≡ true) × (bytes_eq xs ys ≡ true) = and_parts (a == b) (bytes_eq xs ys) same in
    ap₂ (λ (first : ℕ) (rest : List ℕ). first ∷ rest) (eqb-true a b parts.0) (bytes_same xs ys parts.1)

behind_word : (word : List ℕ) (words : List (List ℕ)) (numbers : List ℕ) → numbers_behind word words ≡ Some numbers → IsNumberLine word (join_with_byte 32 words) numbers
behind_word word [] numbers found = absurd (cc)
behind_word word (first ∷ words) numbers found = by_test (bytes_eq first word) refl found where
  by_test : (test : Bool) → bytes_eq first word ≡ test → (if test then numbers_of words else None) ≡ Some numbers → IsNumberLine word (join_with_byte 32 (first ∷ words)) numbers
  by_test false is there = absurd (cc)
  by_test true is there =
      let decimals : AreDecimals words numbers = decimals_found words numbers there in
      let same : first ≡ word = bytes_same first word is in
      record { is = ap₂ (λ (w : List ℕ) (ws : List (List ℕ)). join_with_byte 32 (w ∷ ws)) same decimals.are ∙ join-decimals word numbers; small = decimals.small }

pub line_numbers-Some : (word line numbers : List ℕ) → line_numbers word line ≡ Some numbers → IsNumberLine word line numbers
line_numbers-Some word line numbers found = subst (λ (bytes : List ℕ). IsNumberLine word bytes numbers) (join_with_byte-slice_split 32 line) (behind_word word (words_between_spaces line) numbers found)

-- two lines of one word that are the same have the same numbers
pub number_line_injective : (word one other : List ℕ) → HasNoSpace word → bytes_eq word word ≡ true → AreSmall one → AreSmall other → number_line word one ≡ number_line word other → one ≡ other
number_line_injective word one other plain same small small' lines =
    ap (λ (o : Option (List ℕ)). unwrap_or o []) (sym (line_numbers-number_line word one plain same small) ∙ ap (line_numbers word) lines ∙ line_numbers-number_line word other plain same small')
