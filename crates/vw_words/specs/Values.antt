-- The values of settings among words. Source: this project.
use Rattle.std.specs.Prelude.{ℕ, Bool, List, codes, Option, unwrap_or, slice_get}
use Rattle.std.specs.List.{filter_map}
use Rattle.std.specs.Option.{option_map_or}
use Rattle.std.specs.Str.{bytes_eq}
use Rattle.vw_text.specs.Number.{spelled_number}
use Rattle.vw_words.specs.Forms.{Setting, given}

-- all values that words give a setting, in order
abbrev pub names_given : Setting → List (List ℕ) → List (List ℕ)
names_given setting words = filter_map (given setting) words

-- the first of them, if there is one
abbrev pub name_given : Setting → List (List ℕ) → Option (List ℕ)
name_given setting words = slice_get (names_given setting words) 0

-- it as a bit, or the default
abbrev pub bit_given : Setting → Bool → List (List ℕ) → Bool
bit_given setting default words = option_map_or (λ value. bytes_eq value (codes "1")) (name_given setting words) default

-- the number that a word spells, or 0
abbrev pub number_or_zero : List ℕ → ℕ
number_or_zero word = unwrap_or (spelled_number word) 0

-- it as a number, or the default
abbrev pub number_given : Setting → ℕ → List (List ℕ) → ℕ
number_given setting default words = option_map_or number_or_zero (name_given setting words) default
