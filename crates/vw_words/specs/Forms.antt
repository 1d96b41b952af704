-- The forms of commands: places, and settings that stand behind them. Source: this project.
use Rattle.std.specs.Prelude.{ℕ, Bool, false, not, ◌&&◌, ◌||◌, List, length, take, drop, codes, if◌then◌else◌, nat_le, ◌==◌, Option, Some, None, is_some, option_and_then, unwrap_or}
use Rattle.std.specs.List.{before_first, after_first}
use Rattle.std.specs.Option.{option_map_or}
use Rattle.std.specs.Str.{bytes_eq}
use Rattle.vw_text.specs.Number.{spelled_number}

-- the bytes of a word, or of what it gives a setting: `0` or `1`; a name, which has at least one byte; a number in a range;
-- a share of several, with so many shares at most
pub data Value : Type 0 where
  bit : Value
  name : Value
  number : (least most : ℕ) → Value
  part : (most : ℕ) → Value

-- what stands before the first slash of a text; where there is none, all
abbrev pub before_slash : List ℕ → List ℕ
before_slash text = before_first (λ b. b == 47) text

-- what stands behind it; where there is none, nothing
abbrev pub behind_slash : List ℕ → List ℕ
behind_slash text = after_first (λ b. b == 47) text

-- the number of a share that a text spells, or 0 where it spells none
abbrev pub part_number : List ℕ → ℕ
part_number text = unwrap_or (spelled_number (before_slash text)) 0

-- how many shares it spells, or 0
abbrev pub part_count : List ℕ → ℕ
part_count text = unwrap_or (spelled_number (behind_slash text)) 0

-- whether a text is a value of this kind
abbrev pub is_value_of : Value → List ℕ → Bool
is_value_of bit text = bytes_eq text (codes "0") || bytes_eq text (codes "1")
is_value_of name text = not (length text == 0)
is_value_of (number least most) text = option_map_or (λ n. nat_le least n && nat_le n most) (spelled_number text) false
is_value_of (part most) text = nat_le 1 (part_number text) && (nat_le (part_number text) (part_count text) && nat_le (part_count text) most)

-- what a form has in one place: this very word, or any word with such bytes
pub data Place : Type 0 where
  keyword : List ℕ → Place
  any : Value → Place

-- whether a word suits a place
abbrev pub suits : Place → List ℕ → Bool
suits (keyword wanted) word = bytes_eq word wanted
suits (any value) word = is_value_of value word

-- a setting: its name, the bytes of its value, and how many words may give it
pub record Setting : Type 0 where
  pub name : List ℕ
  pub value : Value
  pub times : ℕ

-- what stands behind a front of a word
abbrev pub behind_front : List ℕ → List ℕ → Option (List ℕ)
behind_front front word = if bytes_eq (take (length front) word) front then Some (drop (length front) word) else None

-- the value that a word gives a setting, behind its name and `=`
abbrev pub given : Setting → List ℕ → Option (List ℕ)
given setting word =
    option_and_then (λ text. if is_value_of setting.value text then Some text else None) (option_and_then (behind_front (codes "=")) (behind_front setting.name word))

-- whether a word gives a setting a value
abbrev pub gives : Setting → List ℕ → Bool
gives setting word = is_some (given setting word)

-- the places of a command, and its settings
pub record Form : Type 0 where
  pub places : List Place
  pub settings : List Setting
