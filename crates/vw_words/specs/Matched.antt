-- Words against forms: which form they have, or the first wrong word. Source: this project.
use Rattle.std.specs.Prelude.{ℕ, zero, suc, max, Bool, ◌&&◌, List, [], ◌∷◌, ◌++◌, length, if◌then◌else◌, nat_le, nat_lt, ◌==◌, ◌+◌, count_by}
use Rattle.std.specs.List.{list_any}
use Rattle.vw_words.specs.Forms.{Place, suits, Setting, gives, Form}

-- whether a word gives a setting that may be given once more behind the words before it
abbrev pub is_setting : List Setting → List (List ℕ) → List ℕ → Bool
is_setting settings before word = list_any (λ setting. gives setting word && nat_lt (count_by (gives setting) before) setting.times) settings

-- how many words, from the first, give settings, each so often at most as it may
abbrev pub matched_settings : List Setting → List (List ℕ) → List (List ℕ) → ℕ
matched_settings settings before [] = zero
matched_settings settings before (word ∷ words) =
    if is_setting settings before word then suc (matched_settings settings (before ++ word ∷ []) words) else zero

-- how many words, from the first, are as a form has them
abbrev pub matched : List Place → List Setting → List (List ℕ) → ℕ
matched [] settings words = matched_settings settings [] words
matched (place ∷ places) settings [] = zero
matched (place ∷ places) settings (word ∷ words) = if suits place word then suc (matched places settings words) else zero

-- how many words match a form, from the first on
abbrev pub matched_by : Form → List (List ℕ) → ℕ
matched_by form words = matched form.places form.settings words

-- whether words have a form: all places, and settings behind them
abbrev pub has_form : List (List ℕ) → Form → Bool
has_form words form = matched_by form words == length words && nat_le (length form.places) (length words)

-- how many words, from the first, are as some form has them
abbrev pub furthest : List Form → List (List ℕ) → ℕ
furthest [] words = zero
furthest (form ∷ forms) words = max (matched_by form words) (furthest forms words)

-- the place, from 1, of the first word that no form has there
abbrev pub first_wrong : List Form → List (List ℕ) → ℕ
first_wrong forms words = furthest forms words + 1
