-- Words of a line.
use Rattle.std.specs.Prelude.{Bool, false, ◌==◌, List, [], ◌∷◌}
use Rattle.vw_design.specs.Paths.{Word}

-- the first word; no byte where there is none
abbrev pub first_word : List Word → Word
first_word [] = []
first_word (word ∷ words) = word

-- the words behind the first
abbrev pub further_words : List Word → List Word
further_words [] = []
further_words (word ∷ words) = words

-- the last word; no byte where there is none
abbrev pub last_word : List Word → Word
last_word [] = []
last_word (word ∷ []) = word
last_word (word ∷ next ∷ words) = last_word (next ∷ words)

-- the words before the last
abbrev pub front_words : List Word → List Word
front_words [] = []
front_words (word ∷ []) = []
front_words (word ∷ next ∷ words) = word ∷ front_words (next ∷ words)

-- whether a word begins with a point
abbrev pub begins_with_point : Word → Bool
begins_with_point [] = false
begins_with_point (b ∷ bs) = b == 46
