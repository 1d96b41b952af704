-- The nets that a command watches, of which the last may be a trigger.
use Rattle.std.specs.Prelude.{ℕ, ◌-◌, Bool, true, false, List, length, take}
use Rattle.vw_design.specs.Paths.{Word}

-- how many triggers there are
abbrev pub triggers : Bool → ℕ
triggers false = 0
triggers true = 1

-- the words of those that are shown: all but the trigger
abbrev pub shown_words : Bool → List Word → List Word
shown_words false words = words
shown_words true words = take (length words - 1) words
