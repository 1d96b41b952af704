-- Each place of a command has a word that suits it, so the first wrong word stands behind the longest front of some command's.
use Rattle.std.proofs.Common.{◌≡◌, ℕ, Bool, true, List, [], ◌∷◌, refl}
use Rattle.std.specs.Prelude.{IsTrue, codes}
use Rattle.std.specs.List.{All, list_all}
use Rattle.std.proofs.lemmas.Bool.{and_parts}
use Rattle.std.proofs.lemmas.List.Elements.{All-cons, All-nil}
use Rattle.vw_words.specs.Forms.{Place, keyword, any, bit, name, number, part, suits, Form}
use Rattle.vw_words.specs.FirstWrong.{CanBeGiven}
use Rattle.vw_courses.specs.Words.{command_forms}

-- a word for a place
abbrev sample : Place → List ℕ
sample (keyword word) = word
sample (any bit) = codes "0"
sample (any name) = codes "x"
sample (any (number least most)) = codes "1"
sample (any (part most)) = codes "1/1"

abbrev suited : Place → Bool
suited place = suits place (sample place)

abbrev all_suited : Form → Bool
all_suited form = list_all suited form.places

abbrev CanStand : Place → Type 0
CanStand place = (word : List ℕ) × IsTrue (suits place word)

all_stand : (places : List Place) → list_all suited places ≡ true → All CanStand places
all_stand [] all = All-nil CanStand
all_stand (place ∷ places) all =
    let parts = and_parts (suited place) (list_all suited places) all in
    All-cons CanStand place places (sample place, parts.0) (all_stand places parts.1)

all_given : (forms : List Form) → list_all all_suited forms ≡ true → All CanBeGiven forms
all_given [] all = All-nil CanBeGiven
all_given (form ∷ forms) all =
    let parts = and_parts (all_suited form) (list_all all_suited forms) all in
    All-cons CanBeGiven form forms (all_stand form.places parts.0) (all_given forms parts.1)

pub commands_can_be_given : All CanBeGiven command_forms
commands_can_be_given = all_given command_forms refl
