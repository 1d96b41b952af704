-- Texts in memory under their names.
use Rattle.std.specs.Prelude.{ℕ, List, [], ◌∷◌, if◌then◌else◌}
use Rattle.std.specs.Str.{bytes_eq}
use Rattle.vw_outside.specs.declared.held.Held.{Held}
use Rattle.vw_outside.specs.Told.{Told, absent, held}
use Rattle.vw_outside.specs.Reads.{SeenShelf}

-- what is told of a name: its first text, or that there is none
abbrev pub told_in : List Held → List ℕ → Told
told_in [] name = absent
told_in (file ∷ files) name = if bytes_eq file.name name then held file.bytes.items else told_in files name

-- the faults counted at a name: those of its first text, or those of all names without a text
abbrev pub faults_in : List Held → ℕ → List ℕ → ℕ
faults_in [] others name = others
faults_in (file ∷ files) others name = if bytes_eq file.name name then file.faults else faults_in files others name

-- what is seen of a shelf with these texts, and with this count for all names without a text
abbrev pub seen_files : List Held → ℕ → SeenShelf
seen_files files others = record { told = told_in files; faults = faults_in files others }
