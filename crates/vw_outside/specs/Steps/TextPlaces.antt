-- How a text in memory is found.
use Rattle.std.specs.Prelude.{ℕ, ◌+◌, List, [], ◌∷◌, if◌then◌else◌, Option, Some, None, option_map}
use Rattle.std.specs.Str.{bytes_eq}
use Rattle.vw_outside.specs.declared.held.Held.{Held}

-- the place of the first text of a name
abbrev pub text_place : List Held → List ℕ → Option ℕ
text_place [] name = None
text_place (file ∷ files) name =
    if bytes_eq file.name name then Some 0 else option_map (λ place. place + 1) (text_place files name)
