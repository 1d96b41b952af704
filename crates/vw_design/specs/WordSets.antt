-- Which words stand in a set.
use Rattle.std.specs.Prelude.{ℕ, Bool, List, is_some}
use Rattle.std.specs.Str.{bytes_eq}
use Rattle.std.specs.HashMap as hash
use Rattle.std.specs.Borrow.{Bor}
use Rattle.vw_design.specs.Paths.{Word}

abbrev pub has_word : {X S : Type 0} → hash.HashMap (Bor (List ℕ)) X S → Word → Bool
has_word words word = is_some (hash.get_by (λ key. bytes_eq word key.now) words)
