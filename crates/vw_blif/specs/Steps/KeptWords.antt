-- Which words a set has, and which words were added to it.
use Rattle.std.specs.Prelude.{◌≡◌, ℕ, Bool, true, not, List, ◌++◌}
use Rattle.std.specs.HashMap as hash
use Rattle.std.specs.Borrow.{Bor}
use Rattle.vw_design.specs.Distinct.{has_name}
use Rattle.vw_design.specs.Paths.{Word}
use Rattle.vw_design.specs.WordSets.{has_word}
use Rattle.vw_blif.specs.Bindings.{repeats}

-- the words of the set are these
abbrev pub Knows : {X S : Type 0} → List Word → hash.HashMap (Bor (List ℕ)) X S → Type 0
Knows names words = (word : Word) → has_word words word ≡ has_name names word

-- words were added, and the answer says whether each was new
abbrev pub InsertsAll : {X S : Type 0} → hash.HashMap (Bor (List ℕ)) X S → List Word → hash.HashMap (Bor (List ℕ)) X S → Bool → Type 0
InsertsAll old words new all_new = (before : List Word) → Knows before old
    → (all_new ≡ not (repeats before words)) × (all_new ≡ true → Knows (before ++ words) new)
