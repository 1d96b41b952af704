-- the words so far are new and were added
use Rattle.std.proofs.Common.{◌≡◌, false, List, ◌++◌, take}
use Rattle.vw_design.specs.Paths.{Word}
use Rattle.vw_blif.specs.Bindings.{repeats}
use Rattle.vw_blif.specs.Steps.KeptWords.{Knows}
use Rattle.vw_blif.proofs.kept_words.keep_all.Given as goal

abbrev pub invariant-loop-name : goal.invariant-loop-name
invariant-loop-name l = (before : List Word) → Knows before l.fn.words.words
    → (repeats before (take l.name-index l.names) ≡ false) × Knows (before ++ take l.name-index l.names) l.words.words
