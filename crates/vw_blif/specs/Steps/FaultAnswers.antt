-- What a fault that a function answers says of a line.
use Rattle.std.specs.Prelude.{◌≡◌, ℕ, true, false, ◌||◌, List, [], map, Option, Some}
use Rattle.std.specs.List.{list_any}
use Rattle.vw_blif.specs.declared.fault.TextFault.{TextFault}
use Rattle.vw_blif.specs.declared.fault.TextFault.TheVariants.{TooLarge, NoModel, Unsupported, BadWords, BadRow, MixedRows, TooWide, BadLatchType, BadInit, DuplicateModel, DuplicatePort, BadBind, NoMemory}
use Rattle.vw_design.specs.declared.item.Bind.{Bind}
use Rattle.vw_design.specs.Distinct.{are_distinct}
use Rattle.vw_blif.specs.Words.{further_words}
use Rattle.vw_design.specs.Paths.{Word}
use Rattle.vw_blif.specs.Spelled.{spelled_bind}
use Rattle.vw_blif.specs.Bindings.{formal_of, is_no_bind, bind_of, repeats}
use Rattle.vw_blif.specs.Latches.{has_bad_type, has_bad_init}
use Rattle.vw_blif.specs.Read.{is_text_fault}

-- the fault of the line is this one, unless memory ran out
abbrev pub Says : TextFault → Option TextFault → Type 0
Says fault found = is_text_fault fault ≡ true → found ≡ Some fault

-- the first fault of the words of a latch
abbrev pub SaysLatch : ℕ → List Word → TextFault → Type 0
SaysLatch line words TooLarge = ⊥
SaysLatch line words (NoModel at) = ⊥
SaysLatch line words (Unsupported at word) = ⊥
SaysLatch line words (BadWords at) = ⊥
SaysLatch line words (BadRow at) = ⊥
SaysLatch line words (MixedRows at) = ⊥
SaysLatch line words (TooWide at) = ⊥
SaysLatch line words (BadLatchType at) = (at ≡ line) × (has_bad_type words ≡ true)
SaysLatch line words (BadInit at) = (at ≡ line) × (has_bad_type words ≡ false) × (has_bad_init words ≡ true)
SaysLatch line words (DuplicateModel at) = ⊥
SaysLatch line words (DuplicatePort at) = ⊥
SaysLatch line words (BadBind at) = ⊥
SaysLatch line words NoMemory = Unit {0}

-- the bindings that words spell, each formal once
pub record AreBinds (words : List Word) (binds : List Bind) : Type 0 where
  pub spelled : map spelled_bind binds ≡ map bind_of words
  pub formals : map (λ bind. bind.formal) binds ≡ map formal_of words
  pub sides : list_any is_no_bind words ≡ false
  pub once : repeats [] (map formal_of words) ≡ false
  pub distinct : are_distinct (map (λ bind. bind.formal) binds) ≡ true

-- the fault of words that are to be bindings
abbrev pub SaysBind : ℕ → List Word → TextFault → Type 0
SaysBind line words TooLarge = ⊥
SaysBind line words (NoModel at) = ⊥
SaysBind line words (Unsupported at word) = ⊥
SaysBind line words (BadWords at) = ⊥
SaysBind line words (BadRow at) = ⊥
SaysBind line words (MixedRows at) = ⊥
SaysBind line words (TooWide at) = ⊥
SaysBind line words (BadLatchType at) = ⊥
SaysBind line words (BadInit at) = ⊥
SaysBind line words (DuplicateModel at) = ⊥
SaysBind line words (DuplicatePort at) = ⊥
SaysBind line words (BadBind at) = (at ≡ line) × ((list_any is_no_bind words || repeats [] (map formal_of words)) ≡ true)
SaysBind line words NoMemory = Unit {0}

-- the fault of the words of a placed model
abbrev pub SaysPlace : ℕ → List Word → TextFault → Type 0
SaysPlace line words fault = SaysBind line (further_words words) fault
