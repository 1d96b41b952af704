-- The words of a latch. Source: the Berkeley description of BLIF; which word is which by their number alone is this
-- project's choice.
use Rattle.std.specs.Prelude.{ℕ, Bool, true, false, ◌||◌, not, List, [], ◌∷◌, Option, Some, None, codes, if◌then◌else◌}
use Rattle.std.specs.Str.{bytes_eq}
use Rattle.vw_net.specs.declared.cell.Init.{Init}
use Rattle.vw_net.specs.declared.cell.Init.TheVariants.{Zero, One, Free}
use Rattle.vw_design.specs.declared.item.Edge.{Edge}
use Rattle.vw_design.specs.declared.item.Edge.TheVariants.{Rise, Fall, Unsaid}
use Rattle.vw_design.specs.Paths.{Word}
use Rattle.vw_blif.specs.Spelled.{SpelledItem, latch}

-- what is written behind the input and the output of a latch
pub record Written : Type 0 where
  pub type_ : Option Word
  pub control : Option Word
  pub init : Option Word

-- what is written of a latch, by the number of words behind its two nets
abbrev pub written_of : List Word → Written
written_of [] = record { type_ = None; control = None; init = None }
written_of (init ∷ []) = record { type_ = None; control = None; init = Some init }
written_of (type_ ∷ control ∷ []) = record { type_ = Some type_; control = Some control; init = None }
written_of (type_ ∷ control ∷ init ∷ words) = record { type_ = Some type_; control = Some control; init = Some init }

-- whether a type is one that a latch has here: none, a rising or a falling edge
abbrev pub is_type : Option Word → Bool
is_type None = true
is_type (Some word) = bytes_eq word (codes "re") || bytes_eq word (codes "fe")

-- whether an initial value is one of the four, or none
abbrev pub is_init : Option Word → Bool
is_init None = true
is_init (Some word) =
    bytes_eq word (codes "0") || (bytes_eq word (codes "1") || (bytes_eq word (codes "2") || bytes_eq word (codes "3")))

-- the edge of a type that is rising, falling or none
abbrev pub edge_of : Option Word → Edge
edge_of None = Unsaid
edge_of (Some word) = if bytes_eq word (codes "re") then Rise else Fall

-- `NIL` in the place of the control is none
abbrev pub control_of : Option Word → Option Word
control_of None = None
control_of (Some word) = if bytes_eq word (codes "NIL") then None else Some word

-- 2, don't care, and 3, unknown, are free, and so is what isn't written
abbrev pub init_of : Option Word → Init
init_of None = Free
init_of (Some word) = if bytes_eq word (codes "0") then Zero else if bytes_eq word (codes "1") then One else Free

-- whether the words behind the keyword have a type that can't stand there
abbrev pub has_bad_type : List Word → Bool
has_bad_type [] = false
has_bad_type (d ∷ []) = false
has_bad_type (d ∷ q ∷ words) = not (is_type ((written_of words).type_))

-- whether the words behind the keyword have an initial value that can't stand there
abbrev pub has_bad_init : List Word → Bool
has_bad_init [] = false
has_bad_init (d ∷ []) = false
has_bad_init (d ∷ q ∷ words) = not (is_init ((written_of words).init))

-- the latch of the words behind the keyword, of which there are at least two
abbrev pub latch_of : ℕ → List Word → SpelledItem
latch_of line [] = latch line [] [] Unsaid None Free
latch_of line (d ∷ []) = latch line d [] Unsaid None Free
latch_of line (d ∷ q ∷ words) =
    latch line d q (edge_of ((written_of words).type_)) (control_of ((written_of words).control)) (init_of ((written_of words).init))
