-- The driver of a net, by its first claim. Source: the Berkeley description of BLIF; what a net with two claims has as
-- driver is this project's choice, and such a design is refused.
use Rattle.std.specs.Prelude.{ℕ, zero, suc, List, [], ◌∷◌, Option, Some, None, option_map, option_and_then, find}
use Rattle.std.specs.Str.{bytes_eq}
use Rattle.vw_design.specs.declared.item.Bind.{Bind}
use Rattle.vw_design.specs.declared.design.Design.{Design}
use Rattle.vw_design.specs.Paths.{Word, Path, placing_at, model_at}
use Rattle.vw_design.specs.Claims.{Claim, port, driven, bound, first_claim}

-- what drives a net: a port of the root, or the gate or latch with this number among the items of an instance
pub data Source : Type 0 where
  at_port : (name : Word) → Source
  at_cell : (path : Path) (item : ℕ) → Source

-- the first claim ends the search, with a driver or with none, or leads to another net
pub data Turn : Type 0 where
  ends : (found : Option Source) → Turn
  goes_on : (path : Path) (name : Word) → Turn

-- the actual that is bound to a formal
abbrev pub actual_among : List Bind → Word → Option Word
actual_among binds formal = option_map (λ bind. bind.actual) (find (λ bind. bytes_eq bind.formal formal) binds)

-- the same for what is placed at a place of an instance
abbrev pub actual_of : Design → ℕ → Path → Word → Option Word
actual_of design place path formal =
    option_and_then (λ model. option_and_then (λ placing. actual_among placing.binds formal) (placing_at model.items place)) (model_at design path)

-- a formal leads to its actual in the instance that places it
abbrev pub turn_up : Path → Option Word → Turn
turn_up path None = ends None
turn_up path (Some actual) = goes_on path actual

-- an item's output has the item as driver; a name that is bound to an output leads to that output, one path deeper; a
-- port of the root is a driver, and a port of a placed model leads to its actual
abbrev pub turn_by : Design → Path → Word → Option Claim → Turn
turn_by design path name None = ends None
turn_by design path name (Some (driven item)) = ends (Some (at_cell path item))
turn_by design path name (Some (bound place formal)) = goes_on (place ∷ path) formal
turn_by design [] name (Some port) = ends (Some (at_port name))
turn_by design (place ∷ path) name (Some port) = turn_up path (actual_of design place path name)

-- the next turn of the search for a driver, from a name at an instance
abbrev pub turn : Design → Path → Word → Turn
turn design path name = turn_by design path name (first_claim design (model_at design path) name)

-- what a turn comes to, where nets are followed in this way
abbrev pub follow_turn : (Path → Word → Option Source) → Turn → Option Source
follow_turn next (ends found) = found
follow_turn next (goes_on path name) = next path name

-- what is found after at most so many turns
abbrev pub source_after : Design → ℕ → Path → Word → Option Source
source_after design zero path name = None
source_after design (suc turns) path name = follow_turn (source_after design turns) (turn design path name)

-- the driver of a net. The way goes up and then down, so that 128 turns are enough at 64 levels
unfoldable pub driver : Design → Path → Word → Option Source
driver design path name = source_after design 128 path name
