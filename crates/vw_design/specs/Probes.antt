-- Probes: nets inside a design whose values are shown besides its outputs. A probe is a word, and finds a net by the way in
-- which it is printed. Source: this project.
use Rattle.std.specs.Prelude.{◌≡◌, ◌≤◌, Bool, true, false, List, ◌∷◌, ◌++◌, length, Option, Some, None}
use Rattle.std.specs.List.{AllZip}
use Rattle.vw_design.specs.declared.design.Design.{Design}
use Rattle.vw_design.specs.Distinct.{has_name}
use Rattle.vw_design.specs.Paths.{Word, Net, printed}
use Rattle.vw_design.specs.Drivers.{Source, at_port, at_cell, driver}
use Rattle.vw_design.specs.NetReads.{root_outputs}
use Rattle.vw_design.specs.Clocks.{columns}

-- whether a net with this driver has a bit at each clock: it is driven by a column, a gate or a latch. A clock port and a
-- missing driver give none
abbrev pub has_bit : Design → Option Source → Bool
has_bit design None = false
has_bit design (Some (at_port name)) = has_name (columns design) name
has_bit design (Some (at_cell path item)) = true

-- a net has a bit and is printed as this word
pub record IsPrintedAs (design : Design) (probe : Word) (net : Net) : Type 0 where
  pub is : printed net ≡ probe
  pub bit : has_bit design (driver design net.path net.name) ≡ true

-- a probe finds the net that has a bit and is printed as its word; among several, the one with the shortest path
pub record Finds (design : Design) (probe : Word) (net : Net) : Type 0 where
  pub printed_as : IsPrintedAs design probe net
  pub shortest : (other : Net) → IsPrintedAs design probe other → length net.path ≤ length other.path

-- a probe finds no net
abbrev pub FindsNone : Design → Word → Type 0
FindsNone design probe = (net : Net) → IsPrintedAs design probe net → ⊥

-- each probe finds its net
abbrev pub FindAll : Design → List Word → List Net → Type 0
FindAll design probes nets = AllZip (Finds design) probes nets

-- the first of some probes that finds no net
pub record IsFirstWithoutNet (design : Design) (probes : List Word) (probe : Word) : Type 0 where
  pub before : List Word
  pub behind : List Word
  pub split : probes ≡ before ++ probe ∷ behind
  pub nets : List Net
  pub found : FindAll design before nets
  pub none : FindsNone design probe

-- the nets that are shown at each clock: the outputs of the root, and behind them nets that are watched
abbrev pub shown_nets : Design → List Net → List Net
shown_nets design watched = root_outputs design ++ watched
