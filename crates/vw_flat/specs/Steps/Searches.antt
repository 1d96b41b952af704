-- The search for the net of a probe, along its path from the root.
use Rattle.std.specs.Prelude.{◌≡◌, ◌<◌, ◌≤◌, ◌+◌, ◌^◌, ℕ, true, List, ◌∷◌, ◌++◌, codes, reverse, length, flat_map, Option, Some, None}
use Rattle.std.specs.Fmt.{decimal}
use Rattle.vw_design.specs.declared.design.Design.{Design}
use Rattle.vw_design.specs.Paths.{Word, Path, Net}
use Rattle.vw_design.specs.Drivers.{driver}
use Rattle.vw_design.specs.Probes.{has_bit, Finds, FindsNone}
use Rattle.vw_design.specs.Flattened.{number_of}
use Rattle.vw_flat.specs.Steps.Numbers.{net_count}

-- how a net below an instance is printed from there on: by its places, the first one first, and its name
abbrev pub printed_below : List ℕ → Word → List ℕ
printed_below places name = flat_map (λ place. decimal place ++ codes "/") places ++ name

-- its path
abbrev pub path_below : Path → List ℕ → Path
path_below path places = reverse places ++ path

-- it has a bit
abbrev pub HasBitBelow : Design → Path → List ℕ → Word → Type 0
HasBitBelow design path places name = has_bit design (driver design (path_below path places) name) ≡ true

-- the first net below an instance that has a bit and is printed like this has the number; or there is no such net
pub record FindsBelow (design : Design) (path : Path) (word : Word) (number : ℕ) : Type 0 where
  pub places : List ℕ
  pub name : Word
  pub prints : printed_below places name ≡ word
  pub is : number_of design (path_below path places) name ≡ Some number
  pub fits : number < net_count design
  pub first : (others : List ℕ) (other : Word) → printed_below others other ≡ word → HasBitBelow design path others other
      → length places ≤ length others

abbrev pub FindsNoneBelow : Design → Path → Word → Type 0
FindsNoneBelow design path word =
    (places : List ℕ) (name : Word) → printed_below places name ≡ word → HasBitBelow design path places name → ⊥

abbrev pub IsFoundBelow : Design → Path → Word → Option ℕ → Type 0
IsFoundBelow design path word None = FindsNoneBelow design path word
IsFoundBelow design path word (Some number) = FindsBelow design path word number

-- the net of a probe has the number; or it finds none
pub record HasNumberOf (design : Design) (probe : Word) (number : ℕ) : Type 0 where
  pub net : Net
  pub finds : Finds design probe net
  pub is : number_of design net.path net.name ≡ Some number
  pub fits : number < net_count design

abbrev pub IsNumberOf : Design → Word → Option ℕ → Type 0
IsNumberOf design probe None = FindsNone design probe
IsNumberOf design probe (Some number) = HasNumberOf design probe number

-- a place stands at the front of a word, below 2 ^ 32
pub record BeginsWithPlace (word : List ℕ) (place : ℕ) (rest : List ℕ) : Type 0 where
  pub split : word ≡ decimal place ++ 47 ∷ rest
  pub fits : place < 2 ^ 32

abbrev pub BeginsWithNone : List ℕ → Type 0
BeginsWithNone word = (place : ℕ) (rest : List ℕ) → BeginsWithPlace word place rest → ⊥
