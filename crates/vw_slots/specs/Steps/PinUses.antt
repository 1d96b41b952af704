-- What is kept of the links' microcycles. Source: this project.
use Rattle.std.specs.Prelude.{◌≤◌, ◌<◌, ◌+◌, ◌==◌, ◌&&◌, ℕ, Bool, List, slice_index, Option, Some, None}
use Rattle.std.specs.declared.hash.DefaultHasher.{DefaultHasher}
use Rattle.std.specs.declared.hash.BuildHasherDefault.{BuildHasherDefault}
use Rattle.std.specs.List.{All}
use Rattle.std.specs.HashMap.{HashMap, get}
use Rattle.vw_slots.specs.declared.pin_use.PinUse.{PinUse}

abbrev pub PinUses : Type 0
PinUses = HashMap (ℕ × ℕ) PinUse (BuildHasherDefault DefaultHasher)

-- whether two keys have the same link and microcycle
abbrev pub is_same : ℕ × ℕ → ℕ × ℕ → Bool
is_same one other = one.0 == other.0 && one.1 == other.1

abbrev pub pin_use_at : PinUses → ℕ → ℕ → Option PinUse
pin_use_at pin_uses link at = get is_same pin_uses (link, at)

abbrev pub used_of : Option PinUse → ℕ
used_of None = 0
used_of (Some pin_use) = pin_use.used

abbrev pub next_microcycle : ℕ → Option PinUse → ℕ
next_microcycle at None = at + 1
next_microcycle at (Some pin_use) = pin_use.next

-- how many pins of a link are taken in a microcycle
abbrev pub used_at : PinUses → ℕ → ℕ → ℕ
used_at pin_uses link at = used_of (pin_use_at pin_uses link at)

-- the later microcycle that is noted; else the next one
abbrev pub next_at : PinUses → ℕ → ℕ → ℕ
next_at pin_uses link at = next_microcycle at (pin_use_at pin_uses link at)

-- a link has 1 to 64 pins
abbrev pub AreWide : List ℕ → Type 0
AreWide widths = All (λ width. (1 ≤ width) × (width ≤ 64)) widths

-- all pins of a link are taken in the microcycles from one on to before another
abbrev pub AreBusy : List ℕ → PinUses → ℕ → ℕ → ℕ → Type 0
AreBusy widths pin_uses link from to = (at : ℕ) → from ≤ at → at < to → slice_index widths link ≤ used_at pin_uses link at

-- the noted microcycles are later, and all between are full
pub record IsChained (widths : List ℕ) (pin_uses : PinUses) : Type 0 where
  pub later : (link at : ℕ) → at < next_at pin_uses link at
  pub busy : (link at : ℕ) → AreBusy widths pin_uses link (at + 1) (next_at pin_uses link at)
