-- Pins of chips. Source: this project.
use Rattle.std.specs.Prelude.{◌≡◌, ◌<◌, ◌≤◌, ◌==◌, ℕ, ◌||◌, List, sum_by, if◌then◌else◌}
use Rattle.vw_plan.specs.declared.link.Link.{Link}

-- the pins that a chip uses: the widths of all links that leave it or reach it
abbrev pub used_pins : List Link → ℕ → ℕ
used_pins links chip = sum_by (λ link. if link.from == chip || link.to == chip then link.width else 0) links

-- no chip uses more pins than it has; the host may
abbrev pub AreEnoughPins : ℕ → ℕ → List Link → Type 0
AreEnoughPins chips pins links = (chip : ℕ) → 1 ≤ chip → chip ≤ chips → used_pins links chip ≤ pins

-- the least chip that uses more pins than it has, with both numbers
pub record IsFirstOver (chips pins : ℕ) (links : List Link) (chip used limit : ℕ) : Type 0 where
  pub some : 1 ≤ chip
  pub few : chip ≤ chips
  pub uses : used ≡ used_pins links chip
  pub has : limit ≡ pins
  pub over : pins < used
  pub first : (other : ℕ) → 1 ≤ other → other < chip → used_pins links other ≤ pins
