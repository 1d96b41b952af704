-- Numbers of nets, by drivers and by cells.
use Rattle.std.specs.Prelude.{◌≡◌, ◌<◌, ◌+◌, ◌^◌, ℕ, List, [], map, length, Option, Some, None, option_map}
use Rattle.vw_net.specs.declared.cell.Cell.{Cell}
use Rattle.vw_design.specs.declared.item.Item.{Item}
use Rattle.vw_design.specs.declared.design.Design.{Design}
use Rattle.vw_design.specs.Preorder.{Site, cells}
use Rattle.vw_design.specs.NetReads.{data_of}
use Rattle.vw_design.specs.Clocks.{columns}
use Rattle.vw_design.specs.Flattened.{number_of, IsCellOf}
use Rattle.vw_elab.specs.declared.driver.Driver.{Driver}
use Rattle.vw_elab.specs.declared.driver.Driver.TheVariants as drivers

-- the number of the net of a driver, where there are so many columns
abbrev pub number_by : ℕ → Option Driver → Option ℕ
number_by count None = None
number_by count (Some (drivers.Column column)) = Some column
number_by count (Some drivers.Clock) = None
number_by count (Some (drivers.Cell cell)) = Some (count + cell)

-- a number, where there is one, has 32 bits
abbrev pub Has32Bits : Option ℕ → Type 0
Has32Bits None = Unit {0}
Has32Bits (Some number) = number < 2 ^ 32

-- a driver has a number
pub record HasNumber (count : ℕ) (driver : Option Driver) : Type 0 where
  pub number : ℕ
  pub is : number_by count driver ≡ Some number
  pub fits : number < 2 ^ 32

-- how many nets the netlist has
abbrev pub net_count : Design → ℕ
net_count design = length (columns design) + length (cells design)

-- the item of a site, and the numbers of what it reads as data
abbrev pub item_with_numbers : Option Site → Option Item
item_with_numbers site = option_map (λ s. s.item) site

abbrev pub numbers_at : Design → Option Site → List (Option ℕ)
numbers_at design None = []
numbers_at design (Some site) = map (number_of design site.path) (data_of site.item)

-- a cell is that of a site
abbrev pub IsCellAt : Design → Option Site → Cell → Type 0
IsCellAt design None cell = ⊥
IsCellAt design (Some site) cell = IsCellOf design site.path site.item cell
