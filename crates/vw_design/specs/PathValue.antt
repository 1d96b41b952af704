-- The value of a net of a design, from its driver alone, with nothing kept and no number of an instance or a net.
use Rattle.std.specs.Prelude.{ℕ, zero, suc, ◌+◌, ◌==◌, Bool, false, ◌&&◌, List, length, map, slice_get, slice_index_or, Option, Some, None}
use Rattle.std.specs.Str.{bytes_eq}
use Rattle.vw_net.specs.Cover.{cover_value}
use Rattle.vw_design.specs.declared.item.Item.{Item}
use Rattle.vw_design.specs.declared.item.Item.TheVariants.{Names, Latch, Sub}
use Rattle.vw_design.specs.declared.design.Design.{Design}
use Rattle.vw_net.specs.FirstFound.{first_place}
use Rattle.vw_design.specs.Paths.{Word, Path, model_at, items_of}
use Rattle.vw_design.specs.Drivers.{Source, at_port, at_cell, driver}
use Rattle.vw_design.specs.Preorder.{Site, cells, latches}
use Rattle.vw_design.specs.Clocks.{columns}

-- the item with this number in an instance
abbrev pub item_at : Design → Path → ℕ → Option Item
item_at design path number = slice_get (items_of (model_at design path)) number

-- the place of a name among names, of a path among paths, and of an item of an instance among sites
abbrev pub place_of_name : List Word → Word → Option ℕ
place_of_name names name = first_place (λ other. bytes_eq other name) names

abbrev pub place_of_path : List Path → Path → Option ℕ
place_of_path paths path = first_place (λ other. bytes_eq other path) paths

-- whether a site is the one of this number at this instance
abbrev pub is_site_of : Path → ℕ → Site → Bool
is_site_of path number site = bytes_eq site.path path && site.number == number

-- the place of a site among some, by its instance and number
abbrev pub place_of_site : List Site → Path → ℕ → Option ℕ
place_of_site list path number = first_place (is_site_of path number) list

-- the bit at a place that was found, 0 where none was
abbrev pub bit_at : List Bool → Option ℕ → Bool
bit_at bits None = false
bit_at bits (Some place) = slice_index_or bits place false

-- what an item gives its net: a gate its table's value of what it reads, a latch its bit of the state
abbrev pub item_value : Design → List Bool → (Path → Word → Bool) → Path → ℕ → Option Item → Bool
item_value design state value path number None = false
item_value design state value path number (Some (Names line ins out cover)) = cover_value cover (map (value path) ins)
item_value design state value path number (Some (Latch line d q edge control init)) = bit_at state (place_of_site (latches design) path number)
item_value design state value path number (Some (Sub line model binds)) = false

-- what a driver gives its net: a root port its column's bit of the row, 0 where it is a clock; 0 where there is none
abbrev pub source_value : Design → List Bool → List Bool → (Path → Word → Bool) → Option Source → Bool
source_value design row state value None = false
source_value design row state value (Some (at_port name)) = bit_at row (place_of_name (columns design) name)
source_value design row state value (Some (at_cell path number)) = item_value design state value path number (item_at design path number)

-- the value of a net under a row and a state, where at most this many drivers are followed in a row
abbrev pub path_level : ℕ → Design → List Bool → List Bool → Path → Word → Bool
path_level zero design row state path name = false
path_level (suc level) design row state path name = source_value design row state (path_level level design row state) (driver design path name)

-- the value of a net: one level more than there are cells is enough wherever gates don't read in a circle
unfoldable pub path_value : Design → List Bool → List Bool → Path → Word → Bool
path_value design row state path name = path_level (length (cells design) + 1) design row state path name
