-- What is looked for among the nets that are read.
use Rattle.std.specs.Prelude.{◌≡◌, ℕ, Bool, true, false, List, ◌++◌, find, flat_map, is_none, slice_get, slice_index_or, Option, Some, None, option_map, []}
use Rattle.std.specs.Option.{option_or}
use Rattle.std.specs.Coded.{Unit-prop}
use Rattle.std.proofs.Props.{props}
use Rattle.vw_design.specs.declared.item.Item.{Item}
use Rattle.vw_design.specs.declared.design.Design.{Design}
use Rattle.vw_design.specs.Distinct.{has_name}
use Rattle.vw_design.specs.Paths.{Word, Path, Net, model_at, model_outputs}
use Rattle.vw_design.specs.Drivers.{Source as PathSource, driver}
use Rattle.vw_design.specs.Preorder.{cells, instances}
use Rattle.vw_design.specs.NetReads.{net_at, nets_at, data_of, controls_of}
use Rattle.vw_design.specs.Clocks.{clock_ports}
use Rattle.vw_design.specs.NetFaults.{is_cell_source, is_clock_source}
use Rattle.vw_drivers.specs.Firsts.{First, number_named}
use Rattle.vw_drivers.specs.declared.source.Source.{Source}
use Rattle.vw_drivers.specs.declared.source.Source.TheVariants.{Port, Cell}
use Rattle.vw_drivers.specs.Tables.{root_firsts, instance_firsts}
use Rattle.vw_net_faults.specs.declared.nets.Nets.{Nets}
use Rattle.vw_net_faults.specs.declared.wanted.Wanted.{Wanted}
use Rattle.vw_net_faults.specs.declared.wanted.Wanted.TheVariants.{Undriven, Gated, ClockPort}
use Rattle.vw_net_faults.specs.Steps.Items.{AreNumbersOf}

-- whether a net with a driver is looked for
abbrev pub wants : Design → Wanted → Option PathSource → Bool
wants design Undriven source = is_none source
wants design Gated source = is_cell_source source
wants design (ClockPort clock_flags) source = is_clock_source design source

-- the same by the driver's number
abbrev pub is_cell_number : Option Source → Bool
is_cell_number None = false
is_cell_number (Some (Port number)) = false
is_cell_number (Some (Cell number)) = true

abbrev pub is_flagged : List Bool → Option Source → Bool
is_flagged clock_flags None = false
is_flagged clock_flags (Some (Port number)) = slice_index_or clock_flags number false
is_flagged clock_flags (Some (Cell number)) = false

abbrev pub takes : Wanted → Option Source → Bool
takes Undriven source = is_none source
takes Gated source = is_cell_number source
takes (ClockPort clock_flags) source = is_flagged clock_flags.now source

-- for each claim of the root, by its number, whether its name is a clock port
abbrev pub AreClockFlags : Design → List First → List Bool → Type 0
AreClockFlags design root clock_flags =
    (name : Word) (number : ℕ) → number_named root name ≡ Some number → slice_get clock_flags number ≡ Some (has_name (clock_ports design) name)

abbrev pub HasFlags : Design → List First → Wanted → Type 0
HasFlags design root Undriven = Unit {0}
HasFlags design root Gated = Unit {0}
HasFlags design root (ClockPort clock_flags) = AreClockFlags design root clock_flags.now

-- the names of an item among which it is looked for
abbrev pub wanted_names : Wanted → Item → List Word
wanted_names Undriven item = data_of item ++ controls_of item
wanted_names Gated item = controls_of item
wanted_names (ClockPort clock_flags) item = data_of item

-- the first of some names of an instance, and the first of those that the gates and latches read
abbrev pub wanted_among : Design → Wanted → Path → List Word → Option Word
wanted_among design wanted path names = find (λ name. wants design wanted (driver design path name)) names

abbrev pub wanted_read : Design → Wanted → Option Net
wanted_read design wanted =
    find (λ net. wants design wanted (driver design net.path net.name)) (flat_map (λ site. nets_at site (wanted_names wanted site.item)) (cells design))

-- the same, and behind them the outputs of the root
abbrev pub first_wanted : Design → Wanted → Option Net
first_wanted design wanted =
    option_or (wanted_read design wanted) (option_map (net_at []) (wanted_among design wanted [] (model_outputs (model_at design []))))

-- what is looked for has its clock_flags, by the tables of some nets
abbrev pub HasFlagsOf : Nets → Wanted → Type 0
HasFlagsOf nets wanted = HasFlags nets.design.now (root_firsts nets.tables.now) wanted

-- it has them in one way, so that a struct may carry it
HasFlags-prop : (design : Design) (root : List First) (wanted : Wanted) → IsProp (HasFlags design root wanted)
HasFlags-prop design root Undriven = Unit-prop
HasFlags-prop design root Gated = Unit-prop
HasFlags-prop design root (ClockPort clock_flags) = Prim.hlevel props

-- the same by the tables of nets
pub HasFlagsOf-prop : (nets : Nets) (wanted : Wanted) → IsProp (HasFlagsOf nets wanted)
HasFlagsOf-prop nets wanted = HasFlags-prop nets.design.now (root_firsts nets.tables.now) wanted

-- what was found is the first of some names of an instance that is looked for, where these numbers are those of the first
-- claims on what is read there
abbrev pub FindsAmong : Nets → Wanted → ℕ → List Word → List (Option ℕ) → List Word → Option Word → Type 0
FindsAmong nets wanted instance read numbers names found =
    (path : Path) → slice_get (instances nets.design.now) instance ≡ Some path → AreNumbersOf (instance_firsts nets.tables.now instance) read numbers
    → found ≡ wanted_among nets.design.now wanted path names
