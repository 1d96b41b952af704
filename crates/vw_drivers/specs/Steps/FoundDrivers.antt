-- How drivers are found by numbers. No public clause cites it.
use Rattle.std.specs.Prelude.{ℕ, zero, suc, ◌+◌, ◌-◌, ◌==◌, ◌^◌, List, [], ◌∷◌, map, slice_get, nat_lt, Option, Some, None, option_map, option_and_then, if◌then◌else◌}
use Rattle.std.specs.Option.{unwrap_or}
use Rattle.vw_design.specs.declared.design.Design.{Design}
use Rattle.vw_design.specs.Accepted.{HasNoModelFault}
use Rattle.vw_drivers.specs.declared.claim.Claim.{Claim}
use Rattle.vw_drivers.specs.declared.claim.Claim.TheVariants as claims
use Rattle.vw_drivers.specs.Firsts.{claim_at}
use Rattle.vw_instances.specs.declared.tables.ListedInstance.{ListedInstance}
use Rattle.vw_instances.specs.declared.sizes.Before.{Before}
use Rattle.vw_drivers.specs.declared.model_names.Way.{Way}
use Rattle.vw_drivers.specs.declared.model_names.Way.TheVariants as ways
use Rattle.vw_drivers.specs.declared.model_names.PlacedNames.{PlacedNames}
use Rattle.vw_drivers.specs.Names.{firsts_of}
use Rattle.vw_drivers.specs.declared.source.Source.{Source}
use Rattle.vw_drivers.specs.declared.source.Source.TheVariants.{Port, Cell}
use Rattle.vw_drivers.specs.declared.tables.Tables.{Tables}
use Rattle.vw_drivers.specs.Tables.{AreDesignTables}
use Rattle.vw_drivers.specs.Drivers.{at_rows}

-- rows of drivers
abbrev pub DriverRows : Type 0
DriverRows = List (List (Option Source))

-- what holds of each design of which these are the tables
abbrev pub OfTables : Tables → (Design → Type 0) → Type 0
OfTables tables Holds = (design : Design) → HasNoModelFault design → AreDesignTables design tables → Holds design

-- what stands before an item of a model
abbrev pub before_of : Tables → ℕ → ℕ → Option Before
before_of tables model item = option_and_then (λ entries. slice_get entries item) (slice_get tables.before model)

-- the `.subckt` item at a place, from 1, of a model
abbrev pub placed_of : Tables → ℕ → ℕ → Option PlacedNames
placed_of tables model place =
    if place == 0 then None else option_and_then (λ names. slice_get names.placed (place - 1)) (slice_get tables.names model)

-- the cell that is an item of an instance
abbrev pub cell_source : Tables → ListedInstance → ℕ → Option Source
cell_source tables entry item =
    option_and_then (λ before. if nat_lt (entry.cells + before.cells) (2 ^ 32) then Some (Cell (entry.cells + before.cells)) else None)
    (before_of tables entry.model item)

-- the number of the instance at a place of an instance
abbrev pub child_of : Tables → ℕ → ListedInstance → ℕ → Option ℕ
child_of tables instance entry place =
    option_and_then (λ placed. option_map (λ before. instance + 1 + before.instances) (before_of tables entry.model placed.item))
    (placed_of tables entry.model place)

-- the driver to which a claim with a number leads
abbrev pub led_by : Tables → DriverRows → DriverRows → ℕ → ListedInstance → ℕ → Option Claim → Option Source
led_by tables outputs ports instance entry number None = None
led_by tables outputs ports instance entry number (Some claims.Port) = if instance == 0 then Some (Port number) else at_rows ports instance number
led_by tables outputs ports instance entry number (Some (claims.Driven item)) = cell_source tables entry item
led_by tables outputs ports instance entry number (Some (claims.Bound place bind)) =
    option_and_then (λ child. at_rows outputs child bind) (child_of tables instance entry place)

abbrev pub led_at : Tables → DriverRows → DriverRows → ℕ → ℕ → ListedInstance → Option Source
led_at tables outputs ports instance number entry =
    led_by tables outputs ports instance entry number (claim_at (firsts_of tables.claims (Some entry.model)) number)

abbrev pub led : Tables → DriverRows → DriverRows → ℕ → Option ℕ → Option Source
led tables outputs ports instance None = None
led tables outputs ports instance (Some number) = option_and_then (led_at tables outputs ports instance number) (slice_get tables.instances instance)

-- the ways from the formals of the item that places an instance; none at the root
abbrev pub ways_of : Tables → ListedInstance → List Way
ways_of tables entry =
    unwrap_or (option_map (λ placed. placed.ways)
    (option_and_then (λ parent. placed_of tables parent.model entry.place) (slice_get tables.instances entry.parent))) []

-- the driver of a formal that is no port, and the row of an instance
abbrev pub output_led : Tables → DriverRows → ℕ → Way → Option Source
output_led tables outputs instance (ways.Output claim) = led tables outputs [] instance claim
output_led tables outputs instance (ways.Port port actual) = None

abbrev pub outputs_made : Tables → DriverRows → ℕ → ListedInstance → List (Option Source)
outputs_made tables outputs instance entry = map (output_led tables outputs instance) (ways_of tables entry)

-- a row with a driver at a number, with nothing where it was shorter
abbrev pub with_port : List (Option Source) → ℕ → Option Source → List (Option Source)
with_port [] zero source = source ∷ []
with_port [] (suc number) source = None ∷ with_port [] number source
with_port (first ∷ row) zero source = source ∷ row
with_port (first ∷ row) (suc number) source = first ∷ with_port row number source

-- a row with the driver of a port, given the instance of the actual; and with those of all ports
abbrev pub with_way : Tables → DriverRows → DriverRows → ℕ → Way → List (Option Source) → List (Option Source)
with_way tables outputs ports parent (ways.Output claim) row = row
with_way tables outputs ports parent (ways.Port port actual) row = with_port row port (led tables outputs ports parent actual)

abbrev pub with_ways : Tables → DriverRows → DriverRows → ℕ → List Way → List (Option Source) → List (Option Source)
with_ways tables outputs ports parent [] row = row
with_ways tables outputs ports parent (way ∷ list) row = with_ways tables outputs ports parent list (with_way tables outputs ports parent way row)

abbrev pub ports_made : Tables → DriverRows → DriverRows → ListedInstance → List (Option Source)
ports_made tables outputs ports entry = with_ways tables outputs ports entry.parent (ways_of tables entry) []
