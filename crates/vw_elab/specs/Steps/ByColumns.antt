-- Drivers by the columns of ports, and the claims on what cells read.
use Rattle.std.specs.Prelude.{ℕ, List, Option, Some, None, option_map, option_and_then, slice_get}
use Rattle.vw_drivers.specs.declared.source.Source.{Source}
use Rattle.vw_drivers.specs.declared.source.Source.TheVariants as sources
use Rattle.vw_elab.specs.declared.parts.NumberedParts.{NumberedParts}
use Rattle.vw_elab.specs.declared.elaborated.Reading.{Reading}
use Rattle.vw_elab.specs.Numbers.{of_port}
use Rattle.vw_elab.specs.declared.driver.Driver.{Driver}
use Rattle.vw_elab.specs.declared.driver.Driver.TheVariants.{Cell}

-- a cell is itself, and a port goes by the table of ports
abbrev pub driver_by : List (Option ℕ) → Option Source → Option Driver
driver_by ports None = None
driver_by ports (Some (sources.Cell cell)) = Some (Cell cell)
driver_by ports (Some (sources.Port number)) = option_map of_port (slice_get ports number)

-- what a cell reads, by the tables
abbrev pub reading_of : NumberedParts → ℕ → ℕ → Option Reading
reading_of parts cell input =
    option_and_then (λ site. option_and_then (λ entry. option_and_then (λ names. option_and_then (λ reads.
    option_map (λ claim. record { instance = site.instance; claim = claim }) (slice_get reads input))
    (slice_get names.reads site.item)) (slice_get parts.tables.names entry.model)) (slice_get parts.tables.instances site.instance)) (slice_get parts.cells cell)
