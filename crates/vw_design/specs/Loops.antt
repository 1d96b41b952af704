-- Gates that read each other in a circle.
use Rattle.std.specs.Prelude.{◌<◌, ℕ, Bool, false, ◌&&◌, ◌==◌, List, length, Option, Some, None, IsTrue}
use Rattle.std.specs.List.{list_any, AllZip}
use Rattle.std.specs.Str.{bytes_eq}
use Rattle.vw_design.specs.declared.item.Item.{Item}
use Rattle.vw_design.specs.declared.item.Item.TheVariants.{Names, Latch, Sub}
use Rattle.vw_design.specs.declared.design.Design.{Design}
use Rattle.vw_net.specs.Lists.{turned}
use Rattle.vw_design.specs.Paths.{Path}
use Rattle.vw_design.specs.Drivers.{Source, at_port, at_cell, driver}
use Rattle.vw_design.specs.Preorder.{Site}
use Rattle.vw_design.specs.PathValue.{item_at}

-- an item of an instance
pub record Gate : Type 0 where
  pub path : Path
  pub number : ℕ

abbrev pub gate_at : Site → Gate
gate_at site = record { path = site.path; number = site.number }

-- whether a driver is this item
abbrev pub is_driven_by : Gate → Option Source → Bool
is_driven_by gate None = false
is_driven_by gate (Some (at_port name)) = false
is_driven_by gate (Some (at_cell path item)) = bytes_eq path gate.path && item == gate.number

-- whether what stands at an item is a gate, and one of its inputs has this item as driver
abbrev pub reads_from : Design → Path → Gate → Option Item → Bool
reads_from design path gate None = false
reads_from design path gate (Some (Names line ins out cover)) = list_any (λ name. is_driven_by gate (driver design path name)) ins
reads_from design path gate (Some (Latch line d q edge control init)) = false
reads_from design path gate (Some (Sub line model binds)) = false

-- whether a gate reads the output of another
abbrev pub gate_reads : Design → Gate → Gate → Bool
gate_reads design gate other = reads_from design gate.path other (item_at design gate.path gate.number)

-- each gate reads the next, and the last one the first; so each of them is a gate. A gate that reads itself is a loop
pub record IsLoop (design : Design) (gates : List Gate) : Type 0 where
  pub some : 0 < length gates
  pub each : AllZip (λ gate next. IsTrue (gate_reads design gate next)) gates (turned gates)

-- no list of gates is a loop
abbrev pub IsLoopFree : Design → Type 0
IsLoopFree design = (gates : List Gate) → IsLoop design gates → ⊥
