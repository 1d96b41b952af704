-- Ports, line by line.
use Rattle.std.specs.Prelude.{◌≡◌, true, false, ◌++◌}
use Rattle.vw_text.specs.declared.line.Line.{Line}
use Rattle.vw_blif.specs.declared.fault.TextFault.{TextFault}
use Rattle.vw_blif.specs.declared.fault.TextFault.TheVariants.{DuplicatePort}
use Rattle.vw_blif.specs.declared.ports.Ports.{Ports}
use Rattle.vw_blif.specs.Kinds.{further}
use Rattle.vw_blif.specs.Bindings.{repeats}
use Rattle.vw_blif.specs.Read.{is_text_fault}

-- the ports of a line were added, none of which was there
pub record AddsPorts (old : Ports) (line : Line) (new : Ports) : Type 0 where
  pub names : new.names.items ≡ old.names.items ++ further line
  pub fresh : repeats old.names.items (further line) ≡ false

-- one of them was there, unless memory ran out
abbrev pub SaysPort : Ports → Line → TextFault → Type 0
SaysPort old line fault =
    is_text_fault fault ≡ true → (fault ≡ DuplicatePort line.number) × (repeats old.names.items (further line) ≡ true)
