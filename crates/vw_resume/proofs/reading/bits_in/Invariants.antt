-- the bits so far
use Rattle.std.proofs.Common.{◌≡◌, ◌++◌, drop}
use Rattle.std.specs.List.{flat_map}
use Rattle.vw_resume.specs.Steps.Loosely.{bits_named}
use Rattle.vw_resume.proofs.reading.bits_in.Given as goal

abbrev pub invariant-loop-character : goal.invariant-loop-character
invariant-loop-character l = l.bits.items ++ flat_map bits_named (drop l.character-index l.text) ≡ flat_map bits_named l.text
