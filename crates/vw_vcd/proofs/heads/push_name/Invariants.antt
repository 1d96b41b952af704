-- what is written, and the bytes that are left
use Rattle.std.proofs.Common.{◌≡◌, ◌++◌, drop, map}
use Rattle.vw_vcd.specs.Lines.{name_byte, signal_name}
use Rattle.vw_vcd.proofs.heads.push_name.Given as goal

abbrev pub invariant-loop-byte : goal.invariant-loop-byte
invariant-loop-byte l = l.text.items ++ map name_byte (drop l.byte-index l.net) ≡ l.fn.text.items ++ signal_name l.net
