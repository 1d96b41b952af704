-- the codes so far, and a table without slots
use Rattle.std.proofs.Common.{◌≡◌, ℕ, [], length, get_or, slice_get, Some}
use Rattle.vw_prog.specs.declared.code.Code.{Code}
use Rattle.vw_prog.specs.Coding.{IsCodeOf, IsTable, owned_of}
use Rattle.vw_prog.specs.Steps.{lists_of}
use Rattle.vw_prog.proofs.codes.all_codes.Given as goal

abbrev pub invariant-loop-node : goal.invariant-loop-node
invariant-loop-node l = record {
  long : length l.table ≡ length l.initial.table;
  is : IsTable [] l.table;
  count : length l.codes.items ≡ l.node;
  each : (node : ℕ) (code : Code) → slice_get l.codes.items node ≡ Some code
      → IsCodeOf l.flat node (get_or (owned_of l.owned) node []) (get_or (lists_of l.lists) node []) (length l.initial.table) code;
}
