-- the columns of the names so far
use Rattle.std.proofs.Common.{◌≡◌, ◌++◌, ℕ, Some, drop, take, map, filter, length, slice_get}
use Rattle.vw_design.specs.Paths.{Word}
use Rattle.vw_design.specs.PathValue.{place_of_name}
use Rattle.vw_drivers.specs.Firsts.{number_named}
use Rattle.vw_net_faults.specs.Steps.FreeNames.{is_free}
use Rattle.vw_net_faults.proofs.columns.Columns.of_names.Given as goal

abbrev pub invariant-loop-place : goal.invariant-loop-place
invariant-loop-place l = record {
  inputs : map (slice_get l.names) l.inputs.items ++ map (λ (name : Word). Some name) (filter (is_free l.claims.firsts l.clock_flags) (drop l.place l.names)) ≡ map (λ (name : Word). Some name) (filter (is_free l.claims.firsts l.clock_flags) l.names);
  many : length l.inputs.items ≡ length (filter (is_free l.claims.firsts l.clock_flags) (take l.place l.names));
  count : length l.ports.items ≡ length l.claims.firsts;
  ports : (name : Word) (number : ℕ) → number_named l.claims.firsts name ≡ Some number
      → slice_get l.ports.items number ≡ Some (place_of_name (filter (is_free l.claims.firsts l.clock_flags) (take l.place l.names)) name);
}
