use Rattle.std.proofs.Common.{◌≡◌, ◌<◌, Some, map, take}
use Rattle.std.specs.List.{All}
use Rattle.vw_design.specs.Flattened.{number_of}
use Rattle.vw_design.specs.NetReads.{root_outputs}
use Rattle.vw_flat.specs.Steps.Numbers.{net_count}
use Rattle.vw_flat.proofs.netlist.output_numbers.Given as goal

-- so many numbers are there
abbrev pub invariant-loop-place : goal.invariant-loop-place
invariant-loop-place l = record {
  are : map (λ net. number_of l.elaborated net.path net.name) (take l.place (root_outputs l.elaborated)) ≡ map (λ net. Some net) l.outputs.items;
  fit : All (λ net. net < net_count l.elaborated) l.outputs.items;
}
