use Rattle.std.proofs.Common.{List, length, ap, arith}
use Rattle.vw_net.specs.declared.flat.Flat.{Flat}
use Rattle.vw_design.specs.Paths.{Word}
use Rattle.vw_courses.specs.Commands.{nets_text}
use Rattle.vw_statuses.proofs.NetsLaws.{outputs_named}
use Rattle.vw_top.proofs.nets.write_nets.Goals as goal

-- each output has a name
pub netlist_text-text-requires-clause-outputs : goal.netlist_text-text-requires-clause-outputs
netlist_text-text-requires-clause-outputs g c =
    omega (arith, ap (λ (names : List Word). length names) c.outputs.ensures, ap (λ (flat : Flat). length flat.outputs) c.flat.ensures, outputs_named c.args.probes.nets.now c.requires.0 c.args.named c.requires.1)

pub returns : goal.returns
returns g c = c.put_text.ensures (nets_text c.args.probes.nets.now c.args.named) (rw (c.flat.ensures, c.as_slice.ensures, c.outputs.ensures) at c.netlist_text-text.ensures)
