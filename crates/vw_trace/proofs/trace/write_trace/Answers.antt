use Rattle.std.proofs.Common.{◌∙◌, ap, sym, arith}
use Rattle.vw_trace.specs.Triggers.{shown_count}
use Rattle.vw_trace.proofs.MergedTraces.{same_trace}
use Rattle.vw_trace.proofs.StreamedTexts.{streams_as}
use Rattle.vw_trace.proofs.trace.write_trace.Goals as goal

pub simulate-requires : goal.simulate-requires
simulate-requires g c = record {
  columns = c.requires.columns ∙ sym c.in-Some.ensures.inputs;
  probes = omega (arith, c.requires.probes, ap (shown_count c.args.until) c.in-Some.ensures.outputs);
}

-- the merged netlist has the same trace
pub returns-in-Some : goal.returns-in-Some
returns-in-Some g c = record {
  shelf = c.simulate.ensures.shelf;
  streams = streams_as (λ these. same_trace c.args.until c.args.probes c.args.unknown c.args.ordered.now.flat c.in-Some.merged.flat these c.in-Some.ensures) (λ these done. tt) c.simulate.ensures.streams;
}
