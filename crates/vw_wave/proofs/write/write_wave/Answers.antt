use Rattle.std.proofs.Common.{◌∙◌, ap, sym, arith}
use Rattle.vw_trace.specs.Triggers.{shown_count}
use Rattle.vw_trace.proofs.StreamedTexts.{streams_as}
use Rattle.vw_wave.proofs.MergedWaves.{same_wave}
use Rattle.vw_wave.proofs.write.write_wave.Goals as goal

pub simulate-requires : goal.simulate-requires
simulate-requires g c = record {
  columns = c.requires.columns ∙ sym c.in-Some.ensures.inputs;
  names = omega (arith, c.requires.names, ap (shown_count c.args.until) c.in-Some.ensures.outputs, c.in-Some.ensures.latches);
}

-- the merged netlist has the same wave
pub returns-in-Some : goal.returns-in-Some
returns-in-Some g c = record {
  shelf = c.simulate.ensures.shelf;
  streams = streams_as (λ these. same_wave c.args.until c.args.names.now c.args.unknown c.args.ordered.now.flat c.in-Some.merged.flat these c.in-Some.ensures) (λ these done. tt) c.simulate.ensures.streams;
}
