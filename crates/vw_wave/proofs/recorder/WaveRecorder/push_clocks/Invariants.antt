-- what is written and the clocks that are left, and where the wave stands
use Rattle.std.proofs.Common.{◌≡◌, ◌+◌, ◌++◌, drop}
use Rattle.vw_text.specs.Physical.{lines_text}
use Rattle.vw_vcd.specs.Changes.{last_row}
use Rattle.vw_vcd.specs.Lines.{lines_of_clocks}
use Rattle.vw_wave.specs.FlatWave.{joined_rows}
use Rattle.vw_wave.proofs.recorder.WaveRecorder.push_clocks.Given as goal

abbrev pub invariant-loop-clock : goal.invariant-loop-clock
invariant-loop-clock l = record {
  text : l.text.items ++ lines_text (lines_of_clocks l.self.wave.clock l.self.wave.last (joined_rows (drop l.clock l.outputs) (drop l.clock l.states)))
      ≡ l.fn.text.items ++ lines_text (lines_of_clocks l.fn.self.wave.clock l.fn.self.wave.last (joined_rows l.outputs l.states));
  clock : l.self.wave.clock ≡ l.fn.self.wave.clock + l.clock;
  last : last_row l.self.wave.last (joined_rows (drop l.clock l.outputs) (drop l.clock l.states)) ≡ last_row l.fn.self.wave.last (joined_rows l.outputs l.states);
  outputs : l.self.outputs ≡ l.fn.self.outputs;
  latches : l.self.latches ≡ l.fn.self.latches;
}
