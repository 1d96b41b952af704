-- What writes down the clocks of an engine. Source: this project.
use Rattle.std.specs.Prelude.{◌≡◌, ◌<◌, ◌+◌, ◌^◌, ◌++◌, ℕ, Bool, List, length, Result, OnOk}
use Rattle.std.specs.Bool.{OnTrue}
use Rattle.std.specs.List.{All}
use Rattle.vw_net.specs.Cells.{latch_count}
use Rattle.vw_net.specs.History.{History}
use Rattle.vw_outside.specs.declared.unwritten.Unwritten.{Unwritten}
use Rattle.vw_outside.specs.Writes.{SeenSink, WritesOut}
use Rattle.vw_trace.specs.declared.engine.Batch.{Batch}
use Rattle.vw_trace.specs.Engines.{SeenEngine}
use Rattle.vw_trace.specs.Recorded.{clocks_before}
use Rattle.vw_trace.specs.Triggers.{shown_count}

-- a recorder between two clocks
pub record SeenRecorder : Type 0 where
  -- the text that is still left, if this is what the netlist still does
  pub left : History → List ℕ
  -- how many outputs each clock has, and how many latches there are
  pub outputs : ℕ
  pub latches : ℕ
  -- the number of the next clock, counted from 0
  pub clock : ℕ
  -- whether it writes nothing before its end
  pub waits : Bool

-- its next clock is that of an engine, with as many latches, and as many outputs as are shown
pub record IsOf (until : Bool) (engine : SeenEngine) (recorder : SeenRecorder) : Type 0 where
  pub outputs : recorder.outputs ≡ shown_count until (length engine.netlist.outputs)
  pub latches : recorder.latches ≡ latch_count engine.netlist.cells
  pub clock : recorder.clock ≡ engine.clock

-- clocks that may come next
pub record FitsBatch (recorder : SeenRecorder) (batch : Batch) : Type 0 where
  pub count : length batch.outputs ≡ length batch.states
  pub outputs : All (λ bits. length bits ≡ recorder.outputs) batch.outputs
  pub states : All (λ bits. length bits ≡ recorder.latches) batch.states
  pub few : recorder.clock + length batch.outputs < 2 ^ 32

-- it stands behind so many clocks more
pub record IsBehind (clocks : ℕ) (before after : SeenRecorder) : Type 0 where
  pub clock : after.clock ≡ before.clock + clocks
  pub outputs : after.outputs ≡ before.outputs
  pub latches : after.latches ≡ before.latches
  pub waits : after.waits ≡ before.waits

-- these clocks were written down: a text, which is a front of what was left, or a part of it; after all of it the rest is left
pub record Wrote (before after : SeenRecorder) (batch : Batch) (out out_after : SeenSink) (answer : Result (Unit {0}) Unwritten) : Type 0 where
  pub text : List ℕ
  pub writes : WritesOut text out out_after answer
  pub front : (more : History) → (rest : List ℕ) × (before.left (clocks_before batch.outputs batch.states more) ≡ text ++ rest)
  pub rest : OnOk answer ((more : History) → before.left (clocks_before batch.outputs batch.states more) ≡ text ++ after.left more)
  pub stands : OnOk answer (IsBehind (length batch.outputs) before after)
  pub silent : OnTrue before.waits (OnOk answer (out_after ≡ out))
