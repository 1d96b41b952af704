-- What is written down of a batch of clocks, behind which nothing may count. Source: this project.
use Rattle.std.specs.Prelude.{◌≡◌, ◌<◌, ◌+◌, ◌^◌, ◌++◌, ℕ, Bool, true, false, List, [], length, map, take, slice_index_or, Result, Ok, Err, IfOk, if◌then◌else◌}
use Rattle.std.specs.Bool.{OnTrue}
use Rattle.std.specs.List.{All}
use Rattle.vw_net.specs.History.{History}
use Rattle.vw_outside.specs.declared.unwritten.Unwritten.{Unwritten}
use Rattle.vw_outside.specs.Writes.{SeenSink, WritesOut}
use Rattle.vw_trace.specs.declared.engine.Batch.{Batch}
use Rattle.vw_trace.specs.Recorded.{clocks_before}
use Rattle.vw_trace.specs.Recorders.{IsBehind, SeenRecorder}
use Rattle.vw_trace.specs.Triggers.{but_last, clocks_until, fires, shown_count}

-- what is shown of the clocks of a batch up to the first in which its trigger is 1; `last` are the latch values behind the batch
abbrev pub shown_front : Batch → List Bool → History
shown_front batch last = record {
  outputs = map but_last (take (clocks_until batch.outputs) batch.outputs);
  states = take (clocks_until batch.outputs) batch.states;
  last = slice_index_or batch.states (clocks_until batch.outputs) last;
}

-- what is shown of a batch, and then of what is behind it
abbrev pub shown_before : Bool → Batch → List Bool → History → History
shown_before false batch last more = clocks_before batch.outputs batch.states more
shown_before true batch last more = if fires batch.outputs then shown_front batch last else clocks_before (map but_last batch.outputs) batch.states more

-- whether nothing behind these outputs counts
abbrev pub ends_in : Bool → List (List Bool) → Bool
ends_in false outputs = false
ends_in true outputs = fires outputs

-- the text that is left behind them
abbrev pub left_by : Bool → SeenRecorder → History → List ℕ
left_by false recorder history = recorder.left history
left_by true recorder history = []

-- clocks that may come next, and the latch values behind them
pub record FitsRun (until : Bool) (recorder : SeenRecorder) (batch : Batch) (last : List Bool) : Type 0 where
  pub count : length batch.outputs ≡ length batch.states
  pub outputs : All (λ bits. shown_count until (length bits) ≡ recorder.outputs) batch.outputs
  pub states : All (λ bits. length bits ≡ recorder.latches) batch.states
  pub few : recorder.clock + length batch.outputs < 2 ^ 32
  pub behind : length last ≡ recorder.latches

-- an answer, whatever its value
abbrev pub without_value : Result Bool Unwritten → Result (Unit {0}) Unwritten
without_value (Ok ends) = Ok tt
without_value (Err why) = Err why

-- a batch was written down: a text, which is a front of what was left, or a part of it; and after all of it the rest is left, where the
-- run doesn't end in it
pub record WroteClocks (until : Bool) (before after : SeenRecorder) (batch : Batch) (last : List Bool) (out out_after : SeenSink) (answer : Result Bool Unwritten) : Type 0 where
  pub text : List ℕ
  pub writes : WritesOut text out out_after (without_value answer)
  pub front : (more : History) → (rest : List ℕ) × (before.left (shown_before until batch last more) ≡ text ++ rest)
  pub rest : IfOk answer (λ ends. (more : History) → before.left (shown_before until batch last more) ≡ text ++ left_by ends after more)
  pub ends : IfOk answer (λ ends. ends ≡ ends_in until batch.outputs)
  pub stands : IfOk answer (λ ends. ends ≡ false → IsBehind (length batch.outputs) before after)
  pub silent : OnTrue before.waits (IfOk answer (λ ends. ends ≡ false → out_after ≡ out))
