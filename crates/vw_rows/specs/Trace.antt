-- The text of what a netlist did.
use Rattle.std.specs.Prelude.{ℕ, ◌+◌, ◌==◌, Bool, List, [], ◌∷◌, ◌++◌, length, codes, if◌then◌else◌}
use Rattle.std.specs.Fmt.{decimal}
use Rattle.vw_net.specs.History.{History}
use Rattle.vw_text.specs.Printed.{bits_text}

-- the numbers of outputs, of probes where there are any, and of latches
abbrev pub head_text : ℕ → ℕ → ℕ → List ℕ
head_text output_count probe_count latch_count =
    if probe_count == 0 then codes "trace 1 " ++ decimal output_count ++ 32 ∷ decimal latch_count ++ 10 ∷ []
    else codes "trace 2 " ++ decimal output_count ++ 32 ∷ decimal probe_count ++ 32 ∷ decimal latch_count ++ 10 ∷ []

-- a clock: its number, its outputs and behind them its probes, and the latch values before its step
abbrev pub clock_text : ℕ → List Bool → List Bool → List ℕ
clock_text clock outputs latches = decimal clock ++ 32 ∷ bits_text outputs ++ 32 ∷ bits_text latches ++ 10 ∷ []

-- clocks from this number on
abbrev pub rows_text : ℕ → List (List Bool) → List (List Bool) → List ℕ
rows_text first [] latches = []
rows_text first (row ∷ outputs) [] = []
rows_text first (row ∷ outputs) (state ∷ latches) = clock_text first row state ++ rows_text (first + 1) outputs latches

-- the number of clocks, and the latch values after the last
abbrev pub end_text : ℕ → List Bool → List ℕ
end_text clocks last = codes "end " ++ decimal clocks ++ 32 ∷ bits_text last ++ 10 ∷ []

-- what follows the first line, where the clocks of a history are numbered from this number on
abbrev pub trace_lines_from : ℕ → History → List ℕ
trace_lines_from first history = rows_text first history.outputs history.states ++ end_text (first + length history.outputs) history.last

-- the trace of a history of this many outputs, probes and latches, whose clocks are numbered from `first` on; in each clock
-- the probes stand behind the outputs
abbrev pub trace_text_from : ℕ → ℕ → ℕ → ℕ → History → List ℕ
trace_text_from first output_count probe_count latch_count history =
    head_text output_count probe_count latch_count ++ trace_lines_from first history

-- the same, from clock 0 on
abbrev pub trace_text : ℕ → ℕ → ℕ → History → List ℕ
trace_text = trace_text_from 0
