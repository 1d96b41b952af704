-- The words of a job: for each clock in order, what is sent over a link, with the values that the netlist has in that clock.
use Rattle.std.specs.Prelude.{◌+◌, ℕ, zero, suc, Bool, List, [], ◌++◌, length, map, take, slice_index_or}
use Rattle.vw_net.specs.History.{state_after}
use Rattle.vw_net.specs.Value.{net_value}
use Rattle.vw_plan.specs.PlannedBoard.{PlannedBoard, planned_board}
use Rattle.vw_prog.specs.declared.entry.Entry.{Entry}
use Rattle.vw_prog.specs.declared.job.Job.{Job}
use Rattle.vw_prog.specs.declared.word.Word.{Word}
use Rattle.vw_prog.specs.Timetable.{passes}

-- the netlist, the board and the plan of a job
abbrev pub planned_of : Job → PlannedBoard
planned_of job = planned_board job.checked.ordered job.checked.board job.checked.plan

-- the latches before a clock of the job, and the value of a net in it
abbrev pub state_at : Job → ℕ → List Bool
state_at job clock = state_after job.checked.ordered.flat job.start (take clock job.rows)

unfoldable pub value_at : Job → ℕ → ℕ → Bool
value_at job clock net = net_value job.checked.ordered.flat (slice_index_or job.rows clock []) (state_at job clock) net

-- the word of an entry in a clock of the job
abbrev pub word_at : Job → ℕ → Entry → Word
word_at job clock entry = record { clock = job.first + clock; net = entry.net; pin = entry.place; bit = value_at job clock entry.net }

-- the words of the first clocks, and of all clocks
abbrev pub script_before : Job → ℕ → ℕ → List Word
script_before job link zero = []
script_before job link (suc clock) = script_before job link clock ++ map (word_at job clock) (passes (planned_of job) link)

unfoldable pub script : Job → ℕ → List Word
script job link = script_before job link (length job.rows)
