-- What functions of this crate compute, step by step. No public clause cites it.
use Rattle.std.specs.Prelude.{◌≡◌, ◌<◌, ◌+◌, ◌*◌, ℕ, List, [], length, map, slice_index_or}
use Rattle.std.specs.Global.{Vec}
use Rattle.vw_plan.specs.PlannedBoard.{PlannedBoard, home}
use Rattle.vw_prog.specs.declared.entry.Entry.{Entry}
use Rattle.vw_prog.specs.Timetable.{entries_at}

-- the entry of a gate with a lead
abbrev pub gate_entry_of : PlannedBoard → ℕ → ℕ → ℕ → Entry
gate_entry_of planned lead place number =
    let net = planned.ordered.flat.inputs + number in
    record { moment = 3 * lead; link = 0; place = place; node = home planned net; net = net }

-- each node has its own among some entries
pub record AreOwnEntries (nodes : ℕ) (entries : List Entry) (lists : List (List Entry)) : Type 0 where
  pub count : length lists ≡ nodes
  pub each : (node : ℕ) → node < nodes → slice_index_or lists node [] ≡ entries_at node entries

-- the lists in some `Vec`s
abbrev pub lists_of : List (Vec Entry) → List (List Entry)
lists_of lists = map (λ list. list.items) lists
