-- A run that is cut in pieces.
use Rattle.std.specs.Prelude.{◌≤◌, ◌++◌, ℕ, Bool, List, [], length}
use Rattle.vw_design.specs.Paths.{Word as ProbeWord}
use Rattle.vw_front.specs.Designs.{WatchedDesign, IsWatchedDesignOf}
use Rattle.vw_resume.specs.Joined.{IsJoined}
use Rattle.vw_rows.specs.declared.limits.TheConstants.{MOST_CLOCKS}
use Rattle.vw_courses.specs.Commands.{trace_of, saved_of, replayed_trace_of}
use Rattle.vw_statuses.specs.ReplayStatuses.{Replay, AreReplayed, replay_text}
use Rattle.vw_statuses.specs.ResumeStatuses.{Resumption, AreResumed, trace_from_state}

-- what `run` writes of the first rows, and behind it, without the lines between them, what `resume` writes of the others from
-- the state that `save` writes of the first, is what `run` writes of all
abbrev pub PiecesJoin : Type 0
PiecesJoin = (unknown : Bool) (d : List ℕ) (spelled : WatchedDesign) (rows more : List (List Bool)) (its : Resumption)
    → IsWatchedDesignOf [] d spelled → length rows ≤ MOST_CLOCKS → AreResumed [] (record { design = d; state = saved_of unknown spelled rows }) its
    → IsJoined (trace_of unknown spelled rows) (trace_from_state [] its more) (trace_of unknown spelled (rows ++ more))

-- so it is with probes, which the state knows nothing of: `plain` is the design without them
abbrev pub WatchedPiecesJoin : Type 0
WatchedPiecesJoin = (probes : List ProbeWord) (unknown : Bool) (d : List ℕ) (spelled plain : WatchedDesign) (rows more : List (List Bool)) (its : Resumption)
    → IsWatchedDesignOf probes d spelled → IsWatchedDesignOf [] d plain → length rows ≤ MOST_CLOCKS
    → AreResumed probes (record { design = d; state = saved_of unknown plain rows }) its
    → IsJoined (trace_of unknown spelled rows) (trace_from_state probes its more) (trace_of unknown spelled (rows ++ more))

-- what `sim` writes of the first rows, and behind it, without the lines between them, what it writes of all rows from the state on
-- that `save` writes of the first, is what it writes of all
abbrev pub ReplaysJoin : Type 0
ReplaysJoin = (probes : List ProbeWord) (unknown : Bool) (d : List ℕ) (spelled plain : WatchedDesign) (rows more : List (List Bool)) (its : Replay)
    → IsWatchedDesignOf probes d spelled → IsWatchedDesignOf [] d plain → length rows ≤ MOST_CLOCKS
    → AreReplayed probes (record { design = d; state = saved_of unknown plain rows }) its
    → IsJoined (trace_of unknown spelled rows) (replay_text replayed_trace_of its (rows ++ more)) (trace_of unknown spelled (rows ++ more))
