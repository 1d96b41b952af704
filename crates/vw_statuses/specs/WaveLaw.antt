-- What a viewer finds in the wave of a design.
use Rattle.std.specs.Prelude.{◌≤◌, ◌++◌, ℕ, Bool, List, [], drop, length}
use Rattle.vw_design.specs.Clocks.{columns}
use Rattle.vw_design.specs.Paths.{Word}
use Rattle.vw_design.specs.PathHistory.{path_history}
use Rattle.vw_front.specs.Designs.{WatchedDesign, IsWatchedDesignOf}
use Rattle.vw_front.specs.Names.{signal_names}
use Rattle.vw_rows.specs.declared.limits.TheConstants.{MOST_CLOCKS}
use Rattle.vw_vcd.specs.Replayed.{ReplaysAs, ReplaysFrom}
use Rattle.vw_wave.specs.FlatWave.{signal_rows}
use Rattle.vw_courses.specs.Kinds.{IsRowsOf}
use Rattle.vw_courses.specs.Commands.{replayed_wave_of, saved_of, wave_of}
use Rattle.vw_statuses.specs.ReplayStatuses.{Replay, AreReplayed, replay_text}

-- replaying the wave of the design of one text over the rows of another gives each output, probe and latch its bit at each
-- clock; its last time is the number of clocks, and each value behind the first block is a change
abbrev pub WavesReplay : Type 0
WavesReplay = (probes : List Word) → length probes ≤ 65 → (d s : List ℕ) (unknown : Bool) (spelled : WatchedDesign) (rows : List (List Bool))
    → IsWatchedDesignOf probes d spelled → IsRowsOf (length (columns spelled.design)) s rows
    → ReplaysAs (wave_of probes unknown spelled rows) (length (signal_names probes spelled.design))
    (signal_rows (path_history spelled.design spelled.nets unknown rows))

-- the wave over all rows from the state on that `save` writes of the first has at each of its clocks the bits that the design
-- has there in the whole run; its first time is the state's clock
abbrev pub ReplayedWavesReplay : Type 0
ReplayedWavesReplay = (probes : List Word) → length probes ≤ 65 → (unknown : Bool) (d : List ℕ) (spelled plain : WatchedDesign) (rows more : List (List Bool)) (its : Replay)
    → IsWatchedDesignOf probes d spelled → IsWatchedDesignOf [] d plain → length (rows ++ more) ≤ MOST_CLOCKS
    → AreReplayed probes (record { design = d; state = saved_of unknown plain rows }) its
    → ReplaysFrom (length rows) (replay_text (replayed_wave_of probes) its (rows ++ more)) (length (signal_names probes spelled.design))
    (drop (length rows) (signal_rows (path_history spelled.design spelled.nets unknown (rows ++ more))))
