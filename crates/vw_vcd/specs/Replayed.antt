-- What the replay of a wave gives.
use Rattle.std.specs.Prelude.{◌≡◌, ◌<◌, ◌≤◌, ◌+◌, ◌++◌, ◌^◌, ℕ, Bool, List, [], map, length, replicate, Some, None}
use Rattle.std.specs.List.{All, range_with_len}
use Rattle.vw_vcd.specs.Identifiers.{identifier}
use Rattle.vw_vcd.specs.Lines.{wave_text_from}
use Rattle.vw_vcd.specs.Replay.{replay, values, AreChanges}

-- a text is replayed as rows of so many signals from a first clock on: each signal is declared, the last time is the number of
-- the clock behind the last row, the values at each time are those of its row, and before the first clock there are none, and
-- each value but those of the first block is a change
pub record ReplaysFrom (first : ℕ) (text : List ℕ) (signals : ℕ) (rows : List (List Bool)) : Type 0 where
  pub ids : (replay text).ids ≡ map identifier (range_with_len 0 signals)
  pub clocks : (replay text).clocks ≡ first + length rows
  pub at_each_time : values (replay text) ≡ replicate first (replicate signals None) ++ map (map Some) rows
  pub changes : AreChanges [] (replay text).given

-- the same from clock 0 on, before which there is no time
abbrev pub ReplaysAs : List ℕ → ℕ → List (List Bool) → Type 0
ReplaysAs text signals rows = ReplaysFrom 0 text signals rows

-- each wave is replayed as its rows, from its first clock on
abbrev pub WavesReplay : Type 0
WavesReplay = (first : ℕ) (nets : List (List ℕ)) (rows : List (List Bool)) → length nets < 2 ^ 32 → first + length rows ≤ 2 ^ 32
    → All (λ row. length row ≡ length nets) rows → ReplaysFrom first (wave_text_from first nets rows) (length nets) rows
