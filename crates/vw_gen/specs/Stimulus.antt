-- The text of a stimulus for a generated design of so many cells. Source: this project.
use Rattle.std.specs.Prelude.{ℕ, ◌+◌, ◌*◌, List, map}
use Rattle.std.specs.List.{range_with_len}
use Rattle.vw_text.specs.Physical.{lines_text}
use Rattle.vw_gen.specs.Draws.{draw}

-- a row of eight bits, each by a draw of its own, behind so many draws
abbrev pub drawn_bits : ℕ → ℕ → List ℕ
drawn_bits start drawn = map (λ column. 48 + draw start (drawn + column + 1) 2) (range_with_len 0 8)

-- 300 rows; the draws start one above the number of cells
abbrev pub stimulus_lines : ℕ → List (List ℕ)
stimulus_lines cells = map (λ row. drawn_bits (cells + 1) (8 * row)) (range_with_len 0 300)

-- the text of the stimulus, with the end of a line behind each line
abbrev pub stimulus_text : ℕ → List ℕ
stimulus_text cells = lines_text (stimulus_lines cells)
