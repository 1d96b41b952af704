-- Numbers that look as if they were drawn by lot. Source: a linear congruential generator, with the numbers of this project.
use Rattle.std.specs.Prelude.{ℕ, ◌+◌, ◌*◌, ◌%◌}
use Rattle.std.specs.Fn.{iterate}

-- the state behind this one
abbrev pub next : ℕ → ℕ
next state = (75 * state + 74) % 65537

-- the state after so many draws from a start
abbrev pub drawn_state : ℕ → ℕ → ℕ
drawn_state start draws = iterate next draws start

-- what the draw with this number gives below a limit; draws are numbered from 1
abbrev pub draw : ℕ → ℕ → ℕ → ℕ
draw start number limit = drawn_state start number % limit
