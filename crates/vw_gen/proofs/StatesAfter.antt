-- States after draws behind others.
use Rattle.std.proofs.Common.{◌≡◌, ◌+◌, ℕ, zero, suc, ap, sym, ◌∙◌, arith, ◌*◌, ◌%◌, map}
use Rattle.std.specs.Fn.{iterate}
use Rattle.std.specs.List.{range_with_len}
use Rattle.vw_gen.specs.Draws.{next, drawn_state}
use Rattle.vw_gen.specs.Stimulus.{drawn_bits}

iterate-add : (f : ℕ → ℕ) (first more x : ℕ) → iterate f more (iterate f first x) ≡ iterate f (first + more) x
iterate-add f zero more x =
    let count : more ≡ zero + more = omega arith in
    ap (λ (n : ℕ). iterate f n x) count
iterate-add f (suc first) more x =
    let count : suc first + more ≡ suc (first + more) = omega arith in
    iterate-add f first more (f x) ∙ ap (λ (n : ℕ). iterate f n x) (sym count)

pub drawn_state-add : (start first more : ℕ) → drawn_state (drawn_state start first) more ≡ drawn_state start (first + more)
drawn_state-add start first more = iterate-add next first more start

-- one draw more
pub drawn_state-next : (start drawn state : ℕ) → state ≡ drawn_state start drawn → next state ≡ drawn_state start (drawn + 1)
drawn_state-next start drawn state at = ap next at ∙ drawn_state-add start drawn 1

-- the bits of a row, by the state before it
pub bits_moved : (start drawn state : ℕ) → state ≡ drawn_state start drawn → drawn_bits state 0 ≡ drawn_bits start drawn
bits_moved start drawn state at = ap (λ (s : ℕ). drawn_bits s 0) at ∙ moved where
  drawn_at : (column : ℕ) → drawn_state (drawn_state start drawn) (0 + column + 1) ≡ drawn_state start (drawn + column + 1)
  drawn_at column =
      let count : drawn + (0 + column + 1) ≡ drawn + column + 1 = omega arith in
      drawn_state-add start drawn (0 + column + 1) ∙ ap (drawn_state start) count

  moved : drawn_bits (drawn_state start drawn) 0 ≡ drawn_bits start drawn
  moved = λ i. map (λ column. 48 + drawn_at column i % 2) (range_with_len 0 8)

-- the state after a row more
pub drawn_state-row : (start row state : ℕ) → state ≡ drawn_state start (8 * row) → drawn_state state 8 ≡ drawn_state start (8 * (row + 1))
drawn_state-row start row state at =
    let count : 8 * row + 8 ≡ 8 * (row + 1) = omega arith in
    ap (λ (s : ℕ). drawn_state s 8) at ∙ drawn_state-add start (8 * row) 8 ∙ ap (drawn_state start) count
