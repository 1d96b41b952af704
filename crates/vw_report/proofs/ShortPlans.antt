-- The nodes of wires are nodes of the board.
use Rattle.std.proofs.Common.{◌<◌, ◌≤◌, ℕ, List, [], ◌∷◌, length, get_or, sym, ◌∙◌, ⊎_elim, true≢false, All, arith}
use Rattle.std.proofs.lemmas.List.Elements.{All-head, All-tail}
use Rattle.std.proofs.lemmas.Bool.{cases_lt}
use Rattle.vw_net.specs.Lists.{greatest}
use Rattle.vw_plan.specs.declared.wire.Wire.{Wire}
use Rattle.vw_plan.specs.PlannedBoard.{PlannedBoard}
use Rattle.vw_plan.specs.Sound.{IsSound}
use Rattle.vw_plan.proofs.ChipNumbers.{low_chips}
use Rattle.vw_plan.proofs.NeededPairs.{past_node}
use Rattle.vw_plan.proofs.NeededWires.{wire_needed}

greatest_low : (most : ℕ) (numbers : List ℕ) → All (λ number. number ≤ most) numbers → greatest numbers ≤ most
greatest_low most [] low = omega arith
greatest_low most (number ∷ numbers) low = omega (arith, All-head (λ (n : ℕ). n ≤ most) number numbers low, greatest_low most numbers (All-tail (λ (n : ℕ). n ≤ most) number numbers low))

pub wire_low : (planned : PlannedBoard) → IsSound planned → (place : ℕ) (default : Wire) → place < length planned.plan.wires → (get_or planned.plan.wires place default).to ≤ planned.board.chips
wire_low planned sound place default within =
    let wire = get_or planned.plan.wires place default in
    let chips = planned.plan.chip_of in
    let needed = wire_needed planned sound place default within in
    ⊎_elim (λ (past : greatest chips < wire.to). absurd (true≢false (sym needed ∙ past_node planned.ordered.flat chips wire.net wire.to past)))
    (λ (near : wire.to ≤ greatest chips). omega (arith, near, greatest_low planned.board.chips chips (low_chips planned.board chips sound.one_chip_each.chips)))
    (cases_lt (greatest chips) wire.to)
