use Rattle.std.proofs.Common.{◌≡◌, ◌<◌, ◌≤◌, ℕ, ⊎_elim, arith, subst}
use Rattle.std.proofs.lemmas.Bool.{cases_lt}
use Rattle.vw_plan.specs.Chips.{cells_on}
use Rattle.vw_part.proofs.Dealing.{loaded, not_all_full}
use Rattle.vw_part.proofs.deal.Deal.chip_with_room.Goals as goal

-- one more chip is full
pub loop-chip-preserved : goal.loop-chip-preserved
loop-chip-preserved c = λ chip some low.
    let chips = c.args.self.now.chip_of.items in
    let at = c.loop-chip.chip in
    let if_before = λ (before : chip < at). c.loop-chip.invariant chip some before in
    let if_here = λ (here : at ≤ chip).
    let is : at ≡ chip = omega arith in
    let few : at ≤ c.args.self.now.board.now.chips = omega (arith, c.chips-chip-end.ensures, c.loop-chip-test.true) in
    let load = loaded c.args.self.now at c.index-in-loop-chip.result.now few c.index-in-loop-chip.ensures in
    let full : c.args.self.now.board.now.cells ≤ cells_on chips at = omega (arith, load.cells, c.cells-in-loop-chip.ensures, c.if-index-cells-2.false) in
    subst (λ (x : ℕ). c.args.self.now.board.now.cells ≤ cells_on chips x) is full in
    ⊎_elim if_before if_here (cases_lt chip at)

-- all chips can't be full
pub returns-clause-chip : goal.returns-clause-chip
returns-clause-chip c = absurd (not_all_full c.args.self.now.board.now c.args.self.now.chip_of.items c.args.self.now.is.chips c.requires (λ chip some low. c.loop-chip.invariant chip some (omega (arith, c.chips-chip-end.ensures, c.loop-chip-test.false))))

pub returns-clause-room : goal.returns-clause-room
returns-clause-room c = absurd (not_all_full c.args.self.now.board.now c.args.self.now.chip_of.items c.args.self.now.is.chips c.requires (λ chip some low. c.loop-chip.invariant chip some (omega (arith, c.chips-chip-end.ensures, c.loop-chip-test.false))))
