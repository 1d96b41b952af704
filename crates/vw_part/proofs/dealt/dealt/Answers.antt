use Rattle.std.proofs.Common.{◌≡◌, ◌≤◌, ◌<◌, ◌∙◌, ℕ, List, length, ap, sym, subst, All, arith}
use Rattle.vw_plan.specs.declared.board.Board.{Board}
use Rattle.vw_plan.specs.Chips.{IsChip, cells_on}
use Rattle.vw_plan.specs.Good.{NoMoveHelps}
use Rattle.vw_part.specs.declared.deal.Deal.{Deal}
use Rattle.vw_part.specs.declared.cell_nets.CellNets.{CellNets}
use Rattle.vw_part.specs.Steps.Deals.{HasNoGain}
use Rattle.vw_part.proofs.NoMoveHelps.{least}
use Rattle.vw_part.proofs.CellNets.{nets_long}
use Rattle.vw_part.proofs.dealt.dealt.Goals as goal

pub of-requires-2 : goal.of-requires-2
of-requires-2 c = omega (arith, nets_long c.args.flat.now.inputs c.args.flat.now.cells c.in_ok-cell_nets.cell_nets.of_cells.items c.in_ok-cell_nets.ensures.cell_nets, c.requires)

pub returns-clause-each : goal.returns-clause-each
returns-clause-each c = omega (arith, ap (λ (l : List ℕ). length l) c.of-3.ensures, c.descend.ensures.each, c.in_ok-deal.ensures.each, nets_long c.args.flat.now.inputs c.args.flat.now.cells c.in_ok-cell_nets.cell_nets.of_cells.items c.in_ok-cell_nets.ensures.cell_nets)

-- the deal is one on the board, also after all moves
board_is : (before after : Deal) (board : Board) → after.board ≡ before.board → before.board.now ≡ board → after.board.now ≡ board
board_is before after board kept is = ap (λ other. other.now) kept ∙ is

pub returns-clause-chips : goal.returns-clause-chips
returns-clause-chips c =
    let deal = c.descend.new.self in
    let real = subst (λ (board : Board). All (IsChip board) deal.chip_of.items) (board_is c.in_ok-deal.deal deal c.args.board.now c.descend.ensures.board c.in_ok-deal.ensures.board) deal.is.chips in
    subst (λ (l : List ℕ). All (IsChip c.args.board.now) l) (sym c.of-3.ensures) real

pub returns-clause-room : goal.returns-clause-room
returns-clause-room c = λ chip.
    let deal = c.descend.new.self in
    let room = subst (λ (board : Board). cells_on deal.chip_of.items chip ≤ board.cells) (board_is c.in_ok-deal.deal deal c.args.board.now c.descend.ensures.board c.in_ok-deal.ensures.board) (deal.is.room chip) in
    subst (λ (l : List ℕ). cells_on l chip ≤ c.args.board.now.cells) (sym c.of-3.ensures) room

-- all cells are settled
pub returns-clause-least : goal.returns-clause-least
returns-clause-least c =
    let flat = c.args.flat.now in
    let board = c.args.board.now in
    let cell_nets = c.in_ok-cell_nets.cell_nets in
    let deal = c.descend.new.self in
    let chips = deal.chip_of.items in
    let each : length chips ≡ length flat.cells = omega (arith, c.descend.ensures.each, c.in_ok-deal.ensures.each, nets_long flat.inputs flat.cells cell_nets.of_cells.items c.in_ok-cell_nets.ensures.cell_nets) in
    let real = subst (λ (board : Board). All (IsChip board) chips) (board_is c.in_ok-deal.deal deal c.args.board.now c.descend.ensures.board c.in_ok-deal.ensures.board) deal.is.chips in
    let IsSettled = λ (board : Board) (nets : CellNets). (cell : ℕ) → cell < length chips → HasNoGain board nets chips cell in
    let settled = subst (λ (nets : CellNets). IsSettled board nets) c.in_ok-deal.ensures.nets (subst (λ (board : Board). IsSettled board c.in_ok-deal.deal.cell_nets.now) c.in_ok-deal.ensures.board c.descend.ensures.settled) in
    subst (λ (l : List ℕ). NoMoveHelps flat board l) (sym c.of-3.ensures) (least flat board cell_nets c.in_ok-cell_nets.ensures.nets c.in_ok-cell_nets.ensures.cell_nets chips each real settled)
