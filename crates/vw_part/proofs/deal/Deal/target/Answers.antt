use Rattle.std.proofs.Common.{◌≡◌, ◌∙◌, ◌≤◌, ℕ, List, length, get_or, eqb, ap, arith}
use Rattle.std.proofs.lemmas.List.Sums.{count_by-le-length}
use Rattle.vw_part.specs.Steps.Deals.{cells_held, freed, cell_nets_at}
use Rattle.vw_part.specs.declared.cell_nets.CellNets.{CellNets}
use Rattle.vw_part.proofs.Dealing.{met-le}
use Rattle.vw_part.proofs.KeptDeals.{freed_is}
use Rattle.vw_part.proofs.deal.Deal.target.Goals as goal

freed-le : (cell_nets : CellNets) (chips : List ℕ) (cell : ℕ) → freed cell_nets chips cell ≤ length (cell_nets_at cell_nets cell)
freed-le cell_nets chips cell = count_by-le-length (λ net. eqb (cells_held chips cell_nets.of_cells.items (get_or chips cell 0) net) 1) (cell_nets_at cell_nets cell)

-- where the cell frees no net, no move helps
pub returns-then-lone-eq0 : goal.returns-then-lone-eq0
returns-then-lone-eq0 c = λ chip target helps.
    let lone : c.at-lone.result ≡ freed c.args.self.now.cell_nets.now c.args.self.now.chip_of.items c.args.cell = c.at-lone.ensures ∙ freed_is c.args.self.now c.args.cell c.requires in
    omega (arith, lone, c.if-lone-eq0.true, met-le c.args.self.now.cell_nets.now c.args.self.now.chip_of.items c.args.cell chip, helps)

pub overflow_sub-most : goal.overflow_sub-most
overflow_sub-most c = omega (arith, c.at-lone.ensures, freed_is c.args.self.now c.args.cell c.requires, freed-le c.args.self.now.cell_nets.now c.args.self.now.chip_of.items c.args.cell, ap (λ (l : List ℕ). length l) c.at-own.ensures)

-- no chip so far
pub loop-chip-init : goal.loop-chip-init
loop-chip-init c =
    let long = ap (λ (l : List ℕ). length l) c.at-own.ensures in
    let lone : c.at-lone.result ≡ freed c.args.self.now.cell_nets.now c.args.self.now.chip_of.items c.args.cell = c.at-lone.ensures ∙ freed_is c.args.self.now c.args.cell c.requires in
    let few = freed-le c.args.self.now.cell_nets.now c.args.self.now.chip_of.items c.args.cell in
    record {
      lone = lone;
      enough = omega (arith, long, few, lone);
      best = (omega (arith, long, few, lone), λ chip below target helps. omega (arith, below, target.real.0));
    }
