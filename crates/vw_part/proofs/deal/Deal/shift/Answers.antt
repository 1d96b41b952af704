use Rattle.std.proofs.Common.{◌≡◌, ◌<◌, ◌≤◌, ◌∙◌, ℕ, List, [], length, get_or, set, ap, refl, sym, subst, arith}
use Rattle.std.proofs.lemmas.List.{get_or-set_other, get_or-set_same, get_or_default, length-set}
use Rattle.std.proofs.lemmas.List.Elements.{All-get_or}
use Rattle.vw_plan.specs.Chips.{IsChip}
use Rattle.vw_part.specs.declared.deal.Deal.{Deal}
use Rattle.vw_part.specs.declared.load.Load.{Load}
use Rattle.vw_part.specs.Steps.Deals.{cells_held, cell_nets_at}
use Rattle.vw_part.specs.Steps.Gains.{AreGains, lone_among}
use Rattle.vw_part.specs.Steps.CellNets.{times_among}
use Rattle.vw_part.proofs.Dealing.{HasCellMore, dealt_moved, loaded}
use Rattle.vw_part.proofs.ChipLoads.{held-le, held_least}
use Rattle.vw_part.proofs.KeptDeals.{HasCome, StayOff, gains_at, gains_between, gains_come, keeps_come}
use Rattle.vw_part.proofs.KeptGains.{few_own}
use Rattle.vw_part.proofs.deal.Deal.shift.Goals as goal

-- the chip that a cell comes from
is_from : (deal : Deal) (cell from : ℕ) → cell < length deal.chip_of.items → from ≡ get_or deal.chip_of.items cell from → from ≡ get_or deal.chip_of.items cell 0
is_from deal cell from within read = read ∙ get_or_default deal.chip_of.items cell from 0 within

from-low : (deal : Deal) (cell from : ℕ) → cell < length deal.chip_of.items → from ≡ get_or deal.chip_of.items cell from → from ≤ deal.board.now.chips
from-low deal cell from within read = omega (arith, is_from deal cell from within read, (All-get_or (IsChip deal.board.now) deal.chip_of.items cell 0 within deal.is.chips).1)

-- the cell's nets are held by its chip
pub remove-requires-clause-there : goal.remove-requires-clause-there
remove-requires-clause-there c = λ net.
    let cell_nets = c.args.self.now.cell_nets.now in
    let chips = c.args.self.now.chip_of.items in
    let from = is_from c.args.self.now c.args.cell c.index-from.result.now c.requires.cell c.index-from.ensures in
    let load = loaded c.args.self.now c.index-from.result.now c.index_mut-left.result.now (from-low c.args.self.now c.args.cell c.index-from.result.now c.requires.cell c.index-from.ensures) c.index_mut-left.ensures.value in
    let least : times_among c.at-own.result.now net ≤ cells_held chips cell_nets.of_cells.items c.index-from.result.now net = subst (λ (nets : List ℕ). times_among nets net ≤ cells_held chips cell_nets.of_cells.items c.index-from.result.now net) (sym c.at-own.ensures) (subst (λ (chip : ℕ). times_among (cell_nets_at cell_nets c.args.cell) net ≤ cells_held chips cell_nets.of_cells.items chip net) (sym from) (held_least chips cell_nets.of_cells.items c.args.cell net c.requires.cell)) in
    omega (arith, load.counts net, least)

pub remove-requires-clause-gains : goal.remove-requires-clause-gains
remove-requires-clause-gains c =
    let deal = c.args.self.now in
    let from = c.index-from.result.now in
    subst (λ (l : List ℕ). AreGains deal.cell_nets.now l from c.index_mut-left.result.now deal.freed.counts.items) (sym c.as_slice.ensures.value) (gains_at deal from c.index_mut-left.result.now (from-low deal c.args.cell from c.requires.cell c.index-from.ensures) c.index_mut-left.ensures.value)

pub lone-lone-requires : goal.lone-lone-requires
lone-lone-requires c = omega (arith, ap (λ (l : List ℕ). length l) c.at-own.ensures, few_own c.args.self.now.cell_nets.now c.args.cell, c.args.self.now.cell_nets.now.few_nets)

pub add-requires-clause-fits : goal.add-requires-clause-fits
add-requires-clause-fits c = λ net.
    let cell_nets = c.args.self.now.cell_nets.now in
    let chips = c.args.self.now.chip_of.items in
    let loads = c.args.self.now.loads.items in
    let from = is_from c.args.self.now c.args.cell c.index-from.result.now c.requires.cell c.index-from.ensures in
    let found : c.index_mut-joined.result.now ≡ get_or loads c.args.chip c.index_mut-joined.result.now = c.index_mut-joined.ensures.value ∙ get_or-set_other loads c.index-from.result.now c.args.chip c.remove.new.self c.index_mut-joined.result.now (λ same. c.requires.target.away (sym from ∙ sym same)) in
    let load = loaded c.args.self.now c.args.chip c.index_mut-joined.result.now c.requires.target.real.1 found in
    let once : times_among c.at-own.result.now net ≤ 1 = subst (λ (nets : List ℕ). times_among nets net ≤ 1) (sym c.at-own.ensures) (cell_nets.once c.args.cell [] (omega (arith, c.requires.cell, c.args.self.now.is.few)) net) in
    omega (arith, load.counts net, held-le chips cell_nets.of_cells.items c.args.chip net cell_nets.once, once, c.args.self.now.is.few, cell_nets.few_cells)

-- the cell is recounted for its new chip
pub add-requires-clause-gains : goal.add-requires-clause-gains
add-requires-clause-gains c =
    let deal = c.args.self.now in
    let from = c.index-from.result.now in
    let load = c.index_mut-joined.result.now in
    let low = from-low deal c.args.cell from c.requires.cell c.index-from.ensures in
    let between = gains_between deal from c.remove.new.self c.remove.new.freed.counts.items c.as_slice.result.now low c.as_slice.ensures.value c.remove.ensures.gains c.remove.ensures.others in
    let gains : AreGains deal.cell_nets.now deal.chip_of.items c.args.chip load c.remove.new.freed.counts.items = subst (λ (x : Load). AreGains deal.cell_nets.now deal.chip_of.items c.args.chip x c.remove.new.freed.counts.items) (sym c.index_mut-joined.ensures.value) (between c.args.chip load c.requires.target.real.1) in
    gains_come deal.cell_nets.now deal.chip_of.items c.as_slice-2.result.now c.args.cell c.args.chip c.lone-lone.result load c.remove.new.freed.counts.items c.set.new.self.counts.items gains
    (record {
      within = omega (arith, c.requires.cell, deal.is.few, gains.freed_long);
      others = λ other apart.
          let moved = ap (λ (l : List ℕ). get_or l other 0) c.as_slice-2.ensures.value in
          moved ∙ get_or-set_other deal.chip_of.items c.args.cell other c.args.chip 0 (λ same. apart (sym same));
      count = c.lone-lone.ensures ∙ ap (λ (nets : List ℕ). lone_among (λ net. get_or load.held.counts.items net 0) nets) c.at-own.ensures;
      written = c.set.ensures;
    })

pub invariant_of-self : goal.invariant_of-self
invariant_of-self c =
    let deal = c.args.self.now in
    let cell_nets = deal.cell_nets.now in
    let chips = deal.chip_of.items in
    let loads = deal.loads.items in
    let cell = c.args.cell in
    let chip = c.args.chip in
    let own = c.at-own.result.now in
    let old_from = c.index_mut-left.result.now in
    let new_from = c.remove.new.self in
    let old = c.index_mut-joined.result.now in
    let new = c.add.new.self in
    let between_frees = c.remove.new.freed.counts.items in
    let after = c.add.new.freed.counts.items in
    let from = is_from deal cell c.index-from.result.now c.requires.cell c.index-from.ensures in
    let low = from-low deal cell c.index-from.result.now c.requires.cell c.index-from.ensures in
    let from_within : get_or chips cell 0 < length loads = omega (arith, deal.is.nodes, low, from) in
    let within : chip < length loads = omega (arith, deal.is.nodes, c.requires.target.real.1) in
    let found_from : old_from ≡ get_or loads (get_or chips cell 0) new_from = c.index_mut-left.ensures.value ∙ ap (λ (x : ℕ). get_or loads x old_from) from ∙ get_or_default loads (get_or chips cell 0) old_from new_from from_within in
    let found : old ≡ get_or loads chip new = c.index_mut-joined.ensures.value ∙ get_or-set_other loads c.index-from.result.now chip new_from old (λ same. c.requires.target.away (sym from ∙ sym same)) ∙ get_or_default loads chip old new within in
    let raw_less : HasCellMore own new_from old_from = record { cells = sym c.remove.ensures.cells; long = sym c.remove.ensures.long; counts = λ net. sym (c.remove.ensures.held net) } in
    let raw : HasCellMore own old new = record { cells = c.add.ensures.cells; long = c.add.ensures.long; counts = c.add.ensures.held } in
    let less : HasCellMore (cell_nets_at cell_nets cell) new_from (get_or loads (get_or chips cell 0) new_from) = subst (λ (nets : List ℕ). HasCellMore nets new_from (get_or loads (get_or chips cell 0) new_from)) c.at-own.ensures (subst (λ (load : Load). HasCellMore own new_from load) found_from raw_less) in
    let more : HasCellMore (cell_nets_at cell_nets cell) (get_or loads chip new) new = subst (λ (nets : List ℕ). HasCellMore nets (get_or loads chip new) new) c.at-own.ensures (subst (λ (load : Load). HasCellMore own load new) found raw) in
    let written = ap (λ (x : ℕ). set (set loads x new_from) chip new) from in
    let between = gains_between deal c.index-from.result.now new_from between_frees c.as_slice.result.now low c.as_slice.ensures.value c.remove.ensures.gains c.remove.ensures.others in
    let came : HasCome cell_nets chips (set chips cell chip) between_frees c.set.new.self.counts.items after cell chip c.lone-lone.result new = record {
      here = subst (λ (l : List ℕ). AreGains cell_nets l chip new after) c.as_slice-2.ensures.value c.add.ensures.gains;
      long = c.add.ensures.gains.freed_long ∙ sym c.remove.ensures.gains.freed_long;
      comes = get_or-set_same chips cell chip 0 c.requires.cell;
      chips_stay = λ other apart. get_or-set_other chips cell other chip 0 (λ same. apart (sym same));
      written = c.set.ensures;
      others = subst (λ (l : List ℕ). StayOff chip l c.set.new.self.counts.items after) c.as_slice-2.ensures.value c.add.ensures.others;
    } in
    let loads_between = set loads c.index-from.result.now new_from in
    let within_between : chip < length loads_between = omega (arith, within, length-set loads c.index-from.result.now new_from) in
    record {
      is = dealt_moved deal.board.now cell_nets chips loads cell chip new_from new deal.is c.requires.cell c.requires.target less more _ _ refl written;
      gains = keeps_come deal.board.now cell_nets chips (set chips cell chip) loads_between between_frees _ after cell chip c.lone-lone.result new between within_between came;
    }
