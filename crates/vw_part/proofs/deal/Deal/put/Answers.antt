use Rattle.std.proofs.Common.{◌≡◌, ◌<◌, ◌≤◌, ◌∙◌, ℕ, List, [], ◌∷◌, ◌++◌, length, get_or, ap, refl, sym, subst, arith}
use Rattle.std.proofs.lemmas.List.{get_or_default}
use Rattle.vw_part.specs.declared.load.Load.{Load}
use Rattle.vw_part.specs.Steps.Deals.{cell_nets_at}
use Rattle.vw_part.specs.Steps.Gains.{AreGains, lone_among}
use Rattle.vw_part.specs.Steps.CellNets.{times_among}
use Rattle.vw_part.proofs.Dealing.{HasCellMore, MayPut, dealt_more, loaded}
use Rattle.vw_part.proofs.ChipLoads.{held-le}
use Rattle.vw_part.proofs.KeptDeals.{HasCome, StayOff, gains_at, gains_come, keeps_come, pushed_here, pushed_other}
use Rattle.vw_part.proofs.KeptGains.{few_own}
use Rattle.vw_part.proofs.deal.Deal.put.Goals as goal

pub lone-requires : goal.lone-requires
lone-requires c = omega (arith, ap (λ (l : List ℕ). length l) c.at-own.ensures, few_own c.args.self.now.cell_nets.now c.len-cell.result, c.args.self.now.cell_nets.now.few_nets)

-- each cell so far counts once at most
pub add-requires-clause-fits : goal.add-requires-clause-fits
add-requires-clause-fits c = λ net.
    let cell_nets = c.args.self.now.cell_nets.now in
    let chips = c.args.self.now.chip_of.items in
    let load = loaded c.args.self.now c.args.chip c.index_mut-load.result.now c.requires.chip.1 c.index_mut-load.ensures.value in
    let next : c.len-cell.result ≡ length chips = omega (arith, c.len-cell.ensures, c.args.self.now.chip_of.ok) in
    let own : c.at-own.result.now ≡ cell_nets_at cell_nets (length chips) = c.at-own.ensures ∙ ap (λ (cell : ℕ). cell_nets_at cell_nets cell) next in
    let once : times_among c.at-own.result.now net ≤ 1 = subst (λ (nets : List ℕ). times_among nets net ≤ 1) (sym own) (cell_nets.once (length chips) [] c.requires.next net) in
    omega (arith, load.counts net, held-le chips cell_nets.of_cells.items c.args.chip net cell_nets.once, once, c.requires.next, cell_nets.few_cells)

-- the cell is recounted for its chip
pub add-requires-clause-gains : goal.add-requires-clause-gains
add-requires-clause-gains c =
    let deal = c.args.self.now in
    let chips = deal.chip_of.items in
    let load = c.index_mut-load.result.now in
    let gains = gains_at deal c.args.chip load c.requires.chip.1 c.index_mut-load.ensures.value in
    let next : c.len-cell.result ≡ length chips = omega (arith, c.len-cell.ensures, deal.chip_of.ok) in
    gains_come deal.cell_nets.now chips c.as_slice.result.now c.len-cell.result c.args.chip c.lone.result load deal.freed.counts.items c.set.new.self.counts.items gains
    (record {
      within = omega (arith, next, c.requires.next, gains.freed_long);
      others = λ other apart.
          let pushed = ap (λ (l : List ℕ). get_or l other 0) (c.as_slice.ensures.value ∙ c.in_ok-push.ensures.items) in
          pushed ∙ pushed_other chips c.args.chip other (λ same. apart (next ∙ same));
      count = c.lone.ensures ∙ ap (λ (nets : List ℕ). lone_among (λ net. get_or load.held.counts.items net 0) nets) c.at-own.ensures;
      written = c.set.ensures;
    })

pub invariant_of-self-2 : goal.invariant_of-self-2
invariant_of-self-2 c =
    let deal = c.args.self.now in
    let cell_nets = deal.cell_nets.now in
    let chips = deal.chip_of.items in
    let loads = deal.loads.items in
    let frees = deal.freed.counts.items in
    let chip = c.args.chip in
    let old = c.index_mut-load.result.now in
    let new = c.add.new.self in
    let after = c.add.new.freed.counts.items in
    let next : c.len-cell.result ≡ length chips = omega (arith, c.len-cell.ensures, deal.chip_of.ok) in
    let own : c.at-own.result.now ≡ cell_nets_at cell_nets (length chips) = c.at-own.ensures ∙ ap (λ (cell : ℕ). cell_nets_at cell_nets cell) next in
    let within : chip < length loads = omega (arith, deal.is.nodes, c.requires.chip.1) in
    let found : old ≡ get_or loads chip new = c.index_mut-load.ensures.value ∙ get_or_default loads chip old new within in
    let raw : HasCellMore c.at-own.result.now old new = record { cells = c.add.ensures.cells; long = c.add.ensures.long; counts = c.add.ensures.held } in
    let more : HasCellMore (cell_nets_at cell_nets (length chips)) (get_or loads chip new) new = subst (λ (nets : List ℕ). HasCellMore nets (get_or loads chip new) new) own (subst (λ (load : Load). HasCellMore c.at-own.result.now load new) found raw) in
    let may : MayPut deal.board.now cell_nets chips chip = record { next = c.requires.next; real = c.requires.chip; room = c.requires.room } in
    let came : HasCome cell_nets chips c.push.new.self.items frees c.set.new.self.counts.items after c.len-cell.result chip c.lone.result new = record {
      here = subst (λ (l : List ℕ). AreGains cell_nets l chip new after) c.as_slice.ensures.value c.add.ensures.gains;
      long = c.add.ensures.gains.freed_long ∙ sym (deal.gains chip new c.requires.chip.1).freed_long;
      comes =
          ap (λ (l : List ℕ). get_or l c.len-cell.result 0) c.in_ok-push.ensures.items
          ∙ ap (λ (x : ℕ). get_or (chips ++ chip ∷ []) x 0) next
          ∙ pushed_here chips chip;
      chips_stay = λ other apart.
          ap (λ (l : List ℕ). get_or l other 0) c.in_ok-push.ensures.items ∙ pushed_other chips chip other (λ same. apart (next ∙ same));
      written = c.set.ensures;
      others = subst (λ (l : List ℕ). StayOff chip l c.set.new.self.counts.items after) c.as_slice.ensures.value c.add.ensures.others;
    } in
    record {
      is = dealt_more deal.board.now cell_nets chips loads chip new deal.is may more _ _ c.in_ok-push.ensures.items refl;
      gains = keeps_come deal.board.now cell_nets chips _ loads frees _ after c.len-cell.result chip c.lone.result new deal.gains within came;
    }
