use Rattle.std.proofs.Common.{ℕ, ap, ap₂, refl, sym, ◌∙◌, arith}
use Rattle.std.specs.List.{swap}
use Rattle.vw_place.specs.Steps.NodeLists.{NumberedBoard}
use Rattle.vw_place.specs.Steps.Traffic.{travel_by}
use Rattle.vw_place.proofs.Exchanges.{swapped_back}
use Rattle.vw_place.proofs.exchange.Exchange.try_two.Goals as goal

-- exchanged back, the nodes are as at the start
pub invariant_of-self-2 : goal.invariant_of-self-2
invariant_of-self-2 c =
    let old = c.args.self.now in
    let same = swapped_back old.nodes c.swap.new.self c.swap-2.new.self c.args.one c.args.other c.swap.ensures.nodes c.requires.one.1 c.requires.other.1 c.swap.ensures.swapped c.swap-2.ensures.swapped in
    record { is = old.is ∙ ap (λ (nodes : NumberedBoard). travel_by old.table.now nodes.board nodes.numbers) (sym same) }

pub returns : goal.returns
returns c =
    let old = c.args.self.now in
    let same = swapped_back old.nodes c.swap.new.self c.swap-2.new.self c.args.one c.args.other c.swap.ensures.nodes c.requires.one.1 c.requires.other.1 c.swap.ensures.swapped c.swap-2.ensures.swapped in
    let travel = c.travel-travel.ensures ∙ ap (λ (nodes : NumberedBoard). travel_by old.table.now nodes.board nodes.numbers) c.swap.ensures.swapped in
    record {
      table = refl;
      board = ap (λ (nodes : NumberedBoard). nodes.board) same;
      no_greater = omega arith;
      same = λ as_long. same;
      useless = λ as_long first second is. omega (arith, c.if-travel-self.false, travel, ap₂ (λ (one other : ℕ). travel_by old.table.now old.nodes.board (swap old.nodes.numbers one other)) is.0 is.1);
    }
