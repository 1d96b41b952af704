use Rattle.std.proofs.Common.{◌<◌, ◌∙◌, length, get_or, arith}
use Rattle.std.proofs.lemmas.List.{length-set}
use Rattle.vw_part.proofs.NetCells.{IsListedAt, listed_more}
use Rattle.vw_part.proofs.net_cells.NetCells.list.Goals as goal

-- at one more net
pub loop-net-preserved : goal.loop-net-preserved
loop-net-preserved c =
    let own = c.args.own.now in
    let index = c.loop-net.net-index in
    let of_nets = c.loop-net.self.of_nets.items in
    let within : index < length own = omega arith in
    let place = get_or own index 0 in
    let before = c.index_mut.result.now in
    let after = c.push.new.self in
    let once_more : IsListedAt of_nets place c.args.cell before after = record {
      there = omega (arith, c.requires.within index 0 within, c.loop-net.invariant.long);
      found = c.index_mut.ensures.value;
      pushed = c.in_ok-push.ensures.items;
    } in
    record {
      long = length-set of_nets place after ∙ c.loop-net.invariant.long;
      each = λ net default other below. listed_more of_nets own index c.args.cell before after _ net default other within once_more (c.loop-net.invariant.each net default other below);
    }
