use Rattle.std.proofs.Common.{arith}
use Rattle.vw_prog.proofs.OwnedLatches.{given_is}
use Rattle.vw_prog.proofs.owners.give.Goals as goal

pub returns-in_ok-push-clause-each : goal.returns-in_ok-push-clause-each
returns-in_ok-push-clause-each c other within = given_is c.args.lists.now.items c.args.node c.index_mut.result.now c.push.new.self c.args.latch (omega (arith, c.if-node-len.true, c.len.ensures, c.args.lists.now.ok)) c.index_mut.ensures.value c.in_ok-push.ensures.items other
