use Rattle.std.proofs.Common.{ℕ, List, get_or, ap, sym, subst}
use Rattle.vw_chain.specs.Steps.{IsThere}
use Rattle.vw_chain.specs.Timing.{planned_of}
use Rattle.vw_chain.proofs.GateReads.{last_net, last_there}
use Rattle.vw_chain.proofs.timed.Timed.back_over.Goals as goal

pub back_home-requires-clause-net : goal.back_home-requires-clause-net
back_home-requires-clause-net c = last_net (planned_of c.args.self.now) c.args.number c.requires.gate c.last_of_gate-net.result c.last_of_gate-net.ensures

pub back_home-requires-clause-there : goal.back_home-requires-clause-there
back_home-requires-clause-there c =
    let planned = planned_of c.args.self.now in
    subst (λ (node : ℕ). IsThere planned node c.last_of_gate-net.result) (ap (λ (chips : List ℕ). get_or chips c.args.number 0) (sym c.chip_of.ensures))
    (last_there planned c.args.number c.requires.gate c.last_of_gate-net.result c.last_of_gate-net.ensures c.args.self.now.sound)
