use Rattle.std.proofs.Common.{List, ℕ, ap}
use Rattle.vw_pipe.specs.declared.turns.Turns.{Turns}
use Rattle.vw_pipe.proofs.TurnsKept.{turns_of_nets}
use Rattle.vw_pipe.proofs.turns.kept_turns.Goals as goal

-- by the order of the gates
pub returns : goal.returns
returns c =
    let given = c.args.given.now in
    turns_of_nets given.ordered.now given.chip_of.now given.routes.now c.args.own.items c.in_ok-turns.turns (ap (λ nets. nets.items) c.in_ok-turns.ensures.nets)
    c.in_ok-turns.ensures.routes c.requires c.in_ok-turns.ensures.long
