use Rattle.std.proofs.Common.{ap, sym, ◌∙◌}
use Rattle.std.specs.Option.{is_some}
use Rattle.vw_crew_tests.proofs.LaidEnds.{ends_are, put_none, put_words}
use Rattle.vw_crew_tests.proofs.ends.round.Goals as goal

pub exchange_words-requires-clause-puts : goal.exchange_words-requires-clause-puts
exchange_words-requires-clause-puts g c =
    let laid = c.in_ok-tx.ensures.laid in
    (put_words c.args.job.now c.args.link _ _ _ c.requires.link laid ∙ sym c.requires.script, put_none c.args.job.now c.args.link _ _ _ c.requires.link laid)

pub lift-requires : goal.lift-requires
lift-requires g c = ends_are c.args.job.now c.args.link _ _ _ c.requires.link c.in_ok-tx.ensures.laid _ (ap is_some c.lay.ensures.same) _ _ _ _ c.in_ok-exchange.ensures.0 c.in_ok-exchange.ensures.1
