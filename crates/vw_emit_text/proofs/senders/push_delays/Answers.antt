use Rattle.vw_emit_text.specs.Steps.{delayed_item, item_text}
use Rattle.vw_text.proofs.WrittenPieces.{mapped_more}
use Rattle.vw_emit_text.proofs.senders.push_delays.Goals as goal

pub loop-later-preserved : goal.loop-later-preserved
loop-later-preserved c =
    mapped_more item_text (delayed_item c.args.outlet.now) c.loop-later.later c.args.lag c.loop-later.text.items
    c.push_delay.new.text.items _ c.loop-later-test.true c.in_ok-push_delay.ensures c.loop-later.invariant
