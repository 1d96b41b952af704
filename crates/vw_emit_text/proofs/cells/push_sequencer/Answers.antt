use Rattle.vw_emit_text.proofs.PrintedItems.{sequencer_pieces}
use Rattle.vw_emit_text.proofs.cells.push_sequencer.Goals as goal

pub returns : goal.returns
returns c = sequencer_pieces c.args.period c.args.text.now.items c.push_item.new.text.items c.push_stages.new.text.items c.in_ok-push_item.ensures c.in_ok-push_stages.ensures
