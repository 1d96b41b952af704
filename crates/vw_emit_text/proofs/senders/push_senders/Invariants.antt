-- what is written, and the hops that are left
use Rattle.std.proofs.Common.{◌≡◌, ◌++◌, drop}
use Rattle.vw_emit_text.specs.Steps.{items_text, planned_by, sent_items}
use Rattle.vw_emit_text.proofs.senders.push_senders.Given as goal

abbrev pub invariant-loop-outlet : goal.invariant-loop-outlet
invariant-loop-outlet l = l.text.items ++ items_text (sent_items (planned_by l.emitter) l.node (drop l.outlet-index l.outlets)) ≡ l.initial.text.items ++ items_text (sent_items (planned_by l.emitter) l.node l.outlets)
