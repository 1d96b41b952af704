-- what is written, and the registers that are left
use Rattle.std.proofs.Common.{◌≡◌, ◌-◌, ◌++◌}
use Rattle.vw_emit_text.specs.Steps.{delayed_items, items_text}
use Rattle.vw_emit_text.proofs.senders.push_delays.Given as goal

abbrev pub invariant-loop-later : goal.invariant-loop-later
invariant-loop-later l = l.text.items ++ items_text (delayed_items l.outlet l.later (l.lag - l.later)) ≡ l.initial.text.items ++ items_text (delayed_items l.outlet 0 l.lag)
