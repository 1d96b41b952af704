-- what is written, and the marks that are left
use Rattle.std.proofs.Common.{◌≡◌, ◌-◌, ◌++◌, replicate}
use Rattle.vw_net.specs.declared.cover.Mark.TheVariants.{Any}
use Rattle.vw_emit_text.specs.Steps.{marks_text}
use Rattle.vw_emit_text.proofs.rows.push_any.Given as goal

abbrev pub invariant-loop-input : goal.invariant-loop-input
invariant-loop-input l = l.text.items ++ marks_text (replicate (l.inputs - l.input) Any) ≡ l.initial.text.items ++ marks_text (replicate l.inputs Any)
