-- What no action of a node changes of its ends.
use Rattle.std.proofs.Common.{◌≡◌, ℕ, zero, suc, ap, ◌∙◌}
use Rattle.vw_prog.specs.declared.action.Action.{Action}
use Rattle.vw_prog.specs.declared.action.Action.TheVariants as action
use Rattle.vw_prog.specs.declared.job.Job.{Job}
use Rattle.vw_prog.specs.Ends.{SeenEnds}
use Rattle.vw_node.specs.declared.step.Step.{Step}
use Rattle.vw_node.specs.declared.step.Step.TheVariants.{Done, Empty, Full, Moved}
use Rattle.vw_node.specs.Moves.{Goes, MakesActions, Makes, Steps}
use Rattle.vw_node.specs.States.{NodeState}
use Rattle.vw_crew.specs.Groups.{Marks}

abbrev pub fixed : SeenEnds → Marks
fixed ends = record { job = ends.job; node = ends.node; keeps = ends.keeps }

module _ (job : Job) (node : ℕ) where
  step_keeps : (old new : NodeState) (before after : SeenEnds) (answer : Step) → Steps job node old new before after answer → fixed after ≡ fixed before
  step_keeps old new before after Moved (next, is, made) = by next made where
    by : (one : Action) → Makes job node old new before after one → fixed after ≡ fixed before
    by (action.Evaluate gate) does = ap fixed does.1
    by (action.Send link pin net) does = ap fixed does.1.ends
    by (action.Take link pin net) (word, is, took) = ap fixed took.0
    by action.Step does = ap fixed does.1
  step_keeps old new before after (Full link) (pin, net, is, same, puts) = ap fixed puts.ends
  step_keeps old new before after (Empty link) (pin, net, is, same, took) = ap fixed took.0
  step_keeps old new before after Done (is, same, stay) = ap fixed stay

  some_keep : (old new : NodeState) (before after : SeenEnds) (count : ℕ) → MakesActions job node old new before after count → fixed after ≡ fixed before
  some_keep old new before after zero (same, stay) = ap fixed stay
  some_keep old new before after (suc count) (state, ends, rest, final) = step_keeps state new ends after Moved final ∙ some_keep old state before ends count rest

  pub going_keeps : (old new : NodeState) (before after : SeenEnds) (answer : Step) → Goes job node old new before after answer → fixed after ≡ fixed before
  going_keeps old new before after answer goes = step_keeps goes.between new goes.ends after answer goes.last ∙ some_keep old goes.between before goes.ends goes.count goes.moves
