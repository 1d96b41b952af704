-- What one step of a node does, and many, of itself and of the ends of its links. Source: this project.
use Rattle.std.specs.Prelude.{◌≡◌, ◌<◌, ℕ, zero, suc, Bool, true, false, Some, None}
use Rattle.vw_prog.specs.declared.action.Action.{Action}
use Rattle.vw_prog.specs.declared.action.Action.TheVariants as action
use Rattle.vw_prog.specs.declared.job.Job.{Job}
use Rattle.vw_prog.specs.declared.word.Word.{Word}
use Rattle.vw_prog.specs.Ends.{Puts, SeenEnds, Takes}
use Rattle.vw_prog.specs.Scripts.{planned_of}
use Rattle.vw_node.specs.declared.step.Step.{Step}
use Rattle.vw_node.specs.declared.step.Step.TheVariants.{Done, Empty, Full, Moved}
use Rattle.vw_node.specs.Left.{left}
use Rattle.vw_node.specs.States.{NodeState, evaluated, moved_on, next_action, stepped, written}

-- the node made an action
abbrev pub Makes : Job → ℕ → NodeState → NodeState → SeenEnds → SeenEnds → Action → Type 0
Makes job node old new before after (action.Evaluate gate) = (new ≡ evaluated (planned_of job) gate old) × (after ≡ before)
Makes job node old new before after (action.Send link pin net) = (new ≡ moved_on old) × Puts link before after true
Makes job node old new before after (action.Take link pin net) = (word : Word) × (new ≡ written old net word.bit) × Takes link before after (Some word)
Makes job node old new before after action.Step = (new ≡ stepped job node old) × (after ≡ before)

-- what a step answers: the next action was made; or it is a send or a take that was refused, and nothing changed but the count of
-- refusals; or there is none
abbrev pub Steps : Job → ℕ → NodeState → NodeState → SeenEnds → SeenEnds → Step → Type 0
Steps job node old new before after Moved = (next : Action) × (next_action job node old ≡ Some next) × Makes job node old new before after next
Steps job node old new before after (Full link) = (pin net : ℕ) × (next_action job node old ≡ Some (action.Send link pin net)) × (new ≡ old) × Puts link before after false
Steps job node old new before after (Empty link) = (pin net : ℕ) × (next_action job node old ≡ Some (action.Take link pin net)) × (new ≡ old) × Takes link before after None
Steps job node old new before after Done = (next_action job node old ≡ None) × (new ≡ old) × (after ≡ before)

abbrev pub is_moved : Step → Bool
is_moved Moved = true
is_moved (Full link) = false
is_moved (Empty link) = false
is_moved Done = false

-- so many actions were made, one after the other
abbrev pub MakesActions : Job → ℕ → NodeState → NodeState → SeenEnds → SeenEnds → ℕ → Type 0
MakesActions job node old new before after zero = (new ≡ old) × (after ≡ before)
MakesActions job node old new before after (suc count) = (between : NodeState) × (ends : SeenEnds) × MakesActions job node old between before ends count × Steps job node between new ends after Moved

-- a node made actions until one was refused or none was left
pub record Goes (job : Job) (node : ℕ) (old new : NodeState) (before after : SeenEnds) (answer : Step) : Type 0 where
  pub count : ℕ
  pub between : NodeState
  pub ends : SeenEnds
  pub moves : MakesActions job node old between before ends count
  pub last : Steps job node between new ends after answer
  pub stops : is_moved answer ≡ false

-- a node made one action or more, or none; and no more than one where the run wasn't to be whole
pub record MakesSome (job : Job) (node : ℕ) (old new : NodeState) (before after : SeenEnds) (whole : Bool) (answer : Step) : Type 0 where
  pub one : whole ≡ false → Steps job node old new before after answer
  pub some : is_moved answer ≡ true → (count : ℕ) × MakesActions job node old new before after (suc count)
  pub fewer : is_moved answer ≡ true → left job node new < left job node old
  pub none : is_moved answer ≡ false → Steps job node old new before after answer
