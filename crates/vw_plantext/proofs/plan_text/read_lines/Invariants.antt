-- how far the text is read
use Rattle.std.proofs.Common.{ℕ, List, ◌≤◌, ◌+◌, length}
use Rattle.vw_plantext.specs.Steps.Bodies.{BodyState, body_state}
use Rattle.vw_plantext.specs.Steps.Starts.{IsReadTo}
use Rattle.vw_plantext.proofs.plan_text.read_lines.Given as goal

pub record IsReadUpTo (text : List ℕ) (state : BodyState) (rest : List ℕ) (number : ℕ) : Type 0 where
  pub to : IsReadTo text state rest number
  pub small : number + length rest ≤ 3 + 67108864

abbrev pub invariant-loop-line : goal.invariant-loop-line
invariant-loop-line l = IsReadUpTo l.bytes (body_state l.body) l.rest l.number

abbrev pub decreases-loop-line : goal.decreases-loop-line
decreases-loop-line l = length l.rest
