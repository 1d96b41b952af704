-- the actions so far, and the answer of the last step; no step comes behind one that made no action
use Rattle.vw_node.specs.Fits.{state_of}
use Rattle.vw_node.proofs.MovesOn.{IsUnderway, tries_left}
use Rattle.vw_node.proofs.node.Node.go.Given as goal

abbrev pub invariant-loop-answer : goal.invariant-loop-answer
invariant-loop-answer g l = IsUnderway l.fn.self (g.E.Ends.seen l.fn.ends) l.self (g.E.Ends.seen l.ends) l.answer

abbrev pub decreases-loop-answer : goal.decreases-loop-answer
decreases-loop-answer g l = let before = g.E.Ends.seen l.fn.ends in tries_left before.job l.fn.self.share.node (state_of l.self) l.answer
