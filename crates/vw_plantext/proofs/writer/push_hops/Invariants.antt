-- what is written, and the hops that are left
use Rattle.std.proofs.Common.{◌≡◌, ◌++◌, drop}
use Rattle.vw_plantext.specs.Steps.Pieces.{hops_text}
use Rattle.vw_plantext.proofs.writer.push_hops.Given as goal

abbrev pub invariant-loop-hop : goal.invariant-loop-hop
invariant-loop-hop l = l.text.items ++ hops_text (drop l.hop-index l.hops) ≡ l.initial.text.items ++ hops_text l.hops
