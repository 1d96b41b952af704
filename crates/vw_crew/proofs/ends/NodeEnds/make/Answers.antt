use Rattle.std.proofs.Common.{◌≡◌, List, length, ap, sym, ◌∙◌}
use Rattle.vw_plan.specs.declared.board.Board.{Board}
use Rattle.vw_plan.specs.declared.checked.Checked.{Checked}
use Rattle.vw_plan.specs.declared.link.Link.{Link}
use Rattle.vw_prog.specs.declared.job.Job.{Job}
use Rattle.vw_crew.proofs.OwnEnds.{no_own}
use Rattle.vw_crew.proofs.Places.{none_mapped}
use Rattle.vw_crew.proofs.ends.NodeEnds.make.Goals as goal

pub invariant_of-result : goal.invariant_of-result
invariant_of-result g c =
    let puts = none_mapped g.T.PutEnd.seen c.in_ok-puts.puts.items (length c.links-links.result.now) c.in_ok-puts.ensures in
    let takes = none_mapped g.U.TakeEnd.seen c.in_ok-takes.takes.items (length c.links-links.result.now) c.in_ok-takes.ensures in
    let long : length c.links-links.result.now ≡ length c.of.result.value.checked.board.links = ap (λ (links : List Link). length links) (c.links-links.ensures ∙ ap (λ (board : Board). board.links) (c.board.ensures ∙ ap (λ (checked : Checked). checked.board) c.checked.ensures)) ∙ ap (λ (job : Job). length job.checked.board.links) (sym c.of.ensures) in
    no_own c.of.result.value c.args.node _ _ (puts.0 ∙ long) (takes.0 ∙ long) puts.1 takes.1
