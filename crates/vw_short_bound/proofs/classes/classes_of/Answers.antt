use Rattle.std.proofs.Common.{ap}
use Rattle.std.proofs.lemmas.List.Elements.{All-push}
use Rattle.vw_bound.specs.Given.{design_in}
use Rattle.vw_short_bound.specs.Steps.Inlets.{IsClassOf}
use Rattle.vw_short_bound.proofs.classes.classes_of.Goals as goal
use Rattle.vw_short_bound.proofs.classes.classes_of.Goals.{then-come_from+in_ok-class+then-is_new+in_ok-push, then-come_from+in_ok-class+else-is_new, else-come_from}

pub loop-source-preserved : goal.loop-source-preserved
loop-source-preserved c =
    let P = IsClassOf (design_in c.args.placed.now) c.args.node c.args.nets.now in
    elim c.if-come_from.branch [
      | then-come_from+in_ok-class+then-is_new+in_ok-push w ↦ let kept = ap (λ classes. classes.items) w.classes-is in let pushed = w.in_ok-push.ensures.items in rw (kept, pushed) (All-push P c.loop-source.classes.items w.in_ok-class.class c.loop-source.invariant w.in_ok-class.ensures)
      | then-come_from+in_ok-class+else-is_new w ↦ rw (ap (λ classes. classes.items) w.classes-is) c.loop-source.invariant
      | else-come_from w ↦ rw (ap (λ classes. classes.items) w.classes-is) c.loop-source.invariant
    ]
