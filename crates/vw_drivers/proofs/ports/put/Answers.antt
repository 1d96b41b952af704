use Rattle.std.proofs.Common.{◌∷◌, [], List, Option, None, length, ◌∙◌, ap, arith, length-append}
use Rattle.vw_drivers.specs.declared.source.Source.{Source}
use Rattle.vw_drivers.specs.Steps.FoundDrivers.{with_port}
use Rattle.vw_drivers.proofs.WrittenRows.{with_nothing, with_set}
use Rattle.vw_drivers.proofs.ports.put.Goals as goal

pub loop-preserved : goal.loop-preserved
loop-preserved c = record {
  row = ap (λ (row : List (Option Source)). with_port row c.args.number c.args.source) c.in_ok-push.ensures.items
      ∙ with_nothing c.loop.row.items c.args.number c.args.source (omega (arith, c.loop.invariant.long, c.loop-test.true))
      ∙ c.loop.invariant.row;
  long = ap length c.in_ok-push.ensures.items ∙ length-append c.loop.row.items (None ∷ []) ∙ omega (arith, c.loop.invariant.long);
}

pub returns : goal.returns
returns c =
    with_set c.loop.row.items c.args.number c.args.source (omega (arith, c.loop.invariant.long, c.loop-test.false))
    ∙ c.loop.invariant.row
