use Rattle.std.proofs.Common.{◌≡◌, ◌<◌, ◌-◌, List, length, get_or, length-set, ◌∙◌, ap, ap₂, arith}
use Rattle.std.proofs.lemmas.Option.{slice_get-get_or}
use Rattle.vw_instances.specs.declared.tables.ListedInstance.{ListedInstance}
use Rattle.vw_drivers.specs.Steps.FoundDrivers.{DriverRows, outputs_made}
use Rattle.vw_drivers.proofs.OutputRows.{outputs_set}
use Rattle.vw_drivers.proofs.outputs.outputs_by.Goals as goal

pub loop-instance-preserved : goal.loop-instance-preserved
loop-instance-preserved c =
    let tables = c.args.tables.now in
    let rows = c.loop-instance.rows.items in
    let row = c.in_ok-row.row in
    let k = c.loop-instance.instance - 1 in
    let none : ListedInstance = record { model = 0; parent = 0; place = 0; cells = 0 } in
    let entry = get_or tables.instances k none in
    let within : k < length tables.instances =
    omega (arith, c.loop-instance-test.true, c.loop-instance.auto.instance, ap (λ (list : List ListedInstance). length list) c.instances-instances.ensures) in
    let row_is : row ≡ outputs_made tables rows k entry =
    c.in_ok-row.ensures
    ∙ ap₂ (λ (rows : DriverRows) (list : List ListedInstance). outputs_made tables rows k (get_or list k none)) c.as_slice.ensures.value c.instances-instances.ensures in
    record {
      long = length-set rows k row ∙ c.loop-instance.invariant.long;
      right = λ design faultless are.
          outputs_set design faultless tables are k rows (λ other later. c.loop-instance.invariant.right design faultless are other (omega (arith, later, c.loop-instance-test.true)))
          entry (slice_get-get_or tables.instances k none within) (omega (arith, within, c.loop-instance.invariant.long)) row row_is;
    }

pub returns : goal.returns
returns c = λ design faultless are instance. c.loop-instance.invariant.right design faultless are instance (omega (arith, c.loop-instance-test.false))
