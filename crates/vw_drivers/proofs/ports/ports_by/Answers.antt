use Rattle.std.proofs.Common.{◌≡◌, ◌<◌, ◌∷◌, [], List, length, get_or, length-append, sym, ◌∙◌, ap, ap₂, arith}
use Rattle.std.proofs.lemmas.Option.{slice_get-get_or, slice_get_within}
use Rattle.vw_design.specs.Preorder.{instances}
use Rattle.vw_instances.specs.declared.tables.ListedInstance.{ListedInstance}
use Rattle.vw_drivers.specs.Steps.FoundDrivers.{DriverRows, ports_made}
use Rattle.vw_drivers.proofs.PortRows.{ports_more}
use Rattle.vw_drivers.proofs.ports.ports_by.Goals as goal

pub loop-entry-preserved : goal.loop-entry-preserved
loop-entry-preserved c =
    let tables = c.args.tables.now in
    let outputs = c.args.outputs.now in
    let rows = c.loop-entry.rows.items in
    let row = c.in_ok-row.row in
    let k = c.loop-entry.entry-index in
    let none : ListedInstance = record { model = 0; parent = 0; place = 0; cells = 0 } in
    let entry = get_or tables.instances k none in
    let within : k < length tables.instances =
    omega (arith, c.loop-entry-test.true, ap (λ (list : List ListedInstance). length list) c.instances-entry-items.ensures) in
    let row_is : row ≡ ports_made tables outputs rows entry =
    c.in_ok-row.ensures
    ∙ ap₂ (λ (rows : DriverRows) (list : List ListedInstance). ports_made tables outputs rows (get_or list k none)) c.as_slice.ensures.value c.instances-entry-items.ensures in
    record {
      long = ap length c.in_ok-push.ensures.items ∙ length-append rows (row ∷ []) ∙ omega (arith, c.loop-entry.invariant.long);
      right = λ design faultless are.
          ports_more design faultless tables are outputs rows (c.requires design faultless are) k (sym c.loop-entry.invariant.long)
          (c.loop-entry.invariant.right design faultless are) entry (slice_get-get_or tables.instances k none within)
          row row_is c.push.new.self.items c.in_ok-push.ensures.items;
    }

pub returns : goal.returns
returns c = λ design faultless are other place path name number listed.
    c.loop-entry.invariant.right design faultless are other
    (omega (arith, c.loop-entry-test.false, ap (λ (list : List ListedInstance). length list) c.instances-entry-items.ensures, are.placed.same_length, slice_get_within (instances design) other (place ∷ path) listed))
    place path name number listed
