use Rattle.std.proofs.Common.{◌++◌, ◌<◌, List, length, option_map, sym, ◌∙◌, ap, arith}
use Rattle.std.proofs.lemmas.Option.{none-some, slice_get_past}
use Rattle.std.proofs.Props.{props}
use mathlib.Core.Logic.{∥∥₁_elim}
use Rattle.vw_design.specs.Paths.{Path}
use Rattle.vw_design.specs.Preorder.{instances}
use Rattle.vw_instances.specs.declared.tables.ListedInstance.{ListedInstance}
use Rattle.vw_net_faults.proofs.CellItems.{listed_at}
use Rattle.vw_net_faults.proofs.InstancePlaces.{as_many, parent_before, further_up}
use Rattle.vw_net_faults.proofs.nets.Nets.places_of.Goals as goal

pub loop-at-smaller : goal.loop-at-smaller
loop-at-smaller c =
    let nets = c.args.self.now in
    let entry = c.in-Some.ensures.lookup in
    ∥∥₁_elim {P = c.in-Some.entry.now.parent < c.loop-at.at} nets.has_tables (hlevel props) (λ are.
    parent_before nets.design.now nets.tables.now.instances are.placed c.loop-at.at c.in-Some.entry.now (listed_at c.instances-table.ensures entry.3.0 entry.1) c.loop-at-test.true)

pub loop-at-preserved : goal.loop-at-preserved
loop-at-preserved c = λ path listed.
    let nets = c.args.self.now in
    let entry = c.in-Some.ensures.lookup in
    ∥∥₁_elim nets.has_tables (hlevel props) (λ are.
    further_up nets.design.now nets.tables.now.instances are.placed c.loop-at.at c.in-Some.entry.now (listed_at c.instances-table.ensures entry.3.0 entry.1) c.loop-at-test.true
    c.loop-at.places.items c.push.new.self.items path (c.loop-at.invariant path listed) c.in_ok-push.ensures.items)

pub returns-in_default : goal.returns-in_default
returns-in_default c = λ path listed.
    let past = slice_get_past (instances c.args.self.now.design.now) c.loop-at.at (omega (arith, as_many c.args.self.now, c.in_default.ensures.lookup.3, ap (λ (list : List ListedInstance). length list) c.instances-table.ensures)) in
    absurd (none-some path (sym (ap (option_map (λ (rest : Path). c.loop-at.places.items ++ rest)) past) ∙ c.loop-at.invariant path listed))
