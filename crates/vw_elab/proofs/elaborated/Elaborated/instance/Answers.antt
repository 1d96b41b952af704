use Rattle.std.proofs.Common.{◌<◌, List, get_or, sym, subst}
use Rattle.vw_design.specs.declared.design.Design.{Design}
use Rattle.vw_design.specs.Limits.{instance_count}
use Rattle.vw_instances.specs.declared.tables.ListedInstance.{ListedInstance}
use Rattle.vw_elab.specs.Numbers.{IsInstance}
use Rattle.vw_elab.proofs.ReadTables.{instance_of, instance_read}
use Rattle.vw_elab.proofs.elaborated.Elaborated.instance.Goals as goal

-- the entry in the table
pub returns : goal.returns
returns c =
    let k = c.args.k in
    let none : ListedInstance = record { model = 0; parent = 0; place = 0; cells = 0 } in
    let parts = c.self.inside.parts in
    let read = λ (table : List ListedInstance) (design : Design). IsInstance design k (instance_of (get_or table k none)) in
    subst (λ (table : List ListedInstance). read table c.args.self.now) (sym c.instances.ensures)
    (subst (λ (design : Design). k < instance_count design → read parts.tables.instances design) c.self.view_is
    (λ within. instance_read c.self.inside.design parts.tables.instances c.self.invariant.parts.tables.placed k within none) c.requires)
