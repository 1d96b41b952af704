use Rattle.std.proofs.Common.{◌≡◌, List, Some, length, slice_get, refl, sym, ◌∙◌, ap}
use Rattle.std.proofs.lemmas.Option.{slice_get_past, slice_get_read}
use Rattle.vw_instances.specs.declared.tables.ListedInstance.{ListedInstance}
use Rattle.vw_drivers.proofs.ChildNumbers.{has_entry, entry_child, in_32_bits}
use Rattle.vw_drivers.proofs.tables.Tables.child.Goals as goal
use Rattle.vw_drivers.proofs.tables.Tables.child.Goals.{In_ok-entry}

-- each instance has an entry
pub returns-in_err-entry : goal.returns-in_err-entry
returns-in_err-entry c = λ design faultless are path listed.
    absurd (has_entry design faultless c.args.self.now are c.args.instance path listed
    (ap (λ (list : List ListedInstance). slice_get list c.args.instance) (sym c.as_slice.ensures) ∙ slice_get_past c.as_slice.result.now c.args.instance c.in_err-entry.ensures.lookup.3))

-- the entry that is read
entry_read : (c : In_ok-entry) → slice_get c.args.self.now.instances c.args.instance ≡ Some c.in_ok-entry.entry.now
entry_read c =
    let list = c.as_slice.result.now in
    let lookup = c.in_ok-entry.ensures.lookup in
    ap (λ (l : List ListedInstance). slice_get l c.args.instance) (sym c.as_slice.ensures) ∙ slice_get_read list (length list) c.args.instance c.in_ok-entry.entry.now refl lookup.3.0 lookup.1

-- by it the tables lead to the place of the path
pub returns-in_err-child : goal.returns-in_err-child
returns-in_err-child c = λ design faultless are path listed.
    c.from_residual-in_err-child.ensures ∙ sym c.in_err-child.was ∙ c.child_at.ensures
    ∙ entry_child design faultless c.args.self.now are c.args.instance path listed c.in_ok-entry.entry.now (entry_read (goal.at.returns-in_err-child c).In_ok-entry) c.args.place

pub returns : goal.returns
returns c = λ design faultless are path listed.
    c.ok.ensures.value
    ∙ in_32_bits design faultless c.args.self.now are c.args.instance path listed c.try_from.result c.args.place c.in_ok-child.child c.try_from.ensures
    (sym c.in_ok-child.was ∙ c.child_at.ensures ∙ entry_child design faultless c.args.self.now are c.args.instance path listed c.in_ok-entry.entry.now (entry_read (goal.at.returns c).In_ok-entry) c.args.place)
