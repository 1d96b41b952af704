use Rattle.std.proofs.Common.{◌≡◌, ℕ, Option, Some, slice_get, sym, ◌∙◌, ap, subst}
use Rattle.std.proofs.lemmas.Option.{none-some, same_Some}
use Rattle.vw_design.specs.declared.design.Design.{Design}
use Rattle.vw_design.specs.Drivers.{driver}
use Rattle.vw_design.specs.Paths.{Word}
use Rattle.vw_design.specs.Preorder.{Site, cells, instances}
use Rattle.vw_drivers.specs.Firsts.{number_named}
use Rattle.vw_drivers.specs.Tables.{instance_firsts}
use Rattle.vw_drivers.specs.Names.{reads_of}
use Rattle.vw_elab.specs.declared.driver.Driver.{Driver}
use Rattle.vw_elab.specs.declared.elaborated.Reading.{Reading}
use Rattle.vw_elab.specs.Numbers.{driver_of}
use Rattle.vw_elab.proofs.ReadTables.{read_is, driver_found}
use Rattle.vw_elab.proofs.elaborated.Elaborated.read.Goals as goal

-- an answer is the driver of what the cell reads
abbrev IsDriverRead : ℕ → ℕ → Option Driver → Design → Type 0
IsDriverRead cell input driven design =
    (site : Site) (name : Word) → slice_get (cells design) cell ≡ Some site → slice_get (reads_of site.item) input ≡ Some name → driven ≡ driver_of design (driver design site.path name)

-- what the cell reads is in the tables
pub returns-in_err-reading : goal.returns-in_err-reading
returns-in_err-reading c =
    subst (IsDriverRead c.args.cell c.args.input c.from_residual.result) c.self.view_is
    (λ site name at reads.
    let is = read_is c.self.inside.design c.self.inside.parts c.self.invariant.parts c.args.cell c.args.input site name at reads in
    absurd (none-some _ (sym c.in_err-reading.was ∙ c.reading_of.ensures ∙ is.reading)))

pub returns : goal.returns
returns c =
    let inside = c.self.inside in
    let inv = c.self.invariant in
    let is_source = c.source-source.ensures inside.design inv.accepted.models inv.parts.tables inv.parts.drivers in
    subst (IsDriverRead c.args.cell c.args.input c.driver_by.result) c.self.view_is
    (λ site name at reads.
    let is = read_is inside.design inside.parts inv.parts c.args.cell c.args.input site name at reads in
    let same = same_Some c.in_ok-reading.reading (record { instance = is.instance; claim = number_named (instance_firsts inside.parts.tables is.instance) name }) (sym c.in_ok-reading.was ∙ c.reading_of.ensures ∙ is.reading) in
    let instance = ap (λ (r : Reading). r.instance) same in
    c.driver_by.ensures
    ∙ driver_found inside.design inside.parts.tables inside.columns inv.columns c.in_ok-reading.reading.instance c.in_ok-reading.reading.claim c.source-source.result is_source site.path name
    (ap (slice_get (instances inside.design)) instance ∙ is.listed)
    (ap (λ (r : Reading). r.claim) same ∙ ap (λ (k : ℕ). number_named (instance_firsts inside.parts.tables k) name) (sym instance)))
