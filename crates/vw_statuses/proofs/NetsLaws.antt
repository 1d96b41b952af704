-- What each status of `nets` says of its design.
use Rattle.std.proofs.Common.{◌≡◌, ◌+◌, ◌++◌, ◌∙◌, ℕ, List, [], ◌∷◌, length, ap, sym, refl, inl, arith}
use Rattle.std.proofs.lemmas.List.{length-map, length-append}
use Rattle.vw_design.specs.Paths.{Word, Net, printed}
use Rattle.vw_design.specs.NetReads.{root_outputs}
use Rattle.vw_design.specs.Probes.{Finds, shown_nets}
use Rattle.vw_design.specs.Flattened.{number_of}
use Rattle.vw_design.proofs.PairedLists.{AllZip-length}
use Rattle.vw_outside.specs.Told.{Told}
use Rattle.vw_listing.specs.Netlist.{netlist_text}
use Rattle.vw_course.specs.Course.{Course, writing}
use Rattle.vw_course.specs.Endings.{IsCallOf}
use Rattle.vw_course.specs.Places.{Files, IsToWork}
use Rattle.vw_course.specs.Statuses.{NoWork, Holds}
use Rattle.vw_course.proofs.EveryPlace.{KeepsTo, again_one, comes}
use Rattle.vw_course.proofs.Openings.{end_table}
use Rattle.vw_course.proofs.StageLaws.{past, work_past}
use Rattle.vw_course.proofs.CarriedOut.{text_part}
use Rattle.vw_front.specs.declared.named.NamedNetlist.{NamedNetlist}
use Rattle.vw_front.specs.Designs.{WatchedDesign}
use Rattle.vw_front.specs.Names.{net_names, output_names}
use Rattle.vw_front.specs.NamedNetlists.{IsNamedNetlistOf, without_names}
use Rattle.vw_courses.specs.Messages.{vocabulary, Call, CallWork}
use Rattle.vw_courses.specs.Kinds.{named_kind, named_apart}
use Rattle.vw_courses.specs.Commands.{nets_text, nets_writing, nets_course}
use Rattle.vw_statuses.specs.NetsStatuses.{its_design, IsTextOf, IsListed, HoldsNetlist, NetsStatuses}
use Rattle.vw_statuses.proofs.DesignLaws.{keeps_design, design_table}
use Rattle.vw_statuses.proofs.OnBoards.{watched_once, netlist_same}

-- each output of a netlist has a name: the outputs of the root, and behind them the probes
pub outputs_named : (probes : List Word) (d : List ℕ) (named : NamedNetlist) → IsNamedNetlistOf probes d named
    → length named.outputs + length probes ≡ length named.ordered.flat.outputs
outputs_named probes d named is =
    let design = is.watched.design in
    let nets = is.watched.nets in
    let outputs = named.ordered.flat.outputs in
    let shown : length (shown_nets design nets) ≡ length outputs =
    sym (length-map (shown_nets design nets) (λ (net : Net). number_of design net.path net.name)) ∙ ap (λ list. length list) is.flat.outputs ∙ length-map outputs _ in
    let both = length-append (root_outputs design) nets in
    let found = AllZip-length (Finds design) probes nets is.is.found in
    let root = ap (λ (list : List Word). length list) is.outputs ∙ length-map (root_outputs design) printed in
    omega (arith, shown, both, found, root)

-- a text has one netlist with names, but for the order of its gates, which isn't written
pub text_once : (probes : List Word) (d : List ℕ) (one other : NamedNetlist) → IsNamedNetlistOf probes d one
    → IsNamedNetlistOf probes d other → nets_text probes one ≡ nets_text probes other
text_once probes d one other is its =
    let same : is.watched ≡ its.watched = watched_once probes d is.watched its.watched is.is its.is in
    let nets : one.nets ≡ other.nets = is.nets ∙ ap (λ (watched : WatchedDesign). net_names watched.design) same ∙ sym its.nets in
    let outputs : one.outputs ≡ other.outputs = is.outputs ∙ ap (λ (watched : WatchedDesign). output_names watched.design) same ∙ sym its.outputs in
    let flats : one.ordered.flat ≡ other.ordered.flat = netlist_same probes d one.ordered other.ordered (without_names probes d one is) (without_names probes d other its) in
    λ i. netlist_text (nets i) (outputs i ++ probes) (flats i)

module _ (probes : List Word) (design : List ℕ) (call : Call) where
  abbrev next : NamedNetlist → Course vocabulary
  next = nets_writing probes

  abbrev course : Course vocabulary
  course = nets_course probes design

  abbrev its : Files vocabulary
  its = its_design probes design

  abbrev told : List ℕ → Told
  told = call.before.shelf.told

  keeps : KeepsTo its [] (1 ∷ []) [] course
  keeps = keeps_design probes (IsNamedNetlistOf probes) (named_apart probes) design next call its [] [] [] (inl refl) (λ named. tt)

  pub nets_table : IsCallOf course call → NetsStatuses probes design call
  nets_table is =
      let ends = end_table its [] (1 ∷ []) [] course keeps (λ file one. absurd one) call is (λ (of : Call) d. Holds of design d) (IsListed probes design) NoWork (HoldsNetlist probes design) (λ one. IsTextOf probes design one.1)
      (λ d held_d did may. work_past told (named_kind probes) design next d held_d did may)
      (λ file name did may. again_one told its [] (1 ∷ []) [] course keeps file name did may)
      (λ one ready. past told its (IsToWork told its (IsTextOf probes design one.1)) (named_kind probes) design next one.0 (inl refl) ready.0 (one.1, ready.1)
      (λ other so. (tt, ap (λ (text : List ℕ). writing text) (text_once probes one.0 other one.1 so ready.1)))) in
      record {
        of_design = design_table probes (IsNamedNetlistOf probes) (named_apart probes) design next call its [] [] [] (inl refl) (λ named. tt) tt tt is;
        ends = ends;
        part = λ one ready. text_part vocabulary (IsTextOf probes design one.1) (nets_text probes one.1) (λ did same. ap (λ (w : CallWork). w.text) same) call its (ends.accepted one ready);
        comes = comes its [] (1 ∷ []) [] course keeps call is (λ number one. absurd one);
      }
