use Rattle.std.proofs.Common.{◌≡◌, ◌<◌, length, set, slice_get, ap, sym, subst, ◌∙◌, Some, arith}
use Rattle.std.proofs.lemmas.Option.{slice_get-get_or}
use Rattle.vw_node.specs.Fits.{state_of}
use Rattle.vw_crew.specs.Ends.{ends_of}
use Rattle.vw_crew.specs.Groups.{AreAtWork, SeenGroup, Stays}
use Rattle.vw_crew.proofs.Goings.{going_keeps}
use Rattle.vw_crew.proofs.Members.{gone_stays, gone_work}
use Rattle.vw_crew.proofs.group.Group.go.Goals as goal

pub go-requires-clause-fits : goal.go-requires-clause-fits
go-requires-clause-fits g c =
    let nodes = c.self.inside.nodes.items in
    let ends = c.self.inside.ends.items in
    let low : c.args.place < length nodes = omega (arith, c.requires.place, ap (λ (group : SeenGroup). length group.nodes) c.self.view_is) in
    let node_is : slice_get nodes c.args.place ≡ Some c.index_mut-node.result.now = slice_get-get_or nodes c.args.place c.index_mut-node.result.now low ∙ ap Some (sym c.index_mut-node.ensures.value) in
    let own_is : slice_get ends c.args.place ≡ Some c.index_mut.result.now = slice_get-get_or ends c.args.place c.index_mut.result.now (omega (arith, low, c.self.invariant)) ∙ ap Some (sym c.index_mut.ensures.value) in
    (subst AreAtWork (sym c.self.view_is) c.requires.work c.args.place c.index_mut-node.result.now c.index_mut.result.now node_is own_is).fits

pub go-requires-clause-agrees : goal.go-requires-clause-agrees
go-requires-clause-agrees g c =
    let nodes = c.self.inside.nodes.items in
    let ends = c.self.inside.ends.items in
    let low : c.args.place < length nodes = omega (arith, c.requires.place, ap (λ (group : SeenGroup). length group.nodes) c.self.view_is) in
    let node_is : slice_get nodes c.args.place ≡ Some c.index_mut-node.result.now = slice_get-get_or nodes c.args.place c.index_mut-node.result.now low ∙ ap Some (sym c.index_mut-node.ensures.value) in
    let own_is : slice_get ends c.args.place ≡ Some c.index_mut.result.now = slice_get-get_or ends c.args.place c.index_mut.result.now (omega (arith, low, c.self.invariant)) ∙ ap Some (sym c.index_mut.ensures.value) in
    (subst AreAtWork (sym c.self.view_is) c.requires.work c.args.place c.index_mut-node.result.now c.index_mut.result.now node_is own_is).agrees

pub returns-clause-work : goal.returns-clause-work
returns-clause-work g c =
    let group : SeenGroup = record { number = c.self.inside.number; nodes = c.self.inside.nodes.items; ends = c.self.inside.ends.items } in
    let low : c.args.place < length group.nodes = omega (arith, c.requires.place, ap (λ (group : SeenGroup). length group.nodes) c.self.view_is) in
    let node_is : slice_get group.nodes c.args.place ≡ Some c.index_mut-node.result.now = slice_get-get_or group.nodes c.args.place c.index_mut-node.result.now low ∙ ap Some (sym c.index_mut-node.ensures.value) in
    let own_is : slice_get group.ends c.args.place ≡ Some c.index_mut.result.now = slice_get-get_or group.ends c.args.place c.index_mut.result.now (omega (arith, low, c.self.invariant)) ∙ ap Some (sym c.index_mut.ensures.value) in
    gone_work group (subst AreAtWork (sym c.self.view_is) c.requires.work) c.args.place c.index_mut-node.result.now c.go.new.self c.index_mut.result.now c.go.new.ends node_is own_is (record { fits = c.go.ensures.fits; agrees = c.go.ensures.agrees })

pub returns-clause-stays : goal.returns-clause-stays
returns-clause-stays g c =
    let group : SeenGroup = record { number = c.self.inside.number; nodes = c.self.inside.nodes.items; ends = c.self.inside.ends.items } in
    let low : c.args.place < length group.nodes = omega (arith, c.requires.place, ap (λ (group : SeenGroup). length group.nodes) c.self.view_is) in
    let node_is : slice_get group.nodes c.args.place ≡ Some c.index_mut-node.result.now = slice_get-get_or group.nodes c.args.place c.index_mut-node.result.now low ∙ ap Some (sym c.index_mut-node.ensures.value) in
    let own_is : slice_get group.ends c.args.place ≡ Some c.index_mut.result.now = slice_get-get_or group.ends c.args.place c.index_mut.result.now (omega (arith, low, c.self.invariant)) ∙ ap Some (sym c.index_mut.ensures.value) in
    subst (λ (old : SeenGroup). Stays old (record group { nodes = set group.nodes c.args.place c.go.new.self; ends = set group.ends c.args.place c.go.new.ends })) c.self.view_is
    (gone_stays group (subst AreAtWork (sym c.self.view_is) c.requires.work) c.args.place c.index_mut-node.result.now c.go.new.self c.index_mut.result.now c.go.new.ends node_is own_is c.go.ensures.same
    (going_keeps (ends_of c.index_mut.result.now).job c.index_mut-node.result.now.share.node (state_of c.index_mut-node.result.now) (state_of c.go.new.self) (ends_of c.index_mut.result.now) (ends_of c.go.new.ends) c.go.result c.go.ensures.goes))
