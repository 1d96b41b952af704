use Rattle.std.proofs.Common.{◌≡◌, ◌<◌, ◌+◌, ◌++◌, ℕ, suc, true, List, length, ap, sym, subst, ◌∙◌, Some, arith}
use Rattle.std.specs.Prelude.{option_map}
use Rattle.std.specs.Option.{is_some}
use Rattle.std.specs.Vec.{with_items}
use Rattle.std.proofs.lemmas.List.{with_items_is}
use Rattle.vw_plan.specs.declared.board.Board.{Board}
use Rattle.vw_plan.specs.declared.checked.Checked.{Checked}
use Rattle.vw_plan.specs.declared.link.Link.{Link}
use Rattle.vw_prog.specs.declared.word.Word.{Word}
use Rattle.vw_prog.specs.Scripts.{script}
use Rattle.vw_node.specs.declared.node.Node.{Node}
use Rattle.vw_answer.specs.Answers.{HasTold, IsFinished}
use Rattle.vw_crew.specs.Groups.{SeenGroup, group_node}
use Rattle.vw_crew.specs.Laying.{AreThrough, CanLift, HasSameNodes, carried_on}
use Rattle.vw_crew.specs.Seen.{SeenCrew}
use Rattle.vw_crew.proofs.CrewEnds.{all_carried, node_finished, node_there, number_is}
use Rattle.vw_crew.proofs.CrewStays.{all_hung}
use Rattle.vw_crew.proofs.crew.Crew.close.Given.{Over}
use Rattle.vw_crew.proofs.crew.Crew.close.Goals as goal
use Rattle.vw_crew.proofs.crew.Crew.close.Goals.{After-chips-chip-end, After-into_host, After-links, After-node}

-- all links of the crew can be lifted, with all words of their scripts
record CanBeLifted (g : Over) (c : After-links g) : Type 0 where
  count : length c.links.result.now ≡ length c.self.inside.job.now.checked.board.links
  can : CanLift c.self.inside.job.now (g.F.Fabric.carried c.args.fabric.now) (length c.links.result.now) (λ link. length (script c.self.inside.job.now link)) c.deref_mut.result.now

-- a crew that is through has all its links
can_be_lifted : (g : Over) (c : After-links g) → CanBeLifted g c
can_be_lifted g c =
    let job = c.self.inside.job.now in
    let keeps = is_some (g.F.Fabric.carried c.self.inside.laid_by.value) in
    let old = c.self.inside.groups.items in
    let done : AreThrough job old = c.self.invariant.2 (ap (λ (seen : SeenCrew). seen.done) c.self.view_is ∙ c.requires.done) in
    let links_are : length c.links.result.now ≡ length job.checked.board.links = ap (λ (links : List Link). length links) (c.links.ensures ∙ ap (λ (board : Board). board.links) (c.board.ensures ∙ ap (λ (checked : Checked). checked.board) c.checked.ensures)) in
    let telling : is_some (g.F.Fabric.carried c.args.fabric.now) ≡ true → keeps ≡ true = λ tells. ap (λ (seen : SeenCrew). seen.keeps) c.self.view_is ∙ c.requires.keeps tells in
    let hung = all_hung job keeps old c.self.invariant.0 done in
    record {
      count = links_are;
      can = subst (λ (groups : List SeenGroup). CanLift job (g.F.Fabric.carried c.args.fabric.now) (length c.links.result.now) (λ link. length (script job link)) groups) (sym c.deref_mut.ensures.value)
          (subst (λ (many : ℕ). CanLift job (g.F.Fabric.carried c.args.fabric.now) many (λ link. length (script job link)) old) (sym links_are) (keeps, telling, hung));
    }

-- the groups without their links
abbrev left : (g : Over) (c : After-chips-chip-end g) → List SeenGroup
left g c = (with_items c.self.inside.groups c.lift_all.new.groups).items

-- in the groups without their links each node of the board is there, and has its number and has finished
record AreLeft (g : Over) (c : After-chips-chip-end g) : Type 0 where
  chips : c.chips-chip-end.result ≡ c.self.inside.job.now.checked.board.chips
  there : (number : ℕ) → number < suc c.self.inside.job.now.checked.board.chips → (node : Node) × (group_node (left g c) number ≡ Some node)
  number_is : (number : ℕ) → number < suc c.self.inside.job.now.checked.board.chips → (node : Node) → group_node (left g c) number ≡ Some node → node.share.node ≡ number
  finished : (number : ℕ) → number < suc c.self.inside.job.now.checked.board.chips → (node : Node) → group_node (left g c) number ≡ Some node → IsFinished c.self.inside.job.now node

-- lifting leaves the nodes as they were
are_left : (g : Over) (c : After-chips-chip-end g) → AreLeft g c
are_left g c =
    let job = c.self.inside.job.now in
    let keeps = is_some (g.F.Fabric.carried c.self.inside.laid_by.value) in
    let old = c.self.inside.groups.items in
    let crew = c.self.invariant.0 in
    let done : AreThrough job old = c.self.invariant.2 (ap (λ (seen : SeenCrew). seen.done) c.self.view_is ∙ c.requires.done) in
    let new = c.lift_all.new.groups in
    let long : length new ≡ c.self.inside.groups.len = c.lift_all.auto.groups ∙ ap (λ (groups : List SeenGroup). length groups) c.deref_mut.ensures.value ∙ sym c.self.inside.groups.ok.0 in
    let lifted : HasSameNodes old new = subst (λ (groups : List SeenGroup). HasSameNodes groups new) c.deref_mut.ensures.value c.lift_all.ensures.nodes in
    let same : HasSameNodes old (left g c) = subst (HasSameNodes old) (sym (with_items_is c.self.inside.groups new long)) lifted in
    record {
      chips = c.chips-chip-end.ensures ∙ ap (λ (board : Board). board.chips) (c.board-2.ensures ∙ ap (λ (checked : Checked). checked.board) c.checked-2.ensures);
      there = λ number inside. node_there job keeps old (left g c) crew done same number inside;
      number_is = λ number inside node is. number_is job keeps old (left g c) crew done same number inside node is;
      finished = λ number inside node is. node_finished job keeps old (left g c) crew done same number inside node is;
    }

-- the node that tells what it came to is the next one, and has finished
record IsNext (g : Over) (c : After-node g) : Type 0 where
  number : c.node.result.now.share.node ≡ c.loop-chip.chip
  finished : IsFinished c.self.inside.job.now c.node.result.now

-- its number is the one that it is looked up by
is_next : (g : Over) (c : After-node g) → IsNext g c
is_next g c =
    let at = (goal.at.put_chip-requires-clause-told g c).After-chips-chip-end in
    let nodes = are_left g at in
    let inside : c.loop-chip.chip < suc c.self.inside.job.now.checked.board.chips = omega (arith, c.loop-chip-test.true, nodes.chips) in
    let there : group_node (left g at) c.loop-chip.chip ≡ Some c.node.result.now = ap (λ (groups : List SeenGroup). group_node groups c.loop-chip.chip) (sym c.deref.ensures.value) ∙ c.node.ensures in
    record {
      number = nodes.number_is c.loop-chip.chip inside c.node.result.now there;
      finished = nodes.finished c.loop-chip.chip inside c.node.result.now there;
    }

pub lift_all-requires-clause-hung : goal.lift_all-requires-clause-hung
lift_all-requires-clause-hung g c κs within = ((λ link. length (script c.self.inside.job.now link)), (can_be_lifted g (goal.at.lift_all-requires-clause-hung g c).After-links).can)

pub node-requires : goal.node-requires
node-requires g c =
    let at = (goal.at.node-requires g c).After-chips-chip-end in
    let nodes = are_left g at in
    let inside : c.loop-chip.chip < suc c.self.inside.job.now.checked.board.chips = omega (arith, c.loop-chip-test.true, nodes.chips) in
    subst (λ (groups : List SeenGroup). (there : Node) × (group_node groups c.loop-chip.chip ≡ Some there)) (sym c.deref.ensures.value) (nodes.there c.loop-chip.chip inside)

pub put_chip-requires-clause-told : goal.put_chip-requires-clause-told
put_chip-requires-clause-told g c =
    subst (λ (any : ℕ). HasTold c.self.inside.job.now any c.loop-chip.room) (sym (is_next g c).number) c.loop-chip.invariant

pub put_chip-requires-clause-number : goal.put_chip-requires-clause-number
put_chip-requires-clause-number g c = omega (arith, (is_next g c).number, c.loop-chip.auto.chip)

pub put_chip-requires-clause-finished : goal.put_chip-requires-clause-finished
put_chip-requires-clause-finished g c = (is_next g c).finished

pub loop-chip-preserved : goal.loop-chip-preserved
loop-chip-preserved g c =
    subst (λ (any : ℕ). HasTold c.self.inside.job.now (any + 1) c.put_chip.new.self) (is_next g (goal.at.loop-chip-preserved g c).After-node).number c.put_chip.ensures

pub into_host-requires : goal.into_host-requires
into_host-requires g c = (are_left g (goal.at.into_host-requires g c).After-chips-chip-end).there 0 (omega arith)

pub answer-requires-clause-told : goal.answer-requires-clause-told
answer-requires-clause-told g c =
    let nodes = are_left g (goal.at.answer-requires-clause-told g c).After-chips-chip-end in
    let all : c.loop-chip.chip ≡ suc c.self.inside.job.now.checked.board.chips = omega (arith, nodes.chips, c.loop-chip-test.false, c.loop-chip.auto.chip-end) in
    subst (λ (any : ℕ). HasTold c.self.inside.job.now any c.loop-chip.room) all c.loop-chip.invariant

pub answer-requires-clause-number : goal.answer-requires-clause-number
answer-requires-clause-number g c = (are_left g (goal.at.answer-requires-clause-number g c).After-chips-chip-end).number_is 0 (omega arith) c.into_host.result c.into_host.ensures

pub answer-requires-clause-finished : goal.answer-requires-clause-finished
answer-requires-clause-finished g c = (are_left g (goal.at.answer-requires-clause-finished g c).After-chips-chip-end).finished 0 (omega arith) c.into_host.result c.into_host.ensures

pub returns-clause-carried : goal.returns-clause-carried
returns-clause-carried g c =
    let job = c.self.inside.job.now in
    let carried = g.F.Fabric.carried c.args.fabric.now in
    let lifted = can_be_lifted g (goal.at.returns-clause-carried g c).After-links in
    c.lift_all.ensures.carried (λ link. length (script job link)) lifted.can
    ∙ ap (λ (many : ℕ). carried_on job many (λ link. length (script job link)) carried) lifted.count
    ∙ all_carried job carried
    ∙ ap (λ (seen : SeenCrew). option_map (λ (words : ℕ → List Word). λ (link : ℕ). words link ++ script seen.job link) carried) c.self.view_is
