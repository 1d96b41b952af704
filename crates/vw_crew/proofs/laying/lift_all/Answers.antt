use Rattle.std.proofs.Common.{◌≡◌, ◌<◌, ℕ, Bool, List, length, slice_get, ap, sym, subst, ◌∙◌, Option, Some, None, arith}
use Rattle.std.specs.Prelude.{option_map}
use Rattle.std.specs.Option.{is_some}
use Rattle.vw_plan.specs.declared.board.Board.{Board}
use Rattle.vw_plan.specs.declared.checked.Checked.{Checked}
use Rattle.vw_plan.specs.declared.link.Link.{Link}
use Rattle.vw_plan.proofs.FewLinks.{few_links_on}
use Rattle.vw_prog.specs.Fabric.{SeenPutEnd, SeenTakeEnd}
use Rattle.vw_crew.specs.Ends.{Has, MayHave, SeenOwn, take_at}
use Rattle.vw_crew.specs.Groups.{Changes, HasOwn, own_at}
use Rattle.vw_crew.specs.Laying.{IsHung, carried_on}
use Rattle.vw_crew.proofs.BoardLinks.{are_two, board_link, link_at}
use Rattle.vw_crew.proofs.CrewStays.{mapped_back}
use Rattle.vw_crew.proofs.Laid.{IsLifting, are_ends, may_have, no_put, no_take, none_lifted, one_lifted, rx_facts, take_there, taker}
use Rattle.vw_crew.proofs.laying.lift_all.Given.{Over}
use Rattle.vw_crew.proofs.laying.lift_all.Goals as goal
use Rattle.vw_crew.proofs.laying.lift_all.Goals.{After-to, After-unwrap-in-loop-number, In-loop-number}

module _ (g : Over) (c : In-loop-number g) where
  -- the link that is lifted next
  abbrev link : Link
  link = link_at c.links-links.result.now c.loop-number.number

  inside : c.loop-number.number < length c.args.job.now.checked.board.links
  inside = omega (arith, c.loop-number-test.true, c.requires.count)

  link_is : slice_get c.args.job.now.checked.board.links c.loop-number.number ≡ Some link
  link_is =
      let links_are : c.links-links.result.now ≡ c.args.job.now.checked.board.links = c.links-links.ensures ∙ ap (λ (board : Board). board.links) (c.board.ensures ∙ ap (λ (checked : Checked). checked.board) c.checked.ensures) in
      (board_link c.links-links.result.now c.args.job.now.checked.board.links links_are c.loop-number.number (omega (arith, c.loop-number-test.true, c.requires.count, ap (λ (list : List Link). length list) links_are))).1

  -- its ends may be given up
  gives : (own : SeenOwn) → own.job ≡ c.args.job.now → MayHave own c.loop-number.number None None
  gives own same = may_have c.args.job.now c.loop-number.number own same inside None None (no_put c.args.job.now c.loop-number.number) (no_take c.args.job.now c.loop-number.number)

  -- the links below the number are lifted
  abbrev Lifting : Bool → (ℕ → ℕ) → Type 0
  Lifting keeps moved = IsLifting c.args.job.now keeps c.args.count moved c.args.groups.now c.loop-number.groups (g.F.Fabric.carried c.args.fabric.now) (g.F.Fabric.carried c.loop-number.fabric) c.loop-number.number

  -- they are for what the contract asks for
  lifting_asked : Lifting c.requires.hung.1.0 c.requires.hung.0
  lifting_asked = c.loop-number.invariant c.requires.hung.1.0 c.requires.hung.0 c.requires.hung.1.1 c.requires.hung.1.2

  -- the next link is laid
  hung_next : (keeps : Bool) (moved : ℕ → ℕ) → Lifting keeps moved → IsHung c.args.job.now keeps c.loop-number.groups c.loop-number.number (moved c.loop-number.number) link.from link.to
  hung_next keeps moved lifting = lifting.hung c.loop-number.number link (omega arith) c.loop-number-test.true link_is

-- its first end was given up
module _ (g : Over) (c : After-to g) (keeps : Bool) (moved : ℕ → ℕ) (lifting : Lifting g (goal.at.change_ends-take-requires g c).In-loop-number keeps moved) where
  abbrev at : In-loop-number g
  at = (goal.at.change_ends-take-requires g c).In-loop-number

  abbrev hung : IsHung c.args.job.now keeps c.loop-number.groups c.loop-number.number (moved c.loop-number.number) (link g at).from (link g at).to
  hung = hung_next g at keeps moved lifting

  puts : Changes (link g at).from c.loop-number.number None None c.loop-number.groups c.change_ends-put.new.groups
  puts = subst (λ (from : ℕ). Changes from c.loop-number.number None None c.loop-number.groups c.change_ends-put.new.groups) c.from.ensures c.change_ends-put.ensures.changes

  apart : (link g at).from ≡ (link g at).to → ⊥
  apart = (are_two c.args.job.now c.loop-number.number (link g at) (link_is g at)).apart

  abbrev its_taker : HasOwn c.args.job.now c.change_ends-put.new.groups (link g at).to
  its_taker = taker c.args.job.now keeps c.loop-number.groups c.change_ends-put.new.groups c.loop-number.number (moved c.loop-number.number) (link g at).from (link g at).to apart hung puts

  put_had : Has hung.putter.0 c.loop-number.number (option_map g.F.Tx.PutEnd.seen c.change_ends-put.result.0) (option_map g.F.Rx.TakeEnd.seen c.change_ends-put.result.1)
  put_had = c.change_ends-put.ensures.had hung.putter.0 (ap (own_at c.loop-number.groups) c.from.ensures ∙ hung.putter.1)

  still_there : take_at its_taker.0 c.loop-number.number ≡ Some hung.take_end
  still_there = take_there c.args.job.now keeps c.loop-number.groups c.change_ends-put.new.groups c.loop-number.number (moved c.loop-number.number) (link g at).from (link g at).to apart hung puts

  taker_is : own_at c.change_ends-put.new.groups c.to.result ≡ Some its_taker.0
  taker_is = ap (own_at c.change_ends-put.new.groups) c.to.ensures ∙ its_taker.1

-- both were given up
module _ (g : Over) (c : After-unwrap-in-loop-number g) (keeps : Bool) (moved : ℕ → ℕ) (lifting : Lifting g (goal.at.lift-requires g c).In-loop-number keeps moved) where
  abbrev to : After-to g
  to = (goal.at.lift-requires g c).After-to

  abbrev tx : SeenPutEnd
  tx = g.F.Tx.PutEnd.seen c.unwrap.result

  abbrev rx : SeenTakeEnd
  rx = g.F.Rx.TakeEnd.seen c.unwrap-in-loop-number.result

  put_given : Has (hung g to keeps moved lifting).putter.0 c.loop-number.number (Some tx) (option_map g.F.Rx.TakeEnd.seen c.change_ends-put.result.1)
  put_given = subst (λ (place : Option SeenPutEnd). Has (hung g to keeps moved lifting).putter.0 c.loop-number.number place (option_map g.F.Rx.TakeEnd.seen c.change_ends-put.result.1)) (ap (option_map g.F.Tx.PutEnd.seen) c.unwrap.ensures) (put_had g to keeps moved lifting)

  take_given : Has (its_taker g to keeps moved lifting).0 c.loop-number.number (option_map g.F.Tx.PutEnd.seen c.change_ends-take.result.0) (Some rx)
  take_given = subst (Has (its_taker g to keeps moved lifting).0 c.loop-number.number (option_map g.F.Tx.PutEnd.seen c.change_ends-take.result.0)) (ap (option_map g.F.Rx.TakeEnd.seen) c.unwrap-in-loop-number.ensures) (c.change_ends-take.ensures.had (its_taker g to keeps moved lifting).0 (taker_is g to keeps moved lifting))

-- a board has few links
pub overflow_cast-place : goal.overflow_cast-place
overflow_cast-place g c = omega (arith, few_links_on c.args.job.now.checked.board, c.requires.count, c.loop-number-test.true)

pub change_ends-put-requires : goal.change_ends-put-requires
change_ends-put-requires g c =
    let at = (goal.at.change_ends-put-requires g c).In-loop-number in
    let hung = hung_next g at c.requires.hung.1.0 c.requires.hung.0 (lifting_asked g at) in
    (hung.putter.0, ap (own_at c.loop-number.groups) c.from.ensures ∙ hung.putter.1, gives g at hung.putter.0 hung.putter.2)

pub change_ends-take-requires : goal.change_ends-take-requires
change_ends-take-requires g c =
    let lifting = lifting_asked g (goal.at.change_ends-take-requires g c).In-loop-number in
    let its = its_taker g c c.requires.hung.1.0 c.requires.hung.0 lifting in
    (its.0, taker_is g c c.requires.hung.1.0 c.requires.hung.0 lifting, gives g (goal.at.change_ends-take-requires g c).In-loop-number its.0 its.2)

pub unwrap-requires : goal.unwrap-requires
unwrap-requires g c =
    let to = (goal.at.unwrap-requires g c).After-to in
    let lifting = lifting_asked g (goal.at.unwrap-requires g c).In-loop-number in
    let its = hung g to c.requires.hung.1.0 c.requires.hung.0 lifting in
    ap (λ (found : Option _). is_some found) (mapped_back g.F.Tx.PutEnd.seen c.change_ends-put.result.0 its.put_end (sym (put_had g to c.requires.hung.1.0 c.requires.hung.0 lifting).put_is ∙ its.put_is)).1.0

pub unwrap-requires-in-loop-number : goal.unwrap-requires-in-loop-number
unwrap-requires-in-loop-number g c =
    let to = (goal.at.unwrap-requires-in-loop-number g c).After-to in
    let lifting = lifting_asked g (goal.at.unwrap-requires-in-loop-number g c).In-loop-number in
    let its = its_taker g to c.requires.hung.1.0 c.requires.hung.0 lifting in
    let had = c.change_ends-take.ensures.had its.0 (taker_is g to c.requires.hung.1.0 c.requires.hung.0 lifting) in
    ap (λ (found : Option _). is_some found) (mapped_back g.F.Rx.TakeEnd.seen c.change_ends-take.result.1 _ (sym had.take_is ∙ still_there g to c.requires.hung.1.0 c.requires.hung.0 lifting)).1.0

pub lift-requires : goal.lift-requires
lift-requires g c =
    let lifting = lifting_asked g (goal.at.lift-requires g c).In-loop-number in
    let to = (goal.at.lift-requires g c).After-to in
    let keeps = c.requires.hung.1.0 in
    let moved = c.requires.hung.0 in
    are_ends c.args.job.now keeps c.loop-number.groups c.change_ends-put.new.groups c.loop-number.number (moved c.loop-number.number) _ _ (apart g to keeps moved lifting) (hung g to keeps moved lifting) (puts g to keeps moved lifting)
    (tx g c keeps moved lifting) (rx g c keeps moved lifting) _ _ (put_given g c keeps moved lifting) (take_given g c keeps moved lifting) (is_some (g.F.Fabric.carried c.loop-number.fabric)) (λ told. c.requires.hung.1.1 (sym lifting.told ∙ told))

pub loop-number-preserved : goal.loop-number-preserved
loop-number-preserved g c = λ keeps moved told all_hung.
    let lifting = c.loop-number.invariant keeps moved told all_hung in
    let at = (goal.at.loop-number-preserved g c).After-unwrap-in-loop-number in
    let to = (goal.at.loop-number-preserved g c).After-to in
    let takes = subst (λ (number : ℕ). Changes number c.loop-number.number None None c.change_ends-put.new.groups c.change_ends-take.new.groups) c.to.ensures c.change_ends-take.ensures.changes in
    let facts = rx_facts c.args.job.now keeps c.loop-number.groups c.change_ends-put.new.groups c.loop-number.number (moved c.loop-number.number) _ _ (apart g to keeps moved lifting) (hung g to keeps moved lifting) (puts g to keeps moved lifting)
    (tx g at keeps moved lifting) (rx g at keeps moved lifting) _ _ (put_given g at keeps moved lifting) (take_given g at keeps moved lifting) in
    one_lifted c.args.job.now keeps c.args.count moved c.args.groups.now (g.F.Fabric.carried c.args.fabric.now) c.loop-number.groups c.change_ends-put.new.groups c.change_ends-take.new.groups (g.F.Fabric.carried c.loop-number.fabric) (g.F.Fabric.carried c.lift.new.self) c.loop-number.number
    (link g (goal.at.loop-number-preserved g c).In-loop-number) lifting (puts g to keeps moved lifting) takes (rx g at keeps moved lifting) facts.0 facts.1 c.lift.ensures

pub loop-number-init : goal.loop-number-init
loop-number-init g c = λ keeps moved told all_hung. none_lifted c.args.job.now keeps c.args.count moved c.args.groups.now (g.F.Fabric.carried c.args.fabric.now) all_hung

pub returns-clause-carried : goal.returns-clause-carried
returns-clause-carried g c = λ moved can.
    let lifting = c.loop-number.invariant can.0 moved can.1 can.2 in
    let all : c.loop-number.number ≡ c.args.count = omega (arith, c.loop-number-test.false, c.loop-number.auto.number-end) in
    lifting.carried_is ∙ ap (λ (done : ℕ). carried_on c.args.job.now done moved (g.F.Fabric.carried c.args.fabric.now)) all

pub returns-clause-nodes : goal.returns-clause-nodes
returns-clause-nodes g c = (c.loop-number.invariant c.requires.hung.1.0 c.requires.hung.0 c.requires.hung.1.1 c.requires.hung.1.2).nodes

pub returns-clause-numbers : goal.returns-clause-numbers
returns-clause-numbers g c = (c.loop-number.invariant c.requires.hung.1.0 c.requires.hung.0 c.requires.hung.1.1 c.requires.hung.1.2).numbers
