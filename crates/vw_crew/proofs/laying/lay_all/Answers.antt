use Rattle.std.proofs.Common.{◌≡◌, ◌<◌, ℕ, Bool, true, List, length, slice_get, ap, refl, sym, subst, ◌∙◌, Some, None, arith}
use Rattle.std.specs.Option.{is_some}
use Rattle.vw_plan.specs.declared.board.Board.{Board}
use Rattle.vw_plan.specs.declared.checked.Checked.{Checked}
use Rattle.vw_plan.specs.declared.link.Link.{Link}
use Rattle.vw_plan.proofs.FewLinks.{few_links_on}
use Rattle.vw_prog.specs.Fabric.{Carried, SeenPutEnd, SeenTakeEnd}
use Rattle.vw_crew.specs.Groups.{Changes, own_at}
use Rattle.vw_crew.specs.Laying.{CanLift}
use Rattle.vw_crew.proofs.BoardLinks.{are_two, board_link, link_at}
use Rattle.vw_crew.proofs.Carried.{carried_same}
use Rattle.vw_crew.proofs.Laid.{may_have, no_put, no_take, some_put, some_take, still_bare}
use Rattle.vw_crew.proofs.LayingOn.{IsLaying, all_laid, bare_own, none_laid, one_laid}
use Rattle.vw_crew.proofs.laying.lay_all.Given.{Over}
use Rattle.vw_crew.proofs.laying.lay_all.Goals as goal
use Rattle.vw_crew.proofs.laying.lay_all.Goals.{After-links-links, After-to, In-Err, In-loop-number}

-- the links that are laid are those of the board
links_are : (g : Over) (c : After-links-links g) → c.links-links.result.now ≡ c.args.job.now.checked.board.links
links_are g c = c.links-links.ensures ∙ ap (λ (board : Board). board.links) (c.board.ensures ∙ ap (λ (checked : Checked). checked.board) c.checked.ensures)

module _ (g : Over) (c : In-loop-number g) where
  abbrev told : Bool
  told = is_some (g.F.Fabric.carried c.args.fabric.now)

  -- the link that is laid next
  abbrev link : Link
  link = link_at c.links-links.result.now c.loop-number.number

  next : (c.loop-number.number < length c.args.job.now.checked.board.links) × (slice_get c.args.job.now.checked.board.links c.loop-number.number ≡ Some link)
  next = board_link c.links-links.result.now c.args.job.now.checked.board.links (links_are g (goal.at.overflow_cast-place g c).After-links-links) c.loop-number.number c.loop-number-test.true

-- the node that the next link leaves has its end
module _ (g : Over) (c : After-to g) where
  abbrev at : In-loop-number g
  at = (goal.at.change_ends-requires-in-Ok g c).In-loop-number

  puts : Changes (link g at).from c.loop-number.number (Some (g.F.Tx.PutEnd.seen c.in-Ok.put)) None c.loop-number.groups c.change_ends.new.groups
  puts = subst (λ (from : ℕ). Changes from c.loop-number.number (Some (g.F.Tx.PutEnd.seen c.in-Ok.put)) None c.loop-number.groups c.change_ends.new.groups) c.from.ensures c.change_ends.ensures.changes

-- those of the links can be lifted that were laid before a refusal
can_lift : (g : Over) (c : In-Err g) → CanLift c.args.job.now (g.F.Fabric.carried c.lay.new.self) c.loop-number.number (λ link. 0) c.loop-number.groups
can_lift g c =
    let told = is_some (g.F.Fabric.carried c.args.fabric.now) in
    let telling : is_some (g.F.Fabric.carried c.lay.new.self) ≡ true → told ≡ true = λ tells. sym (ap (λ (carried : Carried). is_some carried) (c.lay.ensures.same ∙ c.loop-number.invariant.same)) ∙ tells in
    (told, telling, c.loop-number.invariant.laying.hung)

-- a board has few links
pub overflow_cast-place : goal.overflow_cast-place
overflow_cast-place g c = omega (arith, few_links_on c.args.job.now.checked.board, (next g (goal.at.overflow_cast-place g c).In-loop-number).0)

pub loop-number-init : goal.loop-number-init
loop-number-init g c = record { laying = none_laid c.args.job.now (is_some (g.F.Fabric.carried c.args.fabric.now)) c.args.groups.now c.requires; numbers = refl; same = refl }

pub change_ends-requires : goal.change_ends-requires
change_ends-requires g c =
    let job = c.args.job.now in
    let number = c.loop-number.number in
    let at = (goal.at.change_ends-requires g c).In-loop-number in
    let own = bare_own job c.loop-number.groups c.loop-number.invariant.laying.bare (link g at).from (are_two job number (link g at) (next g at).1).from_inside in
    let tx = g.F.Tx.PutEnd.seen c.in-Ok.put in
    let tx_is = c.in-Ok.ensures.laid.put_end (link g at) (next g at).1 in
    (own.0, ap (own_at c.loop-number.groups) c.from.ensures ∙ own.1, may_have job number own.0 own.2.same_job (next g at).0 (Some tx) None (some_put job number tx (ap (λ (end : SeenPutEnd). end.link) tx_is) (ap (λ (end : SeenPutEnd). end.words) tx_is)) (no_take job number))

pub change_ends-requires-in-Ok : goal.change_ends-requires-in-Ok
change_ends-requires-in-Ok g c =
    let job = c.args.job.now in
    let number = c.loop-number.number in
    let at = (goal.at.change_ends-requires-in-Ok g c).In-loop-number in
    let bare = still_bare (link g at).from number _ None c.loop-number.groups c.change_ends.new.groups (puts g c) job c.loop-number.invariant.laying.bare in
    let own = bare_own job c.change_ends.new.groups bare (link g at).to (are_two job number (link g at) (next g at).1).to_inside in
    let rx = g.F.Rx.TakeEnd.seen c.in-Ok.take in
    let rx_is = c.in-Ok.ensures.laid.take_end in
    (own.0, ap (own_at c.change_ends.new.groups) c.to.ensures ∙ own.1, may_have job number own.0 own.2.same_job (next g at).0 None (Some rx) (no_put job number) (some_take job number rx (ap (λ (end : SeenTakeEnd). end.link) rx_is) (ap (λ (end : SeenTakeEnd). end.words) rx_is)))

pub loop-number-preserved : goal.loop-number-preserved
loop-number-preserved g c =
    let to = (goal.at.loop-number-preserved g c).After-to in
    let at = (goal.at.loop-number-preserved g c).In-loop-number in
    let number = c.loop-number.number in
    let tx = g.F.Tx.PutEnd.seen c.in-Ok.put in
    let rx = g.F.Rx.TakeEnd.seen c.in-Ok.take in
    let rx_is = c.in-Ok.ensures.laid.take_end in
    let takes = subst (λ (node : ℕ). Changes node number None (Some rx) c.change_ends.new.groups c.change_ends-in-Ok.new.groups) c.to.ensures c.change_ends-in-Ok.ensures.changes in
    let kept : rx.keeps ≡ told g at = ap (λ (end : SeenTakeEnd). end.keeps) rx_is ∙ ap (λ (carried : Carried). is_some carried) c.loop-number.invariant.same in
    record {
      laying = one_laid c.args.job.now (told g at) c.loop-number.groups number c.loop-number.invariant.laying (link g at) (next g at).1
          tx (ap (λ (end : SeenPutEnd). end.sent) (c.in-Ok.ensures.laid.put_end (link g at) (next g at).1)) rx (ap (λ (end : SeenTakeEnd). end.taken) rx_is) kept c.change_ends.new.groups c.change_ends-in-Ok.new.groups (puts g to) takes;
      numbers = takes.numbers ∙ (puts g to).numbers ∙ c.loop-number.invariant.numbers;
      same = c.lay.ensures.same ∙ c.loop-number.invariant.same;
    }

pub lift_all-requires-clause-hung : goal.lift_all-requires-clause-hung
lift_all-requires-clause-hung g c κs within = ((λ link. 0), can_lift g (goal.at.lift_all-requires-clause-hung g c).In-Err)

pub returns-in-Err-clause-same : goal.returns-in-Err-clause-same
returns-in-Err-clause-same g c =
    c.lift_all.ensures.carried (λ link. 0) (can_lift g (goal.at.returns-in-Err-clause-same g c).In-Err)
    ∙ carried_same c.args.job.now (λ link. 0) c.loop-number.number (g.F.Fabric.carried c.lay.new.self) (λ number below. refl)
    ∙ c.lay.ensures.same ∙ c.loop-number.invariant.same

pub returns-clause-ready : goal.returns-clause-ready
returns-clause-ready g c =
    let job = c.args.job.now in
    let told = is_some (g.F.Fabric.carried c.args.fabric.now) in
    let all : c.loop-number.number ≡ length job.checked.board.links = omega (arith, c.loop-number-test.false, c.loop-number.auto.number-end, ap (λ (list : List Link). length list) (links_are g (goal.at.returns-clause-ready g c).After-links-links)) in
    all_laid job told c.loop-number.groups (subst (λ (done : ℕ). IsLaying job told c.loop-number.groups done) all c.loop-number.invariant.laying)
