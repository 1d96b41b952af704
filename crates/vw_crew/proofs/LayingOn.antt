-- Links are laid, one after the other, until a crew is at work.
use Rattle.std.proofs.Common.{◌≡◌, ◌<◌, ◌≤◌, ◌+◌, ◌*◌, ◌/◌, ◌%◌, ◌==◌, ℕ, Bool, List, length, get_or, slice_get, ap, ap₂, sym, subst, ◌∙◌, ⊎_elim, Option, Some, None, arith}
use Rattle.std.specs.Prelude.{unwrap_or}
use Rattle.std.specs.Option.{option_and_then}
use Rattle.std.proofs.lemmas.Bool.{cases_lt}
use Rattle.std.proofs.lemmas.Nat.{div-mul-add, mod-mul-add}
use Rattle.std.proofs.lemmas.Option.{slice_get_within}
use Rattle.vw_plan.specs.declared.link.Link.{Link}
use Rattle.vw_prog.specs.declared.job.Job.{Job}
use Rattle.vw_prog.specs.Fabric.{SeenPutEnd, SeenTakeEnd}
use Rattle.vw_prog.specs.Scripts.{script}
use Rattle.vw_node.specs.declared.node.Node.{Node}
use Rattle.vw_node.specs.Fits.{FitsJob, state_of}
use Rattle.vw_node.specs.Positions.{Agrees, sent_by, taken_by}
use Rattle.vw_node.specs.States.{NodeState, start_state}
use Rattle.vw_node.proofs.Held.{start_holds}
use Rattle.vw_crew.specs.Ends.{SeenOwn, ends_of, keeps_of, put_at, sent_of, take_at, taken_of}
use Rattle.vw_crew.specs.Groups.{Changes, IsAtWork, IsUnstarted, IsOwnOf, SeenGroup, own_marks, group_node, own_at, placed}
use Rattle.vw_crew.specs.Laying.{AreHung, IsBare, IsCrew, IsHung, IsMarked}
use Rattle.vw_crew.proofs.BoardLinks.{AreTwo, are_two}
use Rattle.vw_crew.proofs.Laid.{still_bare, still_has, still_hung}
use Rattle.vw_crew.proofs.Places.{placed_apart, placed_here}

-- those links are laid over which nothing was sent so far
pub record IsLaying (job : Job) (keeps : Bool) (groups : List SeenGroup) (done : ℕ) : Type 0 where
  pub bare : IsBare job groups
  pub hung : AreHung job keeps 0 done (λ link. 0) groups

-- each node of the board has ends
pub bare_own : (job : Job) (groups : List SeenGroup) → IsBare job groups → (node : ℕ) → node ≤ job.checked.board.chips → (own : SeenOwn) × (own_at groups node ≡ Some own) × IsOwnOf job node own
bare_own job groups bare node inside =
    let had = (bare.all node (omega (arith, inside))).1 in
    (had.0, had.1, bare.ends node had.0 had.1)

module _ (job : Job) (keeps : Bool) where
  pub none_laid : (groups : List SeenGroup) → IsBare job groups → IsLaying job keeps groups 0
  none_laid groups bare = record { bare = bare; hung = λ number link first inside is. absurd (omega (arith, inside)) }

  -- the ends of the next link are given to its nodes, one after the other
  module _ (groups : List SeenGroup) (done : ℕ) (laying : IsLaying job keeps groups done) (link : Link) (link_is : slice_get job.checked.board.links done ≡ Some link) (tx : SeenPutEnd) (sent : tx.sent ≡ 0) (rx : SeenTakeEnd) (taken : rx.taken ≡ 0) (kept : rx.keeps ≡ keeps)
      (middle new : List SeenGroup) (puts : Changes link.from done (Some tx) None groups middle) (takes : Changes link.to done None (Some rx) middle new) where
    two : AreTwo job link.from link.to
    two = are_two job done link link_is

    within : done < length job.checked.board.links
    within = slice_get_within job.checked.board.links done link link_is

    middle_bare : IsBare job middle
    middle_bare = still_bare link.from done (Some tx) None groups middle puts job laying.bare

    this_hung : IsHung job keeps new done 0 link.from link.to
    this_hung =
        let putter = bare_own job groups laying.bare link.from two.from_inside in
        let taker = bare_own job middle middle_bare link.to two.to_inside in
        record {
          putter = still_has link.to done None (Some rx) middle new takes job link.from (still_has link.from done (Some tx) None groups middle puts job link.from (putter.0, putter.1, putter.2.same_job));
          put_end = tx;
          put_is = ap (λ (places : List (Option SeenPutEnd)). get_or places done None) (placed_apart done None (placed (link.from == link.from) done (Some tx) putter.0.puts) link.from link.to two.apart)
              ∙ placed_here done (Some tx) putter.0.puts link.from (omega (arith, within, putter.2.puts));
          sent = sent;
          taker = still_has link.to done None (Some rx) middle new takes job link.to (taker.0, taker.1, taker.2.same_job);
          take_end = rx;
          take_is = placed_here done (Some rx) taker.0.takes link.to (omega (arith, within, taker.2.takes));
          taken = taken;
          kept = kept;
        }

    other_hung : (number : ℕ) (other : Link) → number < done → slice_get job.checked.board.links number ≡ Some other → IsHung job keeps new number 0 other.from other.to
    other_hung number other before is =
        let apart : number ≡ done → ⊥ = λ same. absurd (omega (arith, before, same)) in
        still_hung link.to done None (Some rx) middle new takes job keeps number 0 other.from other.to apart
        (still_hung link.from done (Some tx) None groups middle puts job keeps number 0 other.from other.to apart (laying.hung number other (omega arith) before is))

    pub one_laid : IsLaying job keeps new (done + 1)
    one_laid = record {
      bare = still_bare link.to done None (Some rx) middle new takes job middle_bare;
      hung = λ number other first inside is.
          let if_before = λ (before : number < done). other_hung number other before is in
          let if_last = λ (past : done ≤ number).
          let same : number ≡ done = omega (arith, past, inside) in
          let its : other ≡ link = ap (λ (found : Option Link). unwrap_or found other) (sym is ∙ ap (slice_get job.checked.board.links) same ∙ link_is) in
          subst (λ (one : Link). IsHung job keeps new number 0 one.from one.to) (sym its) (subst (λ (at : ℕ). IsHung job keeps new at 0 link.from link.to) (sym same) this_hung) in
          ⊎_elim if_before if_last (cases_lt number done);
    }

  -- ---- all links are laid

  module _ (groups : List SeenGroup) (laying : IsLaying job keeps groups (length job.checked.board.links)) where
    abbrev links : List Link
    links = job.checked.board.links

    module _ (number : ℕ) (node : Node) (own : SeenOwn) (node_is : group_node groups number ≡ Some node) (own_is : own_at groups number ≡ Some own) where
      first : IsUnstarted job number node
      first = laying.bare.nodes number node node_is

      its : IsOwnOf job number own
      its = laying.bare.ends number own own_is

      sent_so : (place : ℕ) (link : Link) → slice_get links place ≡ Some link → link.from ≡ number → sent_of (script own.job place) (put_at own place) ≡ sent_by job place number (start_state job number)
      sent_so place link is from =
          let hung = laying.hung place link (omega arith) (slice_get_within links place link is) is in
          let same : hung.putter.0 ≡ own = ap (λ (found : Option SeenOwn). unwrap_or found own) (sym hung.putter.1 ∙ ap (own_at groups) from ∙ own_is) in
          ap (sent_of (script own.job place)) (ap (λ (any : SeenOwn). put_at any place) (sym same) ∙ hung.put_is) ∙ hung.sent

      taken_so : (place : ℕ) (link : Link) → slice_get links place ≡ Some link → link.to ≡ number → taken_of (script own.job place) (take_at own place) ≡ taken_by job place number (start_state job number)
      taken_so place link is to =
          let hung = laying.hung place link (omega arith) (slice_get_within links place link is) is in
          let same : hung.taker.0 ≡ own = ap (λ (found : Option SeenOwn). unwrap_or found own) (sym hung.taker.1 ∙ ap (own_at groups) to ∙ own_is) in
          ap (taken_of (script own.job place)) (ap (λ (any : SeenOwn). take_at any place) (sym same) ∙ hung.take_is) ∙ hung.taken

      agree : Agrees job number (start_state job number) (ends_of own)
      agree = record { same_job = its.same_job; same_node = its.same_node; sent = sent_so; taken = taken_so; holds = start_holds job number }

      pub at_work : IsAtWork node own
      at_work = record {
        fits = subst (λ (one : Job). FitsJob one node) (sym its.same_job) first.fits;
        agrees = subst (λ (one : Job). Agrees one node.share.node (state_of node) (ends_of own)) (sym its.same_job)
            (subst (λ (at : ℕ). Agrees job at (state_of node) (ends_of own)) (sym first.number_is) (subst (λ (state : NodeState). Agrees job number state (ends_of own)) (sym first.state) agree));
      }

    marked : (number : ℕ) (own : SeenOwn) → own_at groups number ≡ Some own → IsMarked job keeps number (own_marks own)
    marked number own own_is =
        let its = laying.bare.ends number own own_is in
        record {
          same_job = its.same_job;
          same_node = its.same_node;
          kept = λ place link is to.
              let hung = laying.hung place link (omega arith) (slice_get_within links place link is) is in
              let same : hung.taker.0 ≡ own = ap (λ (found : Option SeenOwn). unwrap_or found own) (sym hung.taker.1 ∙ ap (own_at groups) to ∙ own_is) in
              ap keeps_of (ap (λ (any : SeenOwn). take_at any place) (sym same) ∙ hung.take_is) ∙ hung.kept;
        }

    -- a place in a group is that of a node's number
    place_is : (number place : ℕ) (group : SeenGroup) → slice_get groups number ≡ Some group → ((place * length groups + number) % length groups ≡ number) × ((place * length groups + number) / length groups ≡ place)
    place_is number place group is =
        let within = slice_get_within groups number group is in
        (mod-mul-add place (length groups) number within, div-mul-add place (length groups) number within)

    pub all_laid : IsCrew job keeps groups
    all_laid = record {
      some = laying.bare.some;
      work = λ number group group_is place node own node_is own_is.
          let at = place_is number place group group_is in
          let both : (rest quotient : ℕ) → rest ≡ number → quotient ≡ place → (option_and_then (λ group. slice_get group.nodes quotient) (slice_get groups rest) ≡ Some node) × (option_and_then (λ group. slice_get group.ends quotient) (slice_get groups rest) ≡ Some own) = λ rest quotient rest_is quotient_is. (
            ap₂ (λ (rest quotient : ℕ). option_and_then (λ group. slice_get group.nodes quotient) (slice_get groups rest)) rest_is quotient_is ∙ ap (option_and_then (λ group. slice_get group.nodes place)) group_is ∙ node_is,
            ap₂ (λ (rest quotient : ℕ). option_and_then (λ group. slice_get group.ends quotient) (slice_get groups rest)) rest_is quotient_is ∙ ap (option_and_then (λ group. slice_get group.ends place)) group_is ∙ own_is,
          ) in
          let found = both ((place * length groups + number) % length groups) ((place * length groups + number) / length groups) at.0 at.1 in
          at_work (place * length groups + number) node own found.0 found.1;
      nodes = λ number node is. let one = laying.bare.nodes number node is in (one.inside, one.number_is);
      ends = marked;
      all = laying.bare.all;
    }
