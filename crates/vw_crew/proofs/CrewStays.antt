-- A crew after rounds of bursts, and at the end.
use Rattle.std.proofs.Common.{◌≡◌, ◌<◌, ◌+◌, ◌/◌, ◌%◌, ℕ, suc, Bool, List, length, map, take, slice_get, get_or, ap, refl, sym, subst, ◌∙◌, Option, Some, None, arith}
use Rattle.std.specs.Prelude.{option_map, unwrap_or}
use Rattle.std.specs.List.{count_by}
use Rattle.std.specs.Option.{option_and_then}
use Rattle.std.proofs.lemmas.List.{length-map}
use Rattle.std.proofs.lemmas.Option.{get_or_from_slice_get, none-some, slice_get-map}
use Rattle.vw_plan.specs.declared.link.Link.{Link}
use Rattle.vw_prog.specs.declared.job.Job.{Job}
use Rattle.vw_prog.specs.declared.job.Share.{Share}
use Rattle.vw_prog.specs.Fabric.{SeenPutEnd, SeenTakeEnd}
use Rattle.vw_prog.specs.Scripts.{planned_of, script, script_before}
use Rattle.vw_prog.specs.Timetable.{entries_at, is_sent, is_taken, timetable}
use Rattle.vw_node.specs.declared.node.Node.{Node}
use Rattle.vw_node.specs.Fits.{FitsJob, state_of}
use Rattle.vw_node.specs.Holding.{HoldsValues}
use Rattle.vw_node.specs.Positions.{Agrees, sent_by, taken_by}
use Rattle.vw_answer.specs.Answers.{IsFinished}
use Rattle.vw_crew.specs.Ends.{SeenOwn, ends_of, keeps_of, put_at, sent_of, take_at, taken_of}
use Rattle.vw_crew.specs.Groups.{AllAtWork, AllStay, IsAtWork, Marks, SeenGroup, own_marks, group_node, own_at, share_of}
use Rattle.vw_crew.specs.Laying.{AreHung, AreThrough, IsCrew, IsMarked}
use Rattle.vw_crew.proofs.Dealt.{both_found}

-- what is found in groups, as it is found in lists
found_in : {A B : Type 0} (part : SeenGroup → List A) (make : A → B) (groups : List SeenGroup) (rest quotient : ℕ)
    → option_map make (option_and_then (λ group. slice_get (part group) quotient) (slice_get groups rest)) ≡ option_and_then (λ row. slice_get row quotient) (slice_get (map (λ group. map make (part group)) groups) rest)
found_in part make groups rest quotient = first (slice_get groups rest) ∙ ap (option_and_then (λ row. slice_get row quotient)) (sym (slice_get-map (λ group. map make (part group)) groups rest)) where
  first : (found : Option SeenGroup) → option_map make (option_and_then (λ group. slice_get (part group) quotient) found) ≡ option_and_then (λ row. slice_get row quotient) (option_map (λ group. map make (part group)) found)
  first None = refl
  first (Some group) = sym (slice_get-map make (part group) quotient)

pub mapped_back : {A B : Type 0} (make : A → B) (found : Option A) (last : B) → option_map make found ≡ Some last → (one : A) × ((found ≡ Some one) × (make one ≡ last))
mapped_back make None last is = absurd (none-some last is)
mapped_back make (Some one) last is = (one, (refl, ap (λ (got : Option _). unwrap_or got last) is))

module _ (old new : List SeenGroup) (stay : AllStay old new) where
  same_count : length new ≡ length old
  same_count = sym (length-map new (λ (group : SeenGroup). map share_of group.nodes)) ∙ ap (λ (rows : List (List Share)). length rows) stay.shares ∙ length-map old (λ (group : SeenGroup). map share_of group.nodes)

  same_share : (number : ℕ) → option_map share_of (group_node new number) ≡ option_map share_of (group_node old number)
  same_share number =
      ap (λ (many : ℕ). option_map share_of (option_and_then (λ group. slice_get group.nodes (number / many)) (slice_get new (number % many)))) same_count
      ∙ found_in (λ group. group.nodes) share_of new (number % length old) (number / length old)
      ∙ ap (λ (rows : List (List Share)). option_and_then (λ row. slice_get row (number / length old)) (slice_get rows (number % length old))) stay.shares
      ∙ sym (found_in (λ group. group.nodes) share_of old (number % length old) (number / length old))

  same_marks : (number : ℕ) → option_map own_marks (own_at new number) ≡ option_map own_marks (own_at old number)
  same_marks number =
      ap (λ (many : ℕ). option_map own_marks (option_and_then (λ group. slice_get group.ends (number / many)) (slice_get new (number % many)))) same_count
      ∙ found_in (λ group. group.ends) own_marks new (number % length old) (number / length old)
      ∙ ap (λ (rows : List (List Marks)). option_and_then (λ row. slice_get row (number / length old)) (slice_get rows (number % length old))) stay.marks
      ∙ sym (found_in (λ group. group.ends) own_marks old (number % length old) (number / length old))

  pub crew_stays : (job : Job) (keeps : Bool) → IsCrew job keeps old → AllAtWork new → IsCrew job keeps new
  crew_stays job keeps crew work = record {
    some = subst (λ (many : ℕ). 0 < many) (sym same_count) crew.some;
    work = work;
    nodes = λ number node is.
        let was = mapped_back share_of (group_node old number) node.share (sym (same_share number) ∙ ap (option_map share_of) is) in
        let had = crew.nodes number was.0 was.1.0 in
        (had.0, ap (λ (share : Share). share.node) (sym was.1.1) ∙ had.1);
    ends = λ number own is.
        let was = mapped_back own_marks (own_at old number) (own_marks own) (sym (same_marks number) ∙ ap (option_map own_marks) is) in
        subst (IsMarked job keeps number) was.1.1 (crew.ends number was.0 was.1.0);
    all = λ number inside.
        let had = crew.all number inside in
        let node = mapped_back share_of (group_node new number) (had.0.0).share (same_share number ∙ ap (option_map share_of) had.0.1) in
        let own = mapped_back own_marks (own_at new number) (own_marks had.1.0) (same_marks number ∙ ap (option_map own_marks) had.1.1) in
        let node_there : (there : Node) × (group_node new number ≡ Some there) = (node.0, node.1.0) in
        let own_there : (there : SeenOwn) × (own_at new number ≡ Some there) = (own.0, own.1.0) in
        (node_there, own_there);
  }

pub nothing_stays : (groups : List SeenGroup) → AllStay groups groups
nothing_stays groups = record { numbers = refl; shares = refl; marks = refl }

pub further_stay : (first second third : List SeenGroup) → AllStay first second → AllStay second third → AllStay first third
further_stay first second third one two = record { numbers = two.numbers ∙ one.numbers; shares = two.shares ∙ one.shares; marks = two.marks ∙ one.marks }

-- all nodes of all groups are done
pub through : (job : Job) (groups : List SeenGroup) (clocks : ℕ) → clocks ≡ length job.rows → ((number place : ℕ) (group : SeenGroup) (node : Node) → slice_get groups number ≡ Some group → slice_get group.nodes place ≡ Some node → node.clock ≡ clocks) → AreThrough job groups
through job groups clocks clocks_are done number node is =
    let found = both_found (λ group. slice_get group.nodes (number / length groups)) (slice_get groups (number % length groups)) node is in
    done (number % length groups) (number / length groups) found.0 node found.1.0 found.1.1 ∙ clocks_are

-- ---- at the end

module _ (job : Job) (keeps : Bool) (groups : List SeenGroup) (crew : IsCrew job keeps groups) (done : AreThrough job groups) where
  -- a node and its ends are at work
  pub at_work : (number : ℕ) (node : Node) (own : SeenOwn) → group_node groups number ≡ Some node → own_at groups number ≡ Some own → IsAtWork node own
  at_work number node own node_is own_is =
      let one = both_found (λ group. slice_get group.nodes (number / length groups)) (slice_get groups (number % length groups)) node node_is in
      let other = both_found (λ group. slice_get group.ends (number / length groups)) (slice_get groups (number % length groups)) own own_is in
      let same : other.0 ≡ one.0 = ap (λ (found : Option SeenGroup). unwrap_or found one.0) (sym other.1.0 ∙ one.1.0) in
      crew.work (number % length groups) one.0 one.1.0 (number / length groups) node own one.1.1 (ap (λ (group : SeenGroup). slice_get group.ends (number / length groups)) (sym same) ∙ other.1.1)

  module _ (number : ℕ) (inside : number < suc job.checked.board.chips) where
    abbrev there : (node : Node) × (group_node groups number ≡ Some node)
    there = (crew.all number inside).0

    abbrev own_there : (own : SeenOwn) × (own_at groups number ≡ Some own)
    own_there = (crew.all number inside).1

    own_job : own_there.0.job ≡ job
    own_job = (crew.ends number own_there.0 own_there.1).same_job

    agree : Agrees job number (state_of there.0) (ends_of own_there.0)
    agree = subst (λ (one : Job). Agrees one number (state_of there.0) (ends_of own_there.0)) own_job
        (subst (λ (at : ℕ). Agrees own_there.0.job at (state_of there.0) (ends_of own_there.0)) (crew.nodes number there.0 there.1).1 (at_work number there.0 own_there.0 there.1 own_there.1).agrees)

    pub finished : IsFinished job there.0
    finished = record {
      fits = subst (λ (one : Job). FitsJob one there.0) own_job (at_work number there.0 own_there.0 there.1 own_there.1).fits;
      holds = subst (λ (one : Job). HoldsValues one there.0.share.node (state_of there.0)) own_job (at_work number there.0 own_there.0 there.1 own_there.1).agrees.holds;
      clock = done number there.0 there.1;
    }

    made_none : (state_of there.0).made ≡ 0
    made_none = agree.holds.ended (done number there.0 there.1)

    sent_all : (link : ℕ) → sent_by job link number (state_of there.0) ≡ length (script job link)
    unfolding script
    sent_all link =
        ap (λ (made : ℕ). length (script_before job link there.0.clock) + count_by (is_sent link) (take made (entries_at number (timetable (planned_of job))))) made_none
        ∙ ap (λ (clock : ℕ). length (script_before job link clock) + 0) (done number there.0 there.1) ∙ plus_none (length (script_before job link (length job.rows))) where
          plus_none : (many : ℕ) → many + 0 ≡ many
          plus_none many = omega arith

    taken_all : (link : ℕ) → taken_by job link number (state_of there.0) ≡ length (script job link)
    unfolding script
    taken_all link =
        ap (λ (made : ℕ). length (script_before job link there.0.clock) + count_by (is_taken link) (take made (entries_at number (timetable (planned_of job))))) made_none
        ∙ ap (λ (clock : ℕ). length (script_before job link clock) + 0) (done number there.0 there.1) ∙ plus_none (length (script_before job link (length job.rows))) where
          plus_none : (many : ℕ) → many + 0 ≡ many
          plus_none many = omega arith

    -- its ends stand behind the scripts
    put_there : (place : ℕ) (link : Link) → slice_get job.checked.board.links place ≡ Some link → link.from ≡ number → (end : SeenPutEnd) × ((put_at own_there.0 place ≡ Some end) × (end.sent ≡ length (script job place)))
    put_there place link is from = by (put_at own_there.0 place) refl where
      all : sent_of (script own_there.0.job place) (put_at own_there.0 place) ≡ length (script job place)
      all = agree.sent place link is from ∙ sent_all place

      by : (found : Option SeenPutEnd) → put_at own_there.0 place ≡ found → (end : SeenPutEnd) × ((found ≡ Some end) × (end.sent ≡ length (script job place)))
      by None none = absurd (omega (arith, ap (sent_of (script own_there.0.job place)) (sym none) ∙ all, ap (λ (one : Job). length (script one place)) own_job))
      by (Some end) is = (end, (refl, ap (sent_of (script own_there.0.job place)) (sym is) ∙ all))

    take_there : (place : ℕ) (link : Link) → slice_get job.checked.board.links place ≡ Some link → link.to ≡ number → (end : SeenTakeEnd) × ((take_at own_there.0 place ≡ Some end) × (end.taken ≡ length (script job place)))
    take_there place link is to = by (take_at own_there.0 place) refl where
      all : taken_of (script own_there.0.job place) (take_at own_there.0 place) ≡ length (script job place)
      all = agree.taken place link is to ∙ taken_all place

      by : (found : Option SeenTakeEnd) → take_at own_there.0 place ≡ found → (end : SeenTakeEnd) × ((found ≡ Some end) × (end.taken ≡ length (script job place)))
      by None none = absurd (omega (arith, ap (taken_of (script own_there.0.job place)) (sym none) ∙ all, ap (λ (one : Job). length (script one place)) own_job))
      by (Some end) is = (end, (refl, ap (taken_of (script own_there.0.job place)) (sym is) ∙ all))

    kept_there : (place : ℕ) (link : Link) (end : SeenTakeEnd) → slice_get job.checked.board.links place ≡ Some link → link.to ≡ number → take_at own_there.0 place ≡ Some end → end.keeps ≡ keeps
    kept_there place link end is to at = ap keeps_of (sym at) ∙ (crew.ends number own_there.0 own_there.1).kept place link is to

  -- all links are still laid, and everything was sent and taken
  pub all_hung : AreHung job keeps 0 (length job.checked.board.links) (λ link. length (script job link)) groups
  all_hung number link low high is =
      let place : number < length job.checked.board.links = high in
      let ends = job.checked.board.linked.separate.ends number link place in
      let same : get_or job.checked.board.links number link ≡ link = get_or_from_slice_get job.checked.board.links number link link is in
      let from : link.from < suc job.checked.board.chips = omega (arith, ends.0, ap (λ (one : Link). one.from) same) in
      let to : link.to < suc job.checked.board.chips = omega (arith, ends.1, ap (λ (one : Link). one.to) same) in
      let put = put_there link.from from number link is refl in
      let take = take_there link.to to number link is refl in
      record {
        putter = ((own_there link.from from).0, (own_there link.from from).1, own_job link.from from);
        put_end = put.0;
        put_is = put.1.0;
        sent = put.1.1;
        taker = ((own_there link.to to).0, (own_there link.to to).1, own_job link.to to);
        take_end = take.0;
        take_is = take.1.0;
        taken = take.1.1;
        kept = kept_there link.to to number link take.0 is refl take.1.0;
      }
