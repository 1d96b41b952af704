-- What a node's step says of the world: it is the world after the node's event.
use Rattle.std.proofs.Common.{◌≡◌, ◌<◌, ◌≤◌, ◌+◌, ◌-◌, ◌∷◌, ◌++◌, ℕ, Bool, true, false, List, [], length, take, get_or, set, nat_lt, slice_get, if◌then◌else◌, ap, ap₂, refl, sym, subst, ◌∙◌, ⊎_elim, lt-ltb, true≢false, Option, Some, None, arith}
use Rattle.std.specs.List.{count_by}
use Rattle.std.proofs.lemmas.Bool.{cases_eq, cases_lt}
use Rattle.std.proofs.lemmas.List.{get_or-set_other, get_or-set_same, length-drop, length-take-le, set-get_or, take_all}
use Rattle.std.proofs.lemmas.List.Sums.{sum_by-take-le}
use Rattle.vw_net.specs.Steps.Bits.{one_if}
use Rattle.std.proofs.lemmas.Option.{get_or_from_slice_get, slice_get_within}
use Rattle.vw_plan.specs.declared.link.Link.{Link}
use Rattle.vw_plan.specs.PlannedBoard.{PlannedBoard}
use Rattle.vw_prog.specs.declared.action.Action.{Action}
use Rattle.vw_prog.specs.declared.action.Action.TheVariants as action
use Rattle.vw_prog.specs.declared.entry.Entry.{Entry}
use Rattle.vw_prog.specs.declared.job.Job.{Job}
use Rattle.vw_prog.specs.declared.word.Word.{Word}
use Rattle.vw_prog.specs.Ends.{IsExpected, IsNextWord, SeenEnds, counted_at}
use Rattle.vw_prog.specs.Scripts.{planned_of, script, script_before}
use Rattle.vw_prog.specs.Timetable.{entries_at, is_sent, timetable}
use Rattle.vw_node.specs.declared.step.Step.{Step}
use Rattle.vw_node.specs.declared.step.Step.TheVariants.{Done, Empty, Full, Moved}
use Rattle.vw_node.specs.Holding.{HoldsValues}
use Rattle.vw_node.specs.Moves.{Makes, Steps, is_moved}
use Rattle.vw_node.specs.Positions.{Agrees, sent_by, taken_by}
use Rattle.vw_node.specs.States.{NodeState, evaluated, moved_on, next_action, stepped, written}
use Rattle.vw_node.proofs.EntryKinds.{evaluates, sends, takes}
use Rattle.vw_node.proofs.NodeSteps.{empty_agrees, evaluated_agrees, full_agrees, is_expected, sent_agrees, sent_next, stepped_agrees, taken_agrees}
use Rattle.vw_node.proofs.Words.{all_sent}
use Rattle.vw_world.specs.Able.{IsAble, IsOpen}
use Rattle.vw_world.specs.Boards.{AreEnds}
use Rattle.vw_world.specs.Kept.{IsKept, sent_at, taken_at}
use Rattle.vw_world.specs.Worlds.{WorldState, acts, capacity, happens, link_at, node_at, sent_word, taken_front, with_both, words_at}
use Rattle.vw_world.proofs.KeptWorlds.{between_front, counted_elsewhere, event_kept, from_own, has_room, no_state, there_is, to_own}
use Rattle.vw_world.proofs.NeverStuck.{later_words}
use Rattle.vw_world.proofs.NextActions.{StandsAt, all_made, stands_at}

-- ---- what a node's ends are after a step

-- the ends agree with the node again, the counts of links of other nodes are as before, and so is what no step changes
pub record Turned (job : Job) (node : ℕ) (new : NodeState) (before after : SeenEnds) : Type 0 where
  pub agree : Agrees job node new after
  pub others_sent : (number : ℕ) → ((link_at job number).from ≡ node → ⊥) → after.sent number ≡ before.sent number
  pub others_taken : (number : ℕ) → ((link_at job number).to ≡ node → ⊥) → after.taken number ≡ before.taken number
  pub room : after.room ≡ before.room
  pub told : after.told ≡ before.told

-- a number is that of a link of the job
abbrev IsListed : Job → ℕ → Type 0
IsListed job link = (there : Link) × (slice_get job.checked.board.links link ≡ Some there)

module _ (node : ℕ) (state : NodeState) (before : SeenEnds) (agree : Agrees before.job node state before) where
  abbrev own_job : Job
  own_job = before.job

  abbrev inputs : ℕ
  inputs = own_job.checked.ordered.flat.inputs

  quiet : (new : NodeState) → Agrees own_job node new before → Turned own_job node new before before
  quiet new fits = record { agree = fits; others_sent = λ number apart. refl; others_taken = λ number apart. refl; room = refl; told = refl }

  evaluate_turned : (gate : ℕ) → next_action own_job node state ≡ Some (action.Evaluate gate)
      → Turned own_job node (evaluated (planned_of own_job) gate state) before before
  evaluate_turned gate is =
      let no_step = λ (same : action.Evaluate gate ≡ action.Step). let no : ⊥ = cc (same) in no in
      let stands = stands_at own_job node state agree.holds.under (action.Evaluate gate) is no_step in
      let kind = evaluates inputs gate stands.entry stands.action_is in
      let later = evaluated_agrees before node state agree stands.unfinished stands.entry stands.here gate kind.0 kind.1 in
      quiet (evaluated (planned_of own_job) gate state) later

  step_turned : next_action own_job node state ≡ Some action.Step → Turned own_job node (stepped own_job node state) before before
  step_turned is =
      let made = all_made own_job node state agree.holds.under is in
      quiet (stepped own_job node state) (stepped_agrees before node state agree made.0 made.1)

  module _ (link pin net : ℕ) (is : next_action own_job node state ≡ Some (action.Send link pin net)) where
    -- the node's ends with one word more that is sent
    abbrev sent_once : SeenEnds
    sent_once = record before { sent = counted_at link before.sent }

    send_stands : StandsAt own_job node state (action.Send link pin net)
    send_stands =
        let no_step = λ (same : action.Send link pin net ≡ action.Step). let no : ⊥ = cc (same) in no in
        stands_at own_job node state agree.holds.under (action.Send link pin net) is no_step

    send_next : IsNextWord before link (sent_word own_job state pin net)
    send_next =
        let at = send_stands in
        let kind = sends inputs link pin net at.entry at.action_is in
        let word = sent_word own_job state pin net in
        sent_next before node state agree at.unfinished at.entry at.here link pin net kind.0 kind.1 kind.2 kind.3 word refl refl refl refl

    send_agrees : Agrees own_job node (moved_on state) sent_once
    send_agrees =
        let at = send_stands in
        let kind = sends inputs link pin net at.entry at.action_is in
        sent_agrees before node state agree at.unfinished at.entry at.here link pin net kind.0 kind.1 kind.2 kind.3

    send_listed : IsListed own_job link
    send_listed = (send_next.leaves.0, send_next.leaves.1)

    send_turned : Turned own_job node (moved_on state) before sent_once
    send_turned =
        let leaves = send_next.leaves in
        let from : (link_at own_job link).from ≡ node = from_own own_job link leaves.0 node leaves.1 (leaves.2 ∙ agree.same_node) in
        let own_from = λ (number : ℕ) (same : number ≡ link). ap (λ (one : ℕ). (link_at own_job one).from) same ∙ from in
        record {
          agree = send_agrees;
          others_sent = λ number apart. counted_elsewhere link number before.sent (λ same. apart (own_from number same));
          others_taken = λ number apart. refl;
          room = refl;
          told = refl;
        }

  module _ (link pin net : ℕ) (is : next_action own_job node state ≡ Some (action.Take link pin net)) where
    -- the node's ends with one word more that is taken
    abbrev taken_once : SeenEnds
    taken_once = record before { taken = counted_at link before.taken }

    take_stands : StandsAt own_job node state (action.Take link pin net)
    take_stands =
        let no_step = λ (same : action.Take link pin net ≡ action.Step). let no : ⊥ = cc (same) in no in
        stands_at own_job node state agree.holds.under (action.Take link pin net) is no_step

    take_next : IsExpected before link
    take_next =
        let at = take_stands in
        let kind = takes inputs link pin net at.entry at.action_is in
        is_expected before node state agree at.unfinished at.entry at.here link net kind.0 kind.1 kind.2

    take_agrees : (word : Word) → slice_get (script own_job link) (before.taken link) ≡ Some word → Agrees own_job node (written state net word.bit) taken_once
    take_agrees =
        let at = take_stands in
        let kind = takes inputs link pin net at.entry at.action_is in
        taken_agrees before node state agree at.unfinished at.entry at.here link net kind.0 kind.1 kind.2

    take_listed : IsListed own_job link
    take_listed = (take_next.reaches.0, take_next.reaches.1)

    take_turned : (word : Word) → slice_get (script own_job link) (before.taken link) ≡ Some word
        → Turned own_job node (written state net word.bit) before taken_once
    take_turned word there =
        let reaches = take_next.reaches in
        let to : (link_at own_job link).to ≡ node = to_own own_job link reaches.0 node reaches.1 (reaches.2 ∙ agree.same_node) in
        let own_to = λ (number : ℕ) (same : number ≡ link). ap (λ (one : ℕ). (link_at own_job one).to) same ∙ to in
        record {
          agree = take_agrees word there;
          others_sent = λ number apart. refl;
          others_taken = λ number apart. counted_elsewhere link number before.taken (λ same. apart (own_to number same));
          room = refl;
          told = refl;
        }

  -- an equal state and equal ends do as well
  turned_as : {new own_new : NodeState} {after own_after : SeenEnds} → new ≡ own_new → after ≡ own_after
      → Turned own_job node own_new before own_after → Turned own_job node new before after
  turned_as {new = new} {own_new = own_new} {after = after} new_is after_is turns =
      let with_after = subst (λ (one : SeenEnds). Turned own_job node own_new before one) (sym after_is) turns in
      subst (λ (one : NodeState). Turned own_job node one before after) (sym new_is) with_after

  moved_turned : (next : Action) (new : NodeState) (after : SeenEnds) → next_action own_job node state ≡ Some next
      → Makes own_job node state new before after next → Turned own_job node new before after
  moved_turned (action.Evaluate gate) new after is makes = turned_as makes.0 makes.1 (evaluate_turned gate is)
  moved_turned (action.Send link pin net) new after is makes = turned_as makes.0 makes.1.ends (send_turned link pin net is)
  moved_turned (action.Take link pin net) new after is makes = turned_as makes.1 makes.2.0 (take_turned link pin net is makes.0 makes.2.1)
  moved_turned action.Step new after is makes = turned_as makes.0 makes.1 (step_turned is)

  -- a refusal leaves the counts of words as they were
  refused_turned : (after : SeenEnds) → Agrees own_job node state after → after.sent ≡ before.sent → after.taken ≡ before.taken
      → after.room ≡ before.room → after.told ≡ before.told → Turned own_job node state before after
  refused_turned after agrees sent taken room told = record {
    agree = agrees;
    others_sent = λ number apart. ap (λ (counts : ℕ → ℕ). counts number) sent;
    others_taken = λ number apart. ap (λ (counts : ℕ → ℕ). counts number) taken;
    room = room;
    told = told;
  }

  own_turned : (answer : Step) (new : NodeState) (after : SeenEnds) → Steps own_job node state new before after answer
      → Turned own_job node new before after
  own_turned Moved new after steps = moved_turned steps.0 new after steps.1 steps.2
  own_turned (Full link) new after steps =
      turned_as steps.3 steps.4.ends (refused_turned _ (full_agrees before node state agree link) refl refl refl refl)
  own_turned (Empty link) new after steps =
      turned_as steps.3 steps.4.0 (refused_turned _ (empty_agrees before node state agree link) refl refl refl refl)
  own_turned Done new after steps = turned_as steps.1 steps.2 (quiet state agree)

module _ (job : Job) (node : ℕ) (state : NodeState) (before : SeenEnds) (same : before.job ≡ job) (agree : Agrees job node state before) where
  pub turned : (new : NodeState) (after : SeenEnds) (answer : Step) → Steps job node state new before after answer → Turned job node new before after
  turned new after answer =
      subst (λ (one : Job). Agrees one node state before → Steps one node state new before after answer → Turned one node new before after) same
      (λ agrees steps. own_turned node state before agrees answer new after steps) agree

  -- the link of a send, and of a take
  send_link : (link pin net : ℕ) → next_action job node state ≡ Some (action.Send link pin net) → IsListed job link
  send_link link pin net =
      let lists = λ (one : Job). next_action one node state ≡ Some (action.Send link pin net) → IsListed one link in
      subst (λ (one : Job). Agrees one node state before → lists one) same (λ agrees is. send_listed node state before agrees link pin net is) agree

  take_link : (link pin net : ℕ) → next_action job node state ≡ Some (action.Take link pin net) → IsListed job link
  take_link link pin net =
      let lists = λ (one : Job). next_action one node state ≡ Some (action.Take link pin net) → IsListed one link in
      subst (λ (one : Job). Agrees one node state before → lists one) same (λ agrees is. take_listed node state before agrees link pin net is) agree

-- ---- numbers of words

module _ (job : Job) where
  abbrev planned : PlannedBoard
  planned = planned_of job

  -- no more words were sent than there are
  pub sent_within : (node : ℕ) (state : NodeState) → HoldsValues job node state → (number : ℕ) (link : Link) → slice_get planned.board.links number ≡ Some link
      → link.from ≡ node → sent_by job number node state ≤ length (script job number)
  unfolding script
  sent_within node state holds number link there from =
      let own = entries_at node (timetable planned) in
      let part : count_by (is_sent number) (take state.made own) ≤ count_by (is_sent number) own =
      sum_by-take-le (λ (entry : Entry). one_if (is_sent number entry)) own state.made in
      let if_more = λ (more : state.clock < length job.rows).
      let full : NodeState = record state { made = length own } in
      let all = all_sent job node full refl number link there from in
      let whole_clock = ap (count_by (is_sent number)) (take_all (length own) own (omega arith)) in
      let later = later_words job number (state.clock + 1) (length job.rows) (omega (arith, more)) in
      let whole : sent_by job number node state ≤ length (script_before job number (length job.rows)) = omega (arith, part, all, later, whole_clock) in whole in
      let if_done = λ (done : length job.rows ≤ state.clock).
      let last : state.clock ≡ length job.rows = omega (arith, done, holds.within) in
      let none : state.made ≡ 0 = holds.ended last in
      let whole : sent_by job number node state ≤ length (script_before job number (length job.rows)) =
      omega (arith, ap (λ (one : ℕ). length (script_before job number one)) last, ap (λ (made : ℕ). count_by (is_sent number) (take made own)) none) in whole in
      ⊎_elim if_more if_done (cases_lt state.clock (length job.rows))

  module _ (world : WorldState) (kept : IsKept job world) where
    pub sent_is_within : (link : ℕ) → link < length world.links → sent_at job world link ≤ length (script job link)
    sent_is_within link within =
        let low : link < length job.checked.board.links = omega (arith, within, kept.lines) in
        let its = link_at job link in
        let there = there_is job link low in
        let its_ends = job.checked.board.linked.separate.ends link its low in
        let at : get_or job.checked.board.links link its ≡ its = get_or_from_slice_get job.checked.board.links link its its there in
        let from : its.from < length world.nodes = omega (arith, its_ends.0, ap (λ (one : Link). one.from) at, kept.count) in
        sent_within its.from (node_at world its.from) (kept.nodes its.from from) link its there refl

    -- a link has as many words as were sent and not taken
    pub held_is : (link : ℕ) → link < length world.links → length (words_at world link) ≡ sent_at job world link - taken_at job world link
    held_is link within =
        let carries = kept.links link within in
        ap (λ (words : List Word). length words) carries.content
        ∙ length-drop (taken_at job world link) (take (sent_at job world link) (script job link))
        ∙ ap (λ (many : ℕ). many - taken_at job world link) (length-take-le (sent_at job world link) (script job link) (sent_is_within link within))

-- ---- the world after a step

module _ (job : Job) (world : WorldState) (kept : IsKept job world) (node : ℕ) (inside : node < length world.nodes)
    (before : SeenEnds) (are : AreEnds job world node before) where
  abbrev state : NodeState
  state = node_at world node

  pub low : (link : ℕ) → (there : Link) → slice_get job.checked.board.links link ≡ Some there → link < length world.links
  low link there is = omega (arith, slice_get_within job.checked.board.links link there is, kept.lines)

  pub agree : Agrees job node state before
  agree = record {
    same_job = are.same_job;
    same_node = are.same_node;
    sent = λ number link is from.
        are.sent number (low number link is) ∙ ap (λ (one : ℕ). sent_by job number one (node_at world one)) (from_own job number link node is from);
    taken = λ number link is to.
        are.taken number (low number link is) ∙ ap (λ (one : ℕ). taken_by job number one (node_at world one)) (to_own job number link node is to);
    holds = kept.nodes node inside;
  }

  -- whether there is room, by the ends and by the world
  pub room_is : (link : ℕ) → link < length world.links → nat_lt (before.sent link - before.taken link) (before.room link) ≡ has_room job world link
  room_is link within =
      let moved = ap₂ (λ (one two : ℕ). one - two) (are.sent link within) (are.taken link within) in
      let held : before.sent link - before.taken link ≡ length (words_at world link) = moved ∙ sym (held_is job world kept link within) in
      ap₂ (λ (one two : ℕ). nat_lt one two) held (are.room link within)

  pub happens_acts : (found : Option Action) → next_action job node state ≡ found → happens job world node ≡ acts job world node state found
  happens_acts found is =
      ap (λ (there : Bool). if there then acts job world node state (next_action job node state) else world) (lt-ltb node (length world.nodes) inside)
      ∙ ap (acts job world node state) is

  pub same_nodes : (new : NodeState) → new ≡ state → world.nodes ≡ set world.nodes node new
  same_nodes new is = sym (ap (set world.nodes node) is ∙ set-get_or world.nodes node no_state)

  -- ---- what a step makes of the nodes

  abbrev pub TurnsNodes : NodeState → Type 0
  TurnsNodes new = (happens job world node).nodes ≡ set world.nodes node new

  by_action : (found : Option Action) (new : NodeState) → next_action job node state ≡ found
      → (acts job world node state found).nodes ≡ set world.nodes node new → TurnsNodes new
  by_action found new is turned_nodes = ap (λ (one : WorldState). one.nodes) (happens_acts found is) ∙ turned_nodes

  -- a send, where there is room and where there is none
  abbrev send_by : ℕ → ℕ → ℕ → Bool → WorldState
  send_by link pin net open_room =
      if open_room then with_both world node (moved_on state) link (words_at world link ++ sent_word job state pin net ∷ []) else world

  sent_nodes : (link pin net : ℕ) (open_room : Bool) → has_room job world link ≡ open_room
      → (acts job world node state (Some (action.Send link pin net))).nodes ≡ (if open_room then set world.nodes node (moved_on state) else world.nodes)
  sent_nodes link pin net true is = ap (λ (open_room : Bool). (send_by link pin net open_room).nodes) is
  sent_nodes link pin net false is = ap (λ (open_room : Bool). (send_by link pin net open_room).nodes) is

  module _ (link net : ℕ) (word : Word) (within : link < length world.links) (is : slice_get (script job link) (taken_at job world link) ≡ Some word) where
    taken_nodes : taken_at job world link < sent_at job world link → (words : List Word) → words ≡ words_at world link
        → (taken_front world node state link net words).nodes ≡ set world.nodes node (written state net word.bit)
    taken_nodes more [] words_are = absurd (omega (arith, held_is job world kept link within, ap (λ (list : List Word). length list) words_are, more))
    taken_nodes more (first ∷ rest) words_are =
        let content = words_are ∙ (kept.links link within).content in
        let front = between_front (script job link) (taken_at job world link) (sent_at job world link) first rest content in
        let same : first ≡ word = cc (front.1.0, is) in
        ap (λ (one : Word). set world.nodes node (written state net one.bit)) same

  empty_nodes : (link net : ℕ) → link < length world.links → sent_at job world link ≤ taken_at job world link
      → (words : List Word) → words ≡ words_at world link → (taken_front world node state link net words).nodes ≡ world.nodes
  empty_nodes link net within none_left [] words_are = refl
  empty_nodes link net within none_left (first ∷ rest) words_are =
      absurd (omega (arith, held_is job world kept link within, ap (λ (list : List Word). length list) words_are, none_left))

  moved_nodes : (next : Action) (new : NodeState) (after : SeenEnds) → next_action job node state ≡ Some next
      → Makes job node state new before after next → TurnsNodes new
  moved_nodes (action.Evaluate gate) new after is makes = by_action (Some (action.Evaluate gate)) new is (ap (set world.nodes node) (sym makes.0))
  moved_nodes (action.Send link pin net) new after is makes =
      let there = send_link job node state before are.same_job agree link pin net is in
      let within = low link there.0 there.1 in
      let room : has_room job world link ≡ true = sym (room_is link within) ∙ sym (makes.1.room are.told) in
      by_action (Some (action.Send link pin net)) new is (sent_nodes link pin net true room ∙ ap (set world.nodes node) (sym makes.0))
  moved_nodes (action.Take link pin net) new after is makes =
      let there = take_link job node state before are.same_job agree link pin net is in
      let within = low link there.0 there.1 in
      let word = makes.0 in
      let at_end = ap₂ (λ (one : Job) (count : ℕ). slice_get (script one link) count) (sym are.same_job) (sym (are.taken link within)) in
      let its : slice_get (script job link) (taken_at job world link) ≡ Some word = at_end ∙ makes.2.1 in
      let more : taken_at job world link < sent_at job world link =
      omega (arith, makes.2.2 are.told, are.taken link within, are.sent link within) in
      let nodes = taken_nodes link net word within its more (words_at world link) refl in
      by_action (Some (action.Take link pin net)) new is (nodes ∙ ap (set world.nodes node) (sym makes.1))
  moved_nodes action.Step new after is makes = by_action (Some action.Step) new is (ap (set world.nodes node) (sym makes.0))

  pub nodes_are : (answer : Step) (new : NodeState) (after : SeenEnds) → Steps job node state new before after answer → TurnsNodes new
  nodes_are Moved new after steps = moved_nodes steps.0 new after steps.1 steps.2
  nodes_are (Full link) new after steps =
      let there = send_link job node state before are.same_job agree link steps.0 steps.1 steps.2 in
      let within = low link there.0 there.1 in
      let room : has_room job world link ≡ false = sym (room_is link within) ∙ sym (steps.4.room are.told) in
      by_action (Some (action.Send link steps.0 steps.1)) new steps.2 (sent_nodes link steps.0 steps.1 false room ∙ same_nodes new steps.3)
  nodes_are (Empty link) new after steps =
      let there = take_link job node state before are.same_job agree link steps.0 steps.1 steps.2 in
      let within = low link there.0 there.1 in
      let none_left : sent_at job world link ≤ taken_at job world link =
      omega (arith, steps.4.1 are.told, are.taken link within, are.sent link within) in
      let nodes = empty_nodes link steps.1 within none_left (words_at world link) refl in
      by_action (Some (action.Take link steps.0 steps.1)) new steps.2 (nodes ∙ same_nodes new steps.3)
  nodes_are Done new after steps = by_action None new steps.0 (same_nodes new steps.1)

  -- ---- what is refused

  -- a node that made no action leaves all as it was, and has none that it could make
  empty_same : (link net : ℕ) (words : List Word) → length words ≡ 0 → taken_front world node state link net words ≡ world
  empty_same link net [] none_left = refl
  empty_same link net (first ∷ rest) none_left = absurd (omega (arith, none_left))

  closed : (found : Option Action) → next_action job node state ≡ found → (IsOpen job world found → ⊥) → IsAble job world node → ⊥
  closed found is shut able = shut (subst (IsOpen job world) is able.1)

  -- the state and the world stay, and the node has no action that it could make
  abbrev pub Stays : NodeState → Type 0
  Stays new = (new ≡ state) × ((happens job world node ≡ world) × (IsAble job world node → ⊥))

  pub refused_same : (answer : Step) (new : NodeState) (after : SeenEnds) → is_moved answer ≡ false → Steps job node state new before after answer → Stays new
  refused_same Moved new after stops steps = absurd (true≢false stops)
  refused_same (Full link) new after stops steps =
      let there = send_link job node state before are.same_job agree link steps.0 steps.1 steps.2 in
      let within = low link there.0 there.1 in
      let send = Some (action.Send link steps.0 steps.1) in
      let room : has_room job world link ≡ false = sym (room_is link within) ∙ sym (steps.4.room are.told) in
      let stays : happens job world node ≡ world = happens_acts send steps.2 ∙ ap (send_by link steps.0 steps.1) room in
      let no_room = λ (less : length (words_at world link) < capacity (link_at job link)).
      true≢false (sym (lt-ltb (length (words_at world link)) (capacity (link_at job link)) less) ∙ room) in
      let shut : IsAble job world node → ⊥ = closed send steps.2 no_room in
      let whole : Stays new = (steps.3, (stays, shut)) in whole
  refused_same (Empty link) new after stops steps =
      let there = take_link job node state before are.same_job agree link steps.0 steps.1 steps.2 in
      let within = low link there.0 there.1 in
      let take_it = Some (action.Take link steps.0 steps.1) in
      let none_left : length (words_at world link) ≡ 0 =
      omega (arith, steps.4.1 are.told, are.taken link within, are.sent link within, held_is job world kept link within) in
      let stays : happens job world node ≡ world = happens_acts take_it steps.2 ∙ empty_same link steps.1 (words_at world link) none_left in
      let no_word = λ (some : 0 < length (words_at world link)). let no : ⊥ = omega (arith, some, none_left) in no in
      let shut : IsAble job world node → ⊥ = closed take_it steps.2 no_word in
      let whole : Stays new = (steps.3, (stays, shut)) in whole
  refused_same Done new after stops steps =
      let stays : happens job world node ≡ world = happens_acts None steps.0 in
      let shut : IsAble job world node → ⊥ = closed None steps.0 (λ no. no) in
      let whole : Stays new = (steps.1, (stays, shut)) in whole

  -- ---- and of the counts

  module _ (answer : Step) (new : NodeState) (after : SeenEnds) (steps : Steps job node state new before after answer) where
    abbrev then_world : WorldState
    then_world = happens job world node

    turn : Turned job node new before after
    turn = turned job node state before are.same_job agree new after answer steps

    is_set : then_world.nodes ≡ set world.nodes node new
    is_set = nodes_are answer new after steps

    pub own_is : node_at then_world node ≡ new
    own_is = ap (λ (nodes : List NodeState). get_or nodes node no_state) is_set ∙ get_or-set_same world.nodes node new no_state inside

    pub other_is : (other : ℕ) → (other ≡ node → ⊥) → node_at then_world other ≡ node_at world other
    other_is other apart =
        ap (λ (nodes : List NodeState). get_or nodes other no_state) is_set ∙ get_or-set_other world.nodes node other new no_state apart

    kept_then : IsKept job then_world
    kept_then = event_kept job world node kept

    low_then : (link : ℕ) → link < length then_world.links → link < length world.links
    low_then link within = omega (arith, within, kept_then.lines, kept.lines)

    there_then : (link : ℕ) → link < length then_world.links → slice_get job.checked.board.links link ≡ Some (link_at job link)
    there_then link within = there_is job link (omega (arith, within, kept_then.lines))

    sent_then : (link : ℕ) → link < length then_world.links → after.sent link ≡ sent_at job then_world link
    sent_then link within =
        let its = link_at job link in
        let if_own = λ (is : its.from ≡ node).
        let own = ap (λ (one : ℕ). sent_by job link one (node_at then_world one)) is ∙ ap (sent_by job link node) own_is in
        turn.agree.sent link its (there_then link within) is ∙ sym own in
        let if_other = λ (apart : its.from ≡ node → ⊥).
        let other = ap (sent_by job link its.from) (other_is its.from apart) in
        turn.others_sent link apart ∙ are.sent link (low_then link within) ∙ sym other in
        ⊎_elim if_own if_other (cases_eq its.from node)

    taken_then : (link : ℕ) → link < length then_world.links → after.taken link ≡ taken_at job then_world link
    taken_then link within =
        let its = link_at job link in
        let if_own = λ (is : its.to ≡ node).
        let own = ap (λ (one : ℕ). taken_by job link one (node_at then_world one)) is ∙ ap (taken_by job link node) own_is in
        turn.agree.taken link its (there_then link within) is ∙ sym own in
        let if_other = λ (apart : its.to ≡ node → ⊥).
        let other = ap (taken_by job link its.to) (other_is its.to apart) in
        turn.others_taken link apart ∙ are.taken link (low_then link within) ∙ sym other in
        ⊎_elim if_own if_other (cases_eq its.to node)

    pub ends_then : AreEnds job then_world node after
    ends_then = record {
      same_job = turn.agree.same_job;
      same_node = turn.agree.same_node;
      told = turn.told ∙ are.told;
      sent = sent_then;
      taken = taken_then;
      room = λ link within. ap (λ (room : ℕ → ℕ). room link) turn.room ∙ are.room link (low_then link within);
    }
