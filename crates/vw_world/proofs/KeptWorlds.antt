-- A world keeps what it has to over each event.
use Rattle.std.proofs.Common.{◌≡◌, ◌<◌, ◌≤◌, ◌+◌, ◌-◌, ◌∷◌, ◌++◌, ℕ, suc, Bool, true, false, List, [], length, take, drop, get_or, set, nat_lt, slice_get, if◌then◌else◌, ap, ap₂, refl, sym, subst, ◌∙◌, ⊎_elim, eq-eqb, Option, Some, None, arith}
use Rattle.std.specs.Prelude.{unwrap_or}
use Rattle.std.proofs.lemmas.Bool.{cases_Bool, cases_eq, ltb-true, ne_eqb}
use Rattle.std.proofs.lemmas.List.{drop-append-le, drop_more, get_or-take, get_or-set_other, get_or-set_same, length-drop, length-set, length-take, length_push, take_more}
use Rattle.std.proofs.lemmas.Option.{get_or_from_slice_get, slice_get-get_or, slice_get_within}
use Rattle.vw_plan.specs.declared.link.Link.{Link}
use Rattle.vw_plan.specs.PlannedBoard.{PlannedBoard}
use Rattle.vw_prog.specs.declared.action.Action.{Action}
use Rattle.vw_prog.specs.declared.action.Action.TheVariants.{Evaluate, Send, Step, Take}
use Rattle.vw_prog.specs.declared.job.Job.{Job}
use Rattle.vw_prog.specs.declared.word.Word.{Word}
use Rattle.vw_prog.specs.Ends.{IsNextWord, SeenEnds, counted_at}
use Rattle.vw_prog.specs.Scripts.{planned_of, script}
use Rattle.vw_prog.specs.Timetable.{entries_at, timetable}
use Rattle.vw_node.specs.Holding.{HoldsValues}
use Rattle.vw_node.specs.Positions.{Agrees, sent_by, taken_by}
use Rattle.vw_node.specs.States.{NodeState, evaluated, moved_on, next_action, start_state, stepped, written}
use Rattle.vw_node.proofs.EntryKinds.{evaluates, sends, takes}
use Rattle.vw_node.proofs.Held.{start_holds}
use Rattle.vw_node.proofs.NodeSteps.{evaluated_agrees, is_expected, sent_agrees, sent_next, stepped_agrees, taken_agrees}
use Rattle.vw_node.proofs.Values.{get_or-tabulate, length-tabulate}
use Rattle.vw_world.proofs.NextActions.{StandsAt, all_made, stands_at}
use Rattle.vw_world.specs.Kept.{CarriesScript, IsKept, sent_at, taken_at}
use Rattle.vw_world.specs.Worlds.{WorldState, acts, capacity, happens, link_at, node_at, played, sent_word, start_world, taken_front, with_both, with_node, words_at}

-- ---- parts of a list from a number to another

pub between_more : {A : Type 0} (xs : List A) (from to : ℕ) (x : A) → from ≤ to → slice_get xs to ≡ Some x
    → drop from (take (to + 1) xs) ≡ drop from (take to xs) ++ x ∷ []
between_more xs from to x order is =
    let within = slice_get_within xs to x is in
    let here : get_or xs to x ≡ x = get_or_from_slice_get xs to x x is in
    let fits : from ≤ length (take to xs) = omega (arith, length-take to xs) in
    ap (drop from) (take_more xs to x within ∙ ap (λ (one : _). take to xs ++ one ∷ []) here) ∙ drop-append-le from (take to xs) (x ∷ []) fits

pub between_front : {A : Type 0} (xs : List A) (from to : ℕ) (x : A) (rest : List A) → x ∷ rest ≡ drop from (take to xs)
    → (from < to) × ((slice_get xs from ≡ Some x) × (rest ≡ drop (from + 1) (take to xs)))
between_front xs from to x rest is =
    let part = take to xs in
    let long : suc (length rest) ≡ length part - from = ap (λ (list : List _). length list) is ∙ length-drop from part in
    let within : from < length part = omega (arith, long) in
    let opened : x ∷ rest ≡ get_or part from x ∷ drop (from + 1) part = is ∙ drop_more part from x within in
    let first : x ≡ get_or part from x = cc in
    let later : rest ≡ drop (from + 1) part = cc in
    let below : from < to = omega (arith, within, length-take to xs) in
    let all : from < length xs = omega (arith, within, length-take to xs) in
    let at : slice_get xs from ≡ Some x = slice_get-get_or xs from x all ∙ ap Some (sym (first ∙ get_or-take to xs from x below)) in
    (below, (at, later))

-- a link's count where one more is counted at a link: at this one, and at another
pub counted_here : (link number : ℕ) (counts : ℕ → ℕ) → number ≡ link → counted_at link counts number ≡ counts number + 1
counted_here link number counts same = ap (λ (own : Bool). if own then counts number + 1 else counts number) (eq-eqb number link same)

pub counted_elsewhere : (link number : ℕ) (counts : ℕ → ℕ) → (number ≡ link → ⊥) → counted_at link counts number ≡ counts number
counted_elsewhere link number counts apart = ap (λ (own : Bool). if own then counts number + 1 else counts number) (ne_eqb number link apart)

-- what stands for a node that a world doesn't have
abbrev pub no_state : NodeState
no_state = record { clock = 0; made = 0; slots = []; rows = [] }

-- whether a link has room for a word
abbrev pub has_room : Job → WorldState → ℕ → Bool
has_room job world link = nat_lt (length (words_at world link)) (capacity (link_at job link))

module _ (job : Job) where
  abbrev pub planned : PlannedBoard
  planned = planned_of job

  pub its_link : (number : ℕ) (link : Link) → slice_get job.checked.board.links number ≡ Some link → link_at job number ≡ link
  its_link number link is = ap (λ (found : Option Link). unwrap_or found (record { from = 0; to = 0; width = 0; delay = 0 })) is

  -- the node at the one end of a link, and at its other
  pub from_own : (number : ℕ) (link : Link) (node : ℕ) → slice_get job.checked.board.links number ≡ Some link → link.from ≡ node
      → (link_at job number).from ≡ node
  from_own number link node is from = ap (λ (one : Link). one.from) (its_link number link is) ∙ from

  pub to_own : (number : ℕ) (link : Link) (node : ℕ) → slice_get job.checked.board.links number ≡ Some link → link.to ≡ node
      → (link_at job number).to ≡ node
  to_own number link node is to = ap (λ (one : Link). one.to) (its_link number link is) ∙ to

  pub there_is : (number : ℕ) → number < length job.checked.board.links → slice_get job.checked.board.links number ≡ Some (link_at job number)
  there_is number within =
      let none : Link = record { from = 0; to = 0; width = 0; delay = 0 } in
      let is = slice_get-get_or job.checked.board.links number none within in
      is ∙ ap Some (sym (its_link number (get_or job.checked.board.links number none) is))

  module _ (world : WorldState) (kept : IsKept job world) (node : ℕ) (inside : node < length world.nodes) where
    abbrev pub state : NodeState
    state = node_at world node

    -- the ends of the node's links, as the world has them
    abbrev pub ends : SeenEnds
    ends = record {
      job = job;
      node = node;
      sent = sent_at job world;
      taken = taken_at job world;
      full = λ link. 0;
      empty = λ link. 0;
      room = λ link. capacity (link_at job link);
      keeps = λ link. false;
      told = true;
    }

    pub agrees : Agrees job node state ends
    agrees = record {
      same_job = refl;
      same_node = refl;
      sent = λ number link is from. ap (λ (one : ℕ). sent_by job number one (node_at world one)) (from_own number link node is from);
      taken = λ number link is to. ap (λ (one : ℕ). taken_by job number one (node_at world one)) (to_own number link node is to);
      holds = kept.nodes node inside;
    }

    -- the node's ends and the words on links after an action: they go with the node's state then, and with what other nodes sent and took
    record IsChange (state_then : NodeState) (after : SeenEnds) (links : List (List Word)) : Type 0 where
      agree : Agrees job node state_then after
      others_sent : (number : ℕ) → ((link_at job number).from ≡ node → ⊥) → after.sent number ≡ sent_at job world number
      others_taken : (number : ℕ) → ((link_at job number).to ≡ node → ⊥) → after.taken number ≡ taken_at job world number
      lines : length links ≡ length world.links
      carry : (number : ℕ) → number < length world.links → CarriesScript job number (after.sent number) (after.taken number) (get_or links number [])

    -- the world in which the node has this state, and the links these words
    module _ (state_then : NodeState) (after : SeenEnds) (links : List (List Word)) (change : IsChange state_then after links) where
      abbrev new : WorldState
      new = record { nodes = set world.nodes node state_then; links = links }

      own_state : node_at new node ≡ state_then
      own_state = get_or-set_same world.nodes node state_then no_state inside

      other_state : (other : ℕ) → (other ≡ node → ⊥) → node_at new other ≡ node_at world other
      other_state other apart = get_or-set_other world.nodes node other state_then no_state apart

      sent_then : (number : ℕ) → number < length world.links → sent_at job new number ≡ after.sent number
      sent_then number within =
          let link = link_at job number in
          let there = there_is number (omega (arith, within, kept.lines)) in
          let if_own = λ (is : link.from ≡ node).
          ap (λ (one : ℕ). sent_by job number one (node_at new one)) is
          ∙ ap (sent_by job number node) own_state
          ∙ sym (change.agree.sent number link there is) in
          let if_other = λ (apart : link.from ≡ node → ⊥).
          ap (sent_by job number link.from) (other_state link.from apart) ∙ sym (change.others_sent number apart) in
          ⊎_elim if_own if_other (cases_eq link.from node)

      taken_then : (number : ℕ) → number < length world.links → taken_at job new number ≡ after.taken number
      taken_then number within =
          let link = link_at job number in
          let there = there_is number (omega (arith, within, kept.lines)) in
          let if_own = λ (is : link.to ≡ node).
          ap (λ (one : ℕ). taken_by job number one (node_at new one)) is
          ∙ ap (taken_by job number node) own_state
          ∙ sym (change.agree.taken number link there is) in
          let if_other = λ (apart : link.to ≡ node → ⊥).
          ap (taken_by job number link.to) (other_state link.to apart) ∙ sym (change.others_taken number apart) in
          ⊎_elim if_own if_other (cases_eq link.to node)

      each_node : (other : ℕ) → other < length new.nodes → HoldsValues job other (node_at new other)
      each_node other within =
          let if_own = λ (is : other ≡ node).
          subst (λ (one : ℕ). HoldsValues job one (node_at new one)) (sym is) (subst (HoldsValues job node) (sym own_state) change.agree.holds) in
          let if_other = λ (apart : other ≡ node → ⊥).
          let there : other < length world.nodes = omega (arith, within, length-set world.nodes node state_then) in
          subst (HoldsValues job other) (sym (other_state other apart)) (kept.nodes other there) in
          ⊎_elim if_own if_other (cases_eq other node)

      each_link : (number : ℕ) → number < length links → CarriesScript job number (sent_at job new number) (taken_at job new number) (words_at new number)
      each_link number within =
          let low : number < length world.links = omega (arith, within, change.lines) in
          let words = get_or links number [] in
          let by_taken = λ (taken : ℕ). CarriesScript job number (after.sent number) taken words in
          let by_sent = λ (sent : ℕ). CarriesScript job number sent (taken_at job new number) words in
          subst by_sent (sym (sent_then number low)) (subst by_taken (sym (taken_then number low)) (change.carry number low))

      changed_kept : IsKept job new
      changed_kept = record {
        count = length-set world.nodes node state_then ∙ kept.count;
        lines = change.lines ∙ kept.lines;
        nodes = each_node;
        links = each_link;
      }

    -- ---- an action that changes no link

    quiet_kept : (state_then : NodeState) → Agrees job node state_then ends → IsKept job (with_node world node state_then)
    quiet_kept state_then agree = changed_kept state_then ends world.links (record {
      agree = agree;
      others_sent = λ number apart. refl;
      others_taken = λ number apart. refl;
      lines = refl;
      carry = λ number within. kept.links number within;
    })

    -- ---- a send

    -- a word is the next one of a link that has room
    record CanPush (link : ℕ) (word : Word) : Type 0 where
      listed : link < length world.links
      next : slice_get (script job link) (sent_at job world link) ≡ Some word
      room : length (words_at world link) < capacity (link_at job link)

    module _ (link : ℕ) (word : Word) (can : CanPush link word) where
      -- the words on all links after the push
      abbrev pushed : List (List Word)
      pushed = set world.links link (words_at world link ++ word ∷ [])

      -- a link has the words of its script with the push
      abbrev CarriesPushed : ℕ → Type 0
      CarriesPushed number = CarriesScript job number (counted_at link (sent_at job world) number) (taken_at job world number) (get_or pushed number [])

      pushed_here : (number : ℕ) → number ≡ link → get_or pushed number [] ≡ words_at world number ++ word ∷ []
      pushed_here number same =
          ap (λ (one : ℕ). get_or pushed one []) same
          ∙ get_or-set_same world.links link (words_at world link ++ word ∷ []) [] can.listed
          ∙ ap (λ (one : ℕ). words_at world one ++ word ∷ []) (sym same)

      own_pushed : (number : ℕ) → number < length world.links → number ≡ link → CarriesPushed number
      own_pushed number within same =
          let old = kept.links number within in
          let sent = sent_at job world number in
          let taken = taken_at job world number in
          let count = counted_here link number (sent_at job world) same in
          let words = pushed_here number same in
          let next : slice_get (script job number) sent ≡ Some word = ap (λ (one : ℕ). slice_get (script job one) (sent_at job world one)) same ∙ can.next in
          let one_more = between_more (script job number) taken sent word old.order next in
          let narrow : length (get_or pushed number []) ≤ capacity (link_at job number) = omega (
            arith,
            ap (λ (list : List Word). length list) words,
            length_push (words_at world number) word,
            can.room,
            ap (λ (one : ℕ). length (words_at world one)) same,
            ap (λ (one : ℕ). capacity (link_at job one)) same,
          ) in
          record {
            order = omega (arith, count, old.order);
            content = words
                ∙ ap (λ (list : List Word). list ++ word ∷ []) old.content
                ∙ sym (ap (λ (many : ℕ). drop taken (take many (script job number))) count ∙ one_more);
            narrow = narrow;
          }

      other_pushed : (number : ℕ) → number < length world.links → (number ≡ link → ⊥) → CarriesPushed number
      other_pushed number within apart =
          let count = counted_elsewhere link number (sent_at job world) apart in
          let words = get_or-set_other world.links link number (words_at world link ++ word ∷ []) [] apart in
          let by_words = CarriesScript job number (sent_at job world number) (taken_at job world number) in
          let by_sent = λ (sent : ℕ). CarriesScript job number sent (taken_at job world number) (get_or pushed number []) in
          subst by_sent (sym count) (subst by_words (sym words) (kept.links number within))

      pushed_carries : (number : ℕ) → number < length world.links → CarriesPushed number
      pushed_carries number within = ⊎_elim (own_pushed number within) (other_pushed number within) (cases_eq number link)

    -- ---- a take

    module _ (link : ℕ) (word : Word) (rest : List Word) (listed : link < length world.links) (words_are : word ∷ rest ≡ words_at world link) where
      -- the words on all links after the take
      abbrev popped : List (List Word)
      popped = set world.links link rest

      -- a link has the words of its script without the one that is taken
      abbrev CarriesPopped : ℕ → Type 0
      CarriesPopped number = CarriesScript job number (sent_at job world number) (counted_at link (taken_at job world) number) (get_or popped number [])

      own_popped : (number : ℕ) → number < length world.links → number ≡ link → CarriesPopped number
      own_popped number within same =
          let old = kept.links number within in
          let sent = sent_at job world number in
          let count = counted_here link number (taken_at job world) same in
          let words : get_or popped number [] ≡ rest = ap (λ (one : ℕ). get_or popped one []) same ∙ get_or-set_same world.links link rest [] listed in
          let before : word ∷ rest ≡ words_at world number = words_are ∙ ap (words_at world) (sym same) in
          let front = between_front (script job number) (taken_at job world number) sent word rest (before ∙ old.content) in
          let size = λ (list : List Word). length list in
          record {
            order = omega (arith, count, front.0);
            content = words ∙ front.1.1 ∙ sym (ap (λ (many : ℕ). drop many (take sent (script job number))) count);
            narrow = omega (arith, ap size words, old.narrow, ap size before);
          }

      other_popped : (number : ℕ) → number < length world.links → (number ≡ link → ⊥) → CarriesPopped number
      other_popped number within apart =
          let count = counted_elsewhere link number (taken_at job world) apart in
          let words = get_or-set_other world.links link number rest [] apart in
          let by_words = CarriesScript job number (sent_at job world number) (taken_at job world number) in
          let by_taken = λ (taken : ℕ). CarriesScript job number (sent_at job world number) taken (get_or popped number []) in
          subst by_taken (sym count) (subst by_words (sym words) (kept.links number within))

      popped_carries : (number : ℕ) → number < length world.links → CarriesPopped number
      popped_carries number within = ⊎_elim (own_popped number within) (other_popped number within) (cases_eq number link)

    -- ---- an action

    under : state.made ≤ length (entries_at node (timetable planned))
    under = (kept.nodes node inside).under

    evaluate_kept : (gate : ℕ) → next_action job node state ≡ Some (Evaluate gate) → IsKept job (acts job world node state (Some (Evaluate gate)))
    evaluate_kept gate is =
        let no_step = λ (same : Evaluate gate ≡ Step). let no : ⊥ = cc (same) in no in
        let stands = stands_at job node state under (Evaluate gate) is no_step in
        let kind = evaluates job.checked.ordered.flat.inputs gate stands.entry stands.action_is in
        let agree = evaluated_agrees ends node state agrees stands.unfinished stands.entry stands.here gate kind.0 kind.1 in
        quiet_kept (evaluated planned gate state) agree

    step_kept : next_action job node state ≡ Some Step → IsKept job (acts job world node state (Some Step))
    step_kept is =
        let made = all_made job node state under is in
        quiet_kept (stepped job node state) (stepped_agrees ends node state agrees made.0 made.1)

    send_kept : (link pin net : ℕ) → next_action job node state ≡ Some (Send link pin net) → IsKept job (acts job world node state (Some (Send link pin net)))
    send_kept link pin net is =
        ⊎_elim if_room if_full (cases_Bool (has_room job world link)) where
          no_step : Send link pin net ≡ Step → ⊥
          no_step same = cc

          stands : StandsAt job node state (Send link pin net)
          stands = stands_at job node state under (Send link pin net) is no_step

          if_room : has_room job world link ≡ true → IsKept job (acts job world node state (Some (Send link pin net)))
          if_room room =
              let entry = stands.entry in
              let kind = sends job.checked.ordered.flat.inputs link pin net entry stands.action_is in
              let word = sent_word job state pin net in
              let next : IsNextWord ends link word =
              sent_next ends node state agrees stands.unfinished entry stands.here link pin net kind.0 kind.1 kind.2 kind.3 word refl refl refl refl in
              let from : (link_at job link).from ≡ node = from_own link next.leaves.0 node next.leaves.1 next.leaves.2 in
              let words = words_at world link ++ word ∷ [] in
              let can : CanPush link word = record {
                listed = omega (arith, slice_get_within job.checked.board.links link next.leaves.0 next.leaves.1, kept.lines);
                next = next.next;
                room = ltb-true (length (words_at world link)) (capacity (link_at job link)) room;
              } in
              let own_from = λ (number : ℕ) (same : number ≡ link). ap (λ (one : ℕ). (link_at job one).from) same ∙ from in
              let changed = changed_kept (moved_on state) (record ends { sent = counted_at link (sent_at job world) }) (set world.links link words) (record {
                agree = sent_agrees ends node state agrees stands.unfinished entry stands.here link pin net kind.0 kind.1 kind.2 kind.3;
                others_sent = λ number apart. counted_elsewhere link number (sent_at job world) (λ same. apart (own_from number same));
                others_taken = λ number apart. refl;
                lines = length-set world.links link words;
                carry = pushed_carries link word can;
              }) in
              subst (λ (open_room : Bool). IsKept job (if open_room then with_both world node (moved_on state) link words else world)) (sym room) changed

          if_full : has_room job world link ≡ false → IsKept job (acts job world node state (Some (Send link pin net)))
          if_full full =
              let words = words_at world link ++ sent_word job state pin net ∷ [] in
              subst (λ (open_room : Bool). IsKept job (if open_room then with_both world node (moved_on state) link words else world)) (sym full) kept

    take_kept : (link pin net : ℕ) → next_action job node state ≡ Some (Take link pin net) → IsKept job (acts job world node state (Some (Take link pin net)))
    take_kept link pin net is =
        let no_step = λ (same : Take link pin net ≡ Step). let no : ⊥ = cc (same) in no in
        let stands = stands_at job node state under (Take link pin net) is no_step in
        let entry = stands.entry in
        let kind = takes job.checked.ordered.flat.inputs link pin net entry stands.action_is in
        let expected = is_expected ends node state agrees stands.unfinished entry stands.here link net kind.0 kind.1 kind.2 in
        let to : (link_at job link).to ≡ node = to_own link expected.reaches.0 node expected.reaches.1 expected.reaches.2 in
        let within = slice_get_within job.checked.board.links link expected.reaches.0 expected.reaches.1 in
        let there : link < length world.links = omega (arith, within, kept.lines) in
        by (taken_agrees ends node state agrees stands.unfinished entry stands.here link net kind.0 kind.1 kind.2) to there (words_at world link) refl where
          -- the ends go with each word that can be taken
          by : ((word : Word) → slice_get (script job link) (taken_at job world link) ≡ Some word
              → Agrees job node (written state net word.bit) (record ends { taken = counted_at link (taken_at job world) }))
              → (link_at job link).to ≡ node → link < length world.links
              → (words : List Word) → words ≡ words_at world link → IsKept job (taken_front world node state link net words)
          by agree to there [] words_are = kept
          by agree to there (word ∷ rest) words_are =
              let content = words_are ∙ (kept.links link there).content in
              let front = between_front (script job link) (taken_at job world link) (sent_at job world link) word rest content in
              let own_to = λ (number : ℕ) (same : number ≡ link). ap (λ (one : ℕ). (link_at job one).to) same ∙ to in
              changed_kept (written state net word.bit) (record ends { taken = counted_at link (taken_at job world) }) (set world.links link rest) (record {
                agree = agree word front.1.0;
                others_sent = λ number apart. refl;
                others_taken = λ number apart. counted_elsewhere link number (taken_at job world) (λ same. apart (own_to number same));
                lines = length-set world.links link rest;
                carry = popped_carries link word rest there words_are;
              })

    acts_kept : (found : Option Action) → next_action job node state ≡ found → IsKept job (acts job world node state found)
    acts_kept None is = kept
    acts_kept (Some (Evaluate gate)) is = evaluate_kept gate is
    acts_kept (Some (Send link pin net)) is = send_kept link pin net is
    acts_kept (Some (Take link pin net)) is = take_kept link pin net is
    acts_kept (Some Step) is = step_kept is

  -- ---- events

  pub event_kept : (world : WorldState) (node : ℕ) → IsKept job world → IsKept job (happens job world node)
  event_kept world node kept =
      let acted = λ (there : Bool). if there then acts job world node (node_at world node) (next_action job node (node_at world node)) else world in
      let if_there = λ (is : nat_lt node (length world.nodes) ≡ true).
      let by_action = acts_kept world kept node (ltb-true node (length world.nodes) is) (next_action job node (node_at world node)) refl in
      let whole : IsKept job (happens job world node) = subst (λ (there : Bool). IsKept job (acted there)) (sym is) by_action in whole in
      let if_none = λ (is : nat_lt node (length world.nodes) ≡ false).
      let whole : IsKept job (happens job world node) = subst (λ (there : Bool). IsKept job (acted there)) (sym is) kept in whole in
      ⊎_elim if_there if_none (cases_Bool (nat_lt node (length world.nodes)))

  pub played_kept : (world : WorldState) (events : List ℕ) → IsKept job world → IsKept job (played job world events)
  played_kept world [] kept = kept
  played_kept world (node ∷ events) kept = played_kept (happens job world node) events (event_kept world node kept)

  -- ---- the start

  first_state : (node : ℕ) → node ≤ job.checked.board.chips → node_at (start_world job) node ≡ start_state job node
  first_state node within = get_or-tabulate (start_state job) (suc job.checked.board.chips) node no_state (omega (arith, within))

  link_ends : (number : ℕ) → number < length job.checked.board.links
      → ((link_at job number).from ≤ job.checked.board.chips) × ((link_at job number).to ≤ job.checked.board.chips)
  link_ends number low =
      let link = link_at job number in
      let at : get_or job.checked.board.links number link ≡ link = get_or_from_slice_get job.checked.board.links number link link (there_is number low) in
      let ends_low = job.checked.board.linked.separate.ends number link low in
      (omega (arith, ends_low.0, ap (λ (one : Link). one.from) at), omega (arith, ends_low.1, ap (λ (one : Link). one.to) at))

  -- nothing was sent or taken
  pub start_sent : (number : ℕ) → number < length job.checked.board.links → sent_at job (start_world job) number ≡ 0
  start_sent number low = ap (sent_by job number (link_at job number).from) (first_state (link_at job number).from (link_ends number low).0)

  pub start_taken : (number : ℕ) → number < length job.checked.board.links → taken_at job (start_world job) number ≡ 0
  start_taken number low = ap (taken_by job number (link_at job number).to) (first_state (link_at job number).to (link_ends number low).1)

  pub start_kept : IsKept job (start_world job)
  start_kept = record {
    count = length-tabulate (start_state job) (suc job.checked.board.chips);
    lines = length-tabulate (λ link. []) (length job.checked.board.links);
    nodes = λ node within.
        let count = length-tabulate (start_state job) (suc job.checked.board.chips) in
        subst (HoldsValues job node) (sym (first_state node (omega (arith, within, count)))) (start_holds job node);
    links = λ number within.
        let lines = length-tabulate {A = List Word} (λ link. []) (length job.checked.board.links) in
        let low : number < length job.checked.board.links = omega (arith, within, lines) in
        let sent = start_sent number low in
        let taken = start_taken number low in
        let words : words_at (start_world job) number ≡ [] = get_or-tabulate (λ one. []) (length job.checked.board.links) number [] low in
        record {
          order = omega (arith, sent, taken);
          content = words ∙ sym (ap₂ (λ (from to : ℕ). drop from (take to (script job number))) taken sent);
          narrow = omega (arith, ap (λ (list : List Word). length list) words);
        };
  }
