-- Some node can act, as long as one has clocks to come: the one that is first by clock, and then by moment.
use Rattle.std.proofs.Common.{◌≡◌, ◌<◌, ◌≤◌, ◌+◌, ◌-◌, ◌*◌, ◌/◌, ◌%◌, ◌&&◌, ◌∷◌, ℕ, zero, suc, Bool, true, false, List, [], length, map, take, eqb, nat_lt, slice_get, get_or, if◌then◌else◌, min, ap, refl, sym, subst, ◌∙◌, ⊎_elim, eqb-true, eq-eqb, true≢false, lt-ltb, Option, Some, None, arith}
use Rattle.std.specs.List.{count_by}
use Rattle.std.specs.Option.{option_map_or}
use Rattle.std.proofs.lemmas.Bool.{and_from, and_parts, cases_Bool, cases_lt, ltb-true}
use Rattle.std.proofs.lemmas.List.{length-append, length-drop, length-map, length-take}
use Rattle.std.proofs.lemmas.List.Elements.{filter_passes, recursion_from_All}
use Rattle.std.proofs.lemmas.Option.{get_or_from_slice_get, slice_get-get_or, slice_get_within}
use Rattle.vw_net.specs.Steps.Bits.{one_if}
use Rattle.vw_plan.specs.declared.link.Link.{Link}
use Rattle.vw_plan.specs.PlannedBoard.{PlannedBoard}
use Rattle.vw_plan.specs.Sound.{IsSound}
use Rattle.vw_net.proofs.CountsOverLists.{count_cons, count_filter, count_le, count_map}
use Rattle.vw_prog.specs.declared.action.Action.{Action}
use Rattle.vw_prog.specs.declared.action.Action.TheVariants.{Evaluate, Send, Step, Take}
use Rattle.vw_prog.specs.declared.entry.Entry.{Entry}
use Rattle.vw_prog.specs.declared.job.Job.{Job}
use Rattle.vw_prog.specs.declared.word.Word.{Word}
use Rattle.vw_prog.specs.Actions.{action_of, actions}
use Rattle.vw_prog.specs.Scripts.{planned_of, script, script_before, word_at}
use Rattle.vw_prog.specs.Timetable.{comes_before, entries, entries_at, is_at, is_evaluating, is_sending, is_sent, is_taken, is_taking, passes, taken_from, timetable}
use Rattle.vw_prog.proofs.EntryOrder.{is_order}
use Rattle.vw_prog.proofs.EntryParts.{entry_has}
use Rattle.vw_prog.proofs.LinkPasses.{sends_are, takes_are}
use Rattle.vw_net.proofs.ListParts.{all_at}
use Rattle.vw_net.proofs.SortedLists.{Rises, part_rises}
use Rattle.vw_node.specs.Positions.{sent_by, taken_by}
use Rattle.vw_node.specs.States.{NodeState, next_action}
use Rattle.vw_node.proofs.EntryKinds.{last_turn}
use Rattle.vw_node.proofs.NodeSteps.{is_expected}
use Rattle.vw_node.proofs.Words.{get_append_left, get_append_right, get_map}
use Rattle.vw_world.specs.Able.{IsAble, IsOpen, IsUnfinished}
use Rattle.vw_world.specs.Kept.{IsKept, sent_at, taken_at}
use Rattle.vw_world.specs.Worlds.{WorldState, capacity, link_at, node_at, words_at}
use Rattle.vw_world.proofs.KeptWorlds.{agrees, ends, its_link}
use Rattle.vw_world.proofs.LinkSpans.{in_span}
use Rattle.vw_world.proofs.MomentCounts.{all_before, none_after}

-- ---- the least of some numbers

-- a place below a bound at which a function is least
record LeastPlace (f : ℕ → ℕ) (count : ℕ) : Type 0 where
  place : ℕ
  below : place < count
  no_less : (other : ℕ) → other < count → f place ≤ f other

-- what holds of each number below one and of this one holds of each below the next
below_next : (count : ℕ) (P : ℕ → Type 0) → ((j : ℕ) → j < count → P j) → P count → (j : ℕ) → j < suc count → P j
below_next count P before last j below =
    let if_last = λ (past : count ≤ j). let same : count ≡ j = omega (arith, past, below) in subst P same last in
    ⊎_elim (before j) if_last (cases_lt j count)

least_place : (f : ℕ → ℕ) (count : ℕ) → LeastPlace f (suc count)
least_place f zero = record {
  place = 0;
  below = omega arith;
  no_less = below_next 0 (λ j. f 0 ≤ f j) (λ j below. absurd (omega (arith, below))) (omega arith);
}
least_place f (suc count) =
    let rest = least_place f count in
    ⊎_elim (if_last rest) (if_rest rest) (cases_lt (f (suc count)) (f rest.place)) where
      if_last : (rest : LeastPlace f (suc count)) → f (suc count) < f rest.place → LeastPlace f (suc (suc count))
      if_last rest less = record {
        place = suc count;
        below = omega arith;
        no_less = below_next (suc count) (λ j. f (suc count) ≤ f j) (λ j below. omega (arith, less, rest.no_less j below)) (omega arith);
      }

      if_rest : (rest : LeastPlace f (suc count)) → f rest.place ≤ f (suc count) → LeastPlace f (suc (suc count))
      if_rest rest past = record {
        place = rest.place;
        below = omega (arith, rest.below);
        no_less = below_next (suc count) (λ j. f rest.place ≤ f j) rest.no_less past;
      }

some_product : (a b : ℕ) → 1 ≤ a → 1 ≤ b → 1 ≤ a * b
some_product a b one two = grind arith

-- ---- counted entries

count_split : (one two whole : Entry → Bool) (xs : List Entry) → ((x : Entry) → one_if (whole x) ≤ one_if (one x) + one_if (two x))
    → count_by whole xs ≤ count_by one xs + count_by two xs
count_split one two whole [] less = omega arith
count_split one two whole (x ∷ xs) less =
    omega (arith, count_cons one x xs, count_cons two x xs, count_cons whole x xs, less x, count_split one two whole xs less)

-- what passes a test passes one of two others
one_or_other : (test one two : Bool) → (test ≡ true → one ≡ false → two ≡ true) → one_if test ≤ one_if one + one_if two
one_or_other true true two leads = omega arith
one_or_other true false two leads = omega (arith, ap one_if (leads refl refl))
one_or_other false one two leads = omega arith

and_less : (test one two : Bool) → (one ≡ true → two ≡ true) → one_if (test && one) ≤ one_if (test && two)
and_less true true two leads = omega (arith, ap one_if (leads refl))
and_less true false two leads = omega arith
and_less false one two leads = omega arith

-- of the entries of a kind, no more pass a test than pass one that it leads to
count_leads : (kind one two : Entry → Bool) (xs : List Entry) → ((entry : Entry) → one entry ≡ true → two entry ≡ true)
    → count_by (λ entry. kind entry && one entry) xs ≤ count_by (λ entry. kind entry && two entry) xs
count_leads kind one two xs leads =
    count_le (λ entry. kind entry && one entry) (λ entry. kind entry && two entry) xs (λ entry. and_less (kind entry) (one entry) (two entry) (leads entry))

before_later : (moment later : ℕ) → moment ≤ later → (n : ℕ) → nat_lt n moment ≡ true → nat_lt n later ≡ true
before_later moment later upto n is = lt-ltb n later (omega (arith, ltb-true n moment is, upto))

-- whether an entry is before a moment, and whether the word that it sends over a link is taken before one
abbrev is_before : ℕ → Entry → Bool
is_before moment entry = nat_lt entry.moment moment

abbrev is_taken_before : Link → ℕ → Entry → Bool
is_taken_before link moment entry = is_before moment (taken_from link entry)

-- how many of the words that pass over a link in one clock are sent in entries that pass a test
abbrev sent_with : PlannedBoard → ℕ → (Entry → Bool) → ℕ
sent_with planned number test = count_by (λ entry. is_sent number entry && test entry) (timetable planned)

-- what is counted of the entries of a link's two nodes is counted of what passes
module _ (planned : PlannedBoard) (sound : IsSound planned) (number : ℕ) (link : Link) (there : slice_get planned.board.links number ≡ Some link) where
  sent_counts : (test : Entry → Bool)
      → count_by (λ entry. is_sent number entry && test entry) (entries_at link.from (timetable planned)) ≡ sent_with planned number test
  sent_counts test =
      sym (count_filter test (is_sent number) (entries_at link.from (timetable planned)))
      ∙ ap (count_by test) (sends_are planned sound number link there)
      ∙ count_filter test (is_sent number) (timetable planned)

  taken_counts : (test : Entry → Bool)
      → count_by (λ entry. is_taken number entry && test entry) (entries_at link.to (timetable planned))
      ≡ sent_with planned number (λ entry. test (taken_from link entry))
  taken_counts test =
      sym (count_filter test (is_taken number) (entries_at link.to (timetable planned)))
      ∙ ap (count_by test) (takes_are planned sound number link there)
      ∙ count_map test (taken_from link) (passes planned number)
      ∙ count_filter (λ entry. test (taken_from link entry)) (is_sent number) (timetable planned)

  sent_length : sent_with planned number (λ entry. true) ≡ length (passes planned number)
  sent_length = sym (count_filter (λ entry. true) (is_sent number) (timetable planned)) ∙ all_of (passes planned number) where
    all_of : (list : List Entry) → count_by (λ entry. true) list ≡ length list
    all_of [] = refl
    all_of (entry ∷ list) = omega (arith, count_cons (λ (one : Entry). true) entry list, all_of list)

  -- no more pass a test than pass over the link
  sent_at_most : (test : Entry → Bool) → sent_with planned number test ≤ length (passes planned number)
  sent_at_most test = omega (arith, count_leads (is_sent number) test (λ entry. true) (timetable planned) (λ entry is. refl), sent_length)

  module _ (moment : ℕ) (turn : moment % 3 ≡ 1) (some : 1 ≤ link.delay) where
    -- the first of the last microcycles, as many as a word takes
    abbrev start : ℕ
    start = moment / 3 + 1 - link.delay

    -- what was sent up to the moment, what of it was taken before the moment, and what was sent in the last microcycles
    abbrev was_sent : Entry → Bool
    was_sent entry = is_sent number entry && is_before (moment + 1) entry

    abbrev was_taken : Entry → Bool
    was_taken entry = is_sent number entry && is_taken_before link moment entry

    abbrev is_late : Entry → Bool
    is_late entry = (is_sent number entry && nat_lt start (entry.moment / 3 + 1)) && nat_lt (entry.moment / 3 - start) link.delay

    taken_early : (entry : Entry) → is_sent number entry ≡ true → (taken_from link entry).moment < moment → was_taken entry ≡ true
    taken_early entry sent early = and_from (is_sent number entry) (is_taken_before link moment entry) sent (lt-ltb (taken_from link entry).moment moment early)

    sent_late : (entry : Entry) → is_sent number entry ≡ true → entry.moment < moment + 1 → moment ≤ (taken_from link entry).moment → is_late entry ≡ true
    sent_late entry sent upto late =
        let kind : entry.moment % 3 ≡ 1 = eqb-true (entry.moment % 3) 1 (and_parts (is_sending entry) (eqb entry.link number) sent).0 in
        let after : start < entry.moment / 3 + 1 = omega (arith, late, kind, turn, some) in
        let inside : entry.moment / 3 - start < link.delay = omega (arith, upto, kind, turn, some) in
        let started = and_from (is_sent number entry) (nat_lt start (entry.moment / 3 + 1)) sent (lt-ltb start (entry.moment / 3 + 1) after) in
        let in_delay = lt-ltb (entry.moment / 3 - start) link.delay inside in
        and_from (is_sent number entry && nat_lt start (entry.moment / 3 + 1)) (nat_lt (entry.moment / 3 - start) link.delay) started in_delay

    taken_or_late : (entry : Entry) → one_if (was_sent entry) ≤ one_if (was_taken entry) + one_if (is_late entry)
    taken_or_late entry = one_or_other (was_sent entry) (was_taken entry) (is_late entry) late where
      late : was_sent entry ≡ true → was_taken entry ≡ false → is_late entry ≡ true
      late is not_taken =
          let parts = and_parts (is_sent number entry) (is_before (moment + 1) entry) is in
          let if_early = λ (early : (taken_from link entry).moment < moment).
          let past : moment ≤ (taken_from link entry).moment = absurd (true≢false (sym (taken_early entry parts.0 early) ∙ not_taken)) in past in
          let past = ⊎_elim if_early (λ past. past) (cases_lt (taken_from link entry).moment moment) in
          sent_late entry parts.0 (ltb-true entry.moment (moment + 1) parts.1) past

    -- what was sent up to a moment, but for what was taken before it, was sent in the last microcycles, as many as a word takes
    sent_span : sent_with planned number (is_before (moment + 1)) ≤ sent_with planned number (is_taken_before link moment) + link.delay * link.width
    sent_span =
        let span = in_span planned sound number link there start link.delay in
        omega (arith, span, count_split was_taken is_late was_sent (timetable planned) taken_or_late)

module _ (job : Job) where
  abbrev planned : PlannedBoard
  planned = planned_of job

  -- how many words of a link there are before a clock
  abbrev words_before : ℕ → ℕ → ℕ
  words_before link clock = length (script_before job link clock)

  -- the words of one clock more, and of later clocks
  pub more_words : (link clock : ℕ) → length (script_before job link (suc clock)) ≡ length (script_before job link clock) + length (passes planned link)
  more_words link clock =
      let before = script_before job link clock in
      let words = map (word_at job clock) (passes planned link) in
      length-append before words ∙ ap (λ (many : ℕ). length before + many) (length-map (passes planned link) (word_at job clock))

  same_words : (link clock other : ℕ) → clock ≡ other → words_before link clock ≡ words_before link other
  same_words link clock other same = ap (words_before link) same

  pub later_words : (link clock other : ℕ) → clock ≤ other → length (script_before job link clock) ≤ length (script_before job link other)
  later_words link clock zero upto = omega (arith, same_words link clock 0 (omega (arith, upto)))
  later_words link clock (suc other) upto =
      let if_less = λ (less : clock < suc other).
      let before : words_before link clock ≤ words_before link other = later_words link clock other (omega (arith, less)) in
      let whole : words_before link clock ≤ words_before link (suc other) = omega (arith, before, more_words link other) in whole in
      let if_same = λ (past : suc other ≤ clock).
      let same : words_before link clock ≡ words_before link (suc other) = same_words link clock (suc other) (omega (arith, past, upto)) in
      let whole : words_before link clock ≤ words_before link (suc other) = omega (arith, same) in whole in
      ⊎_elim if_less if_same (cases_lt clock (suc other))

  -- the entry that a node makes next, if not the step
  abbrev next_entry : WorldState → ℕ → Option Entry
  next_entry world node = slice_get (entries_at node (timetable planned)) (node_at world node).made

  -- what comes next of a node, as a number: 0 for the step, else one more than the moment
  abbrev turn_of : Option Entry → ℕ
  turn_of found = option_map_or (λ (entry : Entry). entry.moment + 1) found 0

  abbrev turn_at : WorldState → ℕ → ℕ
  turn_at world node = turn_of (next_entry world node)

  own_rises : (node : ℕ) → Rises comes_before (entries_at node (timetable planned))
  unfolding timetable
  own_rises node = part_rises comes_before is_order (is_at node) (entries planned)

  module _ (world : WorldState) (kept : IsKept job world) where
    -- the clock of a node
    abbrev clock_at : ℕ → ℕ
    clock_at node = (node_at world node).clock

    -- a node that no other is before, by clock and then by what comes next
    record IsFirst (node : ℕ) : Type 0 where
      inside : node < length world.nodes
      clocks : (other : ℕ) → other < length world.nodes → clock_at node ≤ clock_at other
      turns : (other : ℕ) → other < length world.nodes → clock_at other ≡ clock_at node → turn_at world node ≤ turn_at world other

    -- there is one node more than chips
    abbrev chips : ℕ
    chips = job.checked.board.chips

    -- a node at the least clock, and then a node whose turn is least among those at its clock
    module _ (one : LeastPlace clock_at (suc chips)) where
      -- whether a node is at the least clock
      abbrev is_level : ℕ → Bool
      is_level node = eqb (clock_at node) (clock_at one.place)

      -- the turn of such a node; of another, that of the node found at the least clock
      abbrev level_turn : ℕ → ℕ
      level_turn node = if is_level node then turn_at world node else turn_at world one.place

      own_turn : (node : ℕ) → clock_at node ≡ clock_at one.place → level_turn node ≡ turn_at world node
      own_turn node same =
          ap (λ (own : Bool). if own then turn_at world node else turn_at world one.place) (eq-eqb (clock_at node) (clock_at one.place) same)

      module _ (two : LeastPlace level_turn (suc chips)) where
        no_less_turn : (other : ℕ) → other < length world.nodes → level_turn two.place ≤ level_turn other
        no_less_turn other below = two.no_less other (omega (arith, below, kept.count))

        if_level : is_level two.place ≡ true → IsFirst two.place
        if_level is =
            let same : clock_at two.place ≡ clock_at one.place = eqb-true (clock_at two.place) (clock_at one.place) is in
            record {
              inside = omega (arith, two.below, kept.count);
              clocks = λ other below. omega (arith, same, one.no_less other (omega (arith, below, kept.count)));
              turns = λ other below alike. omega (arith, no_less_turn other below, own_turn two.place same, own_turn other (alike ∙ same));
            }

        if_not_level : is_level two.place ≡ false → IsFirst one.place
        if_not_level is =
            let its : level_turn two.place ≡ turn_at world one.place =
            ap (λ (own : Bool). if own then turn_at world two.place else turn_at world one.place) is in
            record {
              inside = omega (arith, one.below, kept.count);
              clocks = λ other below. one.no_less other (omega (arith, below, kept.count));
              turns = λ other below alike. omega (arith, no_less_turn other below, its, own_turn other alike);
            }

        first_of : (node : ℕ) × IsFirst node
        first_of = ⊎_elim (λ is. (two.place, if_level is)) (λ is. (one.place, if_not_level is)) (cases_Bool (is_level two.place))

    first_node : (node : ℕ) × IsFirst node
    first_node =
        let one = least_place clock_at chips in
        first_of one (least_place (level_turn one) chips)

    -- ---- what is the same of a send and of a take

    -- a link is one of the world's, goes from one of its nodes to another, and has pins and a delay
    record IsInside (number : ℕ) (link : Link) : Type 0 where
      listed : number < length world.links
      from_node : link.from < length world.nodes
      to_node : link.to < length world.nodes
      wide : 1 ≤ link.width
      timely : 1 ≤ link.delay

    module _ (number : ℕ) (link : Link) (there : slice_get planned.board.links number ≡ Some link) where
      is_inside : IsInside number link
      is_inside =
          let board = planned.board in
          let place = slice_get_within board.links number link there in
          let here : get_or board.links number link ≡ link = get_or_from_slice_get board.links number link link there in
          let both = board.linked.separate.ends number link place in
          let wide = board.linked.separate.wide number link place in
          let timely = board.linked.separate.timely number link place in
          record {
            listed = omega (arith, place, kept.lines);
            from_node = omega (arith, both.0, ap (λ (one : Link). one.from) here, kept.count);
            to_node = omega (arith, both.1, ap (λ (one : Link). one.to) here, kept.count);
            wide = omega (arith, wide.0, ap (λ (one : Link). one.width) here);
            timely = omega (arith, timely.0, ap (λ (one : Link). one.delay) here);
          }

      own_link : link_at job number ≡ link
      own_link = its_link job number link there

      sent_is : sent_at job world number ≡ sent_by job number link.from (node_at world link.from)
      sent_is = ap (λ (one : ℕ). sent_by job number one (node_at world one)) (ap (λ (one : Link). one.from) own_link)

      taken_is : taken_at job world number ≡ taken_by job number link.to (node_at world link.to)
      taken_is = ap (λ (one : ℕ). taken_by job number one (node_at world one)) (ap (λ (one : Link). one.to) own_link)

      room_is : capacity (link_at job number) ≡ link.width * link.delay
      room_is = ap capacity own_link

      some_room : 1 ≤ link.width * link.delay
      some_room = some_product link.width link.delay is_inside.wide is_inside.timely

      words_length : length (words_at world number) ≡ min (sent_at job world number) (length (script job number)) - taken_at job world number
      words_length =
          let sent = sent_at job world number in
          let taken = taken_at job world number in
          ap (λ (list : List Word). length list) (kept.links number is_inside.listed).content
          ∙ length-drop taken (take sent (script job number))
          ∙ ap (λ (many : ℕ). many - taken) (length-take sent (script job number))

    module _ (node : ℕ) (first : IsFirst node) (unfinished : (node_at world node).clock < length job.rows) where
      abbrev state : NodeState
      state = node_at world node

      abbrev own : List Entry
      own = entries_at node (timetable planned)

      module _ (entry : Entry) (at : slice_get own state.made ≡ Some entry) where
        its_node : entry.node ≡ node
        its_node =
            let is_own = λ (one : Entry). is_at node one ≡ true in
            let all_own = recursion_from_All is_own own (filter_passes (is_at node) (timetable planned)) in
            eqb-true entry.node node (all_at is_own own state.made entry all_own at)

        -- another node has an entry next, at no earlier moment
        record HasNext (other : ℕ) : Type 0 where
          next : Entry
          next_is : next_entry world other ≡ Some next
          no_earlier : entry.moment ≤ next.moment

        -- so has each at this clock
        next_of_other : (other : ℕ) → other < length world.nodes → clock_at other ≡ state.clock → HasNext other
        next_of_other other below alike = by (next_entry world other) refl where
          order : turn_at world node ≤ turn_at world other
          order = first.turns other below alike

          mine : turn_at world node ≡ entry.moment + 1
          mine = ap turn_of at

          by : (found : Option Entry) → next_entry world other ≡ found → HasNext other
          by None is = absurd (omega (arith, order, mine, ap turn_of is))
          by (Some next) is = record { next = next; next_is = is; no_earlier = omega (arith, order, mine, ap turn_of is) }

        -- ---- a send

        module _ (turn : is_sending entry ≡ true) (link : Link) (there : slice_get planned.board.links entry.link ≡ Some link) (from : link.from ≡ node) where
          sent_so_far : sent_at job world entry.link ≡ words_before entry.link state.clock + count_by (is_sent entry.link) (take state.made own)
          sent_so_far = sent_is entry.link link there ∙ ap (λ (one : ℕ). sent_by job entry.link one (node_at world one)) from

          -- this word and those sent before it in this clock
          sent_upto : count_by (is_sent entry.link) (take state.made own) + 1 ≤ sent_with planned entry.link (is_before (entry.moment + 1))
          sent_upto =
              let test = λ (other : Entry). is_sent entry.link other && is_before (entry.moment + 1) other in
              let on_link = eq-eqb entry.link entry.link refl in
              let passing : is_sent entry.link entry ≡ true = and_from (is_sending entry) (eqb entry.link entry.link) turn on_link in
              let made = none_after (is_sent entry.link) own state.made entry (own_rises node) at in
              let at_node = ap (λ (one : ℕ). count_by test (entries_at one (timetable planned))) (sym from) in
              omega (arith, made, ap one_if passing, at_node, sent_counts planned job.checked.sound entry.link link there (is_before (entry.moment + 1)))

          -- the link has room where the other node is at a later clock, and where it is at this one
          room_later : state.clock < clock_at link.to → length (words_at world entry.link) < capacity (link_at job entry.link)
          room_later later =
              let most = sent_at_most planned job.checked.sound entry.link link there (is_before (entry.moment + 1)) in
              let taken_more = later_words entry.link (suc state.clock) (clock_at link.to) (omega (arith, later)) in
              omega (
                arith,
                words_length entry.link link there,
                sent_so_far,
                sent_upto,
                most,
                more_words entry.link state.clock,
                taken_is entry.link link there,
                taken_more,
                room_is entry.link link there,
                some_room entry.link link there,
              )

          room_now : clock_at link.to ≤ state.clock → length (words_at world entry.link) < capacity (link_at job entry.link)
          room_now past =
              let inside = is_inside entry.link link there in
              let alike : clock_at link.to ≡ state.clock = omega (arith, past, first.clocks link.to inside.to_node) in
              let other = next_of_other link.to inside.to_node alike in
              let others = entries_at link.to (timetable planned) in
              let before = all_before (is_taken entry.link) others (node_at world link.to).made other.next (own_rises link.to) other.next_is in
              let upto = before_later entry.moment other.next.moment other.no_earlier in
              let early = count_leads (is_taken entry.link) (is_before entry.moment) (is_before other.next.moment) others (λ one. upto one.moment) in
              let taken = taken_counts planned job.checked.sound entry.link link there (is_before entry.moment) in
              let kind : entry.moment % 3 ≡ 1 = eqb-true (entry.moment % 3) 1 turn in
              let span = sent_span planned job.checked.sound entry.link link there entry.moment kind inside.timely in
              let turned : link.delay * link.width ≡ link.width * link.delay = omega arith in
              omega (
                arith,
                words_length entry.link link there,
                sent_so_far,
                sent_upto,
                span,
                turned,
                taken_is entry.link link there,
                taken,
                early,
                before,
                same_words entry.link (clock_at link.to) state.clock alike,
                room_is entry.link link there,
                some_room entry.link link there,
              )

        send_open : is_sending entry ≡ true → length (words_at world entry.link) < capacity (link_at job entry.link)
        send_open turn =
            let parts = (entry_has planned job.checked.sound node state.made entry at).leaves turn in
            let link = parts.0 in
            let from : link.from ≡ node = parts.1.1 ∙ its_node in
            ⊎_elim (room_later turn link parts.1.0 from) (room_now turn link parts.1.0 from) (cases_lt state.clock (clock_at link.to))

        -- ---- a take

        module _ (turn : is_taking entry ≡ true) (link : Link) (there : slice_get planned.board.links entry.link ≡ Some link) (to : link.to ≡ node) where
          taken_so_far : taken_at job world entry.link ≡ words_before entry.link state.clock + count_by (is_taken entry.link) (take state.made own)
          taken_so_far = taken_is entry.link link there ∙ ap (λ (one : ℕ). taken_by job entry.link one (node_at world one)) to

          -- this word and those taken before it in this clock
          taken_upto : count_by (is_taken entry.link) (take state.made own) + 1 ≤ sent_with planned entry.link (is_taken_before link (entry.moment + 1))
          taken_upto =
              let test = λ (other : Entry). is_taken entry.link other && is_before (entry.moment + 1) other in
              let on_link = eq-eqb entry.link entry.link refl in
              let passing : is_taken entry.link entry ≡ true = and_from (is_taking entry) (eqb entry.link entry.link) turn on_link in
              let made = none_after (is_taken entry.link) own state.made entry (own_rises node) at in
              let at_node = ap (λ (one : ℕ). count_by test (entries_at one (timetable planned))) (sym to) in
              omega (arith, made, ap one_if passing, at_node, taken_counts planned job.checked.sound entry.link link there (is_before (entry.moment + 1)))

          -- the script has one more word
          more_to_take : taken_at job world entry.link < length (script job entry.link)
          more_to_take =
              let the_ends = ends job world kept node first.inside in
              let agree = agrees job world kept node first.inside in
              let expected = is_expected the_ends node state agree unfinished entry at entry.link entry.net turn refl refl in
              omega (arith, expected.more, taken_so_far)

          -- the link has a word where the other node is at a later clock, and where it is at this one
          word_later : state.clock < clock_at link.from → 0 < length (words_at world entry.link)
          word_later later =
              let most = sent_at_most planned job.checked.sound entry.link link there (is_taken_before link (entry.moment + 1)) in
              let sent_more = later_words entry.link (suc state.clock) (clock_at link.from) (omega (arith, later)) in
              omega (
                arith,
                words_length entry.link link there,
                sent_is entry.link link there,
                sent_more,
                more_words entry.link state.clock,
                most,
                taken_so_far,
                taken_upto,
                more_to_take,
              )

          word_now : clock_at link.from ≤ state.clock → 0 < length (words_at world entry.link)
          word_now past =
              let inside = is_inside entry.link link there in
              let alike : clock_at link.from ≡ state.clock = omega (arith, past, first.clocks link.from inside.from_node) in
              let other = next_of_other link.from inside.from_node alike in
              let others = entries_at link.from (timetable planned) in
              let before = all_before (is_sent entry.link) others (node_at world link.from).made other.next (own_rises link.from) other.next_is in
              let all = sent_counts planned job.checked.sound entry.link link there (is_before other.next.moment) in
              let upto = entry.moment + 1 in
              let sent_before : (one : Entry) → is_taken_before link upto one ≡ true → is_before other.next.moment one ≡ true =
              λ one is. lt-ltb one.moment other.next.moment (omega (arith, ltb-true (taken_from link one).moment upto is, other.no_earlier)) in
              let early = count_leads (is_sent entry.link) (is_taken_before link upto) (is_before other.next.moment) (timetable planned) sent_before in
              omega (
                arith,
                words_length entry.link link there,
                sent_is entry.link link there,
                before,
                all,
                early,
                same_words entry.link (clock_at link.from) state.clock alike,
                taken_so_far,
                taken_upto,
                more_to_take,
              )

        take_open : is_taking entry ≡ true → 0 < length (words_at world entry.link)
        take_open turn =
            let parts = (entry_has planned job.checked.sound node state.made entry at).reaches turn in
            let link = parts.0 in
            let to : link.to ≡ node = parts.1.1 ∙ its_node in
            ⊎_elim (word_later turn link parts.1.0 to) (word_now turn link parts.1.0 to) (cases_lt state.clock (clock_at link.from))

      -- ---- the first node's next action

      -- how many inputs the design has
      abbrev inputs : ℕ
      inputs = job.checked.ordered.flat.inputs

      -- what an entry has a node do, by whether it evaluates, and whether it sends
      abbrev action_by : Entry → Bool → Bool → Action
      action_by entry evaluates sends =
          if evaluates then Evaluate (entry.net - inputs) else (if sends then Send entry.link entry.place entry.net else Take entry.link entry.place entry.net)

      next_open : IsOpen job world (next_action job node state)
      next_open = ⊎_elim if_entry if_step (cases_lt state.made (length own)) where
        left_is : (found : Option Action) → slice_get (actions planned node) state.made ≡ found → next_action job node state ≡ found
        left_is found is =
            let left = lt-ltb state.clock (length job.rows) unfinished in
            ap (λ (left : Bool). if left then slice_get (actions planned node) state.made else None) left ∙ is

        by_kind : (entry : Entry) → slice_get own state.made ≡ Some entry → (one two : Bool) → is_evaluating entry ≡ one → is_sending entry ≡ two
            → IsOpen job world (Some (action_by entry one two))
        by_kind entry at true two first_is second_is = tt
        by_kind entry at false true first_is second_is = send_open entry at second_is
        by_kind entry at false false first_is second_is = take_open entry at (last_turn (entry.moment % 3) (omega arith) first_is second_is)

        if_entry : state.made < length own → IsOpen job world (next_action job node state)
        if_entry below =
            let none : Entry = record { moment = 0; link = 0; place = 0; node = 0; net = 0 } in
            let entry = get_or own state.made none in
            let at : slice_get own state.made ≡ Some entry = slice_get-get_or own state.made none below in
            let action = action_of inputs entry in
            let there = get_append_left (map (action_of inputs) own) (Step ∷ []) state.made action (get_map (action_of inputs) own state.made entry at) in
            subst (IsOpen job world) (sym (left_is (Some action) there)) (by_kind entry at (is_evaluating entry) (is_sending entry) refl refl)

        if_step : length own ≤ state.made → IsOpen job world (next_action job node state)
        if_step past =
            let acts = map (action_of inputs) own in
            let place : state.made ≡ length acts + 0 = omega (arith, past, (kept.nodes node first.inside).under, length-map own (action_of inputs)) in
            let last = get_append_right acts (Step ∷ []) 0 in
            let there : slice_get (actions planned node) state.made ≡ Some Step = ap (slice_get (actions planned node)) place ∙ last in
            subst (IsOpen job world) (sym (left_is (Some Step) there)) tt

    -- where a node has clocks to come, the first node can act
    pub some_able : (node : ℕ) → IsUnfinished job world node → (able : ℕ) × IsAble job world able
    some_able node left =
        let found = first_node in
        let unfinished : (node_at world found.0).clock < length job.rows = omega (arith, found.1.clocks node left.0, left.1) in
        (found.0, (found.1.inside, next_open found.0 found.1 unfinished))
