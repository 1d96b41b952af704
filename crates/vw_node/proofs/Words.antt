-- The words of scripts, and where a node stands in them.
use Rattle.std.proofs.Common.{◌≡◌, ◌<◌, ◌≤◌, ◌+◌, ◌∷◌, ◌++◌, ℕ, zero, suc, Bool, true, false, List, [], length, map, take, get_or, slice_get, cond, ap, ap₂, refl, sym, ◌∙◌, ⊎_elim, Some, arith}
use Rattle.std.specs.List.{count_by, filter}
use Rattle.std.proofs.lemmas.Bool.{cases_Bool, cases_lt}
use Rattle.std.proofs.lemmas.List.{length-append, length-map, take_all}
use Rattle.std.proofs.lemmas.List.Sums.{count_by_more_no, count_by_more_yes, length-filter}
use Rattle.std.proofs.lemmas.Option.{get_or_from_slice_get, slice_get_within}
use Rattle.vw_net.specs.Steps.Bits.{one_if}
use Rattle.vw_plan.specs.declared.link.Link.{Link}
use Rattle.vw_plan.specs.PlannedBoard.{PlannedBoard}
use Rattle.vw_net.proofs.CountsOverLists.{count_cons}
use Rattle.vw_prog.specs.declared.entry.Entry.{Entry}
use Rattle.vw_prog.specs.declared.job.Job.{Job}
use Rattle.vw_prog.specs.declared.word.Word.{Word}
use Rattle.vw_prog.specs.Scripts.{planned_of, script, script_before, word_at}
use Rattle.vw_prog.specs.Timetable.{entries_at, is_sent, is_taken, passes, taken_from, timetable}
use Rattle.vw_prog.proofs.LinkPasses.{sends_are, takes_are}
use Rattle.vw_node.specs.Positions.{sent_by, taken_by}
use Rattle.vw_node.specs.States.{NodeState}

-- ---- lists

pub get_append_left : {X : Type 0} (xs ys : List X) (place : ℕ) (x : X) → slice_get xs place ≡ Some x → slice_get (xs ++ ys) place ≡ Some x
get_append_left [] ys place x is = cc
get_append_left (first ∷ xs) ys zero x is = is
get_append_left (first ∷ xs) ys (suc place) x is = get_append_left xs ys place x is

pub get_append_right : {X : Type 0} (xs ys : List X) (place : ℕ) → slice_get (xs ++ ys) (length xs + place) ≡ slice_get ys place
get_append_right [] ys place = let same : 0 + place ≡ place = omega arith in ap (slice_get ys) same
get_append_right (x ∷ xs) ys place = let next : suc (length xs) + place ≡ suc (length xs + place) = omega arith in ap (slice_get (x ∷ (xs ++ ys))) next ∙ get_append_right xs ys place

pub get_map : {X Y : Type 0} (f : X → Y) (xs : List X) (place : ℕ) (x : X) → slice_get xs place ≡ Some x → slice_get (map f xs) place ≡ Some (f x)
get_map f [] place x is = cc
get_map f (first ∷ xs) zero x is = let same : first ≡ x = cc in ap (λ one. Some (f one)) same
get_map f (first ∷ xs) (suc place) x is = get_map f xs place x is

-- an element stands, among those that pass a test, behind those before it
pub get_filter : {X : Type 0} (test : X → Bool) (xs : List X) (place : ℕ) (x : X) → slice_get xs place ≡ Some x → test x ≡ true
    → slice_get (filter test xs) (count_by test (take place xs)) ≡ Some x
get_filter test [] place x is passes = cc
get_filter test (first ∷ xs) zero x is passes = let same : first ≡ x = cc in let own : test first ≡ true = ap test same ∙ passes in rw own is
get_filter test (first ∷ xs) (suc place) x is passes =
    let rest = get_filter test xs place x is passes in
    let if_first = λ (own : test first ≡ true).
    let count : count_by test (first ∷ take place xs) ≡ suc (count_by test (take place xs)) = omega (arith, count_cons test first (take place xs), ap one_if own) in
    ap₂ slice_get (ap (λ (kept : Bool). cond kept (first ∷ filter test xs) (filter test xs)) own) count ∙ rest in
    let if_not = λ (own : test first ≡ false).
    let count : count_by test (first ∷ take place xs) ≡ count_by test (take place xs) = omega (arith, count_cons test first (take place xs), ap one_if own) in
    ap₂ slice_get (ap (λ (kept : Bool). cond kept (first ∷ filter test xs) (filter test xs)) own) count ∙ rest in
    ⊎_elim if_first if_not (cases_Bool (test first))

-- one more is counted where it passes
pub count_more : {X : Type 0} (test : X → Bool) (xs : List X) (place : ℕ) (x : X) → slice_get xs place ≡ Some x
    → count_by test (take (place + 1) xs) ≡ count_by test (take place xs) + one_if (test x)
count_more test xs place x is =
    let within = slice_get_within xs place x is in
    let here : get_or xs place x ≡ x = get_or_from_slice_get xs place x x is in
    let if_passes = λ (own : test x ≡ true). let whole : count_by test (take (place + 1) xs) ≡ count_by test (take place xs) + one_if (test x) = omega (arith, count_by_more_yes test xs place x within (ap test here ∙ own), ap one_if own) in whole in
    let if_not = λ (own : test x ≡ false). let whole : count_by test (take (place + 1) xs) ≡ count_by test (take place xs) + one_if (test x) = omega (arith, count_by_more_no test xs place x within (ap test here ∙ own), ap one_if own) in whole in
    ⊎_elim if_passes if_not (cases_Bool (test x))

-- ---- scripts

module _ (job : Job) where
  abbrev planned : PlannedBoard
  planned = planned_of job

  -- the word of a clock in the script of more clocks
  word_in : (link many clock place : ℕ) (word : Word) → clock < many
      → slice_get (map (word_at job clock) (passes planned link)) place ≡ Some word
      → slice_get (script_before job link many) (length (script_before job link clock) + place) ≡ Some word
  word_in link zero clock place word before is = absurd (omega (arith, before))
  word_in link (suc many) clock place word before is =
      let later = map (word_at job many) (passes planned link) in
      let if_before = λ (sooner : clock < many). get_append_left (script_before job link many) later (length (script_before job link clock) + place) word (word_in link many clock place word sooner is) in
      let if_last = λ (last : many ≤ clock).
      let same : clock ≡ many = omega (arith, last, before) in
      ap (λ (one : ℕ). slice_get (script_before job link many ++ later) (length (script_before job link one) + place)) same
      ∙ get_append_right (script_before job link many) later place
      ∙ ap (λ (one : ℕ). slice_get (map (word_at job one) (passes planned link)) place) (sym same) ∙ is in
      ⊎_elim if_before if_last (cases_lt clock many)

  -- what is taken has the words of what is sent
  same_words : (clock : ℕ) (link : Link) (sent : List Entry) → map (word_at job clock) (map (taken_from link) sent) ≡ map (word_at job clock) sent
  same_words clock link [] = refl
  same_words clock link (entry ∷ sent) = ap (λ (words : List Word). word_at job clock entry ∷ words) (same_words clock link sent)

  module _ (node : ℕ) (state : NodeState) (entry : Entry) (at : slice_get (entries_at node (timetable planned)) state.made ≡ Some entry) (unfinished : state.clock < length job.rows) where
    abbrev own : List Entry
    own = entries_at node (timetable planned)

    -- the next word of a link over which the node sends
    pub sent_word : (number : ℕ) (link : Link) → slice_get planned.board.links number ≡ Some link → link.from ≡ node
        → is_sent number entry ≡ true → slice_get (script job number) (sent_by job number node state) ≡ Some (word_at job state.clock entry)
    unfolding script
    sent_word number link there from sends =
        let count = count_by (is_sent number) (take state.made own) in
        let here : slice_get (filter (is_sent number) own) count ≡ Some entry = get_filter (is_sent number) own state.made entry at sends in
        let passing : filter (is_sent number) own ≡ passes planned number = ap (λ (one : ℕ). filter (is_sent number) (entries_at one (timetable planned))) (sym from) ∙ sends_are planned job.checked.sound number link there in
        word_in number (length job.rows) state.clock count (word_at job state.clock entry) unfinished (get_map (word_at job state.clock) (passes planned number) count entry (ap (λ (list : List Entry). slice_get list count) (sym passing) ∙ here))

    -- and of one from which it takes
    pub taken_word : (number : ℕ) (link : Link) → slice_get planned.board.links number ≡ Some link → link.to ≡ node
        → is_taken number entry ≡ true
        → slice_get (script job number) (taken_by job number node state) ≡ Some (word_at job state.clock entry)
    unfolding script
    taken_word number link there to takes =
        let count = count_by (is_taken number) (take state.made own) in
        let here : slice_get (filter (is_taken number) own) count ≡ Some entry = get_filter (is_taken number) own state.made entry at takes in
        let words : map (word_at job state.clock) (filter (is_taken number) own) ≡ map (word_at job state.clock) (passes planned number) =
        ap (map (word_at job state.clock)) (ap (λ (one : ℕ). filter (is_taken number) (entries_at one (timetable planned))) (sym to) ∙ takes_are planned job.checked.sound number link there) ∙ same_words state.clock link (passes planned number) in
        word_in number (length job.rows) state.clock count (word_at job state.clock entry) unfinished (ap (λ (list : List Word). slice_get list count) (sym words) ∙ get_map (word_at job state.clock) (filter (is_taken number) own) count entry here)

  -- ---- a clock that is over

  module _ (node : ℕ) (state : NodeState) (all_made : state.made ≡ length (entries_at node (timetable planned))) where
    length_more : (number : ℕ)
        → length (script_before job number (state.clock + 1)) ≡ length (script_before job number state.clock) + length (passes planned number)
    length_more number =
        let later : state.clock + 1 ≡ suc state.clock = omega arith in
        ap (λ (clock : ℕ). length (script_before job number clock)) later
        ∙ length-append (script_before job number state.clock) (map (word_at job state.clock) (passes planned number))
        ∙ ap (λ (many : ℕ). length (script_before job number state.clock) + many) (length-map (passes planned number) (word_at job state.clock))

    all_counted : (test : Entry → Bool)
        → count_by test (take state.made (entries_at node (timetable planned))) ≡ length (filter test (entries_at node (timetable planned)))
    all_counted test = ap (count_by test) (take_all state.made (entries_at node (timetable planned)) (omega (arith, all_made))) ∙ sym (length-filter test (entries_at node (timetable planned)))

    pub all_sent : (number : ℕ) (link : Link) → slice_get planned.board.links number ≡ Some link → link.from ≡ node
        → sent_by job number node state ≡ length (script_before job number (state.clock + 1))
    all_sent number link there from =
        let passing = ap (λ (one : ℕ). length (filter (is_sent number) (entries_at one (timetable planned)))) (sym from) ∙ ap (λ (list : List Entry). length list) (sends_are planned job.checked.sound number link there) in
        omega (arith, all_counted (is_sent number), passing, length_more number)

    pub all_taken : (number : ℕ) (link : Link) → slice_get planned.board.links number ≡ Some link → link.to ≡ node
        → taken_by job number node state ≡ length (script_before job number (state.clock + 1))
    all_taken number link there to =
        let passing = ap (λ (one : ℕ). length (filter (is_taken number) (entries_at one (timetable planned)))) (sym to) ∙ ap (λ (list : List Entry). length list) (takes_are planned job.checked.sound number link there) ∙ length-map (passes planned number) (taken_from link) in
        omega (arith, all_counted (is_taken number), passing, length_more number)
