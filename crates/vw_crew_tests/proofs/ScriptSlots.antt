-- The words of a script, by what a program sends and by the values of nets.
use Rattle.std.proofs.Common.{◌≡◌, ◌<◌, ◌≤◌, ◌+◌, ◌-◌, ◌%◌, ◌&&◌, ◌++◌, ◌∷◌, ℕ, zero, suc, Bool, true, false, List, [], length, map, take, get_or, eqb, slice_get, slice_index_or, Some, if◌then◌else◌, ap, refl, sym, subst, ◌∙◌, eqb-true, arith}
use Rattle.std.specs.List.{All, filter}
use Rattle.std.proofs.lemmas.Option.{slice_get-get_or}
use Rattle.vw_net.specs.Value.{net_value}
use Rattle.vw_net.specs.declared.flat.Flat.{Flat}
use Rattle.vw_net.specs.Cells.{latch_count}
use Rattle.vw_net.proofs.Counts.{length-state_after}
use Rattle.vw_net.specs.History.{next_state, state_after}
use Rattle.vw_plan.specs.declared.link.Link.{Link}
use Rattle.vw_plan.specs.Sound.{IsSound}
use Rattle.vw_plan.specs.PlannedBoard.{PlannedBoard}
use Rattle.vw_prog.specs.declared.action.Action.{Action}
use Rattle.vw_prog.specs.declared.action.Action.TheVariants.{Evaluate, Send, Step, Take}
use Rattle.vw_prog.specs.declared.entry.Entry.{Entry}
use Rattle.vw_prog.specs.declared.job.Job.{Job}
use Rattle.vw_prog.specs.declared.word.Word.{Word}
use Rattle.vw_prog.specs.Actions.{ArePrograms, SeenPrograms, action_of, actions}
use Rattle.vw_prog.specs.Scripts.{planned_of, script, script_before, state_at, value_at, word_at}
use Rattle.vw_prog.specs.Timetable.{entries_at, is_evaluating, is_sending, is_sent, passes, timetable}
use Rattle.vw_crew_tests.specs.declared.scripts.Slot.{Slot}
use Rattle.vw_crew_tests.specs.Slots.{entry_slot, slots, word_in}

not_both : (entry : Entry) → is_evaluating entry ≡ true → is_sending entry ≡ true → ⊥
not_both entry evaluates sends =
    let one : entry.moment % 3 ≡ 0 = eqb-true (entry.moment % 3) 0 evaluates in
    let other : entry.moment % 3 ≡ 1 = eqb-true (entry.moment % 3) 1 sends in
    omega (arith, one, other)

module _ (number inputs : ℕ) where
  one_slot : (entry : Entry) (rest : List Action) (more : List Entry) → slots number rest ≡ map entry_slot (filter (is_sent number) more)
      → slots number (action_of inputs entry ∷ rest) ≡ map entry_slot (filter (is_sent number) (entry ∷ more))
  one_slot entry rest more so_far = by (is_evaluating entry) (is_sending entry) (not_both entry) where
    own : (same : Bool) → (if same then entry_slot entry ∷ slots number rest else slots number rest) ≡ map entry_slot (if same then entry ∷ filter (is_sent number) more else filter (is_sent number) more)
    own true = ap (λ (list : List Slot). entry_slot entry ∷ list) so_far
    own false = so_far

    by : (evaluates sends : Bool) → (evaluates ≡ true → sends ≡ true → ⊥)
        → slots number ((if evaluates then Evaluate (entry.net - inputs) else (if sends then Send entry.link entry.place entry.net else Take entry.link entry.place entry.net)) ∷ rest)
        ≡ map entry_slot (if sends && eqb entry.link number then entry ∷ filter (is_sent number) more else filter (is_sent number) more)
    by true true apart = absurd (apart refl refl)
    by true false apart = so_far
    by false true apart = own (eqb entry.link number)
    by false false apart = so_far

  slots_of_entries : (entries : List Entry) → slots number (map (action_of inputs) entries ++ Step ∷ []) ≡ map entry_slot (filter (is_sent number) entries)
  slots_of_entries [] = refl
  slots_of_entries (entry ∷ entries) = one_slot entry (map (action_of inputs) entries ++ Step ∷ []) entries (slots_of_entries entries)

-- what a program sends over a link is what passes over it
pub slots_are : (planned : PlannedBoard) (number : ℕ) (link : Link) → filter (is_sent number) (entries_at link.from (timetable planned)) ≡ passes planned number → slots number (actions planned link.from) ≡ map entry_slot (passes planned number)
slots_are planned number link law = slots_of_entries number planned.ordered.flat.inputs (entries_at link.from (timetable planned)) ∙ ap (map entry_slot) law

-- the words of a clock, where the nets have the values of that clock
pub words_are : (job : Job) (clock nets : ℕ) (values : List Bool) → ((net : ℕ) → net < nets → slice_index_or values net false ≡ value_at job clock net) → (entries : List Entry) → All (λ slot. slot.net < nets) (map entry_slot entries)
    → map (word_in (job.first + clock) values) (map entry_slot entries) ≡ map (word_at job clock) entries
words_are job clock nets values right [] all = refl
words_are job clock nets values right (entry ∷ entries) all =
    let here : word_in (job.first + clock) values (entry_slot entry) ≡ word_at job clock entry = ap (λ (bit : Bool). record { clock = job.first + clock; net = entry.net; pin = entry.place; bit = bit }) (right entry.net (all 0 (entry_slot entry) (omega arith))) in
    λ i. here i ∷ words_are job clock nets values right entries (λ place slot below. all (suc place) slot (omega (arith, below))) i

-- the state after one more clock
pub state_more : (flat : Flat) (state : List Bool) (rows : List (List Bool)) (clock : ℕ) → clock < length rows → state_after flat state (take (suc clock) rows) ≡ next_state flat (slice_index_or rows clock []) (state_after flat state (take clock rows))
state_more flat state [] clock below = absurd (omega (arith, below))
state_more flat state (row ∷ rows) zero below = refl
state_more flat state (row ∷ rows) (suc clock) below = state_more flat (next_state flat row state) rows clock (omega (arith, below))

-- there are as many latches in each clock
pub length_state_at : (job : Job) (clock : ℕ) → length (state_at job clock) ≡ latch_count job.checked.ordered.flat.cells
length_state_at job clock = length-state_after job.checked.ordered.flat job.start (take clock job.rows) job.all_latches

any_none : {X : Type 0} (xs : List X) (place : ℕ) (one other : X) → place < length xs → get_or xs place one ≡ get_or xs place other
any_none [] place one other below = absurd (omega (arith, below))
any_none (x ∷ xs) zero one other below = refl
any_none (x ∷ xs) (suc place) one other below = any_none xs place one other (omega (arith, below))

-- the row of a clock
pub row_is : (job : Job) (clock : ℕ) (rows : List (List Bool)) (row : List Bool) → rows ≡ job.rows → row ≡ get_or rows clock row → clock < length rows → row ≡ slice_index_or job.rows clock []
row_is job clock rows row same is below = is ∙ any_none rows clock row [] below ∙ ap (λ (all : List (List Bool)). get_or all clock []) same

pub value_is : (job : Job) (clock net : ℕ) (flat : Flat) (row state : List Bool) → flat ≡ job.checked.ordered.flat → row ≡ slice_index_or job.rows clock [] → state ≡ state_at job clock → net_value flat row state net ≡ value_at job clock net
unfolding value_at
value_is job clock net flat row state flats rows states = λ i. net_value (flats i) (rows i) (states i) net

-- the state before the next clock
pub state_is : (job : Job) (clock : ℕ) (flat : Flat) (row state : List Bool) → clock < length job.rows → flat ≡ job.checked.ordered.flat → row ≡ slice_index_or job.rows clock [] → state ≡ state_at job clock → next_state flat row state ≡ state_at job (clock + 1)
state_is job clock flat row state below flats rows states =
    let one : suc clock ≡ clock + 1 = omega arith in
    (λ i. next_state (flats i) (rows i) (states i)) ∙ sym (state_more job.checked.ordered.flat job.start job.rows clock below) ∙ ap (state_at job) one

-- the words before the next clock
pub more_words : (job : Job) (link clock nets : ℕ) (listed : List Slot) (values : List Bool) (old new : List Word) → listed ≡ map entry_slot (passes (planned_of job) link) → All (λ slot. slot.net < nets) listed
    → ((net : ℕ) → net < nets → slice_index_or values net false ≡ value_at job clock net) → old ≡ script_before job link clock → new ≡ old ++ map (word_in (job.first + clock) values) listed → new ≡ script_before job link (clock + 1)
more_words job link clock nets listed values old new same all right before added =
    let one : suc clock ≡ clock + 1 = omega arith in
    let its = words_are job clock nets values right (passes (planned_of job) link) (subst (All (λ slot. slot.net < nets)) same all) in
    added ∙ (λ i. before i ++ (ap (map (word_in (job.first + clock) values)) same ∙ its) i) ∙ ap (script_before job link) one

-- the words of all clocks
pub all_words : (job : Job) (link clock : ℕ) (words : List Word) (rows : List (List Bool)) → rows ≡ job.rows → clock ≤ length rows → length rows ≤ clock → words ≡ script_before job link clock → words ≡ script job link
unfolding script
all_words job link clock words rows same most least is =
    let all : clock ≡ length job.rows = omega (arith, ap (λ (list : List (List Bool)). length list) same, most, least) in
    is ∙ ap (script_before job link) all

-- what the program of a link's first node sends over the link
pub script_slots : (job : Job) (number from : ℕ) (listed : List Link) (none : Link) (programs : SeenPrograms) (list : List Action) (found : List Slot) → listed ≡ job.checked.board.links → number < length job.checked.board.links → from ≡ (get_or listed number none).from
    → ArePrograms (planned_of job) programs → list ≡ slice_index_or programs.lists from [] → found ≡ slots number list
    → ((planned : PlannedBoard) (one : ℕ) (link : Link) → IsSound planned → slice_get planned.board.links one ≡ Some link → filter (is_sent one) (entries_at link.from (timetable planned)) ≡ passes planned one)
    → found ≡ map entry_slot (passes (planned_of job) number)
script_slots job number from listed none programs list found same below from_is are list_is found_is law =
    let link : Link = get_or job.checked.board.links number none in
    let there : slice_get job.checked.board.links number ≡ Some link = slice_get-get_or job.checked.board.links number none below in
    let node : from ≡ link.from = from_is ∙ ap (λ (all : List Link). (get_or all number none).from) same in
    let low = (job.checked.board.linked.separate.ends number none below).0 in
    let actions_are : list ≡ actions (planned_of job) link.from = list_is ∙ ap (λ (one : ℕ). slice_index_or programs.lists one []) node ∙ are.each link.from (omega (arith, low)) in
    found_is ∙ ap (slots number) actions_are ∙ slots_are (planned_of job) number link (law (planned_of job) number link job.checked.sound there)
