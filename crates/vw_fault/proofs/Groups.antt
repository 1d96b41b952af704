-- Lanes in which outputs differ, clock by clock, and the faults whose lanes are never seen.
use Rattle.std.proofs.Common.{◌≡◌, ◌<◌, ◌≤◌, ◌+◌, ◌++◌, ◌||◌, ◌∙◌, append_assoc, not, ℕ, zero, suc, Bool, true, false, List, [], ◌∷◌, length, map, take, drop, get_or, slice_get, filter, Some, if◌then◌else◌, ap, ap₂, sym, refl, arith}
use Rattle.std.proofs.Math.Bool.{or_assoc}
use Rattle.std.proofs.Math.Path.{fun_ext}
use Rattle.std.proofs.lemmas.List.{drop_all, drop_more, get_or-take, length-take-le, take-append-drop, take-append-le}
use Rattle.std.proofs.lemmas.List.Elements.{All-weaker, filter-append}
use Rattle.std.proofs.lemmas.Option.{get_or_from_slice_get}
use Rattle.vw_net.specs.declared.flat.Flat.{Flat}
use Rattle.vw_net.specs.FoundValue.{found_value}
use Rattle.vw_net.specs.History.{next_state, outputs_at, outputs_of}
use Rattle.vw_net.specs.TruthTable.{bit_of}
use Rattle.vw_net.proofs.Counts.{length-outputs_at, length-outputs_of}
use Rattle.vw_net.proofs.DrivenValues.{map_agree}
use Rattle.vw_fault.specs.declared.grading.Grading.{Grading}
use Rattle.vw_fault.specs.declared.open.Open.{Open}
use Rattle.vw_fault.specs.declared.stuck.Stuck.{Stuck}
use Rattle.vw_fault.specs.Found.{found_next_state, found_outputs, found_outputs_at}
use Rattle.vw_fault.specs.Steps.Groups.{is_seen, left_open, plain_of, rows_of}
use Rattle.vw_fault.specs.Steps.Lanes.{find_in, lane_bits}
use Rattle.vw_fault.specs.Stuck.{bits_differ, clocks_differ, differ, find_stuck, is_detected}

-- one output more
pub output_further : (value : ℕ → Bool) (nets : List ℕ) (plain : List Bool) (place : ℕ) (seen new here whole : Bool) → place < length nets
    → place < length plain → here ≡ differ (value (get_or nets place 0)) (get_or plain place false) → new ≡ (seen || here)
    → (seen || bits_differ (map value (drop place nets)) (drop place plain)) ≡ whole
    → (new || bits_differ (map value (drop (place + 1) nets)) (drop (place + 1) plain)) ≡ whole
output_further value nets plain place seen new here whole within inside is both so_far =
    let rest = bits_differ (map value (drop (place + 1) nets)) (drop (place + 1) plain) in
    ap (λ (b : Bool). b || rest) (both ∙ ap (λ (b : Bool). seen || b) is)
    ∙ or_assoc seen (differ (value (get_or nets place 0)) (get_or plain place false)) rest
    ∙ ap₂ (λ (ns : List ℕ) (bs : List Bool). seen || bits_differ (map value ns) bs) (sym (drop_more nets place 0 within)) (sym (drop_more plain place false inside))
    ∙ so_far

-- all of them
pub outputs_end : (value : ℕ → Bool) (nets : List ℕ) (plain : List Bool) (place : ℕ) (seen whole : Bool) → length nets ≤ place
    → length plain ≤ place → (seen || bits_differ (map value (drop place nets)) (drop place plain)) ≡ whole → seen ≡ whole
outputs_end value nets plain place seen whole past behind so_far =
    none seen ∙ sym (ap₂ (λ (ns : List ℕ) (bs : List Bool). seen || bits_differ (map value ns) bs) (drop_all place nets past) (drop_all place plain behind)) ∙ so_far where
      none : (value : Bool) → value ≡ (value || false)
      none true = refl
      none false = refl

-- one clock more
pub clock_further : (find : ℕ → Bool → Bool) (flat : Flat) (state after row clock : List Bool) (rows plain : List (List Bool)) (place : ℕ) (seen new whole : Bool)
    → place < length rows → place < length plain → row ≡ get_or rows place row → clock ≡ get_or plain place clock
    → after ≡ found_next_state find flat row state → new ≡ (seen || bits_differ (found_outputs_at find flat row state) clock)
    → (seen || clocks_differ (found_outputs find flat state (drop place rows)) (drop place plain)) ≡ whole
    → (new || clocks_differ (found_outputs find flat after (drop (place + 1) rows)) (drop (place + 1) plain)) ≡ whole
clock_further find flat state after row clock rows plain place seen new whole within inside row_is clock_is step both so_far =
    let later = λ (s : List Bool). clocks_differ (found_outputs find flat s (drop (place + 1) rows)) (drop (place + 1) plain) in
    let row_cut = drop_more rows place row within ∙ ap (λ (r : List Bool). r ∷ drop (place + 1) rows) (sym row_is) in
    let plain_cut = drop_more plain place clock inside ∙ ap (λ (r : List Bool). r ∷ drop (place + 1) plain) (sym clock_is) in
    ap₂ (λ (b : Bool) (s : List Bool). b || later s) both step
    ∙ or_assoc seen (bits_differ (found_outputs_at find flat row state) clock) (later (found_next_state find flat row state))
    ∙ ap₂ (λ (rs ps : List (List Bool)). seen || clocks_differ (found_outputs find flat state rs) ps) (sym row_cut) (sym plain_cut)
    ∙ so_far

-- all of them
pub clocks_end : (find : ℕ → Bool → Bool) (flat : Flat) (state : List Bool) (rows plain : List (List Bool)) (place : ℕ) (seen whole : Bool)
    → length rows ≤ place → length plain ≤ place
    → (seen || clocks_differ (found_outputs find flat state (drop place rows)) (drop place plain)) ≡ whole → seen ≡ whole
clocks_end find flat state rows plain place seen whole past behind so_far =
    none seen ∙ sym (ap₂ (λ (rs ps : List (List Bool)). seen || clocks_differ (found_outputs find flat state rs) ps) (drop_all place rows past) (drop_all place plain behind)) ∙ so_far where
      none : (value : Bool) → value ≡ (value || false)
      none true = refl
      none false = refl

-- where each net has what is found of it, so have the outputs
pub outputs-from_found : (find : ℕ → Bool → Bool) (flat : Flat) (row state : List Bool) (value : ℕ → Bool)
    → ((net : ℕ) → net < flat.inputs + length flat.cells → value net ≡ found_value find flat row state net)
    → map value flat.outputs ≡ found_outputs_at find flat row state
outputs-from_found find flat row state value have =
    let nets = flat.inputs + length flat.cells in
    let found = found_value find flat row state in
    map_agree value found flat.outputs (All-weaker (λ net. net < nets) (λ net. value net ≡ found net) have flat.outputs flat.outputs_fit)

-- each clock has as many outputs as the netlist
pub even_clocks : (flat : Flat) (state : List Bool) (rows : List (List Bool)) (place : ℕ) (default : List Bool) → place < length rows
    → length (get_or (outputs_of flat state rows) place default) ≡ length flat.outputs
even_clocks flat state [] place default within = absurd (omega (arith, within))
even_clocks flat state (row ∷ rows) zero default within = length-outputs_at flat row state
even_clocks flat state (row ∷ rows) (suc place) default within = even_clocks flat (next_state flat row state) rows place default (omega (arith, within))

-- faults whose lanes aren't seen are those of which a test doesn't hold
pub left_filtered : (seen lane : ℕ) (test : Open → Bool) (faults : List Open)
    → ((place : ℕ) (fault : Open) → slice_get faults place ≡ Some fault → bit_of seen (lane + place) ≡ test fault)
    → left_open seen lane faults ≡ filter (λ fault. not (test fault)) faults
left_filtered seen lane test [] is = refl
left_filtered seen lane test (fault ∷ faults) is =
    let none : lane + 0 ≡ lane = omega arith in
    let here : bit_of seen lane ≡ test fault = ap (bit_of seen) (sym none) ∙ is 0 fault refl in
    let more = left_filtered seen (lane + 1) test faults (λ place one its. let further : lane + 1 + place ≡ lane + suc place = omega arith in ap (bit_of seen) further ∙ is (suc place) one its) in
    ap₂ (λ (b : Bool) (rest : List Open). if b then rest else fault ∷ rest) here more ∙ by (test fault) where
      by : (value : Bool)
          → (if value then filter (λ one. not (test one)) faults else fault ∷ filter (λ one. not (test one)) faults) ≡ (if not value then fault ∷ filter (λ one. not (test one)) faults else filter (λ one. not (test one)) faults)
      by true = refl
      by false = refl

-- what is seen stays so
pub all_seen : (seen later whole : Bool) → seen ≡ true → (seen || later) ≡ whole → seen ≡ whole
all_seen seen later whole is so_far = is ∙ (rw is at so_far)

-- there are as many clocks of plain outputs as rows
pub plain_length : (grading : Grading) → length grading.plain.now ≡ length grading.rows.now
plain_length grading = ap length grading.plain_is ∙ length-outputs_of grading.ordered.now.flat grading.start.now grading.rows.now

-- as many of both are run as are counted
pub rows_size : (grading : Grading) → length (rows_of grading) ≡ grading.count
rows_size grading = length-take-le grading.count grading.rows.now grading.counted

pub plain_size : (grading : Grading) → length (plain_of grading) ≡ grading.count
plain_size grading = length-take-le grading.count grading.plain.now (omega (arith, grading.counted, plain_length grading))

-- the outputs of the first rows
pub outputs_of-take : (flat : Flat) (state : List Bool) (count : ℕ) (rows : List (List Bool))
    → take count (outputs_of flat state rows) ≡ outputs_of flat state (take count rows)
outputs_of-take flat state zero rows = refl
outputs_of-take flat state (suc count) [] = refl
outputs_of-take flat state (suc count) (row ∷ rows) = ap (λ (more : List (List Bool)). outputs_at flat row state ∷ more) (outputs_of-take flat (next_state flat row state) count rows)

-- the plain outputs are those of the rows that are run
pub plain_run : (grading : Grading) → plain_of grading ≡ outputs_of grading.ordered.now.flat grading.start.now (rows_of grading)
plain_run grading = ap (take grading.count) grading.plain_is ∙ outputs_of-take grading.ordered.now.flat grading.start.now grading.count grading.rows.now

-- fewer of the first ones
pub fewer : {X : Type 0} (few count : ℕ) (xs : List X) → few ≤ count → count ≤ length xs → take few xs ≡ take few (take count xs)
fewer few count xs less within =
    ap (take few) (sym (take-append-drop count xs)) ∙ take-append-le few (take count xs) (drop count xs) (omega (arith, less, length-take-le count xs within))

-- what stands at a place among the first ones
pub among_first : {X : Type 0} (xs : List X) (count place : ℕ) (x : X) → slice_get xs place ≡ Some x → place < count → x ≡ get_or (take count xs) place x
among_first xs count place x is low = sym (get_or-take count xs place x low ∙ get_or_from_slice_get xs place x x is)

-- the lane of a fault is seen exactly where the rows reveal it
pub seen_is : (grading : Grading) (stuck : Stuck) (state : List ℕ) (seen idle lane : ℕ) (fault : Open)
    → bit_of seen lane ≡ (bit_of idle lane || clocks_differ (found_outputs (find_in stuck lane) grading.ordered.now.flat (lane_bits lane state) (rows_of grading)) (plain_of grading))
    → bit_of idle lane ≡ false → lane_bits lane state ≡ grading.start.now
    → ((net : ℕ) (bit : Bool) → find_in stuck lane net bit ≡ find_stuck fault net bit) → bit_of seen lane ≡ is_seen grading fault
unfolding is_detected
seen_is grading stuck state seen idle lane fault is not_idle begins found =
    let flat = grading.ordered.now.flat in
    let same : find_in stuck lane ≡ find_stuck fault = fun_ext (λ net. fun_ext (found net)) in
    is
    ∙ ap (λ (b : Bool). b || clocks_differ (found_outputs (find_in stuck lane) flat (lane_bits lane state) (rows_of grading)) (plain_of grading)) not_idle
    ∙ ap₂ (λ (find : ℕ → Bool → Bool) (start : List Bool). clocks_differ (found_outputs find flat start (rows_of grading)) (plain_of grading)) same begins
    ∙ ap (clocks_differ (found_outputs (find_stuck fault) flat grading.start.now (rows_of grading))) (plain_run grading)

-- a group more
pub group_further : (test : Open → Bool) (rest front back left new whole : List Open) (count : ℕ) → front ≡ take count rest
    → back ≡ drop count rest → new ≡ left ++ filter test front → left ++ filter test rest ≡ whole → new ++ filter test back ≡ whole
group_further test rest front back left new whole count first second added so_far =
    let together : front ++ back ≡ rest = ap₂ (λ (f b : List Open). f ++ b) first second ∙ take-append-drop count rest in
    ap (λ (all : List Open). all ++ filter test back) added
    ∙ append_assoc left (filter test front) (filter test back)
    ∙ ap (λ (all : List Open). left ++ all) (sym (filter-append test front back) ∙ ap (filter test) together)
    ∙ so_far
