-- The words of a job over one link are fewer than 2 ^ 64.
use Rattle.std.proofs.Common.{◌≡◌, ◌<◌, ◌≤◌, ◌+◌, ◌*◌, ◌^◌, ◌∷◌, ℕ, zero, suc, Bool, true, false, List, [], length, if◌then◌else◌, ap, refl, sym, ◌∙◌, arith}
use Rattle.std.proofs.lemmas.List.{length-append}
use Rattle.std.proofs.lemmas.List.Sums.{count_by-le-length, length-filter, sum_by-cons}
use Rattle.vw_plan.specs.declared.link.Link.{Link}
use Rattle.vw_plan.specs.declared.wire.Hop.{Hop}
use Rattle.vw_plan.specs.declared.wire.Wire.{Wire}
use Rattle.vw_plan.specs.HopCounts.{hop_count}
use Rattle.vw_plan.specs.PlannedBoard.{PlannedBoard}
use Rattle.vw_prog.specs.declared.job.Job.{Job}
use Rattle.vw_prog.specs.Scripts.{planned_of, script, script_before}
use Rattle.vw_net.specs.Sorting.{put, sorted}
use Rattle.vw_prog.specs.Timetable.{comes_before, entries, gate_entries, hop_entries, is_sent, passes, timetable, wire_entries}
use Rattle.vw_net.proofs.Orders.{length-order}
use Rattle.vw_world.proofs.NeverStuck.{more_words}

length_put : {X : Type 0} (before : X → X → Bool) (x : X) (xs : List X) → length (put before x xs) ≡ suc (length xs)
length_put before x [] = refl
length_put before x (y ∷ ys) = by (before y x) (length_put before x ys) where
  by : (first : Bool) → length (put before x ys) ≡ suc (length ys) → length (if first then y ∷ put before x ys else x ∷ y ∷ ys) ≡ suc (suc (length ys))
  by true more = ap suc more
  by false more = refl

length_sorted : {X : Type 0} (before : X → X → Bool) (xs : List X) → length (sorted before xs) ≡ length xs
length_sorted before [] = refl
length_sorted before (x ∷ xs) = length_put before x (sorted before xs) ∙ ap suc (length_sorted before xs)

gate_count : (planned : PlannedBoard) (place : ℕ) (numbers : List ℕ) → length (gate_entries planned place numbers) ≡ length numbers
gate_count planned place [] = refl
gate_count planned place (number ∷ numbers) = ap suc (gate_count planned (suc place) numbers)

hops_twice : (links : List Link) (net : ℕ) (hops : List Hop) → length (hop_entries links net hops) ≡ 2 * length hops
hops_twice links net [] = refl
hops_twice links net (hop ∷ hops) = omega (arith, hops_twice links net hops)

wires_twice : (links : List Link) (wires : List Wire) → length (wire_entries links wires) ≡ 2 * hop_count wires
wires_twice links [] = refl
wires_twice links (wire ∷ wires) =
    let opened : hop_count (wire ∷ wires) ≡ length wire.hops + hop_count wires = sum_by-cons (λ (one : Wire). length one.hops) wire wires in
    let both = length-append (hop_entries links wire.net wire.hops) (wire_entries links wires) in
    omega (arith, opened, both, hops_twice links wire.net wire.hops, wires_twice links wires)

module _ (job : Job) (link : ℕ) where
  abbrev planned : PlannedBoard
  planned = planned_of job

  few_passes : length (passes planned link) < 2 ^ 32
  unfolding timetable
  few_passes =
      let ordered = planned.ordered in
      let few_gates : length ordered.order ≤ length ordered.flat.cells = length-order ordered.flat.inputs ordered.flat.cells ordered.order ordered.is_order in
      omega (
        arith,
        length-filter (is_sent link) (timetable planned),
        count_by-le-length (is_sent link) (timetable planned),
        length_sorted comes_before (entries planned),
        length-append (gate_entries planned 0 planned.ordered.order) (wire_entries planned.board.links planned.plan.wires),
        gate_count planned 0 planned.ordered.order,
        wires_twice planned.board.links planned.plan.wires,
        planned.plan.few_hops,
        planned.ordered.flat.few_cells,
        few_gates,
      )

  words_are : (clocks : ℕ) → length (script_before job link clocks) ≡ clocks * length (passes planned link)
  words_are zero = let none : 0 * length (passes planned link) ≡ 0 = grind arith in sym none
  words_are (suc clocks) =
      let opened : suc clocks * length (passes planned link) ≡ clocks * length (passes planned link) + length (passes planned link) = grind arith in
      more_words job link clocks ∙ ap (λ (many : ℕ). many + length (passes planned link)) (words_are clocks) ∙ sym opened

  product_le : (a b c : ℕ) → b ≤ c → a * b ≤ a * c
  product_le zero b c below = omega arith
  product_le (suc a) b c below =
      let one : suc a * b ≡ b + a * b = grind arith in
      let two : suc a * c ≡ c + a * c = grind arith in
      omega (arith, one, two, below, product_le a b c below)

  product_below : (clocks words : ℕ) → clocks < 2 ^ 32 → words < 2 ^ 32 → clocks * words < 2 ^ 64
  product_below clocks words one two =
      let wide : clocks * words ≤ clocks * 2 ^ 32 = product_le clocks words (2 ^ 32) (omega (arith, two)) in
      omega (arith, wide, one)

  pub short_script : length (script job link) < 2 ^ 64
  unfolding script
  short_script =
      let below = product_below (length job.rows) (length (passes planned link)) (omega (arith, job.short)) few_passes in
      omega (arith, words_are (length job.rows), below)
