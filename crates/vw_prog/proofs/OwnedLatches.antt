-- Latches given to their nodes.
use Rattle.std.proofs.Common.{◌≡◌, ◌<◌, ◌≤◌, ◌+◌, ◌-◌, ◌&&◌, ◌∷◌, ◌++◌, ℕ, zero, suc, Bool, true, false, List, [], length, map, take, get_or, set, cond, eqb, nat_lt, slice_get, slice_index, Option, Some, None, if◌then◌else◌, ap, refl, sym, ◌∙◌, ⊎_elim, eq-eqb, le-ltb, arith}
use Rattle.std.specs.Global.{Vec}
use Rattle.std.specs.List.{filter, range_with_len}
use Rattle.std.proofs.lemmas.Bool.{cases_eq, ne_eqb}
use Rattle.std.proofs.lemmas.List.{append-nil, get_or-map, get_or-set_other, get_or-set_same, length-map, length-take, map-append, map-set}
use Rattle.std.proofs.lemmas.List.Elements.{filter-append}
use Rattle.vw_net.specs.Steps.Bits.{one_if}
use Rattle.vw_net.specs.declared.cell.Cell.{Cell}
use Rattle.vw_net.specs.declared.cell.Cell.TheVariants.{Gate, Latch}
use Rattle.vw_net.specs.declared.cell.Init.{Init}
use Rattle.vw_net.specs.declared.flat.Flat.{Flat}
use Rattle.vw_net.specs.Cells.{latch_count}
use Rattle.vw_net.specs.Order.{is_latch}
use Rattle.vw_net.proofs.Counts.{latch_count-le}
use Rattle.vw_plan.specs.Nets.{driving_cell}
use Rattle.vw_plan.specs.PlannedBoard.{PlannedBoard, home}
use Rattle.vw_prog.specs.declared.owners.OwnLatch.{OwnLatch}
use Rattle.vw_prog.specs.Codes.{taken_net}
use Rattle.vw_prog.specs.Coding.{own_latch, owned_of}

-- one list with a latch more
pub given_is : (lists : List (Vec OwnLatch)) (node : ℕ) (list new : Vec OwnLatch) (latch : OwnLatch) → node < length lists
    → list ≡ get_or lists node list → new.items ≡ list.items ++ latch ∷ []
    → (other : ℕ)
    → get_or (owned_of (set lists node new)) other [] ≡ (if eqb node other then get_or (owned_of lists) other [] ++ latch ∷ [] else get_or (owned_of lists) other [])
given_is lists node list new latch within is more other =
    let changed : owned_of (set lists node new) ≡ set (owned_of lists) node new.items = map-set (λ (one : Vec OwnLatch). one.items) lists node new in
    let inside : node < length (owned_of lists) = omega (arith, within, length-map lists (λ (one : Vec OwnLatch). one.items)) in
    let own : get_or (owned_of lists) node [] ≡ list.items = get_or-map (λ (one : Vec OwnLatch). one.items) lists node list [] within ∙ ap (λ (one : Vec OwnLatch). one.items) (sym is) in
    let if_same = λ (same : node ≡ other).
    ap (λ (all : List (List OwnLatch)). get_or all other []) changed ∙ ap (λ (at : ℕ). get_or (set (owned_of lists) node new.items) at []) (sym same) ∙ get_or-set_same (owned_of lists) node new.items [] inside ∙ more
    ∙ sym (ap (λ (test : Bool). if test then get_or (owned_of lists) other [] ++ latch ∷ [] else get_or (owned_of lists) other []) (eq-eqb node other same) ∙ ap (λ (at : ℕ). get_or (owned_of lists) at [] ++ latch ∷ []) (sym same) ∙ ap (λ (items : List OwnLatch). items ++ latch ∷ []) own) in
    let if_other = λ (apart : node ≡ other → ⊥).
    ap (λ (all : List (List OwnLatch)). get_or all other []) changed ∙ get_or-set_other (owned_of lists) node other new.items [] (λ same. apart (sym same))
    ∙ sym (ap (λ (test : Bool). if test then get_or (owned_of lists) other [] ++ latch ∷ [] else get_or (owned_of lists) other []) (ne_eqb node other apart)) in
    ⊎_elim if_same if_other (cases_eq node other)

range_more : (first count last : ℕ) → first + count ≡ last → range_with_len first (suc count) ≡ range_with_len first count ++ last ∷ []
range_more first zero last is = let same : first ≡ last = omega (arith, is) in ap (λ (one : ℕ). one ∷ []) same
range_more first (suc count) last is = ap (λ (rest : List ℕ). first ∷ rest) (range_more (first + 1) count last (omega (arith, is)))

count_next : (cells : List Cell) (number : ℕ)
    → latch_count (take (suc number) cells) ≡ latch_count (take number cells) + one_if (is_latch (slice_get cells number))
count_next [] zero = omega arith
count_next [] (suc number) = omega arith
count_next (Gate ins cover ∷ cells) zero = omega arith
count_next (Latch d init ∷ cells) zero = omega arith
count_next (Gate ins cover ∷ cells) (suc number) = count_next cells number
count_next (Latch d init ∷ cells) (suc number) = omega (arith, count_next cells number)

pub few_latches : (flat : Flat) (many : ℕ) → latch_count (take many flat.cells) ≤ 65536
few_latches flat many = omega (arith, latch_count-le (take many flat.cells), length-take many flat.cells, flat.few_cells)

module _ (planned : PlannedBoard) where
  abbrev flat : Flat
  flat = planned.ordered.flat

  abbrev pub is_own : ℕ → ℕ → Bool
  is_own node net = is_latch (driving_cell flat net) && eqb (home planned net) node

  -- the latches of a node among so many cells
  abbrev pub has_first : ℕ → ℕ → List OwnLatch
  has_first count node = map (own_latch flat) (filter (is_own node) (range_with_len flat.inputs count))

  module _ (count : ℕ) (cell : Cell) (at : slice_get flat.cells count ≡ Some cell) where
    abbrev net : ℕ
    net = flat.inputs + count

    back : net - flat.inputs ≡ count
    back = omega arith

    no_input : nat_lt net flat.inputs ≡ false
    no_input = le-ltb net flat.inputs (omega arith)

    drives : driving_cell flat net ≡ Some cell
    drives = ap (λ (input : Bool). if input then None else slice_get flat.cells (net - flat.inputs)) no_input ∙ ap (slice_get flat.cells) back ∙ at

    its_home : home planned net ≡ get_or planned.plan.chip_of count 0
    its_home = ap (λ (input : Bool). if input then 0 else slice_index planned.plan.chip_of (net - flat.inputs)) no_input ∙ ap (slice_index planned.plan.chip_of) back

    one_more : (node : ℕ) → has_first (count + 1) node ≡ has_first count node ++ map (own_latch flat) (cond (is_own node net) (net ∷ []) [])
    one_more node =
        let later : count + 1 ≡ suc count = omega arith in
        ap (λ (many : ℕ). has_first many node) later
        ∙ ap (λ (nets : List ℕ). map (own_latch flat) (filter (is_own node) nets)) (range_more flat.inputs count net refl)
        ∙ ap (map (own_latch flat)) (filter-append (is_own node) (range_with_len flat.inputs count) (net ∷ []))
        ∙ map-append (own_latch flat) (filter (is_own node) (range_with_len flat.inputs count)) (cond (is_own node net) (net ∷ []) [])

    pub counted : latch_count (take (count + 1) flat.cells) ≡ latch_count (take count flat.cells) + one_if (is_latch (Some cell))
    counted =
        let later : count + 1 ≡ suc count = omega arith in
        ap (λ (many : ℕ). latch_count (take many flat.cells)) later ∙ count_next flat.cells count ∙ ap (λ (one : Option Cell). latch_count (take count flat.cells) + one_if (is_latch one)) at

    pub gate_keeps : is_latch (Some cell) ≡ false → (node : ℕ) → has_first (count + 1) node ≡ has_first count node
    gate_keeps none node =
        let fails : is_own node net ≡ false = ap (λ (one : Option Cell). is_latch one && eqb (home planned net) node) drives ∙ ap (λ (latch : Bool). latch && eqb (home planned net) node) none in
        one_more node ∙ ap (λ (keep : Bool). has_first count node ++ map (own_latch flat) (cond keep (net ∷ []) [])) fails ∙ append-nil (has_first count node)

    pub latch_given : (d : ℕ) (init : Init) (chip : ℕ) (latch : OwnLatch) → cell ≡ Latch d init → chip ≡ get_or planned.plan.chip_of count 0
        → latch.net ≡ net → latch.taken ≡ d → latch.number ≡ latch_count (take count flat.cells)
        → (node : ℕ) → has_first (count + 1) node ≡ (if eqb chip node then has_first count node ++ latch ∷ [] else has_first count node)
    latch_given d init chip latch is its_chip its_net its_d its_number node =
        let own : is_own node net ≡ eqb chip node =
        ap (λ (one : Option Cell). is_latch one && eqb (home planned net) node) (drives ∙ ap Some is) ∙ ap (λ (one : ℕ). eqb one node) (its_home ∙ sym its_chip) in
        let same : own_latch flat net ≡ latch = λ i. record {
          net = sym its_net i;
          taken = (ap taken_net (drives ∙ ap Some is) ∙ sym its_d) i;
          number = (ap (λ (many : ℕ). latch_count (take many flat.cells)) back ∙ sym its_number) i;
        } in
        one_more node ∙ ap (λ (keep : Bool). has_first count node ++ map (own_latch flat) (cond keep (net ∷ []) [])) own ∙ by (eqb chip node) same where
          by : (keep : Bool) → own_latch flat net ≡ latch
              → has_first count node ++ map (own_latch flat) (cond keep (net ∷ []) []) ≡ (if keep then has_first count node ++ latch ∷ [] else has_first count node)
          by true same = ap (λ (one : OwnLatch). has_first count node ++ one ∷ []) same
          by false same = append-nil (has_first count node)
