-- Marks of nets that may reach an output, and faults of marked nets among others.
use Rattle.std.proofs.Common.{◌≡◌, ◌<◌, ◌≤◌, ◌+◌, ◌++◌, ◌||◌, ◌∙◌, append_assoc, not, ℕ, zero, suc, Bool, true, false, List, [], ◌∷◌, length, drop, slice_get, filter, Option, Some, All, ap, sym, refl, subst, ⊎_elim, true≢false, arith}
use Rattle.std.proofs.lemmas.Bool.{cases_eq, cases_lt}
use Rattle.std.proofs.lemmas.List.Elements.{All-nil}
use Rattle.std.proofs.lemmas.Option.{none-some, same_Some, slice_get_past}
use Rattle.vw_net.specs.declared.cell.Cell.{Cell}
use Rattle.vw_net.specs.declared.flat.Flat.{Flat}
use Rattle.vw_net.specs.Cells.{read_nets}
use Rattle.vw_net.specs.Order.{read_nets_at}
use Rattle.vw_fault.specs.declared.open.Open.{Open}
use Rattle.vw_fault.specs.Reached.{IsClosedByReading}
use Rattle.vw_fault.specs.Steps.Reaching.{is_marked}
use Rattle.vw_fault.proofs.RowLanes.{drop_at}

module _ (marks : List Bool) where
  abbrev AreMarked : List ℕ → Type 0
  AreMarked nets = All (λ net. is_marked marks net ≡ true) nets

  -- one cell more
  pub cell_further : (first : ℕ) (cells : List Cell) (place : ℕ) (cell : Cell) → slice_get cells place ≡ Some cell
      → (is_marked marks (first + place) ≡ true → AreMarked (read_nets cell))
      → ((number : ℕ) → number < place → is_marked marks (first + number) ≡ true → AreMarked (read_nets_at (slice_get cells number)))
      → (number : ℕ) → number < place + 1 → is_marked marks (first + number) ≡ true → AreMarked (read_nets_at (slice_get cells number))
  cell_further first cells place cell here its before number within marked = ⊎_elim if_here if_before (cases_eq number place) where
    if_here : number ≡ place → AreMarked (read_nets_at (slice_get cells number))
    if_here same = rw (same, here) (its (rw same at marked))

    if_before : (number ≡ place → ⊥) → AreMarked (read_nets_at (slice_get cells number))
    if_before apart = before number (omega (arith, within, apart)) marked

  -- all of them
  pub closed_by : (flat : Flat) (place : ℕ) → length flat.cells ≤ place → AreMarked flat.outputs
      → ((number : ℕ) → number < place → is_marked marks (flat.inputs + number) ≡ true → AreMarked (read_nets_at (slice_get flat.cells number)))
      → IsClosedByReading flat (is_marked marks)
  closed_by flat place past outputs before = record { outputs = outputs; reads = reads } where
    reads : (number : ℕ) → is_marked marks (flat.inputs + number) ≡ true → AreMarked (read_nets_at (slice_get flat.cells number))
    reads number marked =
        let if_cell = λ (within : number < length flat.cells). before number (omega (arith, within, past)) marked in
        let none = All-nil (λ (net : ℕ). is_marked marks net ≡ true) in
        let if_none = λ (behind : length flat.cells ≤ number). subst (λ (cell : Option Cell). AreMarked (read_nets_at cell)) (sym (slice_get_past flat.cells number behind)) none in
        ⊎_elim if_cell if_none (cases_lt number (length flat.cells))

-- ---- faults of marked nets among others

passes_here : (test : Open → Bool) (fault one : Open) (more faults : List Open) → (fault ∷ more ≡ filter test faults → test fault ≡ true)
    → (passes : Bool) → test one ≡ passes → fault ∷ more ≡ filter test (one ∷ faults) → test fault ≡ true
passes_here test fault one more faults later true passes is =
    let same : fault ∷ more ≡ one ∷ filter test faults = rw passes at is in
    ap test (same_Some fault one (ap (λ (list : List Open). slice_get list 0) same)) ∙ passes
passes_here test fault one more faults later false passes is = later (rw passes at is)

-- what comes first of those that pass a test passes it
head_passes : (test : Open → Bool) (fault : Open) (more faults : List Open) → fault ∷ more ≡ filter test faults → test fault ≡ true
head_passes test fault more [] is = absurd (none-some fault (sym (ap (λ (list : List Open). slice_get list 0) is)))
head_passes test fault more (one ∷ faults) is = passes_here test fault one more faults (head_passes test fault more faults) (test one) refl is

first_at : {X : Type 0} (xs : List X) (place : ℕ) (x : X) (more : List X) → drop place xs ≡ x ∷ more → slice_get xs place ≡ Some x
first_at xs zero x more is = ap (λ (list : List _). slice_get list 0) is
first_at [] (suc place) x more is = ap (λ (list : List _). slice_get list 0) is
first_at (y ∷ xs) (suc place) x more is = first_at xs place x more is

module _ (keep test : Open → Bool) (fault : Open) (rest left all whole : List Open) (next : ℕ)
    (are : drop next left ≡ filter test (filter keep (fault ∷ rest))) (so_far : all ++ filter (λ one. not (keep one) || test one) (fault ∷ rest) ≡ whole) where
  abbrev listed : Open → Bool
  listed one = not (keep one) || test one

  with_fault : listed fault ≡ true → (all ++ fault ∷ []) ++ filter listed rest ≡ whole
  with_fault passes = append_assoc all (fault ∷ []) (filter listed rest) ∙ (rw passes at so_far)

  -- a fault of a net that isn't marked
  pub past_unmarked : keep fault ≡ false → (drop next left ≡ filter test (filter keep rest)) × ((all ++ fault ∷ []) ++ filter listed rest ≡ whole)
  past_unmarked unmarked = ((rw unmarked at are), with_fault (rw unmarked refl))

  -- a fault that is left
  pub past_left : keep fault ≡ true → slice_get left next ≡ Some fault
      → (drop (next + 1) left ≡ filter test (filter keep rest)) × ((all ++ fault ∷ []) ++ filter listed rest ≡ whole)
  past_left marked here = by (test fault) refl where
    cut : fault ∷ drop (next + 1) left ≡ filter test (fault ∷ filter keep rest)
    cut = sym (drop_at left next fault here) ∙ (rw marked at are)

    by : (passes : Bool) → test fault ≡ passes → (drop (next + 1) left ≡ filter test (filter keep rest)) × ((all ++ fault ∷ []) ++ filter listed rest ≡ whole)
    by true passes = (ap (drop 1) (rw passes at cut), with_fault (rw (marked, passes) refl))
    by false passes = absurd (true≢false (sym (head_passes test fault (drop (next + 1) left) (filter keep rest) (rw passes at cut)) ∙ passes))

  -- a fault that was revealed
  pub past_revealed : keep fault ≡ true → (slice_get left next ≡ Some fault → ⊥)
      → (drop next left ≡ filter test (filter keep rest)) × (all ++ filter listed rest ≡ whole)
  past_revealed marked other = by (test fault) refl where
    now : drop next left ≡ filter test (fault ∷ filter keep rest)
    now = rw marked at are

    by : (passes : Bool) → test fault ≡ passes → (drop next left ≡ filter test (filter keep rest)) × (all ++ filter listed rest ≡ whole)
    by true passes = absurd (other (first_at left next fault _ (rw passes at now)))
    by false passes = ((rw passes at now), (rw (marked, passes) at so_far))
