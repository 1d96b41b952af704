-- Rows of a table, lane by lane.
use Rattle.std.proofs.Common.{◌≡◌, ◌<◌, ◌≤◌, ◌+◌, ◌&&◌, ◌||◌, ◌∙◌, ℕ, Bool, true, false, not, List, ◌∷◌, length, map, drop, slice_get, Some, if◌then◌else◌, ap, ap₂, sym, refl, ⊎_elim, arith}
use Rattle.std.specs.List.{list_any}
use Rattle.std.specs.Option.{option_and_then}
use Rattle.std.proofs.Math.Bool.{and_assoc, or_assoc}
use Rattle.std.proofs.lemmas.List.{drop_more, drop_all}
use Rattle.std.proofs.lemmas.Option.{slice_get_cases, slice_get_within, get_or_from_slice_get}
use Rattle.vw_net.specs.declared.cover.Mark.{Mark}
use Rattle.vw_net.specs.declared.cover.Row.{Row}
use Rattle.vw_net.specs.Table.{Table}
use Rattle.vw_net.specs.Cover.{cover_value, mark_at}
use Rattle.vw_net.specs.Mark.{mark_matches, row_matches}

pub drop_at : {X : Type 0} (xs : List X) (place : ℕ) (x : X) → slice_get xs place ≡ Some x → drop place xs ≡ x ∷ drop (place + 1) xs
drop_at xs place x is = drop_more xs place x (slice_get_within xs place x is) ∙ ap (λ (first : _). first ∷ drop (place + 1) xs) (get_or_from_slice_get xs place x x is)

-- one mark more of a row
pub row_further : (table : Table) (row input : ℕ) (one : Row) (mark : Mark) (bit : ℕ → Bool) (nets : List ℕ) (net : ℕ) (matched after here whole : Bool)
    → slice_get table.rows row ≡ Some one → mark_at table row input ≡ Some mark → slice_get nets input ≡ Some net
    → here ≡ mark_matches mark (bit net) → after ≡ (matched && here)
    → (matched && row_matches (drop input one.marks) (map bit (drop input nets))) ≡ whole
    → (after && row_matches (drop (input + 1) one.marks) (map bit (drop (input + 1) nets))) ≡ whole
row_further table row input one mark bit nets net matched after here whole its at here_net is both so_far =
    let mark_is : slice_get one.marks input ≡ Some mark = ap (option_and_then (λ (r : Row). slice_get r.marks input)) (sym its) ∙ at in
    let rest = row_matches (drop (input + 1) one.marks) (map bit (drop (input + 1) nets)) in
    ap (λ (b : Bool). b && rest) (both ∙ ap (λ (b : Bool). matched && b) is)
    ∙ and_assoc matched (mark_matches mark (bit net)) rest
    ∙ ap₂ (λ (marks : List Mark) (left : List ℕ). matched && row_matches marks (map bit left)) (sym (drop_at one.marks input mark mark_is)) (sym (drop_at nets input net here_net))
    ∙ so_far

-- all its marks
pub row_ends : (marks : List Mark) (bits : List Bool) (input : ℕ) (matched whole : Bool) → length marks ≤ input
    → (matched && row_matches (drop input marks) bits) ≡ whole → matched ≡ whole
row_ends marks bits input true whole past so_far = ap (λ (left : List Mark). row_matches left bits) (sym (drop_all input marks past)) ∙ so_far
row_ends marks bits input false whole past so_far = so_far

-- one row more of a table
pub rows_further : {X : Type 0} (test : X → Bool) (rows : List X) (row : ℕ) (one : X) (matched after here whole : Bool)
    → slice_get rows row ≡ Some one → here ≡ test one → after ≡ (matched || here) → (matched || list_any test (drop row rows)) ≡ whole
    → (after || list_any test (drop (row + 1) rows)) ≡ whole
rows_further test rows row one matched after here whole its is both so_far =
    let rest = list_any test (drop (row + 1) rows) in
    ap (λ (b : Bool). b || rest) (both ∙ ap (λ (b : Bool). matched || b) is)
    ∙ or_assoc matched (test one) rest
    ∙ ap (λ (left : List _). matched || list_any test left) (sym (drop_at rows row one its))
    ∙ so_far

-- all its rows
pub rows_end : {X : Type 0} (test : X → Bool) (rows : List X) (row : ℕ) (matched whole : Bool) → length rows ≤ row
    → (matched || list_any test (drop row rows)) ≡ whole → matched ≡ whole
rows_end test rows row true whole past so_far = so_far
rows_end test rows row false whole past so_far = ap (list_any test) (sym (drop_all row rows past)) ∙ so_far

-- a row of a table has a mark for each input
pub row_even : (table : Table) (row : ℕ) (one : Row) → slice_get table.rows row ≡ Some one → length one.marks ≡ table.inputs
row_even table row one its = ap (λ (r : Row). length r.marks) (sym (get_or_from_slice_get table.rows row one one its)) ∙ table.even row one (slice_get_within table.rows row one its)

-- what is found of the row at a place, whichever it is
pub rows_further_at : (table : Table) (row : ℕ) (bits : List Bool) (matched after here whole : Bool) → row < length table.rows
    → ((one : Row) → slice_get table.rows row ≡ Some one → here ≡ row_matches one.marks bits) → after ≡ (matched || here)
    → (matched || list_any (λ one. row_matches one.marks bits) (drop row table.rows)) ≡ whole
    → (after || list_any (λ one. row_matches one.marks bits) (drop (row + 1) table.rows)) ≡ whole
rows_further_at table row bits matched after here whole within is both so_far =
    ⊎_elim
    (λ found. rows_further (λ (one : Row). row_matches one.marks bits) table.rows row found.0 matched after here whole found.2 (is found.0 found.2) both so_far)
    (λ past. absurd (omega (arith, within, past.0)))
    (slice_get_cases table.rows row).1

-- the value of a table, by whether some row matches
pub value_on : (table : Table) (bits : List Bool) (any : Bool) → table.on ≡ true
    → any ≡ list_any (λ one. row_matches one.marks bits) table.rows → any ≡ cover_value table bits
value_on table bits any on is = rw on (is ∙ by (list_any (λ one. row_matches one.marks bits) table.rows)) where
  by : (value : Bool) → value ≡ (if value then true else not true)
  by true = refl
  by false = refl

pub value_off : (table : Table) (bits : List Bool) (any : Bool) → table.on ≡ false
    → any ≡ list_any (λ one. row_matches one.marks bits) table.rows → not any ≡ cover_value table bits
value_off table bits any on is = rw on (ap not is ∙ by (list_any (λ one. row_matches one.marks bits) table.rows)) where
  by : (value : Bool) → not value ≡ (if value then false else not false)
  by true = refl
  by false = refl
