use Rattle.std.proofs.Common.{◌≡◌, ◌==◌, ◌&&◌, ℕ, zero, suc, Bool, true, false, cond, List, [], ◌∷◌, map, slice_get, nat_lt, Some, None, refl, subst}
use Rattle.std.proofs.lemmas.Bool.{and_parts, ltb-true}
use Rattle.std.proofs.lemmas.Option.{none-some, same_Some}
use Rattle.vw_order.specs.Graphs.{StaysWithin}
use Rattle.vw_plan_tests.specs.GraphTables.{read_in_line, graph_of_table}
use Rattle.vw_plan_tests.proofs.search.look_at.Goals as goal

-- what is read in a line is below the count
line_within : (count number : ℕ) (line : ℕ × ℕ) (other : ℕ) → read_in_line count number line ≡ Some other → nat_lt other count ≡ true
line_within count number line other is = by (line.0 == number && nat_lt line.1 count) refl is where
  by : (b : Bool) → (line.0 == number && nat_lt line.1 count) ≡ b → cond b (Some line.1) None ≡ Some other → nat_lt other count ≡ true
  by true passes is = subst (λ (n : ℕ). nat_lt n count ≡ true) (same_Some line.1 other is) (and_parts (line.0 == number) (nat_lt line.1 count) passes).1
  by false fails is = absurd (none-some other is)

lines_within : (count number : ℕ) (lines : List (ℕ × ℕ)) (place other : ℕ) → slice_get (map (read_in_line count number) lines) place ≡ Some (Some other) → nat_lt other count ≡ true
lines_within count number [] place other at = absurd (none-some (Some other) at)
lines_within count number (line ∷ lines) zero other at = line_within count number line other (same_Some (read_in_line count number line) (Some other) at)
lines_within count number (line ∷ lines) (suc place) other at = lines_within count number lines place other at

table_within : (count starts : ℕ) (lines : List (ℕ × ℕ)) → StaysWithin (graph_of_table count starts lines)
table_within count starts lines = record {
  below = λ number counts. ltb-true number count counts;
  started = λ number starts_there. (and_parts (nat_lt number count) (nat_lt number starts) starts_there).0;
  read = λ number place other counts at. lines_within count number lines place other at;
}

pub search-requires : goal.search-requires
search-requires c = table_within _ _ _
