-- The values of the tables of an emitted board.
use Rattle.std.proofs.Common.{◌≡◌, ◌&&◌, ◌||◌, ◌∙◌, ℕ, zero, suc, Bool, true, false, not, cond, List, [], ◌∷◌, length, replicate, ap, refl, arith}
use Rattle.std.specs.List.{list_any}
use Rattle.vw_net.specs.Cover.{cover_value}
use Rattle.vw_net.specs.Mark.{row_matches}
use Rattle.vw_net.specs.declared.cover.Cover.{Cover}
use Rattle.vw_net.specs.declared.cover.Mark.{Mark}
use Rattle.vw_net.specs.declared.cover.Mark.TheVariants.{Any}
use Rattle.vw_net.specs.declared.cover.Row.{Row}
use Rattle.vw_emit_hardware.specs.Locals.{Local, LocalItem, table}
use Rattle.vw_emit_hardware.specs.Tables.{both, both_or, choice, cover_table, cover_marks, off_table, pass, table_value}

-- ---- tables with few inputs

pub pass_value : (bit : Bool) → table_value true pass (bit ∷ []) ≡ bit
pass_value true = refl
pass_value false = refl

pub both_value : (one other : Bool) → table_value true both (one ∷ other ∷ []) ≡ (one && other)
both_value true true = refl
both_value true false = refl
both_value false true = refl
both_value false false = refl

pub choice_value : (test bit own : Bool) → table_value true choice (test ∷ bit ∷ own ∷ []) ≡ cond test bit own
choice_value true true own = refl
choice_value true false own = refl
choice_value false bit true = refl
choice_value false bit false = refl

pub both_or_value : (one other before : Bool) → table_value true both_or (one ∷ other ∷ before ∷ []) ≡ (before || (one && other))
both_or_value true true true = refl
both_or_value true true false = refl
both_or_value true false true = refl
both_or_value true false false = refl
both_or_value false other true = refl
both_or_value false other false = refl

-- ---- the table of a gate

-- a row without a wish matches as many bits
any_row : (inputs : ℕ) (bits : List Bool) → length bits ≡ inputs → row_matches (replicate inputs Any) bits ≡ true
any_row zero bits long = refl
any_row (suc inputs) [] long = absurd (omega (arith, long))
any_row (suc inputs) (bit ∷ bits) long = any_row inputs bits (omega (arith, long))

-- rows match as their marks do
same_rows : (bits : List Bool) (rows : List Row)
    → list_any (λ marks. row_matches marks bits) (cover_marks rows) ≡ list_any (λ row. row_matches row.marks bits) rows
same_rows bits [] = refl
same_rows bits (row ∷ rows) = ap (λ (found : Bool). row_matches row.marks bits || found) (same_rows bits rows)

-- where each table of a node has its value, the table of a gate has the cover's
pub cover_says : (Has : LocalItem → Type 0) (ins : List Local) (out : Local) (cover : Cover) (bits : List Bool) (bit : Bool)
    → ((on : Bool) (marks : List (List Mark)) → Has (table ins out on marks) → bit ≡ table_value on marks bits)
    → length bits ≡ cover.inputs → Has (cover_table ins out cover) → bit ≡ cover_value cover bits
cover_says Has ins out cover bits bit says long has = by cover.on cover.inputs cover.rows long has where
  by : (on : Bool) (inputs : ℕ) (rows : List Row) → length bits ≡ inputs → Has (cond on (table ins out true (cover_marks rows)) (off_table ins out inputs rows))
      → bit ≡ cond (list_any (λ row. row_matches row.marks bits) rows) on (not on)
  by true inputs rows long has = says true (cover_marks rows) has ∙ ap (λ (found : Bool). cond found true false) (same_rows bits rows)
  by false inputs [] long has = says true (replicate inputs Any ∷ []) has ∙ ap (λ (found : Bool). cond (found || false) true false) (any_row inputs bits long)
  by false inputs (row ∷ rows) long has = says false (cover_marks (row ∷ rows)) has ∙ ap (λ (found : Bool). cond found false true) (same_rows bits (row ∷ rows))
