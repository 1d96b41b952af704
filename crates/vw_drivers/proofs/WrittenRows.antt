-- Rows of drivers: what they have at a number when further drivers are written.
use Rattle.std.proofs.Common.{◌≡◌, ◌≢◌, ◌<◌, ◌≤◌, ℕ, zero, suc, List, [], ◌∷◌, ◌++◌, length, Option, None, slice_set, option_and_then, inl, inr, ⊎_elim, refl, sym, ◌∙◌, ap, subst, arith}
use Rattle.std.proofs.lemmas.Bool.{cases_eq}
use Rattle.vw_design.proofs.ListElements.{Has}
use Rattle.vw_design.proofs.ListPlaces.{at_end, same_front, set_here, set_elsewhere}
use Rattle.vw_drivers.specs.declared.model_names.Way.{Way}
use Rattle.vw_drivers.specs.declared.model_names.Way.TheVariants as ways
use Rattle.vw_drivers.specs.declared.source.Source.{Source}
use Rattle.vw_drivers.specs.declared.tables.Tables.{Tables}
use Rattle.vw_drivers.specs.Drivers.{at_row, at_rows}
use Rattle.vw_drivers.specs.Steps.FoundDrivers.{DriverRows, led, with_port, with_way, with_ways}

abbrev DriverRow : Type 0
DriverRow = List (Option Source)

-- a row that is too short grows with nothing, and one that isn't is written at the number
pub with_nothing : (row : DriverRow) (number : ℕ) (source : Option Source) → length row ≤ number → with_port (row ++ None ∷ []) number source ≡ with_port row number source
with_nothing [] zero source short = refl
with_nothing [] (suc number) source short = refl
with_nothing (first ∷ row) zero source short = absurd (omega arith)
with_nothing (first ∷ row) (suc number) source short = ap (λ (rest : DriverRow). first ∷ rest) (with_nothing row number source (omega arith))

pub with_set : (row : DriverRow) (number : ℕ) (source : Option Source) → number < length row → slice_set row number source ≡ with_port row number source
with_set [] number source within = absurd (omega arith)
with_set (first ∷ row) zero source within = refl
with_set (first ∷ row) (suc number) source within = ap (λ (rest : DriverRow). first ∷ rest) (with_set row number source (omega arith))

-- what is at a number
port_here : (row : DriverRow) (number : ℕ) (source : Option Source) → at_row (with_port row number source) number ≡ source
port_here [] zero source = refl
port_here [] (suc number) source = port_here [] number source
port_here (first ∷ row) zero source = refl
port_here (first ∷ row) (suc number) source = port_here row number source

port_elsewhere : (row : DriverRow) (number other : ℕ) (source : Option Source) → number ≢ other → at_row (with_port row number source) other ≡ at_row row other
port_elsewhere [] zero zero source apart = absurd (apart refl)
port_elsewhere [] zero (suc other) source apart = refl
port_elsewhere [] (suc number) zero source apart = refl
port_elsewhere [] (suc number) (suc other) source apart = port_elsewhere [] number other source (λ same. apart (ap suc same))
port_elsewhere (first ∷ row) zero zero source apart = absurd (apart refl)
port_elsewhere (first ∷ row) zero (suc other) source apart = refl
port_elsewhere (first ∷ row) (suc number) zero source apart = refl
port_elsewhere (first ∷ row) (suc number) (suc other) source apart = port_elsewhere row number other source (λ same. apart (ap suc same))

-- where all ways to a port lead to one driver, the row has it, if there is such a way
module _ (tables : Tables) (outputs ports : DriverRows) (parent number : ℕ) (source : Option Source) where
  abbrev Lead : List Way → Type 0
  Lead list = (actual : Option ℕ) → Has (ways.Port number actual) list → led tables outputs ports parent actual ≡ source

  written : (port : ℕ) (actual : Option ℕ) (list : List Way) (row : DriverRow) → Lead (ways.Port port actual ∷ list) → port ≡ number
      → at_row (with_port row port (led tables outputs ports parent actual)) number ≡ source
  written port actual list row lead same =
      subst (λ (n : ℕ). at_row (with_port row n (led tables outputs ports parent actual)) number ≡ source) (sym same)
      (port_here row number (led tables outputs ports parent actual) ∙ lead actual (inl (ap (λ (n : ℕ). ways.Port n actual) same)))

  kept : (list : List Way) (row : DriverRow) → Lead list → at_row row number ≡ source → at_row (with_ways tables outputs ports parent list row) number ≡ source
  kept [] row lead is = is
  kept (ways.Output claim ∷ list) row lead is = kept list row (λ actual has. lead actual (inr has)) is
  kept (ways.Port port actual ∷ list) row lead is =
      kept list (with_port row port (led tables outputs ports parent actual)) (λ a has. lead a (inr has))
      (⊎_elim (λ same. written port actual list row lead same) (λ apart. port_elsewhere row port number (led tables outputs ports parent actual) apart ∙ is) (cases_eq port number))

  pub found : (list : List Way) (row : DriverRow) (actual : Option ℕ) → Lead list → Has (ways.Port number actual) list → at_row (with_ways tables outputs ports parent list row) number ≡ source
  found [] row actual lead has = absurd has
  found (way ∷ list) row actual lead has =
      ⊎_elim here (λ later. found list (with_way tables outputs ports parent way row) actual (λ a more. lead a (inr more)) later) has
    where
      here : way ≡ ways.Port number actual → at_row (with_ways tables outputs ports parent list (with_way tables outputs ports parent way row)) number ≡ source
      here same =
          kept list (with_way tables outputs ports parent way row) (λ a more. lead a (inr more))
          (ap (λ (w : Way). at_row (with_way tables outputs ports parent w row) number) same
          ∙ port_here row number (led tables outputs ports parent actual) ∙ lead actual (inl same))

-- rows with a row that was set, and with one more
module _ (rows : DriverRows) (row : DriverRow) where
  pub row_set : (instance number : ℕ) → instance < length rows → at_rows (slice_set rows instance row) instance number ≡ at_row row number
  row_set instance number within = ap (option_and_then (λ (r : DriverRow). at_row r number)) (set_here rows instance row within)

  pub row_not_set : (instance other number : ℕ) → other ≢ instance → at_rows (slice_set rows instance row) other number ≡ at_rows rows other number
  row_not_set instance other number apart = ap (option_and_then (λ (r : DriverRow). at_row r number)) (set_elsewhere rows instance other row apart)

  pub row_last : (instance number : ℕ) → length rows ≡ instance → at_rows (rows ++ row ∷ []) instance number ≡ at_row row number
  row_last instance number long = ap (option_and_then (λ (r : DriverRow). at_row r number)) (at_end rows row instance long)

  pub row_before : (other number : ℕ) → other < length rows → at_rows (rows ++ row ∷ []) other number ≡ at_rows rows other number
  row_before other number within = ap (option_and_then (λ (r : DriverRow). at_row r number)) (same_front rows (row ∷ []) other within)
