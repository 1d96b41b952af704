-- The designs that the plain way of writing is for. What it can't write: a word with a special byte, a control beside no
-- type or with the name `NIL`, a formal with a `=` in it, and an off-set without rows. What is written would be refused:
-- a name that stands twice where it may not, a table of more than 128 inputs, and a row of another width than its table.
use Rattle.std.specs.Prelude.{ℕ, ◌+◌, ◌≤◌, Bool, true, false, ◌&&◌, ◌||◌, not, List, [], ◌∷◌, map, length, Option, Some, None, codes, ◌==◌, nat_le, IsTrue}
use Rattle.std.specs.List.{list_any, list_all}
use Rattle.std.specs.Str.{bytes_eq}
use Rattle.vw_net.specs.declared.cover.Mark.{Mark}
use Rattle.vw_design.specs.declared.item.Edge.{Edge}
use Rattle.vw_design.specs.declared.item.Edge.TheVariants.{Rise, Fall, Unsaid}
use Rattle.vw_design.specs.Distinct.{are_distinct}
use Rattle.vw_text.specs.WordLines.{is_empty}
use Rattle.vw_text.specs.PlainLines.{is_plain}
use Rattle.vw_design.specs.Paths.{Word}
use Rattle.vw_blif.specs.Spelled.{Binding, SpelledItem, table, latch, place, SpelledModel}
use Rattle.vw_text.specs.declared.limits.TheConstants.{MOST_DESIGN_BYTES}
use Rattle.vw_blif.specs.Printed.{Printing, plainly, item_lines, head_lines, model_lines, printed_by}

-- a table: plain nets, at most 128 inputs, a mark for each of them in each row, and a row at least in an off-set
abbrev pub is_plain_table : List Word → Word → Bool → List (List Mark) → Bool
is_plain_table ins out on rows =
    list_all is_plain ins && (is_plain out && (nat_le (length ins) 128
    && (list_all (λ row. length row == length ins) rows && (on || not (is_empty rows)))))

-- a control that is a plain word and isn't `NIL`, or none
abbrev pub is_plain_control : Option Word → Bool
is_plain_control None = true
is_plain_control (Some control) = is_plain control && not (bytes_eq control (codes "NIL"))

-- beside a type there may be a control, and with none there is none
abbrev pub can_stand_beside : Edge → Option Word → Bool
can_stand_beside Rise control = is_plain_control control
can_stand_beside Fall control = is_plain_control control
can_stand_beside Unsaid None = true
can_stand_beside Unsaid (Some control) = false

-- plain names, and no `=` in the formal
abbrev pub is_plain_bind : Binding → Bool
is_plain_bind bind = is_plain bind.formal && (is_plain bind.actual && not (list_any (λ b. b == 61) bind.formal))

abbrev pub is_plain_item : SpelledItem → Bool
is_plain_item (table line ins out on rows) = is_plain_table ins out on rows
is_plain_item (latch line d q edge control init) = is_plain d && (is_plain q && can_stand_beside edge control)
is_plain_item (place line model binds) =
    is_plain model && (list_all is_plain_bind binds && are_distinct (map (λ bind. bind.formal) binds))

-- plain words, none of them twice
abbrev pub are_plain_ports : List Word → Bool
are_plain_ports ports = list_all is_plain ports && are_distinct ports

abbrev pub is_plain_model : SpelledModel → Bool
is_plain_model model =
    is_plain model.name && (are_plain_ports model.inputs && (are_plain_ports model.outputs
    && (are_plain_ports model.clocks && list_all is_plain_item model.items)))

-- the number of the line of an item
abbrev pub line_of : SpelledItem → ℕ
line_of (table line ins out on rows) = line
line_of (latch line d q edge control init) = line
line_of (place line model binds) = line

-- whether items have the numbers of their lines, the first of which has this number
abbrev pub have_line_numbers : Printing → ℕ → List SpelledItem → Bool
have_line_numbers printing number [] = true
have_line_numbers printing number (item ∷ items) =
    line_of item == number && have_line_numbers printing (number + length (item_lines printing item)) items

-- whether those of all models do
abbrev pub have_numbers : Printing → ℕ → List SpelledModel → Bool
have_numbers printing number [] = true
have_numbers printing number (model ∷ models) =
    have_line_numbers printing (number + length (head_lines printing model)) model.items
    && have_numbers printing (number + length (model_lines printing model)) models

-- a design that can be printed in this way
pub record IsPlainFor (printing : Printing) (design : List SpelledModel) : Type 0 where
  pub some : IsTrue (not (is_empty design))
  pub models : IsTrue (list_all is_plain_model design)
  pub names : IsTrue (are_distinct (map (λ model. model.name) design))
  pub numbers : IsTrue (have_numbers printing 1 design)
  pub short : length (printed_by printing design) ≤ MOST_DESIGN_BYTES

-- a design that can be printed in the plain way
abbrev pub IsPlainDesign : List SpelledModel → Type 0
IsPlainDesign design = IsPlainFor plainly design
