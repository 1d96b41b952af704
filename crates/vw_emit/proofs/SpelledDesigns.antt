-- Models that can be printed are spelled by a design.
use Rattle.std.proofs.Common.{◌≡◌, ◌<◌, ◌^◌, ◌&&◌, ◌||◌, ◌==◌, not, true, Bool, ℕ, List, [], ◌∷◌, length, map, nat_le, ap, ap₂, refl, sym, ◌∙◌, eq-eqb, arith}
use Rattle.std.specs.List.{All, list_all}
use Rattle.std.proofs.lemmas.Bool.{and_from, and_parts, eqb-true, leb-true}
use Rattle.std.proofs.lemmas.List.{length-map}
use Rattle.std.proofs.lemmas.List.Elements.{All-cons, All-nil}
use Rattle.vw_net.specs.Table.{Table}
use Rattle.vw_net.specs.declared.cover.Mark.{Mark}
use Rattle.vw_net.specs.declared.cover.Row.{Row}
use Rattle.vw_text.specs.PlainLines.{is_plain}
use Rattle.vw_text.specs.WordLines.{is_empty}
use Rattle.vw_design.specs.Distinct.{are_distinct}
use Rattle.vw_design.specs.Paths.{Word}
use Rattle.vw_design.specs.Shape.{IsWellMade, has_its_shape}
use Rattle.vw_design.specs.declared.design.Design.{Design}
use Rattle.vw_design.specs.declared.item.Bind.{Bind}
use Rattle.vw_design.specs.declared.item.Item.{Item}
use Rattle.vw_design.specs.declared.item.Item.TheVariants.{Latch, Names, Sub}
use Rattle.vw_design.specs.declared.model.Model.{Model}
use Rattle.vw_blif.specs.PlainDesigns.{IsPlainFor, are_plain_ports, is_plain_bind, is_plain_item, is_plain_model}
use Rattle.vw_blif.specs.Printed.{Printing}
use Rattle.vw_blif.specs.Spelled.{Binding, SpelledItem, SpelledModel, latch, place, spelled_bind, spelled_item, spelled_model, table}

-- ---- items

bind_of : Binding → Bind
bind_of bind = record { formal = bind.formal; actual = bind.actual }

binds_spelled : (binds : List Binding) → map spelled_bind (map bind_of binds) ≡ binds
unfolding bind_of
binds_spelled [] = refl
binds_spelled (bind ∷ binds) = ap (λ (rest : List Binding). bind ∷ rest) (binds_spelled binds)

formals_same : (binds : List Binding) → map (λ (bind : Bind). bind.formal) (map bind_of binds) ≡ map (λ (bind : Binding). bind.formal) binds
unfolding bind_of
formals_same [] = refl
formals_same (bind ∷ binds) = ap (λ (rest : List Word). bind.formal ∷ rest) (formals_same binds)

row_of : List Mark → Row
row_of marks = record { marks = marks }

rows_spelled : (rows : List (List Mark)) → map (λ (row : Row). row.marks) (map row_of rows) ≡ rows
unfolding row_of
rows_spelled [] = refl
rows_spelled (row ∷ rows) = ap (λ (rest : List (List Mark)). row ∷ rest) (rows_spelled rows)

rows_even : (width : ℕ) (rows : List (List Mark)) → list_all (λ row. length row == width) rows ≡ true
    → All (λ (row : Row). length row.marks ≡ width) (map row_of rows)
unfolding row_of
rows_even width [] even = All-nil (λ (row : Row). length row.marks ≡ width)
rows_even width (row ∷ rows) even =
    let parts = and_parts (length row == width) (list_all (λ other. length other == width) rows) even in
    All-cons (λ (one : Row). length one.marks ≡ width) (row_of row) (map row_of rows) (eqb-true (length row) width parts.0) (rows_even width rows parts.1)

-- an item that spells this one
record IsMade (item : SpelledItem) : Type 0 where
  made : Item
  spells : spelled_item made ≡ item
  shaped : has_its_shape made ≡ true

-- what is asked of the rows of a table
abbrev has_rows : List Word → Bool → List (List Mark) → Bool
has_rows ins on rows = list_all (λ row. length row == length ins) rows && (on || not (is_empty rows))

table_of : (ins : List Word) (on : Bool) (rows : List (List Mark)) → nat_le (length ins) 128 ≡ true
    → list_all (λ row. length row == length ins) rows ≡ true → Table
table_of ins on rows few even = record { inputs = length ins; on = on; rows = map row_of rows; narrow = leb-true (length ins) 128 few; even = rows_even (length ins) rows even }

item_made : (item : SpelledItem) → is_plain_item item ≡ true → IsMade item
unfolding table_of
item_made (table line ins out on rows) plain =
    let names = and_parts (list_all is_plain ins) (is_plain out && (nat_le (length ins) 128 && has_rows ins on rows)) plain in
    let name = and_parts (is_plain out) (nat_le (length ins) 128 && has_rows ins on rows) names.1 in
    let size = and_parts (nat_le (length ins) 128) (has_rows ins on rows) name.1 in
    let even = and_parts (list_all (λ row. length row == length ins) rows) (on || not (is_empty rows)) size.1 in
    record {
      made = Names line ins out (table_of ins on rows size.0 even.0);
      spells = ap (λ (marks : List (List Mark)). table line ins out on marks) (rows_spelled rows);
      shaped = eq-eqb (length ins) (length ins) refl;
    }
item_made (latch line d q edge control init) plain = record { made = Latch line d q edge control init; spells = refl; shaped = refl }
item_made (place line model binds) plain =
    let name = and_parts (is_plain model) (list_all is_plain_bind binds && are_distinct (map (λ bind. bind.formal) binds)) plain in
    let once = and_parts (list_all is_plain_bind binds) (are_distinct (map (λ bind. bind.formal) binds)) name.1 in
    record {
      made = Sub line model (map bind_of binds);
      spells = ap (place line model) (binds_spelled binds);
      shaped = ap are_distinct (formals_same binds) ∙ once.1;
    }

record AreMade (items : List SpelledItem) : Type 0 where
  made : List Item
  spell : map spelled_item made ≡ items
  shaped : list_all has_its_shape made ≡ true

items_made : (items : List SpelledItem) → list_all is_plain_item items ≡ true → AreMade items
items_made [] plain = record { made = []; spell = refl; shaped = refl }
items_made (item ∷ items) plain =
    let parts = and_parts (is_plain_item item) (list_all is_plain_item items) plain in
    let first = item_made item parts.0 in
    let rest = items_made items parts.1 in
    record {
      made = first.made ∷ rest.made;
      spell = ap₂ (λ (one : SpelledItem) (others : List SpelledItem). one ∷ others) first.spells rest.spell;
      shaped = and_from (has_its_shape first.made) (list_all has_its_shape rest.made) first.shaped rest.shaped;
    }

-- ---- models

record IsModelMade (model : SpelledModel) : Type 0 where
  made : Model
  spells : spelled_model made ≡ model
  well : IsWellMade made

abbrev with_items : SpelledModel → List SpelledItem → SpelledModel
with_items model items = record { name = model.name; inputs = model.inputs; outputs = model.outputs; clocks = model.clocks; items = items }

model_made : (model : SpelledModel) → is_plain_model model ≡ true → IsModelMade model
model_made model plain =
    let name = and_parts (is_plain model.name) (are_plain_ports model.inputs && (are_plain_ports model.outputs && (are_plain_ports model.clocks && list_all is_plain_item model.items))) plain in
    let ins = and_parts (are_plain_ports model.inputs) (are_plain_ports model.outputs && (are_plain_ports model.clocks && list_all is_plain_item model.items)) name.1 in
    let outs = and_parts (are_plain_ports model.outputs) (are_plain_ports model.clocks && list_all is_plain_item model.items) ins.1 in
    let clocks = and_parts (are_plain_ports model.clocks) (list_all is_plain_item model.items) outs.1 in
    let once : (ports : List Word) → are_plain_ports ports ≡ true → are_distinct ports ≡ true = λ ports are. (and_parts (list_all is_plain ports) (are_distinct ports) are).1 in
    let items = items_made model.items clocks.1 in
    record {
      made = record { name = model.name; inputs = model.inputs; outputs = model.outputs; clocks = model.clocks; items = items.made };
      spells = ap (with_items model) items.spell;
      well = record { inputs = once model.inputs ins.0; outputs = once model.outputs outs.0; clocks = once model.clocks clocks.0; items = items.shaped };
    }

record AreModelsMade (models : List SpelledModel) : Type 0 where
  made : List Model
  spell : map spelled_model made ≡ models
  well : All IsWellMade made

models_made : (models : List SpelledModel) → list_all is_plain_model models ≡ true → AreModelsMade models
models_made [] plain = record { made = []; spell = refl; well = All-nil IsWellMade }
models_made (model ∷ models) plain =
    let parts = and_parts (is_plain_model model) (list_all is_plain_model models) plain in
    let first = model_made model parts.0 in
    let rest = models_made models parts.1 in
    record {
      made = first.made ∷ rest.made;
      spell = ap₂ (λ (one : SpelledModel) (others : List SpelledModel). one ∷ others) first.spells rest.spell;
      well = All-cons IsWellMade first.made rest.made first.well rest.well;
    }

-- ---- designs

some_models : (models : List SpelledModel) → not (is_empty models) ≡ true → 0 < length models
some_models [] some = cc
some_models (model ∷ models) some = omega arith

names_same : (models : List Model) → map (λ (model : SpelledModel). model.name) (map spelled_model models) ≡ map (λ (model : Model). model.name) models
names_same [] = refl
names_same (model ∷ models) = ap (λ (rest : List Word). model.name ∷ rest) (names_same models)

pub spelled_by_design : (printing : Printing) (models : List SpelledModel) → IsPlainFor printing models → length models < 2 ^ 32
    → (design : Design) × (map spelled_model design.models ≡ models)
spelled_by_design printing models plain few =
    let made = models_made models plain.models in
    let long : length made.made ≡ length models = sym (length-map made.made spelled_model) ∙ ap (λ (list : List SpelledModel). length list) made.spell in (
      record {
        models = made.made;
        some = omega (arith, long, some_models models plain.some);
        few = omega (arith, long, few);
        named = ap are_distinct (sym (names_same made.made) ∙ ap (λ (list : List SpelledModel). map (λ (model : SpelledModel). model.name) list) made.spell) ∙ plain.names;
        well_made = made.well;
      },
      made.spell,
    )
