-- The models of a board, whatever the lines on which their items stand.
use Rattle.std.proofs.Common.{◌≡◌, ◌∙◌, ◌+◌, ℕ, List, [], ◌∷◌, Result, Ok, Err, length, map, ap, ap₂, refl}
use Rattle.vw_design.specs.declared.design.Design.{Design}
use Rattle.vw_design.specs.declared.item.Item.{Item}
use Rattle.vw_design.specs.declared.item.Item.TheVariants.{Latch, Names, Sub}
use Rattle.vw_design.specs.declared.model.Model.{Model}
use Rattle.vw_blif.specs.declared.fault.TextFault.{TextFault}
use Rattle.vw_blif.specs.Printed.{head_lines, item_lines, model_lines}
use Rattle.vw_blif.specs.Spelled.{SpelledModel, spelled_bind, spelled_item, spelled_model}
use Rattle.vw_plan.specs.PlannedBoard.{PlannedBoard}
use Rattle.vw_emit_names.specs.Boards.{IsBoardOf, Joined, PlainItem, PlainModel, board_models, latch, place, plain_bind, plain_item, plain_model, table}
use Rattle.vw_emit_text.specs.Numbered.{bound, emitting, item_without_line, joined_of, model_from, models_from, on_line, on_lines, spelled_board, with_items, without_lines}

-- ---- with lines, and without them again

binds_back : (binds : List Joined) → map joined_of (map bound binds) ≡ binds
binds_back [] = refl
binds_back (bind ∷ binds) = ap (λ (rest : List Joined). bind ∷ rest) (binds_back binds)

item_back : (line : ℕ) (item : PlainItem) → item_without_line (on_line line item) ≡ item
item_back line (table ins out on rows) = refl
item_back line (latch d q edge control init) = refl
item_back line (place model binds) = ap (place model) (binds_back binds)

items_back : (line : ℕ) (items : List PlainItem) → map item_without_line (on_lines line items) ≡ items
items_back line [] = refl
items_back line (item ∷ items) =
    ap₂ (λ (first : PlainItem) (rest : List PlainItem). first ∷ rest) (item_back line item)
    (items_back (line + length (item_lines emitting (on_line line item))) items)

-- a model with other items
abbrev of_items : PlainModel → List PlainItem → PlainModel
of_items model items = record { name = model.name; inputs = model.inputs; outputs = model.outputs; clocks = model.clocks; items = items }

pub models_back : (line : ℕ) (models : List PlainModel) → map without_lines (models_from line models) ≡ models
models_back line [] = refl
models_back line (model ∷ models) =
    ap₂ (λ (first : PlainModel) (rest : List PlainModel). first ∷ rest)
    (ap (of_items model) (items_back (line + length (head_lines emitting (with_items model []))) model.items))
    (models_back (line + length (model_lines emitting (model_from line model))) models)

-- ---- the models of a design

map_twice : {A B C : Type 0} (f : A → B) (g : B → C) (both : A → C) → ((x : A) → both x ≡ g (f x)) → (xs : List A) → map both xs ≡ map g (map f xs)
map_twice f g both same [] = refl
map_twice f g both same (x ∷ xs) = ap₂ (λ first rest. first ∷ rest) (same x) (map_twice f g both same xs)

own_item : (item : Item) → plain_item item ≡ item_without_line (spelled_item item)
own_item (Names line ins out cover) = refl
own_item (Latch line d q edge control init) = refl
own_item (Sub line model binds) = ap (place model) (map_twice spelled_bind joined_of plain_bind (λ bind. refl) binds)

own_model : (model : Model) → plain_model model ≡ without_lines (spelled_model model)
own_model model = ap (of_items (plain_model model)) (map_twice spelled_item item_without_line plain_item own_item model.items)

-- a design that spells the board's models has them, whatever the lines
pub spells_board : (planned : PlannedBoard) (board : Design) → map spelled_model board.models ≡ spelled_board planned → IsBoardOf planned board
spells_board planned board is =
    map_twice spelled_model without_lines plain_model own_model board.models
    ∙ ap (λ (models : List SpelledModel). map without_lines models) is ∙ models_back 1 (board_models planned)

-- ---- what a text spells

models_in : Result (List SpelledModel) TextFault → List SpelledModel
models_in (Ok models) = models
models_in (Err fault) = []

-- a reader that finds no fault
abbrev pub found : List SpelledModel → Result (List SpelledModel) TextFault
found models = Ok models

-- finds the models of one design alone
pub same_models : (one other : List SpelledModel) → found one ≡ found other → one ≡ other
unfolding models_in
same_models one other same = ap models_in same
