-- Designs that spell the same are the same.
use Rattle.std.proofs.Common.{◌≡◌, ◌<◌, ◌^◌, true, List, [], ◌∷◌, length, map, refl, sym, ap, ◌∙◌}
use Rattle.std.specs.Prelude.{IsTrue}
use Rattle.std.proofs.lemmas.Bool.{and_parts, eqb-true}
use Rattle.std.proofs.lemmas.List.Elements.{All-head, All-tail}
use Rattle.std.proofs.Math.Bridge.{le_prop}
use Rattle.std.specs.List.{All, list_all}
use Rattle.std.proofs.Math.Bool.{Bool-set}
use mathlib.Core.HLevel.{is_prop→PathP}
use Rattle.vw_net.specs.declared.cover.Row.{Row}
use Rattle.vw_net.proofs.SameCovers.{cover_same}
use Rattle.vw_design.specs.declared.item.Bind.{Bind}
use Rattle.vw_design.specs.declared.item.Item.{Item}
use Rattle.vw_design.specs.declared.item.Item.TheVariants.{Names, Latch, Sub}
use Rattle.vw_design.specs.declared.model.Model.{Model}
use Rattle.vw_design.specs.declared.design.Design.{Design}
use Rattle.vw_design.specs.Distinct.{are_distinct}
use Rattle.vw_design.specs.Shape.{has_its_shape, IsWellMade}
use Rattle.vw_blif.specs.Spelled.{Binding, SpelledModel, spelled_bind, spelled_item, spelled_model}

rows_same : (rows others : List Row) → map (λ (row : Row). row.marks) rows ≡ map (λ (row : Row). row.marks) others → rows ≡ others
rows_same [] [] e = refl
rows_same [] (other ∷ others) e = cc
rows_same (row ∷ rows) [] e = cc
rows_same (row ∷ rows) (other ∷ others) e =
    let first : row.marks ≡ other.marks = cc in
    let rest : map (λ (r : Row). r.marks) rows ≡ map (λ (r : Row). r.marks) others = cc in
    let same : row ≡ other = λ i. record { marks = first i } in
    let all : rows ≡ others = rows_same rows others rest in
    λ i. same i ∷ all i

bind_same : (one other : Bind) → spelled_bind one ≡ spelled_bind other → one ≡ other
bind_same one other e =
    let formal : one.formal ≡ other.formal = ap (λ (b : Binding). b.formal) e in
    let actual : one.actual ≡ other.actual = ap (λ (b : Binding). b.actual) e in
    λ i. record { formal = formal i; actual = actual i }

binds_same : (binds others : List Bind) → map spelled_bind binds ≡ map spelled_bind others → binds ≡ others
binds_same [] [] e = refl
binds_same [] (other ∷ others) e = cc
binds_same (bind ∷ binds) [] e = cc
binds_same (bind ∷ binds) (other ∷ others) e =
    let first : spelled_bind bind ≡ spelled_bind other = cc in
    let rest : map spelled_bind binds ≡ map spelled_bind others = cc in
    let same : bind ≡ other = bind_same bind other first in
    let all : binds ≡ others = binds_same binds others rest in
    λ i. same i ∷ all i

item_same : (one other : Item) → has_its_shape one ≡ true → has_its_shape other ≡ true → spelled_item one ≡ spelled_item other → one ≡ other
item_same (Names line ins out cover) (Names line2 ins2 out2 cover2) shape shape2 e =
    let lines : line ≡ line2 = cc in
    let nets : ins ≡ ins2 = cc in
    let outs : out ≡ out2 = cc in
    let on : cover.on ≡ cover2.on = cc in
    let marks : map (λ (row : Row). row.marks) cover.rows ≡ map (λ (row : Row). row.marks) cover2.rows = cc in
    let wide : length ins ≡ cover.inputs = eqb-true (length ins) cover.inputs shape in
    let wide2 : length ins2 ≡ cover2.inputs = eqb-true (length ins2) cover2.inputs shape2 in
    let inputs : cover.inputs ≡ cover2.inputs = sym wide ∙ ap length nets ∙ wide2 in
    let same : cover ≡ cover2 = cover_same cover cover2 inputs on (rows_same cover.rows cover2.rows marks) in
    λ i. Names (lines i) (nets i) (outs i) (same i)
item_same (Names line ins out cover) (Latch line2 d q edge control init) shape shape2 e = cc
item_same (Names line ins out cover) (Sub line2 model binds) shape shape2 e = cc
item_same (Latch line d q edge control init) (Names line2 ins out cover) shape shape2 e = cc
item_same (Latch line d q edge control init) (Latch line2 d2 q2 edge2 control2 init2) shape shape2 e = cc
item_same (Latch line d q edge control init) (Sub line2 model binds) shape shape2 e = cc
item_same (Sub line model binds) (Names line2 ins out cover) shape shape2 e = cc
item_same (Sub line model binds) (Latch line2 d q edge control init) shape shape2 e = cc
item_same (Sub line model binds) (Sub line2 model2 binds2) shape shape2 e =
    let lines : line ≡ line2 = cc in
    let models : model ≡ model2 = cc in
    let spelled : map spelled_bind binds ≡ map spelled_bind binds2 = cc in
    let same : binds ≡ binds2 = binds_same binds binds2 spelled in
    λ i. Sub (lines i) (models i) (same i)

items_same : (items others : List Item) → list_all has_its_shape items ≡ true → list_all has_its_shape others ≡ true → map spelled_item items ≡ map spelled_item others → items ≡ others
items_same [] [] shape shape2 e = refl
items_same [] (other ∷ others) shape shape2 e = cc
items_same (item ∷ items) [] shape shape2 e = cc
items_same (item ∷ items) (other ∷ others) shape shape2 e =
    let shapes = and_parts (has_its_shape item) (list_all has_its_shape items) shape in
    let shapes2 = and_parts (has_its_shape other) (list_all has_its_shape others) shape2 in
    let first : spelled_item item ≡ spelled_item other = cc in
    let rest : map spelled_item items ≡ map spelled_item others = cc in
    let same : item ≡ other = item_same item other shapes.0 shapes2.0 first in
    let all : items ≡ others = items_same items others shapes.1 shapes2.1 rest in
    λ i. same i ∷ all i

model_same : (one other : Model) → IsWellMade one → IsWellMade other → spelled_model one ≡ spelled_model other → one ≡ other
model_same one other made made2 e =
    let name : one.name ≡ other.name = ap (λ (m : SpelledModel). m.name) e in
    let inputs : one.inputs ≡ other.inputs = ap (λ (m : SpelledModel). m.inputs) e in
    let outputs : one.outputs ≡ other.outputs = ap (λ (m : SpelledModel). m.outputs) e in
    let clocks : one.clocks ≡ other.clocks = ap (λ (m : SpelledModel). m.clocks) e in
    let spelled : map spelled_item one.items ≡ map spelled_item other.items = ap (λ (m : SpelledModel). m.items) e in
    let items : one.items ≡ other.items = items_same one.items other.items made.items made2.items spelled in
    λ i. record { name = name i; inputs = inputs i; outputs = outputs i; clocks = clocks i; items = items i }

models_same : (models others : List Model) → All IsWellMade models → All IsWellMade others → map spelled_model models ≡ map spelled_model others → models ≡ others
models_same [] [] made made2 e = refl
models_same [] (other ∷ others) made made2 e = cc
models_same (model ∷ models) [] made made2 e = cc
models_same (model ∷ models) (other ∷ others) made made2 e =
    let first : spelled_model model ≡ spelled_model other = cc in
    let rest : map spelled_model models ≡ map spelled_model others = cc in
    let same : model ≡ other = model_same model other (All-head IsWellMade model models made) (All-head IsWellMade other others made2) first in
    let all : models ≡ others = models_same models others (All-tail IsWellMade model models made) (All-tail IsWellMade other others made2) rest in
    λ i. same i ∷ all i

-- designs whose models are the same are the same
design_same : (one other : Design) → one.models ≡ other.models → one ≡ other
design_same one other models = λ i. record {
  models = models i;
  some = is_prop→PathP (λ j. 0 < length (models j)) (λ j. le_prop) one.some other.some i;
  few = is_prop→PathP (λ j. length (models j) < 2 ^ 32) (λ j. le_prop) one.few other.few i;
  named = is_prop→PathP (λ j. IsTrue (are_distinct (map (λ (model : Model). model.name) (models j)))) (λ j. hlevel Bool-set) one.named other.named i;
  well_made = is_prop→PathP (λ j. All IsWellMade (models j)) (λ j. hlevel Bool-set) one.well_made other.well_made i;
}

pub spelled_once : (one other : Design) → map spelled_model one.models ≡ map spelled_model other.models → one ≡ other
spelled_once one other e = design_same one other (models_same one.models other.models one.well_made other.well_made e)
