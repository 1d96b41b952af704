-- Tables, items and designs that are written out, for designs that are worked out by hand.
use Rattle.std.proofs.Common.{◌≡◌, ◌<◌, ◌≤◌, ◌^◌, ◌&&◌, ◌==◌, ℕ, Bool, true, List, [], ◌∷◌, length, map, nat_lt, nat_le, All}
use Rattle.std.specs.List.{list_all}
use Rattle.std.proofs.lemmas.Bool.{and_parts, ltb-true, leb-true, eqb-true}
use Rattle.std.proofs.lemmas.List.Elements.{All-cons, All-nil}
use Rattle.vw_net.specs.declared.cover.Mark.{Mark}
use Rattle.vw_net.specs.declared.cover.Row.{Row}
use Rattle.vw_net.specs.declared.cover.Cover.{Cover}
use Rattle.vw_design.specs.declared.item.Bind.{Bind}
use Rattle.vw_design.specs.declared.model.Model.{Model}
use Rattle.vw_design.specs.declared.design.Design.{Design}
use Rattle.vw_design.specs.Distinct.{are_distinct}
use Rattle.vw_design.specs.Shape.{has_its_shape, IsWellMade}
use Rattle.vw_design.specs.Paths.{Word}

-- a binding
abbrev pub bind : Word → Word → Bind
bind formal actual = record { formal = formal; actual = actual }

abbrev pub row : List Mark → Row
row marks = record { marks = marks }

even_rows : (inputs : ℕ) (rows : List (List Mark)) → list_all (λ (marks : List Mark). length marks == inputs) rows ≡ true
    → All (λ (r : Row). length r.marks ≡ inputs) (map row rows)
even_rows inputs [] even = All-nil (λ (r : Row). length r.marks ≡ inputs)
even_rows inputs (marks ∷ rows) even =
    let parts = and_parts (length marks == inputs) (list_all (λ (ms : List Mark). length ms == inputs) rows) even in
    All-cons (λ (r : Row). length r.marks ≡ inputs) (row marks) (map row rows) (eqb-true (length marks) inputs parts.0) (even_rows inputs rows parts.1)

pub narrow_table : (inputs : ℕ) (rows : List (List Mark))
    → (nat_le inputs 128 && list_all (λ (marks : List Mark). length marks == inputs) rows) ≡ true → inputs ≤ 128
narrow_table inputs rows fits = leb-true inputs 128 (and_parts (nat_le inputs 128) (list_all (λ (marks : List Mark). length marks == inputs) rows) fits).0

pub even_table : (inputs : ℕ) (rows : List (List Mark))
    → (nat_le inputs 128 && list_all (λ (marks : List Mark). length marks == inputs) rows) ≡ true
    → All (λ (r : Row). length r.marks ≡ inputs) (map row rows)
even_table inputs rows fits = even_rows inputs rows (and_parts (nat_le inputs 128) (list_all (λ (marks : List Mark). length marks == inputs) rows) fits).1

-- a table, whose rows have its width
abbrev pub table : (inputs : ℕ) (on : Bool) (rows : List (List Mark)) → (nat_le inputs 128 && list_all (λ (marks : List Mark). length marks == inputs) rows) ≡ true → Cover
table inputs on rows fits = record { inputs = inputs; on = on; rows = map row rows; narrow = narrow_table inputs rows fits; even = even_table inputs rows fits }

-- whether a model is well made, and whether some models are a design
abbrev pub is_well_made : Model → Bool
is_well_made model = are_distinct model.inputs && (are_distinct model.outputs && (are_distinct model.clocks && list_all has_its_shape model.items))

well_made : (model : Model) → is_well_made model ≡ true → IsWellMade model
well_made model made =
    let first = and_parts (are_distinct model.inputs) (are_distinct model.outputs && (are_distinct model.clocks && list_all has_its_shape model.items)) made in
    let second = and_parts (are_distinct model.outputs) (are_distinct model.clocks && list_all has_its_shape model.items) first.1 in
    let third = and_parts (are_distinct model.clocks) (list_all has_its_shape model.items) second.1 in
    record { inputs = first.0; outputs = second.0; clocks = third.0; items = third.1 }

all_made : (models : List Model) → list_all is_well_made models ≡ true → All IsWellMade models
all_made [] made = All-nil IsWellMade
all_made (model ∷ models) made =
    let parts = and_parts (is_well_made model) (list_all is_well_made models) made in
    All-cons IsWellMade model models (well_made model parts.0) (all_made models parts.1)

abbrev pub is_design : List Model → Bool
is_design models = nat_lt 0 (length models) && (nat_lt (length models) 4294967296 && (are_distinct (map (λ model. model.name) models) && list_all is_well_made models))

record IsDesign (models : List Model) : Type 0 where
  some : 0 < length models
  few : length models < 2 ^ 32
  named : are_distinct (map (λ model. model.name) models) ≡ true
  made : All IsWellMade models

design_is : (models : List Model) → is_design models ≡ true → IsDesign models
design_is models is =
    let first = and_parts (nat_lt 0 (length models)) (nat_lt (length models) 4294967296 && (are_distinct (map (λ model. model.name) models) && list_all is_well_made models)) is in
    let second = and_parts (nat_lt (length models) 4294967296) (are_distinct (map (λ model. model.name) models) && list_all is_well_made models) first.1 in
    let third = and_parts (are_distinct (map (λ model. model.name) models)) (list_all is_well_made models) second.1 in
    record {
      some = ltb-true 0 (length models) first.0;
      few = ltb-true (length models) 4294967296 second.0;
      named = third.0;
      made = all_made models third.1;
    }

pub some_of : (models : List Model) → is_design models ≡ true → 0 < length models
some_of models is = (design_is models is).some

pub few_of : (models : List Model) → is_design models ≡ true → length models < 2 ^ 32
few_of models is = (design_is models is).few

pub named_of : (models : List Model) → is_design models ≡ true → are_distinct (map (λ model. model.name) models) ≡ true
named_of models is = (design_is models is).named

pub made_of : (models : List Model) → is_design models ≡ true → All IsWellMade models
made_of models is = (design_is models is).made

-- the design of some models
abbrev pub design : (models : List Model) → is_design models ≡ true → Design
design models is = record { models = models; some = some_of models is; few = few_of models is; named = named_of models is; well_made = made_of models is }
