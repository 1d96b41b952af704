-- That numbers are those of the models that models place has one proof at most, so that a struct may carry it.
use Rattle.std.specs.Prelude.{ℕ, List, [], ◌∷◌, Option, Some, None}
use Rattle.std.specs.List.{AllZip}
use Rattle.std.specs.Coded.{×_prop, Unit-prop, Coded-set}
use Rattle.std.proofs.Props.{props}
use Rattle.vw_design.specs.declared.design.Design.{Design}
use Rattle.vw_design.specs.declared.model.Model.{Model}
use Rattle.vw_design.specs.contracts.model.Model as model
use Rattle.vw_design.specs.Paths.{Word, placings}
use Rattle.vw_design.specs.ModelNumbers.{IsNumberOfModel, AreTargets}

-- lists that go along with each other do so in one way
pub AllZip-prop : {A B : Type 0} (R : A → B → Type 0) → ((x : A) (y : B) → IsProp (R x y)) → (xs : List A) (ys : List B) → IsProp (AllZip R xs ys)
AllZip-prop R each [] [] = Unit-prop
AllZip-prop R each [] (y ∷ ys) = λ no _. absurd no
AllZip-prop R each (x ∷ xs) [] = λ no _. absurd no
AllZip-prop R each (x ∷ xs) (y ∷ ys) = ×_prop (each x y) (AllZip-prop R each xs ys)

-- two models are equal in one way
Model-set : IsSet Model
Model-set = Coded-set model.the_row.coded

-- the rules for facts of models
ruleset facts = (props, Model-set)

-- a number is that of a model in one way
pub IsNumberOfModel-prop : (design : Design) (name : Word) (number : Option ℕ) → IsProp (IsNumberOfModel design name number)
IsNumberOfModel-prop design name None = Prim.hlevel facts
IsNumberOfModel-prop design name (Some number) = Prim.hlevel facts

-- and so are all targets of a design
pub AreTargets-prop : (design : Design) (targets : List (List (Option ℕ))) → IsProp (AreTargets design targets)
AreTargets-prop design targets = AllZip-prop _ (λ each numbers. AllZip-prop _ (λ placing number. IsNumberOfModel-prop design placing.model number) (placings each.items) numbers) design.models targets
