-- Items that name no model, item by item.
use Rattle.std.proofs.Common.{◌≡◌, ◌<◌, ◌+◌, ℕ, Bool, true, false, cond, List, [], ◌∷◌, length, drop, get_or, Option, Some, None, is_some, ⊎_elim, refl, sym, ◌∙◌, ap, subst, true≢false}
use Rattle.std.specs.List.{AllZip}
use Rattle.std.specs.Option.{is_none, option_or}
use Rattle.std.proofs.lemmas.Bool.{cases_lt}
use Rattle.std.proofs.lemmas.List.{drop_more, drop_all}
use Rattle.vw_design.specs.declared.item.Bind.{Bind}
use Rattle.vw_design.specs.declared.item.Item.{Item}
use Rattle.vw_design.specs.declared.item.Item.TheVariants.{Names, Latch, Sub}
use Rattle.vw_design.specs.declared.model.Model.{Model}
use Rattle.vw_design.specs.declared.design.Design.{Design}
use Rattle.vw_net.specs.FirstFound.{first_found}
use Rattle.vw_design.specs.Paths.{Word, placings, model_named}
use Rattle.vw_design.specs.ModelNumbers.{IsNumberOfModel}
use Rattle.vw_design.proofs.ListPlaces.{at_within}
use Rattle.vw_models.specs.Steps.Unknown.{unknown_of}

-- the numbers of placed models go along with the placings
abbrev pub AreAlong : Design → List Item → List (Option ℕ) → Type 0
AreAlong design items numbers = AllZip (λ placing number. IsNumberOfModel design placing.model number) (placings items) numbers

-- a number is that of a model
pub known : (design : Design) (name : Word) (number : Option ℕ) → IsNumberOfModel design name number → is_some number ≡ true → is_none (model_named design.models name) ≡ false
known design name None is some = absurd (true≢false (sym some))
known design name (Some number) is some =
    let there = at_within design.models number is.0 in
    ap (λ (found : Option Model). is_none found) (sym is.1 ∙ there.1)

-- a placing's number
step_by : (design : Design) (line : ℕ) (name : Word) (binds : List Bind) (rest : List Item) (number : Option ℕ) (numbers : List (Option ℕ)) → is_some number ≡ true → AreAlong design (Sub line name binds ∷ rest) (number ∷ numbers)
    → AreAlong design rest numbers × (first_found (unknown_of design) (Sub line name binds ∷ rest) ≡ first_found (unknown_of design) rest)
step_by design line name binds rest number numbers some along =
    (along.1, ap (λ (b : Bool). option_or (cond b (Some line) None) (first_found (unknown_of design) rest)) (known design name number along.0 some))

-- no number is left where a model is placed
pub none_along : (design : Design) (line : ℕ) (name : Word) (binds : List Bind) (rest : List Item) → AreAlong design (Sub line name binds ∷ rest) [] → ⊥
none_along design line name binds rest along = along

pub sub_step : (design : Design) (items : List Item) (numbers : List (Option ℕ)) (i place : ℕ) (item : Item) (line : ℕ) (name : Word) (binds : List Bind) → i < length items → item ≡ get_or items i item → item ≡ Sub line name binds
    → AreAlong design (drop i items) (drop place numbers) → is_some (get_or numbers place None) ≡ true
    → AreAlong design (drop (i + 1) items) (drop (place + 1) numbers) × (first_found (unknown_of design) (drop i items) ≡ first_found (unknown_of design) (drop (i + 1) items))
sub_step design items numbers i place item line name binds within at is along some =
    let here : drop i items ≡ Sub line name binds ∷ drop (i + 1) items = drop_more items i item within ∙ ap (λ (x : Item). x ∷ drop (i + 1) items) (sym at ∙ is) in
    let there = subst (λ (l : List Item). AreAlong design l (drop place numbers)) here along in
    ⊎_elim
    (λ inside.
    let cut = drop_more numbers place None inside in
    let step = step_by design line name binds (drop (i + 1) items) (get_or numbers place None) (drop (place + 1) numbers) some (subst (λ (l : List (Option ℕ)). AreAlong design (Sub line name binds ∷ drop (i + 1) items) l) cut there) in
    (step.0, ap (first_found (unknown_of design)) here ∙ step.1))
    (λ past. absurd (none_along design line name binds (drop (i + 1) items) (subst (λ (l : List (Option ℕ)). AreAlong design (Sub line name binds ∷ drop (i + 1) items) l) (drop_all place numbers past) there)))
    (cases_lt place (length numbers))

-- another item
pub other_step : (design : Design) (items : List Item) (i : ℕ) (item : Item) → i < length items → item ≡ get_or items i item → ((line : ℕ) (name : Word) (binds : List Bind) → item ≡ Sub line name binds → ⊥)
    → (placings (drop i items) ≡ placings (drop (i + 1) items)) × (first_found (unknown_of design) (drop i items) ≡ first_found (unknown_of design) (drop (i + 1) items))
other_step design items i item within at other =
    let here : drop i items ≡ item ∷ drop (i + 1) items = drop_more items i item within ∙ ap (λ (x : Item). x ∷ drop (i + 1) items) (sym at) in
    let step = by item other in
    (ap placings here ∙ step.0, ap (first_found (unknown_of design)) here ∙ step.1) where
      by : (item : Item) → ((line : ℕ) (name : Word) (binds : List Bind) → item ≡ Sub line name binds → ⊥)
          → (placings (item ∷ drop (i + 1) items) ≡ placings (drop (i + 1) items)) × (first_found (unknown_of design) (item ∷ drop (i + 1) items) ≡ first_found (unknown_of design) (drop (i + 1) items))
      by (Names line ins out cover) other = (refl, refl)
      by (Latch line d q edge control init) other = (refl, refl)
      by (Sub line model binds) other = absurd (other line model binds refl)
