-- Where models have ranks, they don't place each other in a circle.
use Rattle.std.proofs.Common.{◌≡◌, ◌<◌, ℕ, Bool, true, List, [], ◌∷◌, ◌++◌, Option, Some, None, nat_lt, sym, subst, true≢false, arith}
use Rattle.std.specs.List.{list_all, AllZip}
use Rattle.std.proofs.lemmas.Bool.{and_parts, ltb-true}
use Rattle.vw_design.specs.declared.item.Item.{Item}
use Rattle.vw_design.specs.declared.item.Item.TheVariants.{Names, Latch, Sub}
use Rattle.vw_design.specs.declared.model.Model.{Model}
use Rattle.vw_design.specs.declared.design.Design.{Design}
use Rattle.vw_design.specs.Paths.{Word, model_named, items_of}
use Rattle.vw_design.specs.ModelFaults.{is_reached, names_model, model_places, IsModelCircle}
use Rattle.vw_design.specs.Counts.{is_below, IsRanking}
use Rattle.vw_design.proofs.ListElements.{from-any, all-Has}
use Rattle.vw_design.proofs.Names.{same_name}

module _ (design : Design) (among : Word → Bool) (rank : Word → ℕ) (ranking : IsRanking design among rank) where
  -- what an item places has a smaller rank
  by_item : (limit : ℕ) (next : Word) (item : Item) → is_below among rank limit item ≡ true → names_model next item ≡ true
      → (among next ≡ true) × (rank next < limit)
  by_item limit next (Names line ins out cover) below names = absurd (true≢false (sym names))
  by_item limit next (Latch line d q edge control init) below names = absurd (true≢false (sym names))
  by_item limit next (Sub line model binds) below names =
      let parts = and_parts (among model) (nat_lt (rank model) limit) below in
      subst (λ (w : Word). (among w ≡ true) × (rank w < limit)) (same_name model next names) (parts.0, ltb-true (rank model) limit parts.1)

  by_model : (limit : ℕ) (next : Word) (model : Option Model) → list_all (is_below among rank limit) (items_of model) ≡ true
      → model_places model next ≡ true → (among next ≡ true) × (rank next < limit)
  by_model limit next None below places = absurd (true≢false (sym places))
  by_model limit next (Some model) below places =
      let item = from-any (names_model next) model.items places in
      by_item limit next item.0 (all-Has (is_below among rank limit) item.0 model.items below item.1) item.2

  -- along models of which each places the next, ranks fall
  falls : (name : Word) (names : List Word) (last : Word) → among name ≡ true
      → AllZip (λ one next. model_places (model_named design.models one) next ≡ true) (name ∷ names) (names ++ last ∷ []) → rank last < rank name
  falls name [] last is placed = (by_model (rank name) last (model_named design.models name) (ranking.falls name is) placed.0).1
  falls name (next ∷ names) last is placed =
      let here = by_model (rank name) next (model_named design.models name) (ranking.falls name is) placed.0 in
      let further = falls next names last here.0 placed.1 in
      omega (arith, here.1)

-- so none places itself in the end
pub no_circle : (design : Design) (rank : Word → ℕ) → IsRanking design (is_reached design) rank → (names : List Word) → IsModelCircle design names → ⊥
no_circle design rank ranking [] circle = omega (arith, circle.some)
no_circle design rank ranking (name ∷ names) circle =
    omega (arith, falls design (is_reached design) rank ranking name names name (circle.reached 0 name (omega arith)) circle.placed)
