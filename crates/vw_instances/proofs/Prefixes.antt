-- What stands before items, item by item.
use Rattle.std.proofs.Common.{◌≡◌, ◌+◌, ℕ, min, List, [], ◌∷◌, ◌++◌, length, length-append, take, slice_get, Some, ⊎_elim, refl, sym, ◌∙◌, ap, arith}
use Rattle.std.proofs.lemmas.Option.{none-some}
use Rattle.vw_design.specs.declared.item.Item.{Item}
use Rattle.vw_design.specs.declared.design.Design.{Design}
use Rattle.vw_design.proofs.ListPlaces.{or_last}
use Rattle.vw_instances.specs.declared.measure.Measure.TheVariants.{Instances, Cells}
use Rattle.vw_instances.specs.declared.sizes.Before.{Before}
use Rattle.vw_instances.specs.declared.counting_tables.CountingTables.{CountingTables}
use Rattle.vw_instances.specs.Steps.Counting.{most, amount, count_in, AreEntries}

-- the entries of the first items
pub record ArePrefixes (design : Design) (tables : CountingTables) (items : List Item) (entries : List Before) (i : ℕ) : Type 0 where
  pub long : length entries ≡ i
  pub each : (k : ℕ) (entry : Before) → slice_get entries k ≡ Some entry
      → (entry.cells ≡ min most (amount Cells (count_in design tables.cells.items) (take k items)))
      × (entry.instances ≡ min most (amount Instances (count_in design tables.instances.items) (take k items)))

module _ (design : Design) (tables : CountingTables) (items : List Item) where
  pub none : ArePrefixes design tables items [] 0
  none = record { long = refl; each = λ k entry at. absurd (none-some entry at) }

  pub one_more : (entries : List Before) (i : ℕ) (entry : Before) (new : List Before) → ArePrefixes design tables items entries i
      → entry.cells ≡ min most (amount Cells (count_in design tables.cells.items) (take i items)) → entry.instances ≡ min most (amount Instances (count_in design tables.instances.items) (take i items))
      → new ≡ entries ++ entry ∷ [] → ArePrefixes design tables items new (i + 1)
  one_more entries i entry new far cells instances is = record {
    long = omega (arith, ap (λ (l : List Before). length l) is, length-append entries (entry ∷ []), far.long);
    each = λ k other at. ⊎_elim
        (λ there. far.each k other there)
        (λ last.
        let place : i ≡ k = omega (arith, last.0, far.long) in (
          ap (λ (b : Before). b.cells) (sym last.1) ∙ cells ∙ ap (λ (n : ℕ). min most (amount Cells (count_in design tables.cells.items) (take n items))) place,
          ap (λ (b : Before). b.instances) (sym last.1) ∙ instances ∙ ap (λ (n : ℕ). min most (amount Instances (count_in design tables.instances.items) (take n items))) place,
        ))
        (or_last entries entry other k (ap (λ (l : List Before). slice_get l k) (sym is) ∙ at));
  }

  pub all : (entries : List Before) (i : ℕ) → i ≡ length items → ArePrefixes design tables items entries i → AreEntries design tables items entries
  all entries i end far = (far.long ∙ end, far.each)
