-- The places of an instance, up to the root.
use Rattle.std.proofs.Common.{◌≡◌, ◌<◌, ◌≢◌, ◌++◌, ℕ, List, [], ◌∷◌, length, Option, Some, None, slice_get, option_map, refl, sym, ◌∙◌, ap, subst, append_assoc, arith}
use Rattle.std.proofs.lemmas.Option.{same_Some, none-some, slice_get_within}
use Rattle.std.proofs.Props.{props}
use mathlib.Core.Logic.{∥∥₁_elim}
use Rattle.vw_design.specs.declared.design.Design.{Design}
use Rattle.vw_design.specs.Paths.{Path}
use Rattle.vw_design.specs.Preorder.{instances}
use Rattle.vw_design.proofs.PathsOnce.{instance_once}
use Rattle.vw_design.proofs.ListPlaces.{at_within}
use Rattle.vw_instances.specs.declared.tables.ListedInstance.{ListedInstance}
use Rattle.vw_instances.specs.Tables.{ArePlaced, IsEntryAt, IsPlacedBy}
use Rattle.vw_net_faults.specs.declared.nets.Nets.{Nets}

module _ (design : Design) (table : List ListedInstance) (are : ArePlaced design table) where
  -- the entry of a listed instance
  pub entry_is : (k : ℕ) (path : Path) (entry : ListedInstance) → slice_get (instances design) k ≡ Some path
      → slice_get table k ≡ Some entry → IsEntryAt design (instances design) k path entry
  entry_is k path entry listed at =
      let found = are.each k path listed in
      subst (λ (e : ListedInstance). IsEntryAt design (instances design) k path e) (same_Some found.0 entry (sym found.1 ∙ at)) found.2

  by_parent : (k : ℕ) (path : Path) (entry : ListedInstance) → IsPlacedBy (instances design) k path entry.parent entry.place → k ≢ 0 → entry.parent < k
  by_parent k [] entry by some = omega (arith, by.0)
  by_parent k (place ∷ path) entry by some = by.2

  pub parent_before : (k : ℕ) (entry : ListedInstance) → slice_get table k ≡ Some entry → k ≢ 0 → entry.parent < k
  parent_before k entry at some =
      let path = at_within (instances design) k (omega (arith, are.same_length, slice_get_within table k entry at)) in
      by_parent k path.0 entry (entry_is k path.0 entry path.1 at).by some

  root_first : (k : ℕ) → slice_get (instances design) k ≡ Some [] → k ≡ 0
  root_first k listed = sym (same_Some 0 k (instance_once design k [] listed))

  -- the places so far, then those of the instance that was reached
  pub further_up : (k : ℕ) (entry : ListedInstance) → slice_get table k ≡ Some entry → k ≢ 0 → (places new : List ℕ) (path : Path)
      → option_map (λ rest. places ++ rest) (slice_get (instances design) k) ≡ Some path → new ≡ places ++ (entry.place ∷ [])
      → option_map (λ rest. new ++ rest) (slice_get (instances design) entry.parent) ≡ Some path
  further_up k entry at some places new path is pushed = by (slice_get (instances design) k) refl is where
    by : (found : Option Path) → slice_get (instances design) k ≡ found → option_map (λ (rest : Path). places ++ rest) found ≡ Some path
        → option_map (λ (rest : Path). new ++ rest) (slice_get (instances design) entry.parent) ≡ Some path
    by None none is = absurd (none-some path is)
    by (Some []) listed is = absurd (some (root_first k listed))
    by (Some (place ∷ rest)) listed is =
        let up : IsPlacedBy (instances design) k (place ∷ rest) entry.parent entry.place = (entry_is k (place ∷ rest) entry listed at).by in
        ap (option_map (λ (left : Path). new ++ left)) up.1 ∙ ap (λ (list : List ℕ). Some (list ++ rest)) pushed
        ∙ ap (λ (list : List ℕ). Some list) (append_assoc places (entry.place ∷ []) rest) ∙ ap (λ (p : ℕ). Some (places ++ (p ∷ rest))) up.0 ∙ is

-- there are as many entries as instances
pub as_many : (nets : Nets) → length nets.tables.now.instances ≡ length (instances nets.design.now)
as_many nets = ∥∥₁_elim nets.has_tables (hlevel props) (λ are. sym are.placed.same_length)
