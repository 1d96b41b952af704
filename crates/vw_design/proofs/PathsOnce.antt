-- Each instance is listed once.
use Rattle.std.proofs.Common.{◌≡◌, ◌≤◌, ◌+◌, ℕ, zero, suc, Bool, false, cond, List, [], ◌∷◌, ◌++◌, length, length-append, append_assoc, Some, slice_get, option_map, flat_map, inl, inr, ⊎_elim, refl, sym, ◌∙◌, ap, subst, arith}
use Rattle.std.specs.Str.{bytes_eq}
use Rattle.std.proofs.lemmas.Bool.{false_from_ne_true}
use Rattle.std.proofs.lemmas.List.Concat.{flat_map-append}
use Rattle.std.proofs.lemmas.Option.{same_Some, none-some}
use Rattle.vw_design.specs.declared.item.Item.{Item}
use Rattle.vw_design.specs.declared.item.Item.TheVariants.{Names, Latch, Sub}
use Rattle.vw_design.specs.declared.design.Design.{Design}
use Rattle.vw_net.specs.FirstFound.{first_place}
use Rattle.vw_design.specs.Paths.{Path, model_at, items_of}
use Rattle.vw_design.specs.Claims.{numbered}
use Rattle.vw_design.specs.Preorder.{Site, with_inside, sites_below, sites, instances_at, paths_of, instances}
use Rattle.vw_design.proofs.ListElements.{Has, Has-at, Has-append}
use Rattle.vw_design.proofs.Names.{same_name, equal_names}
use Rattle.vw_design.proofs.ListedInstances.{stands_below}
use Rattle.vw_design.proofs.SitesOnce.{entry_from, same_ends, head_same}

-- no path of a list is listed twice
abbrev ArePathsOnce : List Path → Type 0
ArePathsOnce [] = Unit {0}
ArePathsOnce (path ∷ list) = ((other : Path) → Has other list → path ≡ other → ⊥) × ArePathsOnce list

apart_append : (one other : List Path) → ArePathsOnce one → ArePathsOnce other → ((a b : Path) → Has a one → Has b other → a ≡ b → ⊥)
    → ArePathsOnce (one ++ other)
apart_append [] other first second across = second
apart_append (path ∷ one) other first second across =
    let from = λ (b : Path) (has : Has b (one ++ other)). ⊎_elim (λ left. first.0 b left) (λ right. across path b (inl refl) right) (Has-append b one other has) in
    (from, apart_append one other first.1 second (λ a b in_one in_other. across a b (inr in_one) in_other))

-- a path behind items ends in a place that is no earlier
abbrev EndsBehind : Path → ℕ → Path → Type 0
EndsBehind base before path = (front : Path) × (b : ℕ) × (before ≤ b) × (path ≡ front ++ (suc b ∷ base))

module _ (design : Design) where
  path_ends : (depth : ℕ) (base path : Path) → Has path (paths_of (sites_below design depth base)) → EndsBehind base 0 path
  path_ends zero base path has = absurd has
  path_ends (suc depth) base path has =
      let below = stands_below (numbered 0 0 (items_of (model_at design base))) (sites_below design depth) base path has in
      ⊎_elim (λ same. ([], below.entry.before, omega arith, sym same))
      (λ deeper.
      let ends = path_ends depth (suc below.entry.before ∷ base) path deeper in
      (ends.0 ++ (suc ends.1 ∷ []), below.entry.before, omega arith, ends.3 ∙ sym (append_assoc ends.0 (suc ends.1 ∷ []) (suc below.entry.before ∷ base))))
      below.under

  ends_behind : (depth : ℕ) (base : Path) (number before : ℕ) (items : List Item) (path : Path)
      → Has path (paths_of (flat_map (with_inside (sites_below design depth) base) (numbered number before items))) → EndsBehind base before path
  ends_behind depth base number before items path has =
      let below = stands_below (numbered number before items) (sites_below design depth) base path has in
      let late = (entry_from number before items below.entry below.has).1 in
      ⊎_elim (λ same. ([], below.entry.before, late, sym same))
      (λ deeper.
      let ends = path_ends depth (suc below.entry.before ∷ base) path deeper in
      (ends.0 ++ (suc ends.1 ∷ []), below.entry.before, late, ends.3 ∙ sym (append_assoc ends.0 (suc ends.1 ∷ []) (suc below.entry.before ∷ base))))
      below.under

  -- a path that ends in a place is none that ends in a later one
  ends_differ : (base : Path) (before : ℕ) (front path other : Path) → path ≡ front ++ (suc before ∷ base)
      → EndsBehind base (suc before) other → path ≡ other → ⊥
  ends_differ base before front path other is behind same =
      omega (arith, head_same (same_ends front behind.0 (suc before ∷ base) (suc behind.1 ∷ base) (sym is ∙ same ∙ behind.3) refl), behind.2)

  apart_items : (depth : ℕ) (base : Path) → ((path : Path) → ArePathsOnce (paths_of (sites_below design depth path))) → (number before : ℕ) (items : List Item)
      → ArePathsOnce (paths_of (flat_map (with_inside (sites_below design depth) base) (numbered number before items)))
  apart_items depth base deeper number before [] = tt
  apart_items depth base deeper number before (Names line ins out cover ∷ items) = apart_items depth base deeper (suc number) before items
  apart_items depth base deeper number before (Latch line d q edge control init ∷ items) = apart_items depth base deeper (suc number) before items
  apart_items depth base deeper number before (Sub line name binds ∷ items) =
      let here = suc before ∷ base in
      let below = sites_below design depth here in
      let rest = flat_map (with_inside (sites_below design depth) base) (numbered (suc number) (suc before) items) in
      let split = flat_map-append (λ (s : Site). instances_at s.path s.before s.item) below rest in
      let of_below = λ (other : Path) (has : Has other (paths_of below)) (same : here ≡ other).
      let ends = path_ends depth here other has in
      let none : ⊥ = omega (arith, ap (λ (p : Path). length p) (same ∙ ends.3), length-append ends.0 (suc ends.1 ∷ here)) in
      none in
      let of_rest = λ (other : Path) (has : Has other (paths_of rest)). ends_differ base before [] here other refl (ends_behind depth base (suc number) (suc before) items other has) in
      let across = λ (a b : Path) (in_below : Has a (paths_of below)) (in_rest : Has b (paths_of rest)).
      let ends = path_ends depth here a in_below in
      ends_differ base before (ends.0 ++ (suc ends.1 ∷ [])) a b (ends.3 ∙ sym (append_assoc ends.0 (suc ends.1 ∷ []) here)) (ends_behind depth base (suc number) (suc before) items b in_rest) in
      let from = λ (other : Path) (has : Has other (paths_of below ++ paths_of rest)). ⊎_elim (of_below other) (of_rest other) (Has-append other (paths_of below) (paths_of rest) has) in
      let all = apart_append (paths_of below) (paths_of rest) (deeper here) (apart_items depth base deeper (suc number) (suc before) items) across in
      subst (λ (list : List Path). ArePathsOnce (here ∷ list)) (sym split) (from, all)

  apart_below : (depth : ℕ) (base : Path) → ArePathsOnce (paths_of (sites_below design depth base))
  apart_below zero base = tt
  apart_below (suc depth) base = apart_items depth base (apart_below depth) 0 0 (items_of (model_at design base))

  instances_apart : ArePathsOnce (instances design)
  unfolding sites
  instances_apart =
      let depth = 65 + length design.models in (
        λ other has same.
            let ends = path_ends depth [] other has in
            omega (arith, ap (λ (p : Path). length p) (same ∙ ends.3), length-append ends.0 (suc ends.1 ∷ [])),
        apart_below depth [],
      )

-- so the first place of a path is its place
first_path_of : (list : List Path) → ArePathsOnce list → (place : ℕ) (path : Path) → slice_get list place ≡ Some path
    → first_place (λ other. bytes_eq other path) list ≡ Some place
first_path_of [] apart place path at = absurd (none-some path at)
first_path_of (first ∷ list) apart zero path at =
    ap (λ (b : Bool). cond b (Some 0) (option_map (λ (n : ℕ). suc n) (first_place (λ (other : Path). bytes_eq other path) list))) (equal_names first path (same_Some first path at))
first_path_of (first ∷ list) apart (suc place) path at =
    let fails : bytes_eq first path ≡ false = false_from_ne_true (bytes_eq first path) (λ same. apart.0 path (Has-at path list place at) (same_name first path same)) in
    ap (λ (b : Bool). cond b (Some 0) (option_map (λ (n : ℕ). suc n) (first_place (λ (other : Path). bytes_eq other path) list))) fails
    ∙ ap (option_map (λ (n : ℕ). suc n)) (first_path_of list apart.1 place path at)

pub instance_once : (design : Design) (place : ℕ) (path : Path) → slice_get (instances design) place ≡ Some path
    → first_place (λ other. bytes_eq other path) (instances design) ≡ Some place
instance_once design place path at = first_path_of (instances design) (instances_apart design) place path at
