-- Each item of each instance is one site, and no more.
use Rattle.std.proofs.Common.{◌≡◌, ◌≤◌, ◌+◌, ℕ, zero, suc, Bool, true, false, cond, List, [], ◌∷◌, ◌++◌, length, length-append, append_assoc, Some, slice_get, option_map, filter, flat_map, ◌⊎◌, inl, inr, ⊎_elim, refl, sym, ◌∙◌, ap, subst, eqb, arith}
use Rattle.std.specs.Str.{bytes_eq}
use Rattle.std.proofs.lemmas.Bool.{and_from, and_parts, eq-eqb, eqb-true, false_from_ne_true}
use Rattle.std.proofs.lemmas.Option.{same_Some, none-some}
use Rattle.vw_design.specs.declared.item.Item.{Item}
use Rattle.vw_design.specs.declared.item.Item.TheVariants.{Names, Latch, Sub}
use Rattle.vw_design.specs.declared.design.Design.{Design}
use Rattle.vw_net.specs.FirstFound.{first_place}
use Rattle.vw_design.specs.Paths.{Path, model_at, items_of}
use Rattle.vw_design.specs.Claims.{Numbered, and_behind, numbered}
use Rattle.vw_design.specs.Preorder.{Site, site_at, inside, with_inside, sites_below, is_cell, sites, cells}
use Rattle.vw_design.specs.PathValue.{is_site_of, place_of_site}
use Rattle.vw_design.proofs.ListElements.{Has, Has-at, Has-append, from-flat_map, from-filter}
use Rattle.vw_design.proofs.Names.{same_name, name_same}

-- two sites aren't of one item
abbrev Differ : Site → Site → Type 0
Differ one other = one.path ≡ other.path → one.number ≡ other.number → ⊥

-- no two sites of a list are
abbrev AreSitesOnce : List Site → Type 0
AreSitesOnce [] = Unit {0}
AreSitesOnce (site ∷ list) = ((other : Site) → Has other list → Differ site other) × AreSitesOnce list

apart_append : (one other : List Site) → AreSitesOnce one → AreSitesOnce other → ((a b : Site) → Has a one → Has b other → Differ a b)
    → AreSitesOnce (one ++ other)
apart_append [] other first second across = second
apart_append (site ∷ one) other first second across =
    let from = λ (b : Site) (has : Has b (one ++ other)). ⊎_elim (λ left. first.0 b left) (λ right. across site b (inl refl) right) (Has-append b one other has) in
    (from, apart_append one other first.1 second (λ a b in_one in_other. across a b (inr in_one) in_other))

apart_filter : (keep : Site → Bool) (list : List Site) → AreSitesOnce list → AreSitesOnce (filter keep list)
apart_filter keep [] apart = tt
apart_filter keep (site ∷ list) apart = by (keep site) (apart_filter keep list apart.1) where
  by : (b : Bool) → AreSitesOnce (filter keep list) → AreSitesOnce (cond b (site ∷ filter keep list) (filter keep list))
  by true rest = (λ other has. apart.0 other (from-filter keep other list has).0, rest)
  by false rest = rest

-- lists that end alike, where the ends are as long
pub same_ends : (one other : Path) (left right : Path) → one ++ left ≡ other ++ right → length left ≡ length right → left ≡ right
same_ends [] [] left right same long = same
same_ends [] (b ∷ other) left right same long = absurd (omega (arith, ap (λ (p : Path). length p) same, length-append other right))
same_ends (a ∷ one) [] left right same long = absurd (omega (arith, ap (λ (p : Path). length p) same, length-append one left))
same_ends (a ∷ one) (b ∷ other) left right same long = same_ends one other left right (tail_same same) long where
  tail_same : {a b : ℕ} {xs ys : Path} → a ∷ xs ≡ b ∷ ys → xs ≡ ys
  tail_same e = cc

-- what is listed below an instance has a path that ends in it
ends_in : (design : Design) (depth : ℕ) (base : Path) (site : Site) → Has site (sites_below design depth base) → (front : Path) × (site.path ≡ front ++ base)
ends_in design zero base site has = absurd has
ends_in design (suc depth) base site has =
    let from = from-flat_map (with_inside (sites_below design depth) base) (numbered 0 0 (items_of (model_at design base))) site has in
    ⊎_elim (λ same. ([], sym (ap (λ (s : Site). s.path) same))) (λ deeper. by from.0 from.0.item deeper (ends_in design depth (suc from.0.before ∷ base) site)) from.2
  where
    by : (entry : Numbered) (item : Item) → Has site (inside (sites_below design depth) base entry.before item)
        → (Has site (sites_below design depth (suc entry.before ∷ base)) → (front : Path) × (site.path ≡ front ++ (suc entry.before ∷ base)))
        → (front : Path) × (site.path ≡ front ++ base)
    by entry (Names line ins out cover) found deeper = absurd found
    by entry (Latch line d q edge control init) found deeper = absurd found
    by entry (Sub line name binds) found deeper =
        let below = deeper found in
        (below.0 ++ (suc entry.before ∷ []), below.1 ∙ sym (append_assoc below.0 (suc entry.before ∷ []) base))

-- a site behind items: an own one with a number that is no smaller, or one below a place that is no earlier
abbrev ComesBehind : Path → ℕ → ℕ → Site → Type 0
ComesBehind base number before site =
    ((site.path ≡ base) × (number ≤ site.number)) ⊎ ((front : Path) × (b : ℕ) × (before ≤ b) × (site.path ≡ front ++ (suc b ∷ base)))

pub entry_from : (number before : ℕ) (items : List Item) (entry : Numbered) → Has entry (numbered number before items)
    → (number ≤ entry.number) × (before ≤ entry.before)
entry_from number before [] entry has = absurd has
entry_from number before (item ∷ items) entry has =
    let later = λ (found : Has entry (numbered (suc number) (and_behind item before) items)).
    let from = entry_from (suc number) (and_behind item before) items entry found in
    let here : (number ≤ entry.number) × (before ≤ entry.before) = (omega (arith, from.0), omega (arith, from.1, grows item)) in
    here in
    ⊎_elim (λ same. subst (λ (e : Numbered). (number ≤ e.number) × (before ≤ e.before)) same (omega arith, omega arith)) later has
  where
    grows : (item : Item) → before ≤ and_behind item before
    grows (Names line ins out cover) = omega arith
    grows (Latch line d q edge control init) = omega arith
    grows (Sub line name binds) = omega arith

is_behind : (design : Design) (depth : ℕ) (base : Path) (number before : ℕ) (items : List Item) (site : Site)
    → Has site (flat_map (with_inside (sites_below design depth) base) (numbered number before items)) → ComesBehind base number before site
is_behind design depth base number before items site has =
    let from = from-flat_map (with_inside (sites_below design depth) base) (numbered number before items) site has in
    let entry = entry_from number before items from.0 from.1 in
    ⊎_elim (λ same. inl (sym (ap (λ (s : Site). s.path) same), omega (arith, entry.0, ap (λ (s : Site). s.number) same)))
    (λ deeper. by from.0 entry.1 from.0.item deeper) from.2
  where
    by : (entry : Numbered) → before ≤ entry.before → (item : Item) → Has site (inside (sites_below design depth) base entry.before item)
        → ComesBehind base number before site
    by entry late (Names line ins out cover) found = absurd found
    by entry late (Latch line d q edge control init) found = absurd found
    by entry late (Sub line name binds) found = let ends = ends_in design depth (suc entry.before ∷ base) site found in inr (ends.0, entry.before, late, ends.1)

-- places that begin alike
pub head_same : {a b : ℕ} {xs ys : Path} → suc a ∷ xs ≡ suc b ∷ ys → a ≡ b
head_same e = cc

-- a site below a place is none of the instance, and none below a later place
below_behind : (base : Path) (number before : ℕ) (front : Path) (one other : Site) → one.path ≡ front ++ (suc before ∷ base)
    → ComesBehind base number (suc before) other → Differ one other
below_behind base number before front one other path behind same_path same_number =
    ⊎_elim
    (λ own. omega (arith, ap (λ (p : Path). length p) (sym path ∙ same_path ∙ own.0), length-append front (suc before ∷ base)))
    (λ under. omega (arith, head_same (same_ends front under.0 (suc before ∷ base) (suc under.1 ∷ base) (sym path ∙ same_path ∙ under.3) refl), under.2))
    behind

-- an own site is none of the later ones
own_behind : (base : Path) (number before : ℕ) (one other : Site) → one.path ≡ base → one.number ≡ number
    → ComesBehind base (suc number) before other → Differ one other
own_behind base number before one other path is behind same_path same_number =
    ⊎_elim (λ own. omega (arith, own.1))
    (λ under. omega (arith, ap (λ (p : Path). length p) (sym path ∙ same_path ∙ under.3), length-append under.0 (suc under.1 ∷ base))) behind

module _ (design : Design) where
  apart_items : (depth : ℕ) (base : Path) → ((path : Path) → AreSitesOnce (sites_below design depth path)) → (number before : ℕ) (items : List Item)
      → AreSitesOnce (flat_map (with_inside (sites_below design depth) base) (numbered number before items))
  apart_items depth base deeper number before [] = tt
  apart_items depth base deeper number before (Names line ins out cover ∷ items) =
      let site = site_at base (record { number = number; before = before; item = Names line ins out cover }) in
      (λ other has. own_behind base number before site other refl refl (is_behind design depth base (suc number) before items other has), apart_items depth base deeper (suc number) before items)
  apart_items depth base deeper number before (Latch line d q edge control init ∷ items) =
      let site = site_at base (record { number = number; before = before; item = Latch line d q edge control init }) in
      (λ other has. own_behind base number before site other refl refl (is_behind design depth base (suc number) before items other has), apart_items depth base deeper (suc number) before items)
  apart_items depth base deeper number before (Sub line name binds ∷ items) =
      let below = sites_below design depth in
      let site = site_at base (record { number = number; before = before; item = Sub line name binds }) in
      let rest = flat_map (with_inside below base) (numbered (suc number) (suc before) items) in
      let of_inside = λ (other : Site) (has : Has other (below (suc before ∷ base))).
      let ends = ends_in design depth (suc before ∷ base) other has in
      own_behind base number before site other refl refl (inr (ends.0, before, omega arith, ends.1)) in
      let of_rest = λ (other : Site) (has : Has other rest). own_behind base number (suc before) site other refl refl (is_behind design depth base (suc number) (suc before) items other has) in
      let across = λ (a b : Site) (in_it : Has a (below (suc before ∷ base))) (behind : Has b rest).
      let ends = ends_in design depth (suc before ∷ base) a in_it in
      below_behind base (suc number) before ends.0 a b ends.1 (is_behind design depth base (suc number) (suc before) items b behind) in (
        λ other has. ⊎_elim (of_inside other) (of_rest other) (Has-append other (below (suc before ∷ base)) rest has),
        apart_append (below (suc before ∷ base)) rest (deeper (suc before ∷ base)) (apart_items depth base deeper (suc number) (suc before) items) across,
      )

  apart_below : (depth : ℕ) (base : Path) → AreSitesOnce (sites_below design depth base)
  apart_below zero base = tt
  apart_below (suc depth) base = apart_items depth base (apart_below depth) 0 0 (items_of (model_at design base))

  -- no two sites of the design are of one item
  sites_apart : AreSitesOnce (sites design)
  unfolding sites
  sites_apart = apart_below (65 + length design.models) []

-- where no two are, the first place of an item is its place
first_site_of : (list : List Site) → AreSitesOnce list → (place : ℕ) (site : Site) → slice_get list place ≡ Some site
    → first_place (is_site_of site.path site.number) list ≡ Some place
first_site_of [] apart place site at = absurd (none-some site at)
first_site_of (first ∷ list) apart zero site at =
    let same : first ≡ site = same_Some first site at in
    let passes : is_site_of site.path site.number first ≡ true =
    subst (λ (s : Site). is_site_of site.path site.number s ≡ true) (sym same)
    (and_from (bytes_eq site.path site.path) (eqb site.number site.number) (name_same site.path) (eq-eqb site.number site.number refl)) in
    ap (λ (b : Bool). cond b (Some 0) (option_map (λ (at : ℕ). suc at) (first_place (is_site_of site.path site.number) list))) passes
first_site_of (first ∷ list) apart (suc place) site at =
    let fails : is_site_of site.path site.number first ≡ false =
    false_from_ne_true (is_site_of site.path site.number first) (λ passes.
    let parts = and_parts (bytes_eq first.path site.path) (eqb first.number site.number) passes in
    apart.0 site (Has-at site list place at) (same_name first.path site.path parts.0) (eqb-true first.number site.number parts.1)) in
    ap (λ (b : Bool). cond b (Some 0) (option_map (λ (at : ℕ). suc at) (first_place (is_site_of site.path site.number) list))) fails
    ∙ ap (option_map (λ (at : ℕ). suc at)) (first_site_of list apart.1 place site at)

-- so it is for the sites and the cells of a design
pub site_once : (design : Design) (place : ℕ) (site : Site) → slice_get (sites design) place ≡ Some site
    → place_of_site (sites design) site.path site.number ≡ Some place
site_once design place site at = first_site_of (sites design) (sites_apart design) place site at

pub cell_once : (design : Design) (place : ℕ) (site : Site) → slice_get (cells design) place ≡ Some site
    → place_of_site (cells design) site.path site.number ≡ Some place
cell_once design place site at = first_site_of (cells design) (apart_filter (λ (s : Site). is_cell s.item) (sites design) (sites_apart design)) place site at
