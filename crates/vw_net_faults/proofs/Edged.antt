-- Latches by the types that they write.
use Rattle.std.proofs.Common.{◌≡◌, ◌+◌, ℕ, Bool, true, false, not, cond, List, [], ◌∷◌, drop, Option, Some, None, is_some, slice_get, find, filter, filter_map, option_map, refl, sym, ◌∙◌, ap, ap₂, subst, true≢false}
use Rattle.std.specs.Prelude.{option_to_list}
use Rattle.std.specs.List.{cons_option}
use Rattle.std.specs.Option.{option_or}
use Rattle.std.proofs.lemmas.Option.{same_Some}
use Rattle.vw_instances.specs.declared.tables.CellSite.{CellSite}
use Rattle.vw_design.specs.declared.design.Design.{Design}
use Rattle.vw_design.specs.declared.item.Edge.{Edge}
use Rattle.vw_design.specs.declared.item.Edge.TheVariants.{Rise, Fall, Unsaid}
use Rattle.vw_design.specs.declared.item.Item.{Item}
use Rattle.vw_design.specs.declared.item.Item.TheVariants.{Names, Latch, Sub}
use Rattle.vw_design.specs.NetFaults.{Edged, edge_at, same_edge, first_unlike, several_edges}
use Rattle.vw_design.specs.Paths.{Word, Path, printed}
use Rattle.vw_design.specs.Preorder.{Site, is_cell, is_latch_item, instances, sites, cells, latches}
use Rattle.vw_net_faults.specs.declared.edges.Typed.{Typed}
use Rattle.vw_net_faults.specs.Steps.Edges.{IsTyped, other_edge, first_other}
use Rattle.vw_net_faults.specs.Nets.{latches_pair}
use Rattle.vw_net_faults.proofs.CellSearches.{IsHere}

abbrev pub typed_of : List Site → List Edged
typed_of list = filter_map (λ site. edge_at site.path site.item) list

module _ (edge : Edge) where
  abbrev pub other_of : List Site → Option Edged
  other_of list = find (λ latch. not (same_edge edge latch.edge)) (typed_of list)

  one_first : (latch : Option Edged) (rest : List Edged)
      → find (λ latch. not (same_edge edge latch.edge)) (cons_option latch rest)
      ≡ option_or (find (λ latch. not (same_edge edge latch.edge)) (option_to_list latch)) (find (λ latch. not (same_edge edge latch.edge)) rest)
  one_first None rest = refl
  one_first (Some latch) rest = by (not (same_edge edge latch.edge)) where
    by : (b : Bool)
        → cond b (Some latch) (find (λ (l : Edged). not (same_edge edge l.edge)) rest) ≡ option_or (cond b (Some latch) None) (find (λ (l : Edged). not (same_edge edge l.edge)) rest)
    by true = refl
    by false = refl

  pub of_site : (site : Site) (list : List Site) → other_of (site ∷ list) ≡ option_or (other_edge edge site.path site.item) (other_of list)
  of_site site list = one_first (edge_at site.path site.item) (typed_of list)

module _ (design : Design) where
  -- what an answer says of what is looked for
  pub typed_some : (latch : Option Edged) (found : Typed) → IsTyped design latch (Some found)
      → (is : Edged) × (latch ≡ Some is) × IsTyped design (Some is) (Some found)
  typed_some None found typed = absurd typed
  typed_some (Some latch) found typed = (latch, refl, typed)

  pub typed_none : (latch : Option Edged) → IsTyped design latch None → latch ≡ None
  typed_none None typed = refl
  typed_none (Some latch) typed = absurd typed

  typed_first : (one other : Option Edged) (found : Option Typed) → is_some found ≡ true → IsTyped design one found → IsTyped design (option_or one other) found
  typed_first None other None some typed = absurd (true≢false (sym some))
  typed_first None other (Some found) some typed = absurd typed
  typed_first (Some one) other found some typed = typed

  first_none : (one other : Option Edged) (found : Option Typed) → is_some found ≡ false → IsTyped design one found → option_or one other ≡ other
  first_none None other found none typed = refl
  first_none (Some one) other None none typed = absurd typed
  first_none (Some one) other (Some found) none typed = absurd (true≢false none)

  module _ (edge : Edge) (i : ℕ) (cell : CellSite) (is : IsHere design i cell) (far : other_of edge (drop i (cells design)) ≡ first_other design edge) (found : Option Typed) (typed : IsTyped design (other_edge edge is.site.path is.site.item) found) where
    pub typed_here : is_some found ≡ true → IsTyped design (first_other design edge) found
    typed_here some =
        subst (λ (latch : Option Edged). IsTyped design latch found) (sym (of_site edge is.site (drop (i + 1) (cells design))) ∙ sym (ap (other_of edge) is.cut) ∙ far)
        (typed_first (other_edge edge is.site.path is.site.item) (other_of edge (drop (i + 1) (cells design))) found some typed)

    pub no_type_here : is_some found ≡ false → other_of edge (drop (i + 1) (cells design)) ≡ first_other design edge
    no_type_here none =
        sym (first_none (other_edge edge is.site.path is.site.item) (other_of edge (drop (i + 1) (cells design))) found none typed)
        ∙ sym (of_site edge is.site (drop (i + 1) (cells design))) ∙ sym (ap (other_of edge) is.cut) ∙ far

-- only latches write types
latches_alone : (list : List Site) → typed_of (filter (λ site. is_latch_item site.item) list) ≡ typed_of (filter (λ site. is_cell site.item) list)
latches_alone [] = refl
latches_alone (site ∷ list) = by site.path site.item site refl refl (latches_alone list) where
  by : (path : Path) (item : Item) (site : Site) → site.path ≡ path → site.item ≡ item
      → typed_of (filter (λ (s : Site). is_latch_item s.item) list) ≡ typed_of (filter (λ (s : Site). is_cell s.item) list)
      → typed_of (cond (is_latch_item item) (site ∷ filter (λ (s : Site). is_latch_item s.item) list) (filter (λ (s : Site). is_latch_item s.item) list))
      ≡ typed_of (cond (is_cell item) (site ∷ filter (λ (s : Site). is_cell s.item) list) (filter (λ (s : Site). is_cell s.item) list))
  by path (Names line ins out cover) site here is rest =
      rest ∙ sym (ap₂ (λ (p : Path) (x : Item). cons_option (edge_at p x) (typed_of (filter (λ (s : Site). is_cell s.item) list))) here is)
  by path (Latch line d q edge control init) site here is rest = ap (cons_option (edge_at site.path site.item)) rest
  by path (Sub line model binds) site here is rest = rest

same_types : (design : Design) → typed_of (latches design) ≡ typed_of (cells design)
same_types design = latches_alone (sites design)

-- any type is another one than none
abbrev is_written : Edged → Bool
is_written latch = not (same_edge Unsaid latch.edge)

first_written : (list : List Site) → find is_written (typed_of list) ≡ slice_get (typed_of list) 0
first_written [] = refl
first_written (site ∷ list) = by site.item (first_written list) where
  by : (item : Item) → find is_written (typed_of list) ≡ slice_get (typed_of list) 0
      → find is_written (cons_option (edge_at site.path item) (typed_of list)) ≡ slice_get (cons_option (edge_at site.path item) (typed_of list)) 0
  by (Names line ins out cover) rest = rest
  by (Latch line d q Rise control init) rest = refl
  by (Latch line d q Fall control init) rest = refl
  by (Latch line d q Unsaid control init) rest = rest
  by (Sub line model binds) rest = rest

alike : (edge : Edge) → same_edge edge edge ≡ true
alike Rise = refl
alike Fall = refl
alike Unsaid = refl

abbrev same_type : Edged → Edged → Bool
same_type one other = same_edge one.edge other.edge

unlike_none : (list : List Edged) → slice_get list 0 ≡ None → first_unlike same_type list ≡ None
unlike_none [] none = refl
unlike_none (latch ∷ list) none = cc

unlike_some : (list : List Edged) (first : Edged) → slice_get list 0 ≡ Some first → first_unlike same_type list ≡ option_map (λ other. record { first = first; other = other }) (find (λ other. not (same_type first other)) list)
unlike_some [] first some = cc
unlike_some (latch ∷ list) first some =
    let is : latch ≡ first = same_Some latch first some in
    sym (ap (λ (b : Bool). option_map (λ (other : Edged). record { first = latch; other = other }) (cond (not b) (Some latch) (find (λ (other : Edged). not (same_type latch other)) list))) (alike latch.edge))
    ∙ ap (λ (f : Edged). option_map (λ (other : Edged). record { first = f; other = other }) (find (λ (other : Edged). not (same_type f other)) (latch ∷ list))) is

module _ (design : Design) where
  abbrev IsText : Typed → Word → Type 0
  IsText found text = (path : Path) → slice_get (instances design) found.instance ≡ Some path → text ≡ printed (record { path = path; name = found.q.now })

  by_cells : several_edges design ≡ first_unlike same_type (typed_of (cells design))
  by_cells = ap (first_unlike same_type) (same_types design)

  text_is : (latch : Edged) (found : Typed) (text : Word) → IsTyped design (Some latch) (Some found) → ((path : Path) → slice_get (instances design) found.instance ≡ Some path → text ≡ printed (record { path = path; name = found.q.now })) → text ≡ printed latch.net
  text_is latch found text typed is = is latch.net.path typed.0 ∙ ap (λ (w : Word). printed (record { path = latch.net.path; name = w })) typed.1

  pub no_types : IsTyped design (first_other design Unsaid) None → None ≡ latches_pair (several_edges design)
  no_types none =
      sym (ap latches_pair (by_cells ∙ unlike_none (typed_of (cells design)) (sym (first_written (cells design)) ∙ typed_none design (first_other design Unsaid) none)))

  module _ (first : Typed) (typed : IsTyped design (first_other design Unsaid) (Some first)) where
    abbrev latch : (is : Edged) × (first_other design Unsaid ≡ Some is) × IsTyped design (Some is) (Some first)
    latch = typed_some design (first_other design Unsaid) first typed

    unlike_is : several_edges design ≡ option_map (λ other. record { first = latch.0; other = other }) (first_other design first.edge)
    unlike_is =
        by_cells ∙ unlike_some (typed_of (cells design)) latch.0 (sym (first_written (cells design)) ∙ latch.1)
        ∙ ap (λ (e : Edge). option_map (λ (other : Edged). record { first = latch.0; other = other }) (first_other design e)) (sym latch.2.2)

    pub one_type : IsTyped design (first_other design first.edge) None → None ≡ latches_pair (several_edges design)
    one_type none = sym (ap latches_pair (unlike_is ∙ ap (option_map (λ (other : Edged). record { first = latch.0; other = other })) (typed_none design (first_other design first.edge) none)))

    pub two_types : (other : Typed) → IsTyped design (first_other design first.edge) (Some other) → (one two : Word)
        → ((path : Path) → slice_get (instances design) first.instance ≡ Some path → one ≡ printed (record { path = path; name = first.q.now }))
        → ((path : Path) → slice_get (instances design) other.instance ≡ Some path → two ≡ printed (record { path = path; name = other.q.now }))
        → Some (record { first = one; other = two }) ≡ latches_pair (several_edges design)
    two_types other second one two one_is two_is =
        let found = typed_some design (first_other design first.edge) other second in
        ap₂ (λ (a b : Word). Some (record { first = a; other = b })) (text_is latch.0 first one latch.2 one_is) (text_is found.0 other two found.2 two_is)
        ∙ sym (ap latches_pair (unlike_is ∙ ap (option_map (λ (o : Edged). record { first = latch.0; other = o })) found.1))
