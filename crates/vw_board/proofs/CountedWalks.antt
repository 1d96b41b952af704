-- Walks counted link by link.
use Rattle.std.proofs.Common.{◌≡◌, ◌<◌, ◌+◌, ◌&&◌, ◌||◌, ◌==◌, ℕ, suc, Bool, false, List, [], ◌∷◌, ◌++◌, length, take, drop, get_or, slice_index_or, Option, Some, None, if◌then◌else◌, ap, ap₂, refl, sym, subst, ◌∙◌, add-one, All}
use Rattle.std.specs.Option.{option_or}
use Rattle.std.specs.List.{list_any}
use Rattle.std.proofs.Math.Seq.{take-append_seam}
use Rattle.std.proofs.lemmas.List.Elements.{All-head, All-tail}
use Rattle.vw_plan.specs.declared.link.Link.{Link}
use Rattle.vw_plan.specs.Distance.{has_walk}
use Rattle.vw_board.specs.Steps.Tables.{AreNodeLinks, IsOneLinkMore, Notes, HaveWalks, HaveLeast, first_below}

-- two tests that agree on each element agree on whether there is one that passes
list_any_agree : {A : Type 0} (one other : A → Bool) (xs : List A) → All (λ x. one x ≡ other x) xs → list_any one xs ≡ list_any other xs
list_any_agree one other [] agree = refl
list_any_agree one other (x ∷ xs) agree =
    let here : one x ≡ other x = All-head (λ y. one y ≡ other y) x xs agree in
    let rest : All (λ y. one y ≡ other y) xs = All-tail (λ y. one y ≡ other y) x xs agree in
    ap₂ (λ (first more : Bool). first || more) here (list_any_agree one other xs rest)

-- one link before walks of some number of links makes walks of one link more
pub walks_more : (links : List Link) (nodes count to : ℕ) (walks more : List Bool) → AreNodeLinks nodes links → HaveWalks links nodes count to walks → IsOneLinkMore links walks more → HaveWalks links nodes (count + 1) to more
walks_more links nodes count to walks more within have one_more = record { each = one_more.each ∙ have.each; walk = walk } where
  agree : (from : ℕ) → All (λ link. (link.from == from && slice_index_or walks link.to false) ≡ (link.from == from && has_walk links count link.to to)) links
  agree from place default inside = ap (λ (leads : Bool). (get_or links place default).from == from && leads) (have.walk (get_or links place default).to (within place default inside).1)

  walk : (from : ℕ) → from < nodes → slice_index_or more from false ≡ has_walk links (count + 1) from to
  walk from from_node =
      let all : list_any (λ link. link.from == from && slice_index_or walks link.to false) links ≡ has_walk links (suc count) from to = list_any_agree (λ link. link.from == from && slice_index_or walks link.to false) (λ link. link.from == from && has_walk links count link.to to) links (agree from) in
      one_more.leads from (subst (λ (size : ℕ). from < size) (sym have.each) from_node) ∙ rw add-one all

-- what was noted of walks of fewer links, and what is noted of walks of this number
pub least_more : (links : List Link) (nodes count to : ℕ) (walks : List Bool) (old new : List (Option ℕ)) → HaveLeast links nodes count to old → HaveWalks links nodes count to walks → Notes old walks count new → HaveLeast links nodes (count + 1) to new
least_more links nodes count to walks old new least have notes = record { each = notes.each ∙ least.each; number = number } where
  number : (from : ℕ) → from < nodes → slice_index_or new from None ≡ first_below (λ links_. has_walk links links_ from to) (count + 1)
  number from from_node =
      let noted = notes.noted from (subst (λ (size : ℕ). from < size) (sym least.each) from_node) in
      let both : option_or (slice_index_or old from None) (if slice_index_or walks from false then Some count else None) ≡ first_below (λ links_. has_walk links links_ from to) (suc count) = ap₂ (λ (before : Option ℕ) (leads : Bool). option_or before (if leads then Some count else None)) (least.number from from_node) (have.walk from from_node) in
      noted ∙ rw add-one both

-- a slice that was written back keeps its length, so nothing of the old one is left
pub written_back : {A : Type 0} (size : ℕ) (new old : List A) → length new ≡ length old → length old ≡ size → take size (new ++ drop (length new) old) ≡ new
written_back size new old same is = subst (λ (n : ℕ). take n (new ++ drop (length new) old) ≡ new) (same ∙ is) (take-append_seam new (drop (length new) old))
