-- The nets of probes from their numbers, and the first probe that has none.
use Rattle.std.proofs.Common.{◌≡◌, ◌<◌, ◌+◌, ℕ, zero, suc, List, [], ◌∷◌, ◌++◌, length, map, take, drop, Option, Some, slice_get, refl, sym, ◌∙◌, ap, ap₂}
use Rattle.std.specs.List.{All, AllZip}
use Rattle.std.proofs.lemmas.List.{length-map, map-append}
use Rattle.std.proofs.lemmas.List.Elements.{All-nil, All-cons}
use Rattle.std.proofs.lemmas.Option.{none-some, same_Some}
use Rattle.vw_design.specs.declared.design.Design.{Design}
use Rattle.vw_design.specs.Paths.{Word, Net}
use Rattle.vw_design.specs.NetReads.{root_outputs}
use Rattle.vw_design.specs.Flattened.{number_of}
use Rattle.vw_design.specs.Probes.{FindAll, FindsNone, IsFirstWithoutNet, shown_nets}
use Rattle.vw_flat.specs.Steps.Numbers.{net_count}
use Rattle.vw_flat.specs.Steps.Searches.{HasNumberOf}

-- lists that go along are equally long
pub along : {A : Type 0} → (f : A → Option ℕ) (xs : List A) (ys : List ℕ) → map f xs ≡ map (λ y. Some y) ys → length xs ≡ length ys
along f xs ys are = sym (length-map xs f) ∙ ap (λ (list : List (Option ℕ)). length list) are ∙ length-map ys (λ (y : ℕ). Some y)

module _ (design : Design) where
  abbrev pub number_at : Net → Option ℕ
  number_at net = number_of design net.path net.name

  -- the nets that probes with such numbers find
  pub record HaveNets (probes : List Word) (numbers : List ℕ) : Type 0 where
    pub nets : List Net
    pub found : FindAll design probes nets
    pub are : map (λ net. number_of design net.path net.name) nets ≡ map (λ number. Some number) numbers
    pub fit : All (λ number. number < net_count design) numbers

  pub found_nets : (probes : List Word) (numbers : List ℕ) → AllZip (HasNumberOf design) probes numbers → HaveNets probes numbers
  found_nets [] [] all = record { nets = []; found = tt; are = refl; fit = All-nil (λ (number : ℕ). number < net_count design) }
  found_nets [] (number ∷ numbers) all = absurd all
  found_nets (probe ∷ probes) [] all = absurd all
  found_nets (probe ∷ probes) (number ∷ numbers) all =
      let rest = found_nets probes numbers all.1 in
      record {
        nets = all.0.net ∷ rest.nets;
        found = (all.0.finds, rest.found);
        are = ap₂ (λ (n : Option ℕ) (ns : List (Option ℕ)). n ∷ ns) all.0.is rest.are;
        fit = All-cons (λ (number : ℕ). number < net_count design) number numbers all.0.fits rest.fit;
      }

  -- the numbers of what is shown
  pub shown_numbers : (nets : List Net) (own watched outputs : List ℕ)
      → map (λ net. number_of design net.path net.name) (root_outputs design) ≡ map (λ number. Some number) own
      → map (λ net. number_of design net.path net.name) nets ≡ map (λ number. Some number) watched → outputs ≡ own ++ watched
      → map (λ net. number_of design net.path net.name) (shown_nets design nets) ≡ map (λ number. Some number) outputs
  shown_numbers nets own watched outputs are watched_are is =
      map-append number_at (root_outputs design) nets ∙ ap₂ (λ (ns ms : List (Option ℕ)). ns ++ ms) are watched_are
      ∙ sym (map-append (λ (number : ℕ). Some number) own watched) ∙ ap (map (λ (number : ℕ). Some number)) (sym is)

  -- a list cut at one of its elements
  cut_at : (probes : List Word) (place : ℕ) (probe : Word) → slice_get probes place ≡ Some probe → probes ≡ take place probes ++ probe ∷ drop (suc place) probes
  cut_at [] place probe is = absurd (none-some probe is)
  cut_at (first ∷ probes) zero probe is = ap (λ (p : Word). p ∷ probes) (same_Some first probe is)
  cut_at (first ∷ probes) (suc place) probe is = ap (λ (ps : List Word). first ∷ ps) (cut_at probes place probe is)

  -- a probe that finds none, behind some that find theirs
  pub first_without : (probes : List Word) (place : ℕ) (probe : Word) (numbers : List ℕ) → slice_get probes place ≡ Some probe
      → AllZip (HasNumberOf design) (take place probes) numbers → FindsNone design probe → IsFirstWithoutNet design probes probe
  first_without probes place probe numbers at all none =
      let found = found_nets (take place probes) numbers all in
      record { before = take place probes; behind = drop (suc place) probes; split = cut_at probes place probe at; nets = found.nets; found = found.found; none = none }
