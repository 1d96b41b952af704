-- Nets below an instance, and how they are printed.
use Rattle.std.proofs.Common.{◌≡◌, ◌<◌, ◌+◌, ◌^◌, ℕ, true, List, [], ◌∷◌, ◌++◌, reverse, length, append_assoc, append-nil, Option, Some, None, codes, flat_map, refl, sym, ◌∙◌, ap, ap₂, subst, arith}
use Rattle.std.specs.Prelude.{option_and_then}
use Rattle.std.specs.Fmt.{decimal}
use Rattle.std.proofs.lemmas.List.{reverse-append, reverse-reverse, length-reverse}
use Rattle.std.proofs.lemmas.Option.{none-some}
use Rattle.vw_design.specs.declared.design.Design.{Design}
use Rattle.vw_design.specs.declared.model.Model.{Model}
use Rattle.vw_design.specs.Paths.{Word, Path, Net, model_placed, model_at}
use Rattle.vw_design.specs.Drivers.{driver}
use Rattle.vw_design.specs.Probes.{has_bit, Finds}
use Rattle.vw_design.specs.Accepted.{IsAccepted}
use Rattle.vw_design.proofs.FewPlaces.{place_few}
use Rattle.vw_design.proofs.WatchedNets.{bit_of_instance}
use Rattle.vw_flat.specs.Steps.Searches.{printed_below, path_below, HasBitBelow}
use Rattle.vw_flat.proofs.PlacesInFront.{one_place}

-- one place more
pub path_deeper : (path : Path) (place : ℕ) (places : List ℕ) → path_below path (place ∷ places) ≡ path_below (place ∷ path) places
path_deeper path place places =
    ap (λ (front : List ℕ). front ++ path) (reverse-append (place ∷ []) places) ∙ append_assoc (reverse places) (place ∷ []) path

pub printed_deeper : (place : ℕ) (places : List ℕ) (name : Word) → printed_below (place ∷ places) name ≡ decimal place ++ 47 ∷ printed_below places name
printed_deeper place places name =
    append_assoc (decimal place ++ codes "/") (flat_map (λ (p : ℕ). decimal p ++ codes "/") places) name
    ∙ append_assoc (decimal place) (codes "/") (printed_below places name)

module _ (design : Design) where
  -- what stands above an instance is an instance
  pub instance_above : (places : List ℕ) (path : Path) (model : Model) → model_at design (places ++ path) ≡ Some model
      → (upper : Model) × (model_at design path ≡ Some upper)
  instance_above [] path model stands = (model, stands)
  instance_above (place ∷ places) path model stands = by (model_at design (places ++ path)) refl stands (instance_above places path) where
    by : (found : Option Model) → model_at design (places ++ path) ≡ found → option_and_then (model_placed design place) found ≡ Some model
        → ((next : Model) → model_at design (places ++ path) ≡ Some next → (upper : Model) × (model_at design path ≡ Some upper))
        → (upper : Model) × (model_at design path ≡ Some upper)
    by None is placed above = absurd (none-some model placed)
    by (Some next) is placed above = above next is

  -- a net with a bit is in an instance, and so is what stands above it
  pub place_of_bit : (path : Path) (place : ℕ) (places : List ℕ) (name : Word) → HasBitBelow design path (place ∷ places) name
      → (model : Model) × (model_at design (place ∷ path) ≡ Some model)
  place_of_bit path place places name bit =
      let at = bit_of_instance design (path_below path (place ∷ places)) name bit in
      instance_above (reverse places) (place ∷ path) at.0 (ap (model_at design) (sym (path_deeper path place places)) ∙ at.1)

  pub bit_deeper : (path : Path) (place : ℕ) (places : List ℕ) (name : Word) → HasBitBelow design path (place ∷ places) name
      → HasBitBelow design (place ∷ path) places name
  bit_deeper path place places name bit = subst (λ (p : Path). has_bit design (driver design p name) ≡ true) (path_deeper path place places) bit

  module _ (accepted : IsAccepted design) where
    pub few : (place : ℕ) (path : Path) (model : Model) → model_at design (place ∷ path) ≡ Some model → place < 2 ^ 32
    few place path model stands = omega (arith, place_few design accepted.models place path model stands, accepted.models.small.instances)

    -- nets with a bit and equally many places that are printed alike are one
    pub printed_once : (path : Path) (places others : List ℕ) (name other : Word) → HasBitBelow design path places name → HasBitBelow design path others other
        → length places ≡ length others → printed_below places name ≡ printed_below others other → (places ≡ others) × (name ≡ other)
    printed_once path [] [] name other bit its long same = (refl, same)
    printed_once path [] (next ∷ others) name other bit its long same = absurd (omega (arith, long))
    printed_once path (place ∷ places) [] name other bit its long same = absurd (omega (arith, long))
    printed_once path (place ∷ places) (next ∷ others) name other bit its long same =
        let at = place_of_bit path place places name bit in
        let there = place_of_bit path next others other its in
        let small = few place path at.0 at.1 in
        let fits = few next path there.0 there.1 in
        let cut = one_place place next (printed_below places name) (printed_below others other) (omega (arith, small)) (omega (arith, fits))
        (sym (printed_deeper place places name) ∙ same ∙ printed_deeper next others other) in
        let bit_there : HasBitBelow design (next ∷ path) places name = subst (λ (p : ℕ). HasBitBelow design (p ∷ path) places name) cut.0 (bit_deeper path place places name bit) in
        let rest = printed_once (next ∷ path) places others name other bit_there (bit_deeper path next others other its) (omega (arith, long)) cut.1 in
        (ap₂ (λ (p : ℕ) (ps : List ℕ). p ∷ ps) cut.0 rest.0, rest.1)

-- the root's nets
pub below_root : (design : Design) (net : Net) → has_bit design (driver design net.path net.name) ≡ true → HasBitBelow design [] (reverse net.path) net.name
below_root design net bit =
    subst (λ (p : Path). has_bit design (driver design p net.name) ≡ true) (sym (append-nil (reverse (reverse net.path)) ∙ reverse-reverse net.path)) bit

-- a probe finds one net
pub finds_once : (design : Design) → IsAccepted design → (probe : Word) (net other : Net) → Finds design probe net → Finds design probe other → net ≡ other
finds_once design accepted probe net other finds its =
    let one = finds.shortest other its.printed_as in
    let two = its.shortest net finds.printed_as in
    let long : length (reverse net.path) ≡ length (reverse other.path) = omega (arith, one, two, length-reverse net.path, length-reverse other.path) in
    let same = printed_once design accepted [] (reverse net.path) (reverse other.path) net.name other.name (below_root design net finds.printed_as.bit) (below_root design other its.printed_as.bit) long
    (finds.printed_as.is ∙ sym its.printed_as.is) in
    let paths : net.path ≡ other.path = sym (reverse-reverse net.path) ∙ ap reverse same.0 ∙ reverse-reverse other.path in
    ap₂ (λ (p : Path) (n : Word). record { path = p; name = n }) paths same.1
