-- One step of the search for the net of a probe: here, or one instance deeper.
use Rattle.std.proofs.Common.{◌≡◌, ◌<◌, ◌+◌, ℕ, true, List, [], ◌∷◌, ◌++◌, reverse, length, length-append, append-nil, Option, Some, None, slice_get, Contains, refl, sym, ◌∙◌, ap, subst, arith}
use Rattle.std.specs.Fmt.{decimal}
use Rattle.std.specs.Str.{bytes_eq}
use Rattle.std.proofs.lemmas.List.{reverse-reverse, length-reverse}
use Rattle.std.proofs.lemmas.Option.{none-some, same_Some}
use Rattle.vw_design.specs.declared.design.Design.{Design}
use Rattle.vw_design.specs.declared.model.Model.{Model}
use Rattle.vw_design.specs.Paths.{Word, Path, model_at}
use Rattle.vw_design.specs.Preorder.{instances}
use Rattle.vw_design.specs.PathValue.{place_of_path}
use Rattle.vw_design.specs.Drivers.{driver}
use Rattle.vw_design.specs.Probes.{has_bit}
use Rattle.vw_design.specs.Flattened.{number_of}
use Rattle.vw_design.specs.Accepted.{IsAccepted}
use Rattle.vw_design.proofs.ListElements.{Has, Has-Contains, at-place, some-place}
use Rattle.vw_design.proofs.Names.{same_name, equal_names}
use Rattle.vw_design.proofs.PlacedInstances.{faultless_listed}
use Rattle.vw_design.proofs.WatchedNets.{number_of_bit, bit_of_number}
use Rattle.vw_flat.specs.Steps.Numbers.{net_count}
use Rattle.vw_flat.specs.Steps.Searches.{printed_below, path_below, HasBitBelow, FindsBelow, FindsNoneBelow, IsFoundBelow, IsNumberOf, BeginsWithPlace, BeginsWithNone}
use Rattle.vw_flat.proofs.PlacesInFront.{one_place}
use Rattle.vw_flat.proofs.NetsBelow.{path_deeper, printed_deeper, place_of_bit, bit_deeper, few, below_root}

module _ (design : Design) where
  -- the search has come to an instance with what is left of the word: what it finds from there on, it finds
  pub record IsOnTheWay (probe : Word) (instance : ℕ) (word : Word) : Type 0 where
    pub path : Path
    pub at : slice_get (instances design) instance ≡ Some path
    pub further : (found : Option ℕ) → IsFoundBelow design path word found → IsFoundBelow design [] probe found

  pub at_root : (probe : Word) → IsOnTheWay probe 0 probe
  at_root probe = record { path = []; at = refl; further = λ found is. is }

module _ (design : Design) (accepted : IsAccepted design) where
  -- a net of the instance itself
  pub found_here : (path : Path) (word : Word) (number : ℕ) → number_of design path word ≡ Some number → number < net_count design
      → FindsBelow design path word number
  found_here path word number is fits = record { places = []; name = word; prints = refl; is = is; fits = fits; first = λ others other prints bit. omega arith }

  pub number_fits : (path : Path) (word : Word) (number : ℕ) → number_of design path word ≡ Some number → number < net_count design
  number_fits path word number is =
      let at = number_of_bit design accepted path word (bit_of_number design path word number is) in
      subst (λ (n : ℕ). n < net_count design) (same_Some at.0 number (sym at.1 ∙ is)) at.2

  -- where it has none, a net that is printed like this is deeper
  no_bit : (path : Path) (word : Word) → number_of design path word ≡ None → has_bit design (driver design path word) ≡ true → ⊥
  no_bit path word none bit = let at = number_of_bit design accepted path word bit in none-some at.0 (sym none ∙ at.1)

  record IsDeeper (path : Path) (word : Word) (places : List ℕ) (name : Word) : Type 0 where
    place : ℕ
    rest : List ℕ
    split : places ≡ place ∷ rest
    front : BeginsWithPlace word place (printed_below rest name)
    model : Model
    stands : model_at design (place ∷ path) ≡ Some model
    bit : HasBitBelow design (place ∷ path) rest name

  deeper : (path : Path) (word : Word) → number_of design path word ≡ None → (places : List ℕ) (name : Word)
      → printed_below places name ≡ word → HasBitBelow design path places name → IsDeeper path word places name
  deeper path word none [] name prints bit = absurd (no_bit path word none (subst (λ (w : Word). has_bit design (driver design path w) ≡ true) prints bit))
  deeper path word none (place ∷ rest) name prints bit =
      let at = place_of_bit design path place rest name bit in
      record {
        place = place;
        rest = rest;
        split = refl;
        front = record { split = sym prints ∙ printed_deeper place rest name; fits = few design accepted place path at.0 at.1 };
        model = at.0;
        stands = at.1;
        bit = bit_deeper design path place rest name bit;
      }

  -- no place stands in front of the word
  pub none_without_place : (path : Path) (word : Word) → number_of design path word ≡ None → BeginsWithNone word → FindsNoneBelow design path word
  none_without_place path word none plain places name prints bit =
      let next = deeper path word none places name prints bit in plain next.place (printed_below next.rest name) next.front

  -- the instance has no such place
  pub none_without_child : (path : Path) (word : Word) → number_of design path word ≡ None → (place : ℕ) (rest : List ℕ) → BeginsWithPlace word place rest
      → place_of_path (instances design) (place ∷ path) ≡ None → FindsNoneBelow design path word
  none_without_child path word none place rest front no_child places name prints bit =
      let next = deeper path word none places name prints bit in
      let same = one_place next.place place (printed_below next.rest name) rest (omega (arith, next.front.fits)) (omega (arith, front.fits)) (sym next.front.split ∙ front.split) in
      let stands : model_at design (place ∷ path) ≡ Some next.model = ap (λ (p : ℕ). model_at design (p ∷ path)) (sym same.0) ∙ next.stands in
      let listed = Has-Contains (place ∷ path) (instances design) (faultless_listed design accepted.models (place ∷ path) next.model stands) in
      let at = some-place (λ (other : Path). bytes_eq other (place ∷ path)) (place ∷ path) (instances design) listed (equal_names (place ∷ path) (place ∷ path) refl) in
      none-some at.0 (sym no_child ∙ at.1)

  -- the child is the instance at the place
  pub child_is : (path : Path) (place child : ℕ) → place_of_path (instances design) (place ∷ path) ≡ Some child
      → slice_get (instances design) child ≡ Some (place ∷ path)
  child_is path place child is =
      let at = at-place (λ (other : Path). bytes_eq other (place ∷ path)) (instances design) child is in
      at.1 ∙ ap (λ (p : Path). Some p) (same_name at.0 (place ∷ path) at.2)

  -- what is found one instance deeper is found here
  pub found_deeper : (path : Path) (word : Word) → number_of design path word ≡ None → (place : ℕ) (rest : List ℕ) → BeginsWithPlace word place rest
      → (found : Option ℕ) → IsFoundBelow design (place ∷ path) rest found → IsFoundBelow design path word found
  found_deeper path word none place rest front None found = λ places name prints bit.
      let next = deeper path word none places name prints bit in
      let same = one_place next.place place (printed_below next.rest name) rest (omega (arith, next.front.fits)) (omega (arith, front.fits)) (sym next.front.split ∙ front.split) in
      found next.rest name same.1 (subst (λ (p : ℕ). HasBitBelow design (p ∷ path) next.rest name) same.0 next.bit)
  found_deeper path word none place rest front (Some number) found = record {
    places = place ∷ found.places;
    name = found.name;
    prints = printed_deeper place found.places found.name ∙ ap (λ (more : List ℕ). decimal place ++ 47 ∷ more) found.prints ∙ sym front.split;
    is = ap (λ (p : Path). number_of design p found.name) (path_deeper path place found.places) ∙ found.is;
    fits = found.fits;
    first = λ others other prints bit.
        let next = deeper path word none others other prints bit in
        let same = one_place next.place place (printed_below next.rest other) rest (omega (arith, next.front.fits)) (omega (arith, front.fits)) (sym next.front.split ∙ front.split) in
        let least = found.first next.rest other same.1 (subst (λ (p : ℕ). HasBitBelow design (p ∷ path) next.rest other) same.0 next.bit) in
        omega (arith, least, ap (λ (list : List ℕ). length list) next.split);
  }

  pub on_deeper : (probe : Word) (instance : ℕ) (word : Word) (on : IsOnTheWay design probe instance word) → number_of design on.path word ≡ None
      → (place : ℕ) (rest : List ℕ) → BeginsWithPlace word place rest → (child : ℕ)
      → Some child ≡ place_of_path (instances design) (place ∷ on.path) → IsOnTheWay design probe child rest
  on_deeper probe instance word on none place rest front child is = record {
    path = place ∷ on.path;
    at = child_is on.path place child (sym is);
    further = λ found below. on.further found (found_deeper on.path word none place rest front found below);
  }

  pub word_shorter : (word rest : List ℕ) (place : ℕ) → BeginsWithPlace word place rest → length rest < length word
  word_shorter word rest place front =
      omega (arith, ap (λ (list : List ℕ). length list) front.split, length-append (decimal place) (47 ∷ rest))

  -- from the root on, it is the net of the probe
  pub found_from_root : (probe : Word) (found : Option ℕ) → IsFoundBelow design [] probe found → IsNumberOf design probe found
  found_from_root probe None none = λ net printed_as. none (reverse net.path) net.name printed_as.is (below_root design net printed_as.bit)
  found_from_root probe (Some number) found =
      let path : path_below [] found.places ≡ reverse found.places = append-nil (reverse found.places) in
      let numbered : number_of design (reverse found.places) found.name ≡ Some number = ap (λ (p : Path). number_of design p found.name) (sym path) ∙ found.is in
      record {
        net = record { path = reverse found.places; name = found.name };
        finds = record {
          printed_as = record {
            is = ap (λ (places : List ℕ). printed_below places found.name) (reverse-reverse found.places) ∙ found.prints;
            bit = bit_of_number design (reverse found.places) found.name number numbered;
          };
          shortest = λ other printed_as.
              let least = found.first (reverse other.path) other.name printed_as.is (below_root design other printed_as.bit) in
              omega (arith, least, length-reverse found.places, length-reverse other.path);
        };
        is = numbered;
        fits = found.fits;
      }
