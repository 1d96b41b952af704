-- Numbers that are flagged, and names by their numbers.
use Rattle.std.proofs.Common.{◌≡◌, ◌<◌, ◌≤◌, ◌==◌, ◌||◌, ◌+◌, ℕ, Bool, true, false, List, [], ◌∷◌, ◌++◌, length, take, get_or, set, Option, Some, None, slice_get, filter_map, map, find, refl, sym, ◌∙◌, ap, ap₂, true≢false, arith}
use Rattle.std.specs.List.{cons_option}
use Rattle.std.specs.Option.{option_or}
use Rattle.std.specs.Str.{bytes_eq}
use Rattle.std.proofs.lemmas.Bool.{eq-eqb, eqb-true}
use Rattle.std.proofs.lemmas.List.{take_more}
use Rattle.std.proofs.lemmas.List.Folds.{list_any-append, find-append}
use Rattle.std.proofs.lemmas.List.Elements.{filter_map-append}
use Rattle.std.proofs.lemmas.Option.{slice_get_within}
use Rattle.std.proofs.Math.Bool.{or-true, or-false}
use Rattle.vw_net.specs.Order.{is_among}
use Rattle.vw_design.specs.declared.design.Design.{Design}
use Rattle.vw_design.specs.declared.model.Model.{Model}
use Rattle.vw_design.specs.Distinct.{has_name}
use Rattle.vw_design.specs.Paths.{Word, model_at}
use Rattle.vw_design.specs.Clocks.{inputs_of, clocks_of, control_ports, clock_ports}
use Rattle.vw_design.proofs.ListElements.{from-find, some-find, at-place}
use Rattle.vw_design.proofs.Names.{same_name, Has-has_name}
use Rattle.vw_design.proofs.ListPlaces.{set_here, set_elsewhere}
use Rattle.vw_drivers.specs.Firsts.{First, number_named}
use Rattle.vw_drivers.proofs.ClaimLookups.{one_name}
use Rattle.vw_net_faults.specs.Steps.Ports.{is_found_number, root_ports}
use Rattle.vw_net_faults.proofs.PortNumbers.{somes, same_numbers}

-- one more number
module _ (numbers : List ℕ) (i : ℕ) (within : i < length numbers) where
  more : (k : ℕ) → is_among (take (i + 1) numbers) k ≡ (is_among (take i numbers) k || (get_or numbers i 0 == k || false))
  more k =
      ap (λ (list : List ℕ). is_among list k) (take_more numbers i 0 within) ∙ list_any-append (λ (other : ℕ). other == k) (take i numbers) (get_or numbers i 0 ∷ [])

  pub flagged_here : (clock_flags : List Bool) (count : ℕ) → length clock_flags ≡ count
      → ((k : ℕ) → k < count → slice_get clock_flags k ≡ Some (is_among (take i numbers) k)) → get_or numbers i 0 < count
      → (k : ℕ) → k < count → slice_get (set clock_flags (get_or numbers i 0) true) k ≡ Some (is_among (take (i + 1) numbers) k)
  flagged_here clock_flags count long flagged low k below = by (get_or numbers i 0 == k) refl where
    by : (b : Bool) → (get_or numbers i 0 == k) ≡ b → slice_get (set clock_flags (get_or numbers i 0) true) k ≡ Some (is_among (take (i + 1) numbers) k)
    by true same =
        let is = eqb-true (get_or numbers i 0) k same in
        ap (slice_get (set clock_flags (get_or numbers i 0) true)) (sym is) ∙ set_here clock_flags (get_or numbers i 0) true (omega arith)
        ∙ ap (λ (b : Bool). Some b) (sym (more k ∙ ap (λ (b : Bool). is_among (take i numbers) k || (b || false)) same ∙ or-true (is_among (take i numbers) k)))
    by false differ =
        set_elsewhere clock_flags (get_or numbers i 0) k true (λ is. true≢false (sym (eq-eqb (get_or numbers i 0) k (sym is)) ∙ differ)) ∙ flagged k below
        ∙ ap (λ (b : Bool). Some b) (sym (more k ∙ ap (λ (b : Bool). is_among (take i numbers) k || (b || false)) differ ∙ or-false (is_among (take i numbers) k)))

  pub not_flagged : (clock_flags : List Bool) (count : ℕ)
      → ((k : ℕ) → k < count → slice_get clock_flags k ≡ Some (is_among (take i numbers) k)) → count ≤ get_or numbers i 0
      → (k : ℕ) → k < count → slice_get clock_flags k ≡ Some (is_among (take (i + 1) numbers) k)
  not_flagged clock_flags count flagged high k below = by (get_or numbers i 0 == k) refl where
    by : (b : Bool) → (get_or numbers i 0 == k) ≡ b → slice_get clock_flags k ≡ Some (is_among (take (i + 1) numbers) k)
    by true same = absurd (let is : get_or numbers i 0 ≡ k = eqb-true (get_or numbers i 0) k same in omega arith)
    by false differ =
        flagged k below ∙ ap (λ (b : Bool). Some b) (sym (more k ∙ ap (λ (b : Bool). is_among (take i numbers) k || (b || false)) differ ∙ or-false (is_among (take i numbers) k)))

-- names that all have numbers
pub all_numbered : (number : Word → Option ℕ) (names : List Word) (numbers : List ℕ) → map number names ≡ somes numbers → filter_map number names ≡ numbers
all_numbered number [] [] are = refl
all_numbered number [] (n ∷ numbers) are = cc
all_numbered number (name ∷ names) [] are = cc
all_numbered number (name ∷ names) (n ∷ numbers) are =
    let first : number name ≡ Some n = cc in
    let rest : map number names ≡ somes numbers = cc in
    ap (λ (o : Option ℕ). cons_option o (filter_map number names)) first ∙ ap (λ (list : List ℕ). n ∷ list) (all_numbered number names numbers rest)

module _ (root : List First) where
  pub number_within : (name : Word) (n : ℕ) → number_named root name ≡ Some n → n < length root
  number_within name n is = let found = at-place (λ (x : First). bytes_eq x.name name) root n is in slice_get_within root n found.0 found.1

  -- a name is one of some names exactly where its number is one of theirs
  pub among_numbers : (names : List Word) (name : Word) (n : ℕ) → number_named root name ≡ Some n
      → is_among (filter_map (number_named root) names) n ≡ has_name names name
  among_numbers [] name n is = refl
  among_numbers (other ∷ names) name n is = by (number_named root other) refl (among_numbers names name n is) where
    by : (found : Option ℕ) → number_named root other ≡ found → is_among (filter_map (number_named root) names) n ≡ has_name names name
        → is_among (cons_option found (filter_map (number_named root) names)) n ≡ (bytes_eq other name || has_name names name)
    by None none rest = rest ∙ sym (ap (λ (b : Bool). b || has_name names name) (differ (bytes_eq other name) refl)) where
      differ : (b : Bool) → bytes_eq other name ≡ b → bytes_eq other name ≡ false
      differ true same = cc (ap (number_named root) (same_name other name same))
      differ false same = same
    by (Some k) some rest = ap₂ (λ (b c : Bool). b || c) (sym (same_numbers root other name k n some is)) rest

  has_number_is : (found : Option ℕ) (n : ℕ) → is_found_number found n ≡ true → found ≡ Some n
  has_number_is None n has = absurd (true≢false (sym has))
  has_number_is (Some k) n has = ap (λ (m : ℕ). Some m) (eqb-true k n has)

  -- the one name with a number is found by it
  pub found_by_number : (names : List Word) (name : Word) (n : ℕ) → has_name names name ≡ true → number_named root name ≡ Some n
      → find (λ other. is_found_number (number_named root other) n) names ≡ Some name
  found_by_number names name n has is =
      let test = λ (other : Word). is_found_number (number_named root other) n in
      let found = some-find test name names (Has-has_name names name has) (ap (λ (o : Option ℕ). is_found_number o n) is ∙ eq-eqb n n refl) in
      let passes = from-find test found.0 names found.1 in
      found.1 ∙ ap (λ (w : Word). Some w) (one_name root found.0 name n (has_number_is (number_named root found.0) n passes.1) is)

-- inputs first, and then clocks
module _ (design : Design) (root : Model) (stands : Some root ≡ model_at design []) where
  pub inputs_first : (test : Word → Bool) → find test (root_ports design) ≡ option_or (find test root.inputs) (find test root.clocks)
  inputs_first test =
      ap (λ (m : Option Model). find test (inputs_of m ++ clocks_of m)) (sym stands) ∙ find-append test root.inputs root.clocks

  pub clock_numbers : (number : Word → Option ℕ) (ports : List ℕ) → map number (control_ports design) ≡ somes ports
      → filter_map number root.clocks ++ ports ≡ filter_map number (clock_ports design)
  unfolding clock_ports
  clock_numbers number ports are =
      sym (ap (λ (m : Option Model). filter_map number (clocks_of m ++ control_ports design)) (sym stands)
      ∙ filter_map-append number root.clocks (control_ports design)
      ∙ ap (λ (list : List ℕ). filter_map number root.clocks ++ list) (all_numbered number (control_ports design) ports are))
