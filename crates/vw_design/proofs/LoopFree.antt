-- Where no gates read each other in a circle, no value changes at greater depth than there are cells.
use Rattle.std.proofs.Common.{◌≡◌, ◌<◌, ◌≤◌, ◌+◌, ℕ, zero, suc, Bool, true, false, List, [], ◌∷◌, ◌++◌, length, map, Option, Some, None, inl, inr, ⊎_elim, refl, sym, ◌∙◌, ap, ap₂, subst, eqb, arith}
use Rattle.std.specs.List.{AllZip, list_any, IsDistinct}
use Rattle.std.specs.Str.{bytes_eq}
use Rattle.std.proofs.lemmas.Bool.{and_from, eq-eqb, eqb-true, cases_Bool}
use Rattle.std.proofs.lemmas.Map.Steps.{length-le_from_distinct_below}
use Rattle.std.proofs.lemmas.Option.{same_Some, slice_get_within}
use Rattle.vw_net.proofs.Lists.{once_none}
use Rattle.vw_net.specs.declared.cover.Cover.{Cover}
use Rattle.vw_net.specs.Cover.{cover_value}
use Rattle.vw_design.specs.declared.item.Item.{Item}
use Rattle.vw_design.specs.declared.item.Item.TheVariants.{Names, Latch, Sub}
use Rattle.vw_design.specs.declared.design.Design.{Design}
use Rattle.vw_design.specs.Paths.{Word, Path}
use Rattle.vw_design.specs.Drivers.{Source, at_port, at_cell, driver}
use Rattle.vw_design.specs.Preorder.{Site, cells}
use Rattle.vw_design.specs.PathValue.{item_at, place_of_site, item_value, source_value, path_level, path_value}
use Rattle.vw_design.specs.Accepted.{IsAccepted}
use Rattle.vw_design.specs.Loops.{Gate, is_driven_by, reads_from, gate_reads, IsLoopFree}
use Rattle.vw_design.proofs.ListElements.{Has, Has-left, Has-right, any-Has, from-any}
use Rattle.vw_design.proofs.Names.{name_same}
use Rattle.vw_design.proofs.FlatValues.{site_of_place}
use Rattle.vw_design.proofs.DriverNumbers.{cell_place}
use Rattle.vw_design.proofs.FilteredLists.{distinct_more}

-- two ways to give values that agree on each element give one list
map_same : {A B : Type 0} (one other : A → B) (xs : List A) → ((x : A) → Has x xs → one x ≡ other x) → map one xs ≡ map other xs
map_same one other [] agree = refl
map_same {A} {B} one other (x ∷ xs) agree = ap₂ (λ (y : B) (ys : List B). y ∷ ys) (agree x (inl refl)) (map_same one other xs (λ z has. agree z (inr has)))

-- what comes behind each of some gates: the next one, and at last this one
abbrev followed_by : List Gate → Gate → List Gate
followed_by [] gate = []
followed_by (first ∷ gates) gate = gates ++ gate ∷ []

module _ (design : Design) where
  -- each gate reads the next, and the last one this one
  abbrev ReadAlong : List Gate → Gate → Type 0
  ReadAlong gates gate = AllZip (λ one next. gate_reads design one next ≡ true) gates (followed_by gates gate)

  leads_on : (gates : List Gate) (gate next : Gate) → ReadAlong gates gate → gate_reads design gate next ≡ true → ReadAlong (gates ++ gate ∷ []) next
  leads_on [] gate next leads reads = (reads, tt)
  leads_on (first ∷ []) gate next leads reads = (leads.0, leads_on [] gate next tt reads)
  leads_on (first ∷ second ∷ gates) gate next leads reads = (leads.0, leads_on (second ∷ gates) gate next leads.1 reads)

  -- from one of the gates on
  leads_from : (gates : List Gate) (gate from : Gate) → Has from gates → ReadAlong gates gate → (rest : List Gate) × ReadAlong (from ∷ rest) gate
  leads_from [] gate from has leads = absurd has
  leads_from (first ∷ []) gate from has leads = ⊎_elim (λ same. ([], subst (λ (g : Gate). ReadAlong (g ∷ []) gate) same leads)) (λ none. absurd none) has
  leads_from (first ∷ second ∷ gates) gate from has leads =
      ⊎_elim (λ same. (second ∷ gates, subst (λ (g : Gate). ReadAlong (g ∷ second ∷ gates) gate) same leads)) (λ later. leads_from (second ∷ gates) gate from later leads.1) has

  -- a gate to which itself leads is a loop
  no_return : IsLoopFree design → (gates : List Gate) (gate : Gate) → Has gate gates → ReadAlong gates gate → ⊥
  no_return free gates gate has leads =
      let from = leads_from gates gate gate has leads in
      free (gate ∷ from.0) (record { some = omega arith; each = from.1 })

  -- gates that were met, and their numbers among the cells, which differ
  record IsMet (gates : List Gate) (numbers : List ℕ) : Type 0 where
    distinct : IsDistinct eqb numbers
    within : (number : ℕ) → Has number numbers → number < length (cells design)
    gate_of : (number : ℕ) → Has number numbers → (gate : Gate) × Has gate gates × (place_of_site (cells design) gate.path gate.number ≡ Some number)

  -- there are no more of them than cells
  few_met : (gates : List Gate) (numbers : List ℕ) → IsMet gates numbers → length numbers ≤ length (cells design)
  few_met gates numbers met = length-le_from_distinct_below numbers (length (cells design)) met.distinct below where
    below : (number : ℕ) → list_any (eqb number) numbers ≡ true → number < length (cells design)
    below number any =
        let found = from-any (eqb number) numbers any in
        met.within number (subst (λ (n : ℕ). Has n numbers) (sym (eqb-true number found.0 found.2)) found.1)

  -- two items with one number are one
  same_gate : (one other : Gate) (number : ℕ) → place_of_site (cells design) one.path one.number ≡ Some number
      → place_of_site (cells design) other.path other.number ≡ Some number → one ≡ other
  same_gate one other number at_one at_other =
      let a = site_of_place (cells design) one.path one.number number at_one in
      let b = site_of_place (cells design) other.path other.number number at_other in
      let same : a.0 ≡ b.0 = same_Some a.0 b.0 (sym a.1 ∙ b.1) in
      ap₂ (λ (p : Path) (n : ℕ). record { path = p; number = n }) (sym a.2 ∙ ap (λ (s : Site). s.path) same ∙ b.2) (sym a.3 ∙ ap (λ (s : Site). s.number) same ∙ b.3)

  -- one gate more
  met_more : (gates : List Gate) (numbers : List ℕ) (gate : Gate) (number : ℕ) → IsMet gates numbers
      → place_of_site (cells design) gate.path gate.number ≡ Some number
      → list_any (eqb number) numbers ≡ false → IsMet (gates ++ gate ∷ []) (number ∷ numbers)
  met_more gates numbers gate number met at new = record {
    distinct = distinct_more number numbers new met.distinct;
    within = λ other has. ⊎_elim (λ same. subst (λ (n : ℕ). n < length (cells design)) same (number_within gate number at)) (met.within other) has;
    gate_of = λ other has.
        ⊎_elim (λ same. (gate, Has-right gate gates (gate ∷ []) (inl refl), at ∙ ap (λ (n : ℕ). Some n) same)) (λ later. let of_it = met.gate_of other later in (of_it.0, Has-left of_it.0 gates (gate ∷ []) of_it.1, of_it.2)) has;
  } where
    number_within : (gate : Gate) (number : ℕ) → place_of_site (cells design) gate.path gate.number ≡ Some number → number < length (cells design)
    number_within gate number at = let site = site_of_place (cells design) gate.path gate.number number at in slice_get_within (cells design) number site.0 site.1

module _ (design : Design) (accepted : IsAccepted design) (free : IsLoopFree design) (row state : List Bool) where
  -- what is the same at all levels from one on
  abbrev Stays : ℕ → Path → Word → Type 0
  Stays from path name = (one other : ℕ) → from ≤ one → from ≤ other → path_level one design row state path name ≡ path_level other design row state path name

  one_up : (from : ℕ) (path : Path) (name : Word) (source : Option Source) → driver design path name ≡ source
      → ((one other : ℕ) → from ≤ one → from ≤ other → source_value design row state (path_level one design row state) source ≡ source_value design row state (path_level other design row state) source)
      → Stays (from + 1) path name
  one_up from path name source is same = above where
    above : (one other : ℕ) → from + 1 ≤ one → from + 1 ≤ other → path_level one design row state path name ≡ path_level other design row state path name
    above zero other late late_other = absurd (omega arith)
    above (suc one) zero late late_other = absurd (omega arith)
    above (suc one) (suc other) late late_other =
        ap (source_value design row state (path_level one design row state)) is ∙ same one other (omega arith) (omega arith)
        ∙ sym (ap (source_value design row state (path_level other design row state)) is)

  -- a gate reads what drives its inputs
  reads_next : (path : Path) (number : ℕ) (ins : List Word) (item : Item) (name : Word) (next : Gate) → item_at design path number ≡ Some item
      → (reads_from design path next (Some item) ≡ list_any (λ (n : Word). is_driven_by next (driver design path n)) ins) → Has name ins
      → driver design path name ≡ Some (at_cell next.path next.number) → gate_reads design (record { path = path; number = number }) next ≡ true
  reads_next path number ins item name next is by has drives =
      let here : is_driven_by next (driver design path name) ≡ true =
      ap (is_driven_by next) drives ∙ and_from (bytes_eq next.path next.path) (eqb next.number next.number) (name_same next.path) (eq-eqb next.number next.number refl) in
      ap (reads_from design path next) is ∙ by ∙ any-Has (λ (n : Word). is_driven_by next (driver design path n)) name ins has here

  -- the inputs of a gate, to which gates lead that were met, where those behind it are known to stay
  inputs_stay : (left : ℕ) (gates : List Gate) (numbers : List ℕ) → IsMet design gates numbers → (path : Path) (number : ℕ) → ReadAlong design gates (record { path = path; number = number })
      → (line : ℕ) (ins : List Word) (out : Word) (cover : Cover) → item_at design path number ≡ Some (Names line ins out cover)
      → ((place : ℕ) → IsMet design (gates ++ record { path = path; number = number } ∷ []) (place ∷ numbers) → (name : Word)
      → ((gate : Gate) → driver design path name ≡ Some (at_cell gate.path gate.number) → ReadAlong design (gates ++ record { path = path; number = number } ∷ []) gate) → Stays left path name)
      → (name : Word) → Has name ins → Stays left path name
  inputs_stay left gates numbers met path number leads line ins out cover is further name has =
      let gate : Gate = record { path = path; number = number } in
      let place = cell_place design accepted.models path number (Names line ins out cover) is refl in
      let back = λ (any : list_any (eqb place.0) numbers ≡ true).
      let found = from-any (eqb place.0) numbers any in
      let of_it = met.gate_of found.0 found.1 in
      let same = same_gate design of_it.0 gate place.0 (of_it.2 ∙ ap (λ (n : ℕ). Some n) (sym (eqb-true place.0 found.0 found.2))) place.1 in
      absurd (no_return design free gates gate (subst (λ (g : Gate). Has g gates) same of_it.1) leads) in
      let on = λ (new : list_any (eqb place.0) numbers ≡ false).
      further place.0 (met_more design gates numbers gate place.0 met place.1 new) name
      (λ next drives. leads_on design gates gate next leads (reads_next path number ins (Names line ins out cover) name next is refl has drives)) in
      ⊎_elim back on (cases_Bool (list_any (eqb place.0) numbers))

  item_stays : (left : ℕ) (gates : List Gate) (numbers : List ℕ) → IsMet design gates numbers → (path : Path) (number : ℕ) → ReadAlong design gates (record { path = path; number = number })
      → (item : Option Item) → item_at design path number ≡ item
      → ((place : ℕ) → IsMet design (gates ++ record { path = path; number = number } ∷ []) (place ∷ numbers) → (name : Word)
      → ((gate : Gate) → driver design path name ≡ Some (at_cell gate.path gate.number) → ReadAlong design (gates ++ record { path = path; number = number } ∷ []) gate) → Stays left path name)
      → (one other : ℕ) → left ≤ one → left ≤ other
      → item_value design state (path_level one design row state) path number item ≡ item_value design state (path_level other design row state) path number item
  item_stays left gates numbers met path number leads None is further one other late late_other = refl
  item_stays left gates numbers met path number leads (Some (Names line ins out cover)) is further one other late late_other =
      ap (cover_value cover) (map_same (path_level one design row state path) (path_level other design row state path) ins
      (λ name has. inputs_stay left gates numbers met path number leads line ins out cover is further name has one other late late_other))
  item_stays left gates numbers met path number leads (Some (Latch line d q edge control init)) is further one other late late_other = refl
  item_stays left gates numbers met path number leads (Some (Sub line model binds)) is further one other late late_other = refl

  source_stays : (left : ℕ) (gates : List Gate) (numbers : List ℕ) → IsMet design gates numbers → (source : Option Source)
      → ((gate : Gate) → source ≡ Some (at_cell gate.path gate.number) → ReadAlong design gates gate)
      → ((path : Path) (number place : ℕ) → IsMet design (gates ++ record { path = path; number = number } ∷ []) (place ∷ numbers) → (name : Word)
      → ((gate : Gate) → driver design path name ≡ Some (at_cell gate.path gate.number) → ReadAlong design (gates ++ record { path = path; number = number } ∷ []) gate) → Stays left path name)
      → (one other : ℕ) → left ≤ one → left ≤ other
      → source_value design row state (path_level one design row state) source ≡ source_value design row state (path_level other design row state) source
  source_stays left gates numbers met None leads further one other late late_other = refl
  source_stays left gates numbers met (Some (at_port name)) leads further one other late late_other = refl
  source_stays left gates numbers met (Some (at_cell path number)) leads further one other late late_other =
      item_stays left gates numbers met path number (leads (record { path = path; number = number }) refl) (item_at design path number) refl (further path number) one other late late_other

  -- with so many cells left that weren't met, so many levels are enough
  settles : (left : ℕ) (gates : List Gate) (numbers : List ℕ) → IsMet design gates numbers → length numbers + left ≡ length (cells design)
      → (path : Path) (name : Word)
      → ((gate : Gate) → driver design path name ≡ Some (at_cell gate.path gate.number) → ReadAlong design gates gate)
      → Stays (left + 1) path name
  settles zero gates numbers met count path name leads =
      one_up 0 path name (driver design path name) refl (source_stays 0 gates numbers met (driver design path name) leads
      (λ p n place more name leads. absurd (omega (arith, few_met design (gates ++ record { path = p; number = n } ∷ []) (place ∷ numbers) more))))
  settles (suc left) gates numbers met count path name leads =
      one_up (suc left) path name (driver design path name) refl (source_stays (suc left) gates numbers met (driver design path name) leads
      (λ p n place more name leads one other late late_other.
      settles left (gates ++ record { path = p; number = n } ∷ []) (place ∷ numbers) more (omega arith) p name leads one other (omega arith) (omega arith)))

  -- at every level past the number of cells
  pub level_settles : (level : ℕ) (path : Path) (name : Word) → length (cells design) + 1 ≤ level
      → path_level level design row state path name ≡ path_value design row state path name
  unfolding path_value
  level_settles level path name late =
      let none : IsMet design [] [] = record { distinct = once_none; within = λ n has. absurd has; gate_of = λ n has. absurd has } in
      settles (length (cells design)) [] [] none (omega arith) path name (λ gate drives. tt) level (length (cells design) + 1) late (omega arith)

  -- a net that a gate drives has its table's value of the values of the gate's inputs
  pub gate_value : (path : Path) (name : Word) (at : Path) (number line : ℕ) (ins : List Word) (out : Word) (cover : Cover)
      → driver design path name ≡ Some (at_cell at number)
      → item_at design at number ≡ Some (Names line ins out cover)
      → path_value design row state path name ≡ cover_value cover (map (path_value design row state at) ins)
  unfolding path_value
  gate_value path name at number line ins out cover drives is =
      let deeper = level_settles (suc (length (cells design) + 1)) path name (omega arith) in
      sym deeper
      ∙ ap (source_value design row state (path_level (length (cells design) + 1) design row state)) drives
      ∙ ap (item_value design state (path_level (length (cells design) + 1) design row state) at number) is
