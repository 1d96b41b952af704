-- Columns that are added one by one, and what is free.
use Rattle.std.proofs.Common.{◌≡◌, ◌<◌, ◌≤◌, ◌+◌, ℕ, zero, suc, Bool, true, false, not, cond, List, [], ◌∷◌, ◌++◌, drop, take, length, get_or, set, replicate, Option, Some, None, is_some, slice_get, filter, flat_map, map, ◌||◌, inl, inr, option_map, option_and_then, refl, sym, ◌∙◌, ap, ap₂, true≢false, append_assoc, append-nil, arith}
use Rattle.std.specs.Option.{option_or, unwrap_or}
use Rattle.std.specs.Str.{bytes_eq}
use Rattle.std.proofs.lemmas.List.{drop_more, drop_all, take_more, take_all, map-append, length-append, length-set}
use Rattle.std.proofs.lemmas.List.Elements.{filter-append}
use Rattle.std.proofs.lemmas.Option.{same_Some, slice_get_within, slice_get_read, get_or_from_slice_get}
use Rattle.vw_design.specs.declared.design.Design.{Design}
use Rattle.vw_design.specs.declared.model.Model.{Model}
use Rattle.vw_design.specs.Distinct.{has_name}
use Rattle.vw_design.specs.Paths.{Word, model_at}
use Rattle.vw_design.specs.PathValue.{place_of_name}
use Rattle.vw_design.specs.Claims.{Claim, port, item_claims, first_claim, numbered as numbered_items}
use Rattle.vw_design.specs.Clocks.{inputs_of, clock_ports, columns}
use Rattle.vw_design.proofs.ListElements.{Has}
use Rattle.vw_design.proofs.Names.{same_name, equal_names, has_name-Has}
use Rattle.vw_net.proofs.FirstOptions.{or_nothing}
use Rattle.vw_design.proofs.ListPlaces.{set_here, set_elsewhere}
use Rattle.vw_drivers.specs.declared.claim.Claim.{Claim as NumberedClaim}
use Rattle.vw_drivers.specs.declared.model_claims.ModelClaims.{ModelClaims}
use Rattle.vw_drivers.specs.Claimed.{AreClaims, meant}
use Rattle.vw_drivers.specs.Firsts.{First, number_named, claim_at}
use Rattle.vw_drivers.specs.declared.tables.Tables.{Tables}
use Rattle.vw_drivers.specs.Tables.{AreDesignTables, root_firsts}
use Rattle.vw_drivers.proofs.ClaimLookups.{one_name}
use Rattle.vw_net_faults.specs.declared.columns.Columns.{Columns}
use Rattle.vw_net_faults.specs.Columns.{AreColumns}
use Rattle.vw_net_faults.specs.Steps.FreeNames.{unflagged, is_free, has_none, with_column, AreFree}
use Rattle.vw_net_faults.specs.Steps.Wanted.{AreClockFlags}
use Rattle.vw_net_faults.proofs.ClockFlags.{number_within}

pub in_replicate : {A : Type 0} (count : ℕ) (x : A) (k : ℕ) → k < count → slice_get (replicate count x) k ≡ Some x
in_replicate zero x k within = absurd (omega arith)
in_replicate (suc count) x zero within = refl
in_replicate (suc count) x (suc k) within = in_replicate count x k (omega arith)

pub no_columns : (firsts : List First) (ports : List (Option ℕ)) → ports ≡ replicate (length firsts) None → (name : Word) (k : ℕ)
    → number_named firsts name ≡ Some k → slice_get ports k ≡ Some None
no_columns firsts ports are name k is = ap (λ (list : List (Option ℕ)). slice_get list k) are ∙ in_replicate (length firsts) None k (number_within firsts name k is)

-- as many, once a column is written
pub length-with_column : (ports : List (Option ℕ)) (number column : ℕ) → length (with_column ports number column) ≡ length ports
length-with_column ports number column = by (has_none (slice_get ports number)) where
  by : (b : Bool) → length (cond b (set ports number (Some column)) ports) ≡ length ports
  by true = length-set ports number (Some column)
  by false = refl

-- the place of a name where one is added
place_more : (names : List Word) (x name : Word)
    → place_of_name (names ++ x ∷ []) name ≡ option_or (place_of_name names name) (cond (bytes_eq x name) (Some (length names)) None)
place_more [] x name = refl
place_more (first ∷ names) x name =
    ap (λ (rest : Option ℕ). cond (bytes_eq first name) (Some zero) (option_map (λ place. suc place) rest)) (place_more names x name)
    ∙ by (bytes_eq first name) (place_of_name names name) (bytes_eq x name)
  where
    by : (here : Bool) (before : Option ℕ) (last : Bool)
        → cond here (Some zero) (option_map (λ place. suc place) (option_or before (cond last (Some (length names)) None)))
        ≡ option_or (cond here (Some zero) (option_map (λ place. suc place) before)) (cond last (Some (suc (length names))) None)
    by true before last = refl
    by false None true = refl
    by false None false = refl
    by false (Some place) last = refl

module _ (firsts : List First) (x : Word) (n : ℕ) (named : number_named firsts x ≡ Some n) (before : List Word) (ports new : List (Option ℕ))
    (had : (name : Word) (k : ℕ) → number_named firsts name ≡ Some k → slice_get ports k ≡ Some (place_of_name before name)) (written : new ≡ with_column ports n (length before)) where
  elsewhere : (name : Word) → bytes_eq x name ≡ false → place_of_name (before ++ x ∷ []) name ≡ place_of_name before name
  elsewhere name differ = place_more before x name ∙ ap (λ (b : Bool). option_or (place_of_name before name) (cond b (Some (length before)) None)) differ ∙ or_nothing (place_of_name before name)

  at_x : (name : Word) → bytes_eq x name ≡ true → place_of_name (before ++ x ∷ []) name ≡ option_or (place_of_name before x) (Some (length before))
  at_x name same =
      place_more before x name ∙ ap (λ (b : Bool). option_or (place_of_name before name) (cond b (Some (length before)) None)) same
      ∙ ap (λ (w : Word). option_or (place_of_name before w) (Some (length before))) (sym (same_name x name same))

  pub column_added : (name : Word) (k : ℕ) → number_named firsts name ≡ Some k → slice_get new k ≡ Some (place_of_name (before ++ x ∷ []) name)
  column_added name k is = by (place_of_name before x) refl (bytes_eq x name) refl where
    by : (found : Option ℕ) → place_of_name before x ≡ found → (b : Bool) → bytes_eq x name ≡ b → slice_get new k ≡ Some (place_of_name (before ++ x ∷ []) name)
    by (Some place) found true same =
        let there : slice_get ports n ≡ Some (Some place) = had x n named ∙ ap (λ (o : Option ℕ). Some o) found in
        let kept : new ≡ ports = written ∙ ap (λ (o : Option (Option ℕ)). cond (has_none o) (set ports n (Some (length before))) ports) there in
        ap (λ (list : List (Option ℕ)). slice_get list k) kept ∙ had name k is ∙ ap (λ (w : Word). Some (place_of_name before w)) (sym (same_name x name same))
        ∙ ap (λ (o : Option ℕ). Some o) (found ∙ sym (at_x name same ∙ ap (λ (o : Option ℕ). option_or o (Some (length before))) found))
    by (Some place) found false differ =
        let there : slice_get ports n ≡ Some (Some place) = had x n named ∙ ap (λ (o : Option ℕ). Some o) found in
        let kept : new ≡ ports = written ∙ ap (λ (o : Option (Option ℕ)). cond (has_none o) (set ports n (Some (length before))) ports) there in
        ap (λ (list : List (Option ℕ)). slice_get list k) kept ∙ had name k is ∙ ap (λ (o : Option ℕ). Some o) (sym (elsewhere name differ))
    by None found true same =
        let there : slice_get ports n ≡ Some None = had x n named ∙ ap (λ (o : Option ℕ). Some o) found in
        let put : new ≡ set ports n (Some (length before)) = written ∙ ap (λ (o : Option (Option ℕ)). cond (has_none o) (set ports n (Some (length before))) ports) there in
        let number : k ≡ n = same_Some k n (sym is ∙ ap (number_named firsts) (sym (same_name x name same)) ∙ named) in
        ap₂ (λ (list : List (Option ℕ)) (m : ℕ). slice_get list m) put number ∙ set_here ports n (Some (length before)) (slice_get_within ports n None there)
        ∙ ap (λ (o : Option ℕ). Some o) (sym (at_x name same ∙ ap (λ (o : Option ℕ). option_or o (Some (length before))) found))
    by None found false differ =
        let there : slice_get ports n ≡ Some None = had x n named ∙ ap (λ (o : Option ℕ). Some o) found in
        let put : new ≡ set ports n (Some (length before)) = written ∙ ap (λ (o : Option (Option ℕ)). cond (has_none o) (set ports n (Some (length before))) ports) there in
        ap (λ (list : List (Option ℕ)). slice_get list k) put
        ∙ set_elsewhere ports n k (Some (length before)) (λ number. true≢false (sym (equal_names x name (one_name firsts x name n named (is ∙ ap (λ (m : ℕ). Some m) number))) ∙ differ))
        ∙ had name k is ∙ ap (λ (o : Option ℕ). Some o) (sym (elsewhere name differ))

-- one more name
module _ (free : Word → Bool) (names : List Word) (i : ℕ) (x : Word) (within : i < length names) (at : x ≡ get_or names i x) where
  pub taken_more : filter free (take (i + 1) names) ≡ filter free (take i names) ++ filter free (x ∷ [])
  taken_more =
      ap (filter free) (take_more names i x within ∙ ap (λ (w : Word). take i names ++ w ∷ []) (sym at)) ∙ filter-append free (take i names) (x ∷ [])

  pub left_more : filter free (drop i names) ≡ filter free (x ∷ drop (i + 1) names)
  left_more = ap (filter free) (drop_more names i x within ∙ ap (λ (w : Word). w ∷ drop (i + 1) names) (sym at))

free_name : (clock_flags : List Bool) (found : Option ℕ) (n : ℕ) → Some n ≡ unflagged clock_flags found → found ≡ Some n
free_name clock_flags None n is = cc
free_name clock_flags (Some k) n is = by (get_or clock_flags k false) is where
  by : (b : Bool) → Some n ≡ cond b None (Some k) → Some k ≡ Some n
  by true is = cc
  by false is = sym is

-- a free name is numbered
pub free_number : (firsts : List First) (clock_flags : List Bool) (x : Word) (n : ℕ)
    → Some n ≡ unflagged clock_flags (number_named firsts x) → number_named firsts x ≡ Some n
free_number firsts clock_flags x n is = free_name clock_flags (number_named firsts x) n is

-- an input of the root has a number, and is free exactly where it is no clock port
module _ (design : Design) (tables : Tables) (are : AreDesignTables design tables) (root : Model) (stands : Some root ≡ model_at design []) where
  claimed : (found : ModelClaims) × (slice_get tables.claims 0 ≡ Some found) × AreClaims design (Some root) found
  claimed = are.claims.each 0 root (sym stands)

  numbered : (found : Option ℕ) (firsts : List First) (claim : Claim) (meaning : NumberedClaim → Option Claim)
      → option_map meaning (option_and_then (claim_at firsts) found) ≡ Some (Some claim) → (n : ℕ) × (found ≡ Some n)
  numbered None firsts claim meaning is = cc
  numbered (Some n) firsts claim meaning is = (n, refl)

  port_first : (name : Word) → has_name root.inputs name ≡ true → first_claim design (Some root) name ≡ Some port
  port_first name is =
      ap (λ (b : Bool). slice_get ((cond (b || has_name root.clocks name) (port ∷ []) []) ++ flat_map (λ entry. item_claims design name entry.number entry.before entry.item) (numbered_items 0 0 root.items)) 0) is

  pub input_number : (name : Word) → has_name root.inputs name ≡ true → (n : ℕ) × (number_named (root_firsts tables) name ≡ Some n)
  input_number name is =
      let firsts = claimed.0.firsts in
      let named = numbered (number_named firsts name) firsts port (meant root.items) (claimed.2.firsts name ∙ ap (option_map (λ (claim : Claim). Some claim)) (port_first name is)) in
      (named.0, ap (λ (found : Option ModelClaims). number_named (unwrap_or (option_map (λ (f : ModelClaims). f.firsts) found) []) name) claimed.1 ∙ named.1)

  free_is : (clock_flags : List Bool) → AreClockFlags design (root_firsts tables) clock_flags → (name : Word)
      → has_name root.inputs name ≡ true → is_free (root_firsts tables) clock_flags name ≡ not (has_name (clock_ports design) name)
  free_is clock_flags flagged name is =
      let number = input_number name is in
      ap (λ (found : Option ℕ). is_some (unflagged clock_flags found)) number.1
      ∙ ap (λ (b : Bool). is_some (cond b None (Some number.0))) (get_or_from_slice_get clock_flags number.0 (has_name (clock_ports design) name) false (flagged name number.0 number.1))
      ∙ by (has_name (clock_ports design) name) number.0
    where
      by : (b : Bool) (n : ℕ) → is_some (cond b None (Some n)) ≡ not b
      by true n = refl
      by false n = refl

  filter_same : (one other : Word → Bool) (names : List Word) → ((name : Word) → Has name names → one name ≡ other name) → filter one names ≡ filter other names
  filter_same one other [] same = refl
  filter_same one other (name ∷ names) same = ap₂ (λ (b : Bool) (rest : List Word). cond b (name ∷ rest) rest) (same name (inl refl)) (filter_same one other names (λ further has. same further (inr has)))

  free_columns : (clock_flags : List Bool) → AreClockFlags design (root_firsts tables) clock_flags
      → filter (is_free (root_firsts tables) clock_flags) root.inputs ≡ columns design
  unfolding columns
  free_columns clock_flags flagged =
      filter_same (is_free (root_firsts tables) clock_flags) (λ name. not (has_name (clock_ports design) name)) root.inputs (λ name has. free_is clock_flags flagged name (has_name-Has root.inputs name has))
      ∙ ap (λ (m : Option Model). filter (λ name. not (has_name (clock_ports design) name)) (inputs_of m)) stands

  pub columns_are : (firsts : List First) → firsts ≡ root_firsts tables → (clock_flags list : List Bool) → list ≡ clock_flags
      → AreClockFlags design (root_firsts tables) clock_flags → (names : List Word) → names ≡ root.inputs → (found : Columns)
      → AreFree firsts list names found
      → AreColumns design (root_firsts tables) found
  columns_are firsts same clock_flags list given flagged names inputs found free =
      let same_columns = λ (name : Word).
      ap₂ (λ (fs : List First) (bs : List Bool). filter (is_free fs bs) names) same given ∙ ap (filter (is_free (root_firsts tables) clock_flags)) inputs ∙ free_columns clock_flags flagged in
      record {
        inputs =
            ap (λ (ns : List Word). map (slice_get ns) found.inputs) (sym (inputs ∙ ap inputs_of stands)) ∙ free.inputs ∙ ap (map (λ (name : Word). Some name)) (same_columns []);
        count = free.count ∙ ap (λ (fs : List First). length fs) same;
        ports = λ name number named.
            free.ports name number (ap (λ (fs : List First). number_named fs name) same ∙ named) ∙ ap (λ (ns : List Word). Some (place_of_name ns name)) (same_columns name);
      }

-- behind the last name all have their columns
pub all_free : (firsts : List First) (clock_flags : List Bool) (names : List Word) (i : ℕ) → length names ≤ i
    → (found : Columns) (inputs : List ℕ) → found.inputs ≡ inputs → (ports : List (Option ℕ)) → found.ports ≡ ports
    → map (slice_get names) inputs ++ map (λ name. Some name) (filter (is_free firsts clock_flags) (drop i names)) ≡ map (λ name. Some name) (filter (is_free firsts clock_flags) names)
    → length ports ≡ length firsts
    → ((name : Word) (k : ℕ) → number_named firsts name ≡ Some k → slice_get ports k ≡ Some (place_of_name (filter (is_free firsts clock_flags) (take i names)) name))
    → AreFree firsts clock_flags names found
all_free firsts clock_flags names i past found inputs same_inputs ports same_ports had long each = record {
  inputs = ap (map (slice_get names)) same_inputs ∙ sym (append-nil (map (slice_get names) inputs))
      ∙ ap (λ (left : List Word). map (slice_get names) inputs ++ map (λ (name : Word). Some name) (filter (is_free firsts clock_flags) left)) (sym (drop_all i names past)) ∙ had;
  count = ap (λ (list : List (Option ℕ)). length list) same_ports ∙ long;
  ports = λ name k named. ap (λ (list : List (Option ℕ)). slice_get list k) same_ports ∙ each name k named
      ∙ ap (λ (taken : List Word). Some (place_of_name (filter (is_free firsts clock_flags) taken) name)) (take_all i names past);
}

-- the columns of the names so far, with one more name that is free, or that isn't
module _ (firsts : List First) (clock_flags : List Bool) (names : List Word) (i : ℕ) (x : Word) (within : i < length names) (at : x ≡ get_or names i x) (inputs new : List ℕ) where
  abbrev somes_of : List Word → List (Option Word)
  somes_of list = map (λ (name : Word). Some name) list

  taken_free : is_free firsts clock_flags x ≡ true
      → filter (is_free firsts clock_flags) (take (i + 1) names) ≡ filter (is_free firsts clock_flags) (take i names) ++ x ∷ []
  taken_free free =
      taken_more (is_free firsts clock_flags) names i x within at ∙ ap (λ (b : Bool). filter (is_free firsts clock_flags) (take i names) ++ cond b (x ∷ []) []) free

  taken_bound : is_free firsts clock_flags x ≡ false
      → filter (is_free firsts clock_flags) (take (i + 1) names) ≡ filter (is_free firsts clock_flags) (take i names)
  taken_bound bound =
      taken_more (is_free firsts clock_flags) names i x within at ∙ ap (λ (b : Bool). filter (is_free firsts clock_flags) (take i names) ++ cond b (x ∷ []) []) bound
      ∙ append-nil (filter (is_free firsts clock_flags) (take i names))

  left : (b : Bool) → is_free firsts clock_flags x ≡ b
      → filter (is_free firsts clock_flags) (drop i names) ≡ cond b (x ∷ filter (is_free firsts clock_flags) (drop (i + 1) names)) (filter (is_free firsts clock_flags) (drop (i + 1) names))
  left b is =
      left_more (is_free firsts clock_flags) names i x within at
      ∙ ap (λ (c : Bool). cond c (x ∷ filter (is_free firsts clock_flags) (drop (i + 1) names)) (filter (is_free firsts clock_flags) (drop (i + 1) names))) is

  module _ (free : is_free firsts clock_flags x ≡ true) (pushed : new ≡ inputs ++ i ∷ []) where
    pub inputs_more : map (slice_get names) inputs ++ somes_of (filter (is_free firsts clock_flags) (drop i names)) ≡ somes_of (filter (is_free firsts clock_flags) names)
        → map (slice_get names) new ++ somes_of (filter (is_free firsts clock_flags) (drop (i + 1) names)) ≡ somes_of (filter (is_free firsts clock_flags) names)
    inputs_more had =
        let rest = somes_of (filter (is_free firsts clock_flags) (drop (i + 1) names)) in
        ap (λ (list : List ℕ). map (slice_get names) list ++ rest) pushed ∙ ap (λ (list : List (Option Word)). list ++ rest) (map-append (slice_get names) inputs (i ∷ []))
        ∙ append_assoc (map (slice_get names) inputs) (slice_get names i ∷ []) rest
        ∙ ap (λ (o : Option Word). map (slice_get names) inputs ++ (o ∷ rest)) (slice_get_read names (length names) i x refl within at)
        ∙ sym (ap (λ (list : List Word). map (slice_get names) inputs ++ somes_of list) (left true free)) ∙ had

    pub many_more : length inputs ≡ length (filter (is_free firsts clock_flags) (take i names))
        → length new ≡ length (filter (is_free firsts clock_flags) (take (i + 1) names))
    many_more many =
        let one = ap (λ (list : List ℕ). length list) pushed ∙ length-append inputs (i ∷ []) in
        let other = ap (λ (list : List Word). length list) (taken_free free) ∙ length-append (filter (is_free firsts clock_flags) (take i names)) (x ∷ []) in
        omega (arith, one, other, many)

    pub ports_more : length inputs ≡ length (filter (is_free firsts clock_flags) (take i names)) → (n : ℕ) → number_named firsts x ≡ Some n
        → (ports more : List (Option ℕ)) → more ≡ with_column ports n (length inputs)
        → ((name : Word) (k : ℕ) → number_named firsts name ≡ Some k → slice_get ports k ≡ Some (place_of_name (filter (is_free firsts clock_flags) (take i names)) name))
        → (name : Word) (k : ℕ) → number_named firsts name ≡ Some k
        → slice_get more k ≡ Some (place_of_name (filter (is_free firsts clock_flags) (take (i + 1) names)) name)
    ports_more many n named ports more written had name k is =
        column_added firsts x n named (filter (is_free firsts clock_flags) (take i names)) ports more had (written ∙ ap (with_column ports n) many) name k is
        ∙ ap (λ (list : List Word). Some (place_of_name list name)) (sym (taken_free free))

  module _ (bound : is_free firsts clock_flags x ≡ false) (kept : new ≡ inputs) where
    pub inputs_kept : map (slice_get names) inputs ++ somes_of (filter (is_free firsts clock_flags) (drop i names)) ≡ somes_of (filter (is_free firsts clock_flags) names)
        → map (slice_get names) new ++ somes_of (filter (is_free firsts clock_flags) (drop (i + 1) names)) ≡ somes_of (filter (is_free firsts clock_flags) names)
    inputs_kept had =
        ap (λ (list : List ℕ). map (slice_get names) list ++ somes_of (filter (is_free firsts clock_flags) (drop (i + 1) names))) kept
        ∙ sym (ap (λ (list : List Word). map (slice_get names) inputs ++ somes_of list) (left false bound)) ∙ had

    pub many_kept : length inputs ≡ length (filter (is_free firsts clock_flags) (take i names))
        → length new ≡ length (filter (is_free firsts clock_flags) (take (i + 1) names))
    many_kept many = ap (λ (list : List ℕ). length list) kept ∙ many ∙ sym (ap (λ (list : List Word). length list) (taken_bound bound))

    pub ports_kept : (ports more : List (Option ℕ)) → more ≡ ports
        → ((name : Word) (k : ℕ) → number_named firsts name ≡ Some k → slice_get ports k ≡ Some (place_of_name (filter (is_free firsts clock_flags) (take i names)) name))
        → (name : Word) (k : ℕ) → number_named firsts name ≡ Some k
        → slice_get more k ≡ Some (place_of_name (filter (is_free firsts clock_flags) (take (i + 1) names)) name)
    ports_kept ports more same had name k is =
        ap (λ (list : List (Option ℕ)). slice_get list k) same ∙ had name k is ∙ ap (λ (list : List Word). Some (place_of_name list name)) (sym (taken_bound bound))
