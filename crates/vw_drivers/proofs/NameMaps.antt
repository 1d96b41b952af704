-- Maps and sets from names, as lists.
use Rattle.std.proofs.Common.{◌≡◌, ◌||◌, ◌+◌, ℕ, suc, Bool, true, false, not, cond, List, [], ◌∷◌, ◌++◌, length, map, position, Option, Some, None, option_map, is_some, nat_lt, if◌then◌else◌, refl, sym, ◌∙◌, ap, arith}
use Rattle.std.specs.List.{prefix_len}
use Rattle.std.specs.Map.{lookup, keys_of}
use Rattle.std.specs.Str.{bytes_eq}
use Rattle.std.proofs.lemmas.Cmp.{nat_list_eq_equiv}
use Rattle.indexmap.specs.IndexMap.{insert_entry}
use Rattle.vw_design.specs.Distinct.{has_name}
use Rattle.vw_design.specs.Paths.{Word}
use Rattle.vw_drivers.specs.declared.claim.Claim.{Claim}
use Rattle.vw_drivers.specs.Firsts.{First, number_named}
use Rattle.vw_drivers.specs.Steps.GatheredClaims.{has_claim}

pub names_sym : (one other : Word) → bytes_eq one other ≡ bytes_eq other one
names_sym one other = nat_list_eq_equiv.symm one other

-- a look-up by two tests that agree at its key
found_step : {X : Type 0} (here there rest : Bool) (x : X) (further : Option X) → here ≡ there → is_some further ≡ rest → is_some (cond here (Some x) further) ≡ (there || rest)
found_step true true rest x further same is = refl
found_step true false rest x further same is = cc
found_step false true rest x further same is = cc
found_step false false rest x further same is = is

-- a set of names
pub has_listed : {K X : Type 0} (entries : List (K × X)) (bytes : K → Word) (name : Word)
    → is_some (lookup (λ key. bytes_eq name (bytes key)) entries) ≡ has_name (map (λ entry. bytes entry.0) entries) name
has_listed [] bytes name = refl
has_listed (entry ∷ entries) bytes name =
    found_step (bytes_eq name (bytes entry.0)) (bytes_eq (bytes entry.0) name) (has_name (map (λ entry. bytes entry.0) entries) name) entry.1
    (lookup (λ key. bytes_eq name (bytes key)) entries) (names_sym name (bytes entry.0)) (has_listed entries bytes name)

-- the entries of a map as claims
abbrev pub entries_as_firsts : {K : Type 0} → (K → Word) → List (K × Claim) → List First
entries_as_firsts bytes entries = map (λ entry. record { name = bytes entry.0; claim = entry.1 }) entries

pub has_first : {K : Type 0} (entries : List (K × Claim)) (bytes : K → Word) (name : Word)
    → is_some (lookup (λ key. bytes_eq name (bytes key)) entries) ≡ has_claim (entries_as_firsts bytes entries) name
has_first [] bytes name = refl
has_first (entry ∷ entries) bytes name =
    found_step (bytes_eq name (bytes entry.0)) (bytes_eq (bytes entry.0) name) (has_claim (entries_as_firsts bytes entries) name) entry.1
    (lookup (λ key. bytes_eq name (bytes key)) entries) (names_sym name (bytes entry.0)) (has_first entries bytes name)

-- a new key goes last
insert_step : {K : Type 0} (here there : Bool) (entry : K × Claim) (entries inserted : List (K × Claim)) (bytes : K → Word) (key : K) (claim : Claim) → here ≡ there
    → (there || has_claim (entries_as_firsts bytes entries) (bytes key)) ≡ false
    → (has_claim (entries_as_firsts bytes entries) (bytes key) ≡ false → entries_as_firsts bytes inserted ≡ entries_as_firsts bytes entries ++ record { name = bytes key; claim = claim } ∷ [])
    → entries_as_firsts bytes (if here then (entry.0, claim) ∷ entries else entry ∷ inserted) ≡ entries_as_firsts bytes (entry ∷ entries) ++ record { name = bytes key; claim = claim } ∷ []
insert_step true true entry entries inserted bytes key claim same none rest = cc
insert_step true false entry entries inserted bytes key claim same none rest = cc
insert_step false true entry entries inserted bytes key claim same none rest = cc
insert_step false false entry entries inserted bytes key claim same none rest = ap (λ (firsts : List First). record { name = bytes entry.0; claim = entry.1 } ∷ firsts) (rest none)

pub new_first : {K : Type 0} (entries : List (K × Claim)) (bytes : K → Word) (key : K) (claim : Claim) → has_claim (entries_as_firsts bytes entries) (bytes key) ≡ false
    → entries_as_firsts bytes (insert_entry (λ one other. bytes_eq (bytes one) (bytes other)) entries key claim) ≡ entries_as_firsts bytes entries ++ record { name = bytes key; claim = claim } ∷ []
new_first [] bytes key claim none = refl
new_first (entry ∷ entries) bytes key claim none =
    insert_step (bytes_eq (bytes key) (bytes entry.0)) (bytes_eq (bytes entry.0) (bytes key)) entry entries
    (insert_entry (λ one other. bytes_eq (bytes one) (bytes other)) entries key claim) bytes key claim (names_sym (bytes key) (bytes entry.0)) none
    (new_first entries bytes key claim)

-- the index of a key
further_place : (len count : ℕ) → cond (nat_lt (1 + len) (suc count)) (Some (1 + len)) None ≡ option_map (λ at. suc at) (cond (nat_lt len count) (Some len) None)
further_place len count = grind arith

place_step : (here there : Bool) (len count : ℕ) (rest : Option ℕ) → here ≡ there → cond (nat_lt len count) (Some len) None ≡ rest
    → cond (nat_lt (cond (not here) (1 + len) 0) (suc count)) (Some (cond (not here) (1 + len) 0)) None ≡ cond there (Some 0) (option_map (λ at. suc at) rest)
place_step true true len count rest same is = grind arith
place_step true false len count rest same is = cc
place_step false true len count rest same is = cc
place_step false false len count rest same is = further_place len count ∙ ap (option_map (λ at. suc at)) is

pub number_first : {K : Type 0} (entries : List (K × Claim)) (bytes : K → Word) (name : Word)
    → position (λ key. bytes_eq name (bytes key)) (keys_of entries) ≡ number_named (entries_as_firsts bytes entries) name
number_first [] bytes name = refl
number_first (entry ∷ entries) bytes name =
    place_step (bytes_eq name (bytes entry.0)) (bytes_eq (bytes entry.0) name) (prefix_len (λ key. not (bytes_eq name (bytes key))) (keys_of entries)) (length (keys_of entries))
    (number_named (entries_as_firsts bytes entries) name) (names_sym name (bytes entry.0)) (number_first entries bytes name)
