-- What is found of a name among first claims, when further claims are added.
use Rattle.std.proofs.Common.{◌≡◌, ◌||◌, ℕ, zero, suc, Bool, true, false, List, [], ◌∷◌, ◌++◌, map, Option, Some, None, option_map, option_and_then, is_some, cond, if◌then◌else◌, refl, sym, ◌∙◌, ap}
use Rattle.std.specs.Option.{option_or}
use Rattle.std.specs.Str.{bytes_eq}
use Rattle.std.proofs.lemmas.List.Folds.{list_any-append}
use Rattle.std.proofs.lemmas.Option.{same_Some}
use Rattle.vw_design.specs.Distinct.{has_name}
use Rattle.vw_design.specs.Paths.{Word}
use Rattle.vw_design.proofs.Names.{same_name}
use Rattle.vw_net.proofs.FirstOptions.{or_some, or_nothing, or_assoc}
use Rattle.vw_design.proofs.ListElements.{at-place}
use Rattle.vw_drivers.specs.declared.claim.Claim.{Claim}
use Rattle.vw_drivers.specs.Firsts.{First, number_named, claim_at, claim_named}
use Rattle.vw_drivers.specs.Steps.GatheredClaims.{has_claim, with_first, with_firsts}

-- the first claim on a name
abbrev pub look : List First → Word → Option Claim
look [] name = None
look (first ∷ firsts) name = if bytes_eq first.name name then Some first.claim else look firsts name

-- the names of claims
abbrev pub claimed_names : List First → List Word
claimed_names firsts = map (λ first. first.name) firsts

-- it is that of its number
named_step : (same : Bool) (first : First) (firsts : List First) (name : Word) (number : Option ℕ) → option_and_then (claim_at firsts) number ≡ look firsts name
    → option_and_then (claim_at (first ∷ firsts)) (cond same (Some zero) (option_map (λ at. suc at) number)) ≡ (if same then Some first.claim else look firsts name)
named_step true first firsts name number rest = refl
named_step false first firsts name None rest = rest
named_step false first firsts name (Some number) rest = rest

pub named_look : (firsts : List First) (name : Word) → claim_named firsts name ≡ look firsts name
named_look [] name = refl
named_look (first ∷ firsts) name = named_step (bytes_eq first.name name) first firsts name (number_named firsts name) (named_look firsts name)

pub look_append : (one other : List First) (name : Word) → look (one ++ other) name ≡ option_or (look one name) (look other name)
look_append [] other name = refl
look_append (first ∷ one) other name = by (bytes_eq first.name name) (look_append one other name) where
  by : (b : Bool) → look (one ++ other) name ≡ option_or (look one name) (look other name)
      → (if b then Some first.claim else look (one ++ other) name) ≡ option_or (if b then Some first.claim else look one name) (look other name)
  by true rest = refl
  by false rest = rest

-- a claimed name has a claim
pub some_look : (firsts : List First) (name : Word) → is_some (look firsts name) ≡ has_claim firsts name
some_look [] name = refl
some_look (first ∷ firsts) name = by (bytes_eq first.name name) (some_look firsts name) where
  by : (b : Bool) → is_some (look firsts name) ≡ has_claim firsts name → is_some (if b then Some first.claim else look firsts name) ≡ (b || has_claim firsts name)
  by true rest = refl
  by false rest = rest

-- one claim more
pub look_first : (firsts : List First) (new : Word) (claim : Claim) (name : Word)
    → look (with_first firsts new claim) name ≡ option_or (look firsts name) (look (record { name = new; claim = claim } ∷ []) name)
look_first firsts new claim name = by (has_claim firsts new) refl (bytes_eq new name) refl where
  by : (had : Bool) → has_claim firsts new ≡ had → (same : Bool) → bytes_eq new name ≡ same
      → look (if had then firsts else firsts ++ record { name = new; claim = claim } ∷ []) name ≡ option_or (look firsts name) (if same then Some claim else None)
  by true is true same =
      or_some (look firsts name) (Some claim) (some_look firsts name ∙ ap (has_claim firsts) (sym (same_name new name same)) ∙ is)
  by true is false same = sym (or_nothing (look firsts name))
  by false is b same = look_append firsts (record { name = new; claim = claim } ∷ []) name ∙ ap (λ (b : Bool). option_or (look firsts name) (if b then Some claim else None)) same

-- many claims more
pub look_firsts : (firsts more : List First) (name : Word) → look (with_firsts firsts more) name ≡ option_or (look firsts name) (look more name)
look_firsts firsts [] name = sym (or_nothing (look firsts name))
look_firsts firsts (further ∷ more) name =
    look_firsts (with_first firsts further.name further.claim) more name
    ∙ ap (λ (found : Option Claim). option_or found (look more name)) (look_first firsts further.name further.claim name)
    ∙ or_assoc (look firsts name) (look (further ∷ []) name) (look more name)
    ∙ ap (option_or (look firsts name)) (sym (look_append (further ∷ []) more name))

pub with_firsts_append : (firsts one other : List First) → with_firsts firsts (one ++ other) ≡ with_firsts (with_firsts firsts one) other
with_firsts_append firsts [] other = refl
with_firsts_append firsts (further ∷ one) other = with_firsts_append (with_first firsts further.name further.claim) one other

-- which names are claimed
pub has_first_more : (firsts : List First) (new : Word) (claim : Claim) (name : Word) → has_claim (with_first firsts new claim) name ≡ (bytes_eq new name || has_claim firsts name)
has_first_more firsts new claim name = by (has_claim firsts new) refl (bytes_eq new name) refl where
  turned : (b had : Bool) → (had || (b || false)) ≡ (b || had)
  turned true true = refl
  turned true false = refl
  turned false true = refl
  turned false false = refl

  by : (had : Bool) → has_claim firsts new ≡ had → (same : Bool) → bytes_eq new name ≡ same
      → has_claim (if had then firsts else firsts ++ record { name = new; claim = claim } ∷ []) name ≡ (same || has_claim firsts name)
  by true is true same = ap (has_claim firsts) (sym (same_name new name same)) ∙ is
  by true is false same = refl
  by false is b same =
      list_any-append (λ (first : First). bytes_eq first.name name) firsts (record { name = new; claim = claim } ∷ [])
      ∙ turned (bytes_eq new name) (has_claim firsts name) ∙ ap (λ (b : Bool). b || has_claim firsts name) same

pub has_firsts_more : (firsts more : List First) (name : Word) → has_claim (with_firsts firsts more) name ≡ (has_claim firsts name || has_name (claimed_names more) name)
has_firsts_more firsts [] name = by (has_claim firsts name) where
  by : (b : Bool) → b ≡ (b || false)
  by true = refl
  by false = refl
has_firsts_more firsts (further ∷ more) name =
    has_firsts_more (with_first firsts further.name further.claim) more name
    ∙ ap (λ (b : Bool). b || has_name (claimed_names more) name) (has_first_more firsts further.name further.claim name)
    ∙ by (bytes_eq further.name name) (has_claim firsts name)
  where
    by : (b had : Bool) → ((b || had) || has_name (claimed_names more) name) ≡ (had || (b || has_name (claimed_names more) name))
    by true true = refl
    by true false = refl
    by false true = refl
    by false false = refl

-- names with the same number are the same
pub one_name : (firsts : List First) (one other : Word) (number : ℕ) → number_named firsts one ≡ Some number → number_named firsts other ≡ Some number → one ≡ other
one_name firsts one other number one_is other_is =
    let here = at-place (λ (f : First). bytes_eq f.name one) firsts number one_is in
    let there = at-place (λ (f : First). bytes_eq f.name other) firsts number other_is in
    sym (same_name here.0.name one here.2) ∙ ap (λ (f : First). f.name) (same_Some here.0 there.0 (sym here.1 ∙ there.1)) ∙ same_name there.0.name other there.2
