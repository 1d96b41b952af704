-- The way from a net to its driver: it goes up and then down, and so it ends.
use Rattle.std.proofs.Common.{◌≡◌, ◌≤◌, ◌+◌, ℕ, zero, suc, true, false, [], ◌∷◌, length, Option, Some, None, option_and_then, ⊎_elim, refl, sym, ◌∙◌, ap, true≢false, arith}
use Rattle.std.proofs.lemmas.Bool.{cases_lt}
use Rattle.std.proofs.lemmas.Option.{none-some, same_Some}
use Rattle.vw_design.specs.declared.model.Model.{Model}
use Rattle.vw_design.specs.declared.design.Design.{Design}
use Rattle.vw_design.specs.Distinct.{has_name}
use Rattle.vw_design.specs.Paths.{Word, Path, model_placed, model_at, is_port}
use Rattle.vw_design.specs.Claims.{Claim, port, driven, bound, claims, first_claim}
use Rattle.vw_design.specs.Drivers.{Source, Turn, ends, goes_on, actual_of, turn_up, turn_by, turn, follow_turn, source_after, driver}
use Rattle.vw_design.proofs.ListElements.{Has-at}
use Rattle.vw_design.proofs.Claimed.{IsClaim, claim_is}

-- no instance lies at this depth or deeper, and an output of a placed model is no port of it
pub record IsShallow (design : Design) (limit : ℕ) : Type 0 where
  pub shallow : (path : Path) → limit ≤ length path → model_at design path ≡ None

pub record IsOneWay (design : Design) : Type 0 where
  pub one_way : (place : ℕ) (path : Path) (model : Model) (name : Word) → model_at design (place ∷ path) ≡ Some model
      → has_name model.outputs name ≡ true → is_port model name ≡ false

-- what is found of nets after so many turns, where each time one turn is made, and nothing is found where the first ends
-- with nothing
record GoesAlong (design : Design) (found : ℕ → Path → Word → Option Source) : Type 0 where
  nothing : (path : Path) (name : Word) → turn design path name ≡ ends None → found zero path name ≡ None
  along : (turns : ℕ) (path : Path) (name : Word) → found (suc turns) path name ≡ follow_turn (found turns) (turn design path name)

-- the first claim on a net is one of its model
pub claim_of_model : (design : Design) (name : Word) (claim : Claim) (model : Option Model) → first_claim design model name ≡ Some claim
    → (found : Model) × (model ≡ Some found) × IsClaim design found name claim
claim_of_model design name claim None is = absurd (none-some claim is)
claim_of_model design name claim (Some model) is = (model, refl, claim_is design model name claim (Has-at claim (claims design model name) 0 is))

-- what is bound to a formal leads to an output of an instance, which is no port
pub no_port : (design : Design) → IsOneWay design → (place : ℕ) (path : Path) (name formal : Word)
    → first_claim design (model_at design path) name ≡ Some (bound place formal)
    → first_claim design (model_at design (place ∷ path)) formal ≡ Some port → ⊥
no_port design one place path name formal is port_too =
    let here = claim_of_model design name (bound place formal) (model_at design path) is in
    let stands : model_at design (place ∷ path) ≡ Some here.2.0 = ap (option_and_then (model_placed design place)) here.1 ∙ here.2.1 in
    let there = claim_of_model design formal port (model_at design (place ∷ path)) port_too in
    let no = one.one_way place path there.0 formal there.1 (subst_outputs here.2.0 there.0 (same_Some here.2.0 there.0 (sym stands ∙ there.1)) formal here.2.2) in
    true≢false (sym there.2 ∙ no)
  where
    subst_outputs : (one other : Model) → one ≡ other → (name : Word) → has_name one.outputs name ≡ true → has_name other.outputs name ≡ true
    subst_outputs one other same name has = ap (λ (m : Model). has_name m.outputs name) (sym same) ∙ has

module _ (design : Design) (limit : ℕ) (shallow : IsShallow design limit) (one : IsOneWay design) where
  -- there is no claim where no instance is
  no_claim : (path : Path) (name : Word) → limit ≤ length path → turn design path name ≡ ends None
  no_claim path name deep = ap (λ (m : Option Model). turn_by design path name (first_claim design m name)) (shallow.shallow path deep)

  -- from a net that no port claims, the way goes down
  module _ (next : ℕ → Path → Word → Option Source) (goes : GoesAlong design next) where
    down : (turns : ℕ) (path : Path) (name : Word) → (first_claim design (model_at design path) name ≡ Some port → ⊥)
        → limit ≤ turns + length path → next turns path name ≡ source_after design turns path name
    down zero path name free enough = goes.nothing path name (no_claim path name (omega arith))
    down (suc turns) path name free enough =
        goes.along turns path name ∙ by (first_claim design (model_at design path) name) refl (λ place formal free_there. down turns (place ∷ path) formal free_there (omega arith))
      where
        by : (claim : Option Claim) → first_claim design (model_at design path) name ≡ claim
            → ((place : ℕ) (formal : Word) → (first_claim design (model_at design (place ∷ path)) formal ≡ Some port → ⊥) → next turns (place ∷ path) formal ≡ source_after design turns (place ∷ path) formal)
            → follow_turn (next turns) (turn_by design path name claim) ≡ follow_turn (source_after design turns) (turn_by design path name claim)
        by None is deeper = refl
        by (Some port) is deeper = absurd (free is)
        by (Some (driven item)) is deeper = refl
        by (Some (bound place formal)) is deeper = deeper place formal (no_port design one place path name formal is)

    -- from any net, it goes up and then down
    up : (path : Path) (turns : ℕ) (name : Word) → length path + limit ≤ turns → next turns path name ≡ source_after design turns path name
    up path zero name enough = down zero path name (λ is. none-some port (sym (ap (λ (m : Option Model). first_claim design m name) (shallow.shallow path (omega arith))) ∙ is)) (omega arith)
    up [] (suc turns) name enough =
        goes.along turns [] name ∙ by (first_claim design (model_at design []) name) refl
      where
        by : (claim : Option Claim) → first_claim design (model_at design []) name ≡ claim
            → follow_turn (next turns) (turn_by design [] name claim) ≡ follow_turn (source_after design turns) (turn_by design [] name claim)
        by None is = refl
        by (Some port) is = refl
        by (Some (driven item)) is = refl
        by (Some (bound place formal)) is = down turns (place ∷ []) formal (no_port design one place [] name formal is) (omega arith)
    up (at ∷ path) (suc turns) name enough =
        goes.along turns (at ∷ path) name ∙ by (first_claim design (model_at design (at ∷ path)) name) refl (λ actual. up path turns actual (omega arith))
      where
        upward : (actual : Option Word) → ((actual : Word) → next turns path actual ≡ source_after design turns path actual)
            → follow_turn (next turns) (turn_up path actual) ≡ follow_turn (source_after design turns) (turn_up path actual)
        upward None higher = refl
        upward (Some actual) higher = higher actual

        by : (claim : Option Claim) → first_claim design (model_at design (at ∷ path)) name ≡ claim
            → ((actual : Word) → next turns path actual ≡ source_after design turns path actual)
            → follow_turn (next turns) (turn_by design (at ∷ path) name claim) ≡ follow_turn (source_after design turns) (turn_by design (at ∷ path) name claim)
        by None is higher = refl
        by (Some port) is higher = upward (actual_of design at path name) higher
        by (Some (driven item)) is higher = refl
        by (Some (bound place formal)) is higher = down turns (place ∷ at ∷ path) formal (no_port design one place (at ∷ path) name formal is) (omega arith)

  -- what goes along the turns by itself is what is found after enough turns
  pub only_follow : (found : Path → Word → Option Source) → ((path : Path) (name : Word) → found path name ≡ follow_turn found (turn design path name))
      → (path : Path) (turns : ℕ) (name : Word) → length path + limit ≤ turns → found path name ≡ source_after design turns path name
  only_follow found along path turns name enough =
      let goes : GoesAlong design (λ t. found) = record {
        nothing = λ p n ended. along p n ∙ ap (follow_turn found) ended;
        along = λ t p n. along p n;
      } in
      up (λ t. found) goes path turns name enough

  -- one turn more finds the same
  pub one_more : (path : Path) (turns : ℕ) (name : Word) → length path + limit ≤ turns
      → source_after design (suc turns) path name ≡ source_after design turns path name
  one_more path turns name enough =
      let goes : GoesAlong design (λ t. source_after design (suc t)) = record {
        nothing = λ p n ended. ap (follow_turn (source_after design 0)) ended;
        along = λ t p n. refl;
      } in
      up (λ t. source_after design (suc t)) goes path turns name enough

-- nothing is found where no instance is
pub no_instance : (design : Design) (turns : ℕ) (path : Path) (name : Word) → model_at design path ≡ None → source_after design turns path name ≡ None
no_instance design zero path name none = refl
no_instance design (suc turns) path name none = ap (λ (m : Option Model). follow_turn (source_after design turns) (turn_by design path name (first_claim design m name))) none

module _ (design : Design) (shallow : IsShallow design 64) (one : IsOneWay design) where
  -- the 127 turns that are left behind the first are enough
  one_less : (path : Path) (name : Word) → source_after design 127 path name ≡ source_after design 128 path name
  one_less path name =
      ⊎_elim (λ short. sym (one_more design 64 shallow one path 127 name (omega arith)))
      (λ deep. no_instance design 127 path name (shallow.shallow path deep) ∙ sym (no_instance design 128 path name (shallow.shallow path deep))) (cases_lt (length path) 64)

  -- the driver of a net is that of the net to which one turn leads
  pub driver-turn : (path : Path) (name : Word) → driver design path name ≡ follow_turn (driver design) (turn design path name)
  unfolding driver
  driver-turn path name = by (turn design path name) where
    by : (next : Turn) → follow_turn (source_after design 127) next ≡ follow_turn (source_after design 128) next
    by (ends found) = refl
    by (goes_on path name) = one_less path name

  -- and nothing else goes along the turns
  pub only_driver : (found : Path → Word → Option Source) → ((path : Path) (name : Word) → found path name ≡ follow_turn found (turn design path name))
      → (path : Path) (name : Word) → found path name ≡ driver design path name
  unfolding driver
  only_driver found along path name =
      let none = λ (deep : 64 ≤ length path). along path name ∙ ap (λ (m : Option Model). follow_turn found (turn_by design path name (first_claim design m name))) (shallow.shallow path deep)
      ∙ sym (no_instance design 128 path name (shallow.shallow path deep)) in
      ⊎_elim (λ short. only_follow design 64 shallow one found along path 128 name (omega arith)) none (cases_lt (length path) 64)
