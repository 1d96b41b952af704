-- What a write at one key leaves at each.
use Rattle.std.proofs.Common.{◌≡◌, ◌==◌, ◌&&◌, ◌≤◌, ℕ, Bool, true, false, cond, Option, Some, None, if◌then◌else◌, refl, ◌∙◌, ap, eqb-true, arith}
use Rattle.std.specs.Prelude.{IsSome}
use Rattle.std.specs.HashMap.{get}
use Rattle.std.proofs.lemmas.Bool.{and_parts}
use Rattle.vw_slots.specs.declared.pin_use.PinUse.{PinUse}
use Rattle.vw_slots.specs.Steps.PinUses.{PinUses, is_same, pin_use_at, used_of, next_microcycle, used_at, next_at}

used_of-cond : (b : Bool) (x y : Option PinUse) → used_of (cond b x y) ≡ cond b (used_of x) (used_of y)
used_of-cond true x y = refl
used_of-cond false x y = refl

next_of-cond : (at : ℕ) (b : Bool) (x y : Option PinUse)
    → next_microcycle at (cond b x y) ≡ cond b (next_microcycle at x) (next_microcycle at y)
next_of-cond at true x y = refl
next_of-cond at false x y = refl

-- a choice by a test, of which one side is the other where the test passes
pub settled : (b : Bool) (x y : ℕ) → (b ≡ true → x ≡ y) → cond b x y ≡ y
settled true x y same = same refl
settled false x y same = refl

-- a test for a key passes at this key alone
pub same_key : (link at one other : ℕ) (f : ℕ → ℕ → ℕ) → (link == one && at == other) ≡ true → f link at ≡ f one other
same_key link at one other f same =
    let parts : (link == one ≡ true) × (at == other ≡ true) = and_parts (link == one) (at == other) same in
    ap (λ (n : ℕ). f n at) (eqb-true link one parts.0) ∙ ap (λ (n : ℕ). f one n) (eqb-true at other parts.1)

-- what is kept is at least one pin, so the microcycle is listed
pub listed : (found : Option PinUse) → 1 ≤ used_of found → IsSome found
listed None some = absurd (omega arith)
listed (Some pin_use) some = refl

module _ (before after : PinUses) (link at : ℕ) (new : PinUse)
    (put : (key : ℕ × ℕ) → get is_same after key ≡ cond (is_same (link, at) key) (Some new) (get is_same before key)) where
  pub used_put : (one other : ℕ) → used_at after one other ≡ (if link == one && at == other then new.used else used_at before one other)
  used_put one other = ap used_of (put (one, other)) ∙ used_of-cond (link == one && at == other) (Some new) (pin_use_at before one other)

  pub next_put : (one other : ℕ) → next_at after one other ≡ (if link == one && at == other then new.next else next_at before one other)
  next_put one other = ap (next_microcycle other) (put (one, other)) ∙ next_of-cond other (link == one && at == other) (Some new) (pin_use_at before one other)

  -- as many pins are taken as before
  pub used_kept : new.used ≡ used_at before link at → (one other : ℕ) → used_at after one other ≡ used_at before one other
  used_kept same one other =
      let kept_here = λ (here : (link == one && at == other) ≡ true). same ∙ same_key link at one other (used_at before) here in
      used_put one other ∙ settled (link == one && at == other) new.used (used_at before one other) kept_here

  -- the next microcycles are those of before
  pub next_kept : new.next ≡ next_at before link at → (one other : ℕ) → next_at after one other ≡ next_at before one other
  next_kept same one other =
      let kept_here = λ (here : (link == one && at == other) ≡ true). same ∙ same_key link at one other (next_at before) here in
      next_put one other ∙ settled (link == one && at == other) new.next (next_at before one other) kept_here
