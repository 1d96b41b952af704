-- A search over the chips, from one to the next.
use Rattle.std.proofs.Common.{◌≡◌, ◌<◌, ◌≤◌, ◌+◌, ◌-◌, ℕ, suc, Option, Some, None, ap, refl, sym, ◌∙◌, arith}
use Rattle.std.specs.List.{range_with_len}
use Rattle.std.specs.Option.{option_or}
use Rattle.vw_check.specs.declared.fault.PlanFault.{PlanFault}
use Rattle.vw_net.specs.FirstFound.{first_at}

module _ (found : ℕ → Option PlanFault) (chip stop : ℕ) (some : 1 ≤ chip) (below : chip < stop) where
  abbrev from : ℕ → ℕ → Option PlanFault
  from number first = first_at (λ _ one. found one) number (range_with_len first (stop - first))

  step : from (chip - 1) chip ≡ option_or (found chip) (from (suc (chip - 1)) (chip + 1))
  step =
      let more : stop - chip ≡ suc (stop - (chip + 1)) = omega arith in
      rw more refl

  pub chip_next : found chip ≡ None → from (chip + 1 - 1) (chip + 1) ≡ from (chip - 1) chip
  chip_next none =
      let number : chip + 1 - 1 ≡ suc (chip - 1) = omega arith in
      ap (λ (count : ℕ). from count (chip + 1)) number ∙ sym (step ∙ ap (λ (one : Option PlanFault). option_or one (from (suc (chip - 1)) (chip + 1))) none)

  pub chip_found : (fault : PlanFault) → found chip ≡ Some fault → Some fault ≡ from (chip - 1) chip
  chip_found fault is = sym (step ∙ ap (λ (one : Option PlanFault). option_or one (from (suc (chip - 1)) (chip + 1))) is)
