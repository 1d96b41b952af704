-- The chain of microcycles of a link.
use Rattle.std.proofs.Common.{◌≡◌, ◌<◌, ◌≤◌, ◌+◌, ℕ, List, slice_index, sym, subst, ⊎_elim, arith}
use Rattle.std.proofs.lemmas.Bool.{cases_order}
use Rattle.vw_slots.specs.Steps.PinUses.{PinUses, used_at, next_at, AreBusy, IsChained}

-- behind a full microcycle, all are full up to the noted one
module _ (widths : List ℕ) (pin_uses : PinUses) (link from at : ℕ) (chained : IsChained widths pin_uses) where
  pub busy_further : AreBusy widths pin_uses link from at → slice_index widths link ≤ used_at pin_uses link at
      → AreBusy widths pin_uses link from (next_at pin_uses link at)
  busy_further busy full other not_before before =
      let here = λ (same : other ≡ at). subst (λ (n : ℕ). slice_index widths link ≤ used_at pin_uses link n) (sym same) full in
      let later = λ (past : at < other). chained.busy link at other (omega (arith, past)) before in
      ⊎_elim here (λ apart. ⊎_elim (λ early. busy other not_before early) later apart) (cases_order other at)

-- more taken pins keep the chain
module _ (widths : List ℕ) (before after : PinUses) (chained : IsChained widths before) where
  pub filled_chained : ((one other : ℕ) → used_at before one other ≤ used_at after one other)
      → ((one other : ℕ) → next_at after one other ≡ next_at before one other) → IsChained widths after
  filled_chained more nexts = record {
    later = λ one other. subst (λ (n : ℕ). other < n) (sym (nexts one other)) (chained.later one other);
    busy = busy;
  } where
    busy : (one other : ℕ) → AreBusy widths after one (other + 1) (next_at after one other)
    busy one other between past early =
        let was_early = subst (λ (n : ℕ). between < n) (nexts one other) early in
        omega (arith, chained.busy one other between past was_early, more one between)
