-- a number out of its range is no hop's
use Rattle.std.proofs.Common.{◌≡◌, ◌<◌, ◌^◌, ℕ, List, Result, Ok, Err, None, get_or, ap, arith}
use Rattle.std.proofs.lemmas.Option.{none-some}
use Rattle.std.specs.Result.{OkIff, result_ok}
use Rattle.vw_plantext.proofs.body.hop_of.Goals as goal

too_great : {E : Type 0} (tried : Result ℕ E) (number : ℕ) → OkIff tried (number < 2 ^ 32) number → None ≡ result_ok tried → number < 2 ^ 32 → ⊥
too_great (Ok value) number fits none there = none-some value none
too_great (Err error) number fits none there = fits there

pub returns-in_err-from : goal.returns-in_err-from
returns-in_err-from c = rw c.from_residual.ensures (λ hop fits is. too_great c.try_from.result (get_or c.args.numbers.now 0 0) c.try_from.ensures c.in_err-from.ensures.value (omega (arith, fits.from, ap (λ (numbers : List ℕ). get_or numbers 0 0) is)))

pub returns-in_err-to : goal.returns-in_err-to
returns-in_err-to c = rw c.from_residual-in_err-to.ensures (λ hop fits is. too_great c.try_from-2.result (get_or c.args.numbers.now 1 0) c.try_from-2.ensures c.in_err-to.ensures.value (omega (arith, fits.to, ap (λ (numbers : List ℕ). get_or numbers 1 0) is)))

pub returns-in_err-pin : goal.returns-in_err-pin
returns-in_err-pin c = rw c.from_residual-in_err-pin.ensures (λ hop fits is. too_great c.try_from-3.result (get_or c.args.numbers.now 2 0) c.try_from-3.ensures c.in_err-pin.ensures.value (omega (arith, fits.pin, ap (λ (numbers : List ℕ). get_or numbers 2 0) is)))

pub returns-then-at : goal.returns-then-at
returns-then-at c = λ hop fits is. omega (arith, c.if-at.true, fits.at, ap (λ (numbers : List ℕ). get_or numbers 3 0) is)
