-- A number that ends, or is too large, or goes on.
use Rattle.std.proofs.Common.{◌≡◌, ◌+◌, ◌*◌, ◌-◌, ◌<◌, sym, ◌∙◌, ap, arith}
use Rattle.vw_text.specs.Number.{value_from}
use Rattle.vw_rows.proofs.SaidWords.{bad_second, stops_at_zero, stops_at_other, stops_when_large, number_longer, value_longer, some_digit, not_digit}
use Rattle.vw_rows.proofs.said.number_with.Goals as goal

pub returns-then-times-eq0 : goal.returns-then-times-eq0
returns-then-times-eq0 c done part row said solid nonblank more =
    bad_second done _ part more c.args.byte said.0 solid nonblank (λ x. stops_at_zero part c.args.byte x said.1 (said.2 ∙ c.if-times-eq0.true))

pub returns-then-longer-gt-MOST_CLOCKS : goal.returns-then-longer-gt-MOST_CLOCKS
returns-then-longer-gt-MOST_CLOCKS c done part row said solid nonblank more =
    let digit = some_digit c.args.byte c.in-Some.digit (sym c.in-Some.ensures) in
    let large : 4294967295 < c.args.times * 10 + (c.args.byte - 48) = omega (digit.1, c.saturating_mul.ensures, c.saturating_add-longer.ensures, c.if-longer-gt-MOST_CLOCKS.true, arith) in
    bad_second done _ part more c.args.byte said.0 solid nonblank (λ x. stops_when_large part c.args.byte x c.args.times said.2 large)

pub returns-else-longer-gt-MOST_CLOCKS : goal.returns-else-longer-gt-MOST_CLOCKS
returns-else-longer-gt-MOST_CLOCKS c done part row said =
    let digit = some_digit c.args.byte c.in-Some.digit (sym c.in-Some.ensures) in
    let exact : c.args.times * 10 + (c.args.byte - 48) ≡ c.saturating_add-longer.result = omega (digit.1, c.saturating_mul.ensures, c.saturating_add-longer.ensures, c.if-longer-gt-MOST_CLOCKS.false, arith) in
    let some : 0 < value_from 0 part = omega (said.2, c.if-times-eq0.false, arith) in (
      said.0,
      number_longer part c.args.byte said.1 some digit.0,
      value_longer part c.args.byte ∙ ap (λ n. n * 10 + (c.args.byte - 48)) said.2 ∙ exact,
      omega (c.if-longer-gt-MOST_CLOCKS.false, arith),
      said.4,
    )

pub returns-in-None : goal.returns-in-None
returns-in-None c done part row said solid nonblank more =
    bad_second done _ part more c.args.byte said.0 solid nonblank (λ x. stops_at_other part c.args.byte x said.1 (not_digit c.args.byte (sym c.in-None.ensures)))
