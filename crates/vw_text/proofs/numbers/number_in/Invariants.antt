-- The digits so far are digits, and their value and the digits that are left give the value of all.
use Rattle.std.proofs.Common.{◌≡◌, ◌<◌, ◌^◌, take, drop, true}
use Rattle.std.specs.List.{list_all}
use Rattle.vw_text.specs.Number.{is_digit, value_from}
use Rattle.vw_text.proofs.numbers.number_in.Given as goal

abbrev pub invariant-loop-digit : goal.invariant-loop-digit
invariant-loop-digit l = record {
  whole : value_from l.value (drop l.digit-index l.digits) ≡ value_from 0 l.digits;
  fits : l.value < 2 ^ 64;
  digits : list_all is_digit (take l.digit-index l.digits) ≡ true;
}
