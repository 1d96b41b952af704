use Rattle.std.proofs.Common.{sym, arith}
use Rattle.vw_flat.proofs.PlacesInFront.{cut_none, front_no_number, front_large, front_place}
use Rattle.vw_flat.proofs.probe.place_in_front.Goals as goal

pub returns-in_err-end-clause-none : goal.returns-in_err-end-clause-none
returns-in_err-end-clause-none c = rw c.from_residual.ensures (cut_none c.args.word.now c.in_err-end.ensures)

pub returns-in_err-place-clause-none : goal.returns-in_err-place-clause-none
returns-in_err-place-clause-none c =
    let found = c.in_ok-end.ensures in
    rw c.from_residual-in_err-place.ensures (front_no_number c.args.word.now c.in_ok-end.end found.0.high found.0.before found.1 (sym c.in_err-place.ensures))

pub returns-then-place-from-clause-none : goal.returns-then-place-from-clause-none
returns-then-place-from-clause-none c =
    let found = c.in_ok-end.ensures in
    front_large c.args.word.now c.in_ok-end.end found.0.high found.0.before found.1 c.in_ok-place.place (sym c.in_ok-place.ensures) (omega (arith, c.if-place-from.true, c.from.ensures))

pub returns-clause-some : goal.returns-clause-some
returns-clause-some c =
    let found = c.in_ok-end.ensures in
    front_place c.args.word.now c.in_ok-end.end found.0.high found.0.before found.1 c.in_ok-place.place (sym c.in_ok-place.ensures) (omega (arith, c.if-place-from.false, c.from.ensures))
