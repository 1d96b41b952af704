-- One byte more, or one with which the line is bad.
use Rattle.std.proofs.Common.{◌≡◌, ◌+◌, ◌∷◌, ◌++◌, [], ℕ, List, get_or, take, drop, sym, ◌∙◌, ap}
use Rattle.std.proofs.lemmas.Result.{err_from_is_err_and}
use Rattle.std.proofs.lemmas.List.{take_more, drop_more, take-append-drop}
use Rattle.vw_rows.proofs.LineFronts.{goes_further, bad_further}
use Rattle.vw_rows.proofs.line_so_far.LineSoFar.take_bytes.Goals as goal

pub returns-in_err-take_byte-clause-takes : goal.returns-in_err-take_byte-clause-takes
returns-in_err-take_byte-clause-takes c =
    let p = err_from_is_err_and c.from_residual.result c.from_residual.ensures.1 in
    let piece = c.args.piece.now in
    let at = c.loop-at.at in
    let byte = get_or piece at 0 in
    let cut : piece ≡ take at piece ++ ((byte ∷ []) ++ drop (at + 1) piece) =
    sym (take-append-drop at piece) ∙ ap (λ (bs : List ℕ). take at piece ++ bs) (drop_more piece at 0 c.loop-at-test.true) in
    rw (p.1, p.2) (λ of_text. bad_further c.args.self.now c.loop-at.self (take at piece) (byte ∷ []) (drop (at + 1) piece) piece c.args.number c.in_err-take_byte.field-0.0 cut c.loop-at.invariant.front
    (c.in_err-take_byte.ensures.takes of_text))

pub loop-at-preserved : goal.loop-at-preserved
loop-at-preserved c =
    let piece = c.args.piece.now in
    let at = c.loop-at.at in
    let takes = c.in_ok-take_byte.ensures.takes in
    record {
      front = goes_further c.args.self.now c.loop-at.self c.take_byte.new.self (take at piece) (get_or piece at 0 ∷ []) (take (at + 1) piece) (take_more piece at 0 c.loop-at-test.true) c.loop-at.invariant.front takes.0;
      plain = takes.1;
    }
