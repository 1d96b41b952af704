-- A comment that goes on, and one that begins.
use Rattle.std.proofs.Common.{◌≡◌, ◌<◌, ◌==◌, ◌||◌, length, slice_index, sym, ◌∙◌, ap, arith}
use Rattle.std.proofs.lemmas.Bool.{eqb-true, ne_eqb}
use Rattle.vw_rows.proofs.LineFronts.{comment_taken, comment_begun}
use Rattle.vw_rows.proofs.line_so_far.LineSoFar.take.Goals as goal

pub returns-then-self-clause-takes : goal.returns-then-self-clause-takes
returns-then-self-clause-takes c = comment_taken c.args.piece.now c.end_behind.result.0 c.end_behind.result.1 c.args.self.now c.if-self.true c.end_behind.ensures

pub returns-clause-takes : goal.returns-clause-takes
returns-clause-takes c =
    let piece = c.args.piece.now in
    let words = c.in_ok-words.words in
    let takes = c.in_ok-words.ensures.takes in
    let within : words < length piece = omega (takes.0.within, c.if-words-piece.false, arith) in
    let byte = slice_index piece words in
    let hash : byte ≡ 35 = eqb-true byte 35 (sym (ap (λ v. v || (byte == 35)) (ne_eqb byte 10 c.if-piece-words-eq10.false)) ∙ takes.1 within) in
    comment_begun piece words c.end_behind-2.result.0 c.end_behind-2.result.1 c.args.self.now c.take_words.new.self takes.0 within hash c.end_behind-2.ensures
