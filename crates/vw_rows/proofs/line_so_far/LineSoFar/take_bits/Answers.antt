-- Bits are taken at once.
use Rattle.std.proofs.Common.{◌≡◌, ◌<◌, take, length, sym, arith}
use Rattle.std.proofs.lemmas.List.{length-take-le}
use Rattle.vw_rows.proofs.LineFronts.{run_taken}
use Rattle.vw_rows.proofs.line_so_far.LineSoFar.take_bits.Goals as goal

pub returns : goal.returns
returns c =
    let piece = c.args.piece.now in
    let count = c.bits_in_front-count.result in
    let size : length (take count piece) ≡ count = length-take-le count piece c.bits_in_front-count.ensures.within in
    let some : 0 < length (take count piece) = omega (size, c.if-count-eq0.false, arith) in
    record {
      within = c.bits_in_front-count.ensures.within;
      front = run_taken c.args.self.now c.keep_bits.new.bits c.in-Some.before c.saturating_add-longer.result (take count piece) (sym c.in-Some.ensures)
          (omega (size, c.saturating_add-longer.ensures, arith)) c.bits_in_front-count.ensures.bits some c.in_ok-keep_bits.ensures c.requires.plain;
      plain = c.requires.plain;
    }
