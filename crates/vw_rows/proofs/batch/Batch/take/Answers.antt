-- Line by line.
use Rattle.std.proofs.Common.{refl, ◌∙◌, arith}
use Rattle.std.proofs.lemmas.Result.{err_from_is_err_and}
use Rattle.vw_rows.proofs.GatheredBatches.{part_at_start, part_further, part_fails}
use Rattle.vw_rows.proofs.batch.Batch.take.Goals as goal

pub loop-self-init : goal.loop-self-init
loop-self-init c = record { part = part_at_start c.args.before.now c.args.piece.now c.args.self.now; fit = c.requires.fit; wanted = refl; limit = c.requires.limit }

pub returns-in_err-count-clause-takes : goal.returns-in_err-count-clause-takes
returns-in_err-count-clause-takes c =
    let p = err_from_is_err_and c.from_residual.result c.from_residual.ensures.1 in
    rw (p.1, p.2) (λ of_text. part_fails c.args.before.now c.args.piece.now c.loop-self.rest.now c.args.self.now c.loop-self.self c.in_err-count.field-0.0 c.loop-self.invariant.part (c.in_err-count.ensures.takes of_text))

pub loop-self-preserved : goal.loop-self-preserved
loop-self-preserved c =
    let rest = c.loop-self.rest.now in
    let done = c.in_ok-count.ensures in
    record {
      part = part_further c.args.before.now c.args.piece.now rest c.split_at.result.1.now c.in_ok-count.count c.args.self.now c.loop-self.self c.take_line.new.self done.within c.split_at.ensures.back done.read c.loop-self.invariant.part done.takes;
      fit = done.fit;
      wanted = done.wanted ∙ c.loop-self.invariant.wanted;
      limit = omega (c.loop-self.invariant.limit, done.read, done.within, c.split_at.ensures.back_len, arith);
    }
