-- Line by line.
use Rattle.std.proofs.Common.{◌≡◌, length, refl, ◌∙◌, arith, rules}
use Rattle.std.proofs.lemmas.Result.{err_from_is_err_and}
use Rattle.std.proofs.lemmas.Bool.{eqb-true}
use Rattle.vw_rows.proofs.CountedRows.{part_at_start, part_further, part_at_end, part_at_fault}
use Rattle.vw_rows.proofs.counting.count_piece.Goals as goal

pub loop-rest-init : goal.loop-rest-init
loop-rest-init c = record { part = part_at_start c.args.piece.now c.args.scan.now; few = c.requires.few; number = omega arith; width = refl }

pub returns-in_err-count-clause-counts : goal.returns-in_err-count-clause-counts
returns-in_err-count-clause-counts c =
    let p = err_from_is_err_and c.from_residual.result c.from_residual.ensures.1 in
    rw (p.1, p.2) (λ of_text. part_at_fault c.args.piece.now c.loop-rest.rest.now c.args.scan.now c.loop-rest.scan c.in_err-count.field-0.0 c.loop-rest.invariant.part (c.in_err-count.ensures.counts of_text))

pub loop-rest-preserved : goal.loop-rest-preserved
loop-rest-preserved c =
    let rest = c.loop-rest.rest.now in
    let done = c.in_ok-count.ensures in
    record {
      part = part_further c.args.piece.now rest c.split_at.result.1.now c.in_ok-count.count c.args.scan.now c.loop-rest.scan c.count_line.new.scan c.split_at.ensures.back c.loop-rest.invariant.part done.counts;
      few = done.few;
      number = omega (c.loop-rest.invariant.number, done.number, done.progress, done.within, c.split_at.ensures.back_len, arith);
      width = done.width ∙ c.loop-rest.invariant.width;
    }

pub returns-clause-counts : goal.returns-clause-counts
returns-clause-counts c =
    let none : length c.loop-rest.rest.now ≡ 0 = search (rules, eqb-true) in
    part_at_end c.args.piece.now c.loop-rest.rest.now c.args.scan.now c.loop-rest.scan none c.loop-rest.invariant.part
