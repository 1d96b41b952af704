-- The rows of the batch, and the stimulus behind it.
use Rattle.std.proofs.Common.{◌≡◌, ◌-◌, min, Bool, List, length, replicate, refl, sym, ◌∙◌, ap, arith}
use Rattle.std.proofs.lemmas.List.{length-append, length-replicate}
use Rattle.vw_rows.specs.Stimulus.{last_row}
use Rattle.vw_rows.proofs.NextBatches.{rows_next, stands_behind, rows_wide, last_wide}
use Rattle.vw_rows.proofs.stimulus.Stimulus.next_batch.Goals as goal

pub invariant_of-self : goal.invariant_of-self
invariant_of-self g c =
    let s = c.args.self.now in
    let batch = c.in_ok-batch.batch in
    let next = c.in_ok-batch.ensures.gathers in
    let wanted = c.min-wanted.result in
    let width : batch.scan.width ≡ s.width = sym next.has.first ∙ s.wide in
    let last : c.of-before.result ≡ last_row s.before batch.rows = c.of-before.ensures ∙ c.in_ok-copy_of_last.ensures in
    record {
      some_left = omega (c.min-wanted.ensures, s.some_left, arith);
      few = s.few;
      wide = ap (λ (row : List Bool). length row) last ∙ last_wide s batch next.has width;
      inside = omega (next.fit.places, next.fit.limit, arith);
      numbered = next.fit.number;
      few_owed = omega (next.has.clocks, next.fit.few, next.full, length-append batch.rows (replicate batch.owed (last_row s.before batch.rows)), length-replicate batch.owed (last_row s.before batch.rows), arith);
    }

pub returns-clause-rows : goal.returns-clause-rows
returns-clause-rows g c text all told_is given =
    let s = c.args.self.now in
    let batch = c.in_ok-batch.batch in
    let count : c.min-wanted.result ≡ min c.args.most (s.clocks - s.done) = omega (c.min-wanted.ensures, c.from.ensures, arith) in
    rows_next _ s text all batch c.min-wanted.result c.args.most told_is (c.requires.stands text told_is) given count c.in_ok-batch.ensures.gathers

pub returns-clause-stands : goal.returns-clause-stands
returns-clause-stands g c text told_is =
    let s = c.args.self.now in
    let batch = c.in_ok-batch.batch in
    let next = c.in_ok-batch.ensures.gathers in
    let last : c.of-before.result ≡ last_row s.before batch.rows = c.of-before.ensures ∙ c.in_ok-copy_of_last.ensures in
    stands_behind _ s _ text batch c.min-wanted.result told_is (c.requires.stands text told_is) next (sym next.has.first ∙ s.wide) refl refl refl refl refl last refl

pub returns-clause-width : goal.returns-clause-width
returns-clause-width g c =
    let s = c.args.self.now in
    let batch = c.in_ok-batch.batch in
    let next = c.in_ok-batch.ensures.gathers in
    rows_wide s batch next.has (sym next.has.first ∙ s.wide)
