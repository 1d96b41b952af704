-- A piece more, a fault in a piece or in the last line, and the end of the text.
use Rattle.std.proofs.Common.{◌≡◌, ◌<◌, ◌≤◌, ℕ, List, take, length, refl, ◌∙◌, ap, arith}
use Rattle.std.proofs.lemmas.Result.{err_from_is_err_and}
use Rattle.std.proofs.lemmas.List.{length-take}
use Rattle.vw_outside.specs.Told.{absent, held}
use Rattle.vw_outside.specs.Reads.{Fills}
use Rattle.vw_rows.specs.declared.scan.Scan.{Scan}
use Rattle.vw_rows.proofs.CountedText.{told_same, counted_at_start, counted_further, rows_counted, last_at_fault, piece_at_fault}
use Rattle.vw_rows.proofs.counting.count_rows.Goals as goal

pub pieces-init : goal.pieces-init
pieces-init g c =
    let new = c.new-scan.ensures in
    record {
      counted = counted_at_start _ c.args.width c.new-scan.result new.line new.width new.number new.clocks;
      within = omega arith;
      number = omega (new.number, arith);
      few = omega (new.clocks, arith);
      buffer = refl;
      same = refl;
    }

pub returns-in_err-end-clause-rows : goal.returns-in_err-end-clause-rows
returns-in_err-end-clause-rows g c =
    let p = err_from_is_err_and c.from_residual-in_err-end.result c.from_residual-in_err-end.ensures.1 in
    let kept = c.pieces.invariant in
    let read = c.in_ok-count.ensures in
    let told = (g.S.Shelf.seen c.args.shelf.now).told c.args.name.now in
    let fills : (bytes : List ℕ) → told ≡ held bytes → Fills bytes c.pieces.at c.read_piece.new.into c.in_ok-count.count =
    λ bytes is. read.held bytes (told_same _ _ c.args.name.now _ kept.same is) (c.requires bytes is) in
    let there : told ≡ absent → ⊥ = λ is. let start = kept.counted.present is in let wrong = read.absent (told_same _ _ c.args.name.now _ kept.same is) (omega (start, arith)) in cc in
    let room : 0 < length c.read_piece.new.into = omega (c.read_piece.auto.into, kept.buffer, arith) in
    rw (p.1, p.2) (λ of_text. last_at_fault told c.args.width c.pieces.at c.in_ok-count.count c.pieces.scan c.in_err-end.field-0.0 c.read_piece.new.into room c.if-count-eq0.true kept.within kept.few fills there c.in_err-end.ensures.ends kept.counted)

pub returns-then-count-eq0-clause-rows : goal.returns-then-count-eq0-clause-rows
returns-then-count-eq0-clause-rows g c = λ of_text.
    let kept = c.pieces.invariant in
    let read = c.in_ok-count.ensures in
    let told = (g.S.Shelf.seen c.args.shelf.now).told c.args.name.now in
    let fills : (bytes : List ℕ) → told ≡ held bytes → Fills bytes c.pieces.at c.read_piece.new.into c.in_ok-count.count =
    λ bytes is. read.held bytes (told_same _ _ c.args.name.now _ kept.same is) (c.requires bytes is) in
    let there : told ≡ absent → ⊥ = λ is. let start = kept.counted.present is in let wrong = read.absent (told_same _ _ c.args.name.now _ kept.same is) (omega (start, arith)) in cc in
    let room : 0 < length c.read_piece.new.into = omega (c.read_piece.auto.into, kept.buffer, arith) in
    rows_counted told c.args.width c.pieces.at c.in_ok-count.count c.end.new.self.clocks c.pieces.scan c.in_ok-end.field-0 c.read_piece.new.into room c.if-count-eq0.true kept.within kept.few fills there
    c.in_ok-end.ensures.ends.0 (ap (λ (s : Scan). s.clocks) c.in_ok-end.ensures.ends.1) kept.counted

pub returns-in_err-count_piece-clause-rows : goal.returns-in_err-count_piece-clause-rows
returns-in_err-count_piece-clause-rows g c =
    let p = err_from_is_err_and c.from_residual-in_err-count_piece.result c.from_residual-in_err-count_piece.ensures.1 in
    let kept = c.pieces.invariant in
    let read = c.in_ok-count.ensures in
    let told = (g.S.Shelf.seen c.args.shelf.now).told c.args.name.now in
    let fills : (bytes : List ℕ) → told ≡ held bytes → Fills bytes c.pieces.at c.read_piece.new.into c.in_ok-count.count =
    λ bytes is. read.held bytes (told_same _ _ c.args.name.now _ kept.same is) (c.requires bytes is) in
    let there : told ≡ absent → ⊥ = λ is. let start = kept.counted.present is in let wrong = read.absent (told_same _ _ c.args.name.now _ kept.same is) (omega (start, arith)) in cc in
    rw (p.1, p.2) (λ of_text. piece_at_fault told c.args.width c.pieces.at c.in_ok-count.count c.pieces.scan c.in_err-count_piece.field-0.0 c.read_piece.new.into (take c.in_ok-count.count c.read_piece.new.into) refl read.within read.limit
    c.requires fills there (c.in_err-count_piece.ensures.counts of_text) kept.counted)

pub pieces-preserved : goal.pieces-preserved
pieces-preserved g c =
    let kept = c.pieces.invariant in
    let read = c.in_ok-count.ensures in
    let done = c.in_ok-count_piece.ensures in
    let told = (g.S.Shelf.seen c.args.shelf.now).told c.args.name.now in
    let fills : (bytes : List ℕ) → told ≡ held bytes → Fills bytes c.pieces.at c.read_piece.new.into c.in_ok-count.count =
    λ bytes is. read.held bytes (told_same _ _ c.args.name.now _ kept.same is) (c.requires bytes is) in
    let there : told ≡ absent → ⊥ = λ is. let start = kept.counted.present is in let wrong = read.absent (told_same _ _ c.args.name.now _ kept.same is) (omega (start, arith)) in cc in
    let piece : List ℕ = take c.in_ok-count.count c.read_piece.new.into in
    let long : length piece ≤ c.in_ok-count.count = omega (arith, length-take c.in_ok-count.count c.read_piece.new.into) in
    record {
      counted = counted_further told c.args.width c.pieces.at c.in_ok-count.count c.pieces.scan c.count_piece.new.scan c.read_piece.new.into piece refl read.within read.limit fills there done.counts done.width kept.counted;
      within = read.limit;
      number = omega (done.number, kept.number, long, arith);
      few = done.few;
      buffer = omega (c.read_piece.auto.into, kept.buffer, arith);
      same = read.kept ∙ kept.same;
    }
