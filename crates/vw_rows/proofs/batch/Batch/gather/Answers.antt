-- A piece more, a fault in one, the end of the text, and enough rows.
use Rattle.std.proofs.Common.{◌≡◌, ◌<◌, ◌++◌, ℕ, List, length, take, drop, refl, ◌∙◌, arith}
use Rattle.std.proofs.lemmas.Result.{err_from_is_err_and}
use Rattle.std.proofs.lemmas.List.{length-take, length-drop, length-append, take-append-le}
use Rattle.vw_outside.specs.Told.{held}
use Rattle.vw_outside.specs.Reads.{Fills}
use Rattle.vw_rows.proofs.CountedText.{told_same}
use Rattle.vw_rows.proofs.GatheredTexts.{nothing_on, read_further, finish_gathers, take_fails, settled_gathers, less_to_read, piece_read}
use Rattle.vw_rows.proofs.batch.Batch.gather.Goals as goal

pub loop-self-init : goal.loop-self-init
loop-self-init g c = record { reads = nothing_on _ c.args.before.now c.args.self.now; fit = c.requires.fit; wanted = refl; buffer = refl; same = refl }

pub returns-then-count-eq0-clause-gathers : goal.returns-then-count-eq0-clause-gathers
returns-then-count-eq0-clause-gathers g c =
    let kept = c.loop-self.invariant in
    let read = c.in_ok-count.ensures in
    let told = (g.S.Shelf.seen c.args.shelf.now).told c.args.name.now in
    let fills : (text : List ℕ) → told ≡ held text → Fills text c.loop-self.self.read c.read_piece.new.into c.in_ok-count.count =
    λ text is. read.held text (told_same _ _ c.args.name.now _ kept.same is) (c.requires.short text is) in
    let room : 0 < length c.read_piece.new.into = omega (c.read_piece.auto.into, length-take c.room-asked.result c.loop-self.piece, kept.buffer, c.room-asked.ensures.some, arith) in
    finish_gathers told c.args.before.now c.args.self.now c.loop-self.self c.finish.new.self c.read_piece.new.into c.in_ok-count.count c.finish.result room c.if-count-eq0.true kept.wanted kept.fit.limit fills kept.reads c.finish.ensures.ends

pub loop-self-smaller : goal.loop-self-smaller
loop-self-smaller g c =
    let kept = c.loop-self.invariant in
    let done = c.in_ok-take.ensures in
    let missing : length c.loop-self.self.rows < c.loop-self.self.wanted = omega (c.loop-self-test.true, c.len.ensures, arith) in
    let some : 0 < length (take c.in_ok-count.count (c.read_piece.new.into ++ drop c.room-asked.result c.loop-self.piece)) =
    omega (length-take c.in_ok-count.count (c.read_piece.new.into ++ drop c.room-asked.result c.loop-self.piece), length-append c.read_piece.new.into (drop c.room-asked.result c.loop-self.piece), c.in_ok-count.ensures.within, c.if-count-eq0.false, arith) in
    less_to_read c.loop-self.self c.take.new.self missing kept.fit.limit (piece_read c.args.before.now _ c.loop-self.self c.take.new.self some done.takes)

pub loop-self-preserved : goal.loop-self-preserved
loop-self-preserved g c =
    let kept = c.loop-self.invariant in
    let read = c.in_ok-count.ensures in
    let done = c.in_ok-take.ensures in
    let told = (g.S.Shelf.seen c.args.shelf.now).told c.args.name.now in
    let fills : (text : List ℕ) → told ≡ held text → Fills text c.loop-self.self.read c.read_piece.new.into c.in_ok-count.count =
    λ text is. read.held text (told_same _ _ c.args.name.now _ kept.same is) (c.requires.short text is) in
    let piece : List ℕ = take c.in_ok-count.count (c.read_piece.new.into ++ drop c.room-asked.result c.loop-self.piece) in
    record {
      reads = read_further told c.args.before.now c.args.self.now c.loop-self.self c.take.new.self c.read_piece.new.into piece c.in_ok-count.count fills (take-append-le c.in_ok-count.count c.read_piece.new.into (drop c.room-asked.result c.loop-self.piece) read.within) kept.reads done.takes;
      fit = done.fit;
      wanted = done.wanted ∙ kept.wanted;
      buffer = omega (arith, length-append c.read_piece.new.into (drop c.room-asked.result c.loop-self.piece), length-drop c.room-asked.result c.loop-self.piece, c.read_piece.auto.into, length-take c.room-asked.result c.loop-self.piece, kept.buffer, c.room-asked.ensures.few);
      same = read.kept ∙ kept.same;
    }

pub returns-in_err-take-clause-gathers : goal.returns-in_err-take-clause-gathers
returns-in_err-take-clause-gathers g c =
    let p = err_from_is_err_and c.from_residual-in_err-take.result c.from_residual-in_err-take.ensures.1 in
    let kept = c.loop-self.invariant in
    let read = c.in_ok-count.ensures in
    let told = (g.S.Shelf.seen c.args.shelf.now).told c.args.name.now in
    let fills : (text : List ℕ) → told ≡ held text → Fills text c.loop-self.self.read c.read_piece.new.into c.in_ok-count.count =
    λ text is. read.held text (told_same _ _ c.args.name.now _ kept.same is) (c.requires.short text is) in
    let piece : List ℕ = take c.in_ok-count.count (c.read_piece.new.into ++ drop c.room-asked.result c.loop-self.piece) in
    rw (p.1, p.2) (λ of_text. take_fails told c.args.before.now c.args.self.now c.loop-self.self c.read_piece.new.into piece c.in_ok-count.count c.in_err-take.field-0.0 read.limit read.within fills
    (take-append-le c.in_ok-count.count c.read_piece.new.into (drop c.room-asked.result c.loop-self.piece) read.within) kept.reads (c.in_err-take.ensures.takes of_text))

pub returns-clause-gathers : goal.returns-clause-gathers
returns-clause-gathers g c =
    let kept = c.loop-self.invariant in
    let full : length c.loop-self.self.rows ≡ c.loop-self.self.wanted = omega (c.loop-self-test.false, c.len.ensures, kept.fit.rows.within, arith) in
    settled_gathers _ c.args.before.now c.args.self.now c.loop-self.self kept.reads (kept.fit.settled full) kept.fit.limit
