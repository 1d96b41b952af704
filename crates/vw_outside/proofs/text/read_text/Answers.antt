use Rattle.std.proofs.Common.{◌≡◌, ℕ, List, refl, ◌∙◌, ◌<◌, ◌≤◌, sym, length, take, drop, ◌++◌, arith, length-append, length-take, length-drop, subst, ap}
use Rattle.vw_outside.specs.Told.{Told}
use Rattle.vw_outside.proofs.TextsTold.{IsTextOf-from_cases, OfText-from_cases}
use Rattle.vw_outside.specs.Reads.{SeenShelf, Fills, CountsFault}
use Rattle.vw_outside.specs.Fronts.{IsFront}
use Rattle.vw_outside.proofs.Fronts.{front_further, whole_front}
use Rattle.vw_outside.proofs.text.read_text.Goals as goal

-- what is told of a name is the same of equal shelves
told_same : (before now : SeenShelf) (name : List ℕ) (what : Told) → now ≡ before → before.told name ≡ what → now.told name ≡ what
told_same before now name what same told = ap (λ (shelf : SeenShelf). shelf.told name) same ∙ told

pub loop-piece-preserved : goal.loop-piece-preserved
loop-piece-preserved g c =
    let kept = c.loop-piece.invariant in
    let was = c.in_ok-extend_from_slice.ensures in
    let count = c.in-Ok.ensures.within in
    let so_far : c.len-in-loop-piece-2.result ≡ length c.loop-piece.text.items = omega (arith, c.loop-piece.text.ok.0) in
    let piece : List ℕ = take c.in-Ok.count (c.read.new.into ++ drop c.min-room.result c.loop-piece.piece) in
    let longer : length c.extend_from_slice.new.self.items ≡ length (c.loop-piece.text.items ++ piece) = ap (λ (text : List ℕ). length text) was.items in
    let long : length piece ≤ c.in-Ok.count = omega (arith, length-take c.in-Ok.count (c.read.new.into ++ drop c.min-room.result c.loop-piece.piece)) in
    let asked : length c.read.new.into ≤ c.min-room.result = omega (arith, c.read.auto.into, length-take c.min-room.result c.loop-piece.piece) in
    record {
      front = λ bytes told.
          let fills = subst (λ from. Fills bytes from c.read.new.into c.in-Ok.count) so_far (c.in-Ok.ensures.held bytes (told_same _ _ c.args.name.now _ kept.same told)) in
          subst (λ text. IsFront text bytes) (sym was.items) (front_further c.loop-piece.text.items c.read.new.into _ bytes c.in-Ok.count (kept.front bytes told) fills count);
      present = λ told. absurd (let wrong = c.in-Ok.ensures.absent (told_same _ _ c.args.name.now _ kept.same told) in cc);
      within = omega (arith, longer, long, asked, length-append c.loop-piece.text.items piece, count, c.min-room.ensures, c.loop-piece.text.ok.0);
      buffer = omega (arith, length-append c.read.new.into (drop c.min-room.result c.loop-piece.piece), length-drop c.min-room.result c.loop-piece.piece, kept.buffer, c.min-room.ensures);
      same = c.in-Ok.ensures.done ∙ kept.same;
    }

pub returns-then-count-eq0-clause-whole : goal.returns-then-count-eq0-clause-whole
returns-then-count-eq0-clause-whole g c =
    let kept = c.loop-piece.invariant in
    let text = c.loop-piece.text.items in
    let so_far : c.len-in-loop-piece-2.result ≡ length text = omega (arith, c.loop-piece.text.ok.0) in
    let room : 0 < length c.read.new.into = omega (arith, c.read.auto.into, length-take c.min-room.result c.loop-piece.piece, kept.buffer, c.min-room.ensures, c.loop-piece.text.ok.0) in
    IsTextOf-from_cases ((g.S.Shelf.seen c.args.shelf.now).told c.args.name.now) text
    (λ told. let wrong = c.in-Ok.ensures.absent (told_same _ _ c.args.name.now _ kept.same told) in cc)
    (λ bytes told.
    let fills = subst (λ from. Fills bytes from c.read.new.into c.in-Ok.count) so_far (c.in-Ok.ensures.held bytes (told_same _ _ c.args.name.now _ kept.same told)) in
    whole_front text c.read.new.into bytes c.in-Ok.count (kept.front bytes told) fills room (omega arith))

pub returns-clause-too_large : goal.returns-clause-too_large
returns-clause-too_large g c = λ is.
    let kept = c.loop-piece.invariant in
    let past : c.args.limit < length c.loop-piece.text.items = omega (arith, c.loop-piece.text.ok.0) in
    OfText-from_cases ((g.S.Shelf.seen c.args.shelf.now).told c.args.name.now) (λ bytes. c.args.limit < length bytes) c.loop-piece.text.items past
    (λ told. omega (arith, kept.present told))
    (λ bytes told. let front = kept.front bytes told in omega arith)

pub returns-in_default-clause-fault : goal.returns-in_default-clause-fault
returns-in_default-clause-fault g c = λ is.
    let seen = g.S.Shelf.seen in
    subst (λ (shelf : SeenShelf). CountsFault c.args.name.now shelf (seen c.read.new.self)) c.loop-piece.invariant.same c.in_default.ensures.failed

pub returns-in_default-clause-absent : goal.returns-in_default-clause-absent
returns-in_default-clause-absent g c = λ told. refl

pub returns-in_default-clause-kept : goal.returns-in_default-clause-kept
returns-in_default-clause-kept g c = λ other. absurd (other refl)

pub returns-clause-absent : goal.returns-clause-absent
returns-clause-absent g c = λ told. absurd (omega (arith, c.loop-piece.invariant.present told, c.loop-piece.text.ok.0))

pub returns-clause-kept : goal.returns-clause-kept
returns-clause-kept g c = λ other. c.loop-piece.invariant.same
