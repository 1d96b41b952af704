-- Bits at once, and then byte by byte.
use Rattle.std.proofs.Common.{◌≡◌, ◌<◌, ◌==◌, ◌||◌, ◌++◌, [], ℕ, List, true, length, take, slice_index, sym, ◌∙◌, ap, subst, arith}
use Rattle.std.proofs.lemmas.Result.{err_from_is_err_and}
use Rattle.std.proofs.lemmas.List.{take-append-drop, append-nil, get_or-drop, length-drop}
use Rattle.vw_rows.specs.Steps.Lines.{GoesOnByFront}
use Rattle.vw_rows.proofs.LineFronts.{fronts_joined, bad_further}
use Rattle.vw_rows.proofs.line_so_far.LineSoFar.take_words.Goals as goal

pub returns-in_err-further-clause-takes : goal.returns-in_err-further-clause-takes
returns-in_err-further-clause-takes c =
    let p = err_from_is_err_and c.from_residual-in_err-further.result c.from_residual-in_err-further.ensures.1 in
    let piece = c.args.piece.now in
    let count = c.in_ok-count.count in
    let rest = c.split_at.result.1.now in
    let cut : piece ≡ take count piece ++ (rest ++ []) =
    sym (take-append-drop count piece) ∙ ap (λ (bs : List ℕ). take count piece ++ bs) (sym c.split_at.ensures.back ∙ sym (append-nil rest)) in
    rw (p.1, p.2) (λ of_text. bad_further c.args.self.now c.take_bits.new.self (take count piece) rest [] piece c.args.number c.in_err-further.field-0.0 cut c.in_ok-count.ensures.front
    (c.in_err-further.ensures.takes of_text))

pub returns-clause-takes : goal.returns-clause-takes
returns-clause-takes c =
    let piece = c.args.piece.now in
    let count = c.in_ok-count.count in
    let further = c.in_ok-further.further in
    let there = subst (λ (rest : List ℕ). GoesOnByFront rest further c.take_bits.new.self c.take_bytes.new.self × (further < length rest → (slice_index rest further == 10 || slice_index rest further == 35) ≡ true))
    c.split_at.ensures.back c.in_ok-further.ensures.takes in (
      fronts_joined piece count further c.args.self.now c.take_bits.new.self c.take_bytes.new.self c.in_ok-count.ensures there.0,
      λ inside. subst (λ (b : ℕ). (b == 10 || b == 35) ≡ true) (get_or-drop count piece further 0) (there.1 (omega (inside, length-drop count piece, arith))),
    )
