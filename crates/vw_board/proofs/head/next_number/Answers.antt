use Rattle.std.proofs.Common.{◌≡◌, ◌<◌, ◌+◌, ◌-◌, ℕ, zero, suc, List, [], ◌∷◌, length, slice_get, Some, ap, sym, ◌∙◌, arith}
use Rattle.std.specs.Option.{option_map_or}
use Rattle.std.proofs.lemmas.Option.{slice_get_within}
use Rattle.vw_text.specs.declared.line.Line.{Line}
use Rattle.vw_board.specs.Headers.{next_number}
use Rattle.vw_board.proofs.head.next_number.Goals as goal

-- the number after the last line
behind_last_line : (lines : List Line) (line : Line) (place : ℕ) → place + 1 ≡ length lines → slice_get lines place ≡ Some line → next_number lines ≡ line.number + 1
behind_last_line [] line place last there = absurd (omega arith)
behind_last_line (first ∷ []) line zero last there = let same : first.number ≡ line.number = ap (λ found. option_map_or (λ (one : Line). one.number) found 0) there in ap (λ n. n + 1) same
behind_last_line (first ∷ []) line (suc place) last there = absurd (omega arith)
behind_last_line (first ∷ next ∷ lines) line zero last there = absurd (omega arith)
behind_last_line (first ∷ next ∷ lines) line (suc place) last there = behind_last_line (next ∷ lines) line place (omega arith) there

pub returns-in-Some : goal.returns-in-Some
returns-in-Some c =
    let there = sym c.in-Some.ensures.value in
    let within : length c.args.lines.now - 1 < length c.args.lines.now = slice_get_within c.args.lines.now (length c.args.lines.now - 1) c.in-Some.line.now there in
    ap (λ n. n + 1) c.number.ensures ∙ sym (behind_last_line c.args.lines.now c.in-Some.line.now (length c.args.lines.now - 1) (omega arith) there)
