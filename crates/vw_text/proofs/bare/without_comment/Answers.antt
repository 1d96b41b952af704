-- A line is cut at its first `#`.
use Rattle.std.proofs.Common.{take, length, sym, ◌∙◌, ap, ◌==◌, arith}
use Rattle.std.proofs.lemmas.List.{take_all}
use Rattle.vw_text.proofs.FoundBytes.{cut_at_found, none_found}
use Rattle.vw_text.proofs.bare.without_comment.Goals as goal

pub returns-in-Some : goal.returns-in-Some
returns-in-Some c =
    let h = c.in-Some.ensures in
    sym (ap (λ at. take at c.args.line.now) (cut_at_found (λ b. b == 35) c.args.line.now _ h.0.high h.0.before h.1))

pub returns-in-None : goal.returns-in-None
returns-in-None c =
    let line = c.args.line.now in
    sym (ap (λ at. take at line) (none_found (λ b. b == 35) line c.in-None.ensures) ∙ take_all (length line) line (omega arith))
