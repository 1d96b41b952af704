use Rattle.std.proofs.Common.{◌≡◌, ◌+◌, eqb, length, ◌∙◌, arith}
use Rattle.std.specs.List.{position_or_len}
use Rattle.std.proofs.lemmas.List.{take_rest}
use Rattle.vw_text.proofs.FoundBytes.{cut_at_found, none_found}
use Rattle.vw_blif.proofs.Sides.{formal_is, actual_is, none_behind, both_there}
use Rattle.vw_blif.proofs.bind.sides.Goals as goal
use Rattle.vw_blif.proofs.bind.sides.Goals.{In-Some}

cut_is : (c : In-Some) → position_or_len (λ b. eqb b 61) c.args.word.now ≡ c.in-Some.cut
cut_is c = let h = c.in-Some.ensures in cut_at_found (λ b. eqb b 61) c.args.word.now _ h.0.high h.0.before h.1

pub returns-in_default : goal.returns-in_default
returns-in_default c =
    let word = c.args.word.now in
    none_behind word (length word) (none_found (λ b. eqb b 61) word c.in_default.ensures) (omega arith)

pub returns-then-cut-word : goal.returns-then-cut-word
returns-then-cut-word c = none_behind c.args.word.now c.in-Some.cut (cut_is ((goal.at.returns-then-cut-word c).In-Some)) (omega arith)

pub returns : goal.returns
returns c =
    let word = c.args.word.now in
    let cut = c.in-Some.cut in
    let at = cut_is ((goal.at.returns c).In-Some) in
    let within = c.in-Some.ensures.0.high in
    (both_there word cut at (omega arith) (omega arith), formal_is word cut at, take_rest word (cut + 1) ∙ actual_is word cut at)
