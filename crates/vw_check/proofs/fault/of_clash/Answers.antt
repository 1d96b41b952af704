-- a line of two pieces
use Rattle.std.proofs.Common.{◌≡◌, ◌∙◌, ℕ, List, [], ◌++◌, ap, append_assoc}
use Rattle.std.specs.Fmt.{decimal}
use Rattle.std.specs.Prelude.{codes}
use Rattle.vw_check.proofs.fault.of_clash.Goals as goal

pieces_joined : (before first between second rest : List ℕ)
    → (before ++ (first ++ (between ++ (second ++ [])))) ++ rest ≡ before ++ (first ++ (between ++ (second ++ rest)))
pieces_joined before first between second rest = simp append_assoc

pub returns : goal.returns
returns c =
    let before = codes "plan 13: wire " in
    let first = decimal c.args.wire in
    let between = codes " hop " in
    let second = decimal c.args.hop in
    let front : c.in_ok-line.line.items ≡ before ++ (first ++ (between ++ (second ++ []))) = c.in_ok-line.ensures in
    c.in_ok-extend_from_slice.ensures.items
    ∙ ap (λ (line : List ℕ). line ++ c.deref.result.now) front
    ∙ pieces_joined before first between second c.deref.result.now
    ∙ ap (λ (rest : List ℕ). before ++ (first ++ (between ++ (second ++ rest)))) (c.deref.ensures.value ∙ c.in_ok-rest.ensures)
