use Rattle.std.proofs.Common.{◌≡◌, ◌<◌, ◌+◌, ℕ, suc, length, slice_get, ap, sym, subst, ◌∙◌, Some, arith}
use Rattle.std.proofs.lemmas.Option.{slice_get-get_or}
use Rattle.vw_answer.specs.Answers.{HasTold}
use Rattle.vw_answer.proofs.answering.answer_of.Goals as goal

pub put_chip-requires-clause-told : goal.put_chip-requires-clause-told
put_chip-requires-clause-told c =
    let chip = c.index-chip.result.now in
    let there : slice_get c.args.nodes.items c.loop-node.node ≡ Some chip = slice_get-get_or c.args.nodes.items c.loop-node.node chip (omega (arith, c.loop-node-test.true, c.len-node-end.ensures)) ∙ ap Some (sym c.index-chip.ensures) in
    subst (λ (node : ℕ). HasTold c.args.job.now node c.loop-node.room) (sym (c.requires.finished.numbers c.loop-node.node chip there)) c.loop-node.invariant

pub put_chip-requires-clause-number : goal.put_chip-requires-clause-number
put_chip-requires-clause-number c =
    let chip = c.index-chip.result.now in
    let there : slice_get c.args.nodes.items c.loop-node.node ≡ Some chip = slice_get-get_or c.args.nodes.items c.loop-node.node chip (omega (arith, c.loop-node-test.true, c.len-node-end.ensures)) ∙ ap Some (sym c.index-chip.ensures) in
    omega (arith, c.requires.finished.numbers c.loop-node.node chip there, c.loop-node.auto.node)

pub put_chip-requires-clause-finished : goal.put_chip-requires-clause-finished
put_chip-requires-clause-finished c =
    let chip = c.index-chip.result.now in
    let there : slice_get c.args.nodes.items c.loop-node.node ≡ Some chip = slice_get-get_or c.args.nodes.items c.loop-node.node chip (omega (arith, c.loop-node-test.true, c.len-node-end.ensures)) ∙ ap Some (sym c.index-chip.ensures) in
    c.requires.finished.each c.loop-node.node chip there

pub loop-node-preserved : goal.loop-node-preserved
loop-node-preserved c =
    let chip = c.index-chip.result.now in
    let there : slice_get c.args.nodes.items c.loop-node.node ≡ Some chip = slice_get-get_or c.args.nodes.items c.loop-node.node chip (omega (arith, c.loop-node-test.true, c.len-node-end.ensures)) ∙ ap Some (sym c.index-chip.ensures) in
    subst (λ (node : ℕ). HasTold c.args.job.now (node + 1) c.put_chip.new.self) (c.requires.finished.numbers c.loop-node.node chip there) c.put_chip.ensures

pub answer-requires-clause-told : goal.answer-requires-clause-told
answer-requires-clause-told c =
    let all : c.loop-node.node ≡ suc c.args.job.now.checked.board.chips = omega (arith, c.requires.finished.count, c.loop-node-test.false, c.loop-node.auto.node-end, c.len-node-end.ensures) in
    subst (λ (node : ℕ). HasTold c.args.job.now node c.loop-node.room) all c.loop-node.invariant

pub answer-requires-clause-number : goal.answer-requires-clause-number
answer-requires-clause-number c =
    let host = c.swap_remove-host.result in
    let within : 0 < length c.args.nodes.items = omega (arith, c.requires.finished.count) in
    let there : slice_get c.args.nodes.items 0 ≡ Some host = slice_get-get_or c.args.nodes.items 0 host within ∙ ap Some (sym c.swap_remove-host.ensures.value) in
    c.requires.finished.numbers 0 host there

pub answer-requires-clause-finished : goal.answer-requires-clause-finished
answer-requires-clause-finished c =
    let host = c.swap_remove-host.result in
    let within : 0 < length c.args.nodes.items = omega (arith, c.requires.finished.count) in
    let there : slice_get c.args.nodes.items 0 ≡ Some host = slice_get-get_or c.args.nodes.items 0 host within ∙ ap Some (sym c.swap_remove-host.ensures.value) in
    c.requires.finished.each 0 host there
