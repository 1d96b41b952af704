use Rattle.std.proofs.Common.{◌∙◌, ℕ, List, length, take, ap, sym, arith}
use Rattle.vw_net.specs.declared.cell.Cell.TheVariants.{Gate}
use Rattle.vw_net.specs.declared.flat.Flat.{Flat}
use Rattle.vw_merge.proofs.GatheredWords.{gate_has}
use Rattle.vw_merge.proofs.GateCells.{cell_there}
use Rattle.vw_merge.proofs.words.word_of_gate.Goals as goal

-- the table's value in each lane is that of the gate where its nets have the values there
pub returns-in_ok-found-in-Gate : goal.returns-in_ok-found-in-Gate
returns-in_ok-found-in-Gate c = λ leaves few words.
    let ordered = c.args.ordered.now in
    let here = cell_there ordered.flat.cells c.cells.result.now c.args.number _ (Gate c.in-Gate.ins c.in-Gate.cover) (c.cells.ensures ∙ ap (λ (flat : Flat). flat.cells) c.flat.ensures) c.requires.within c.index-cells-number.is c.in-Gate.is in
    let found = c.in_ok-found-in-Gate.ensures ordered.flat leaves words in
    gate_has ordered.flat leaves c.args.number c.as_slice.result.now c.in-Gate.ins c.in_ok-found-in-Gate.found c.in-Gate.cover _ c.gate_word.result
    (λ row state. c.gates_settle.ensures ordered row state c.args.number c.in-Gate.ins c.in-Gate.cover here)
    c.as_slice.ensures
    (ap (λ (n : ℕ). take n c.in_ok-found-in-Gate.found) (c.len-in-Gate.ensures ∙ sym (ap (λ (nets : List ℕ). length nets) c.as_slice.ensures)))
    (omega (arith, found.0, c.if-len-gt6.false, c.len.ensures, ap (λ (nets : List ℕ). length nets) c.as_slice.ensures)) few found.1 c.gate_word.ensures
