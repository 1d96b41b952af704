use Rattle.std.proofs.Common.{ℕ, get_or, arith}
use Rattle.vw_net.specs.TruthTable.{bit_of}
use Rattle.vw_fault.proofs.Tables.{by_table}
use Rattle.vw_fault.proofs.gate.gate_word.Goals as goal

-- a truth table has the table's value at the place of the bits of a lane
pub returns-in-empty : goal.returns-in-empty
returns-in-empty c = λ lane low. by_table c.args.cover.now 0 c.args.ins.now (λ (net : ℕ). bit_of (get_or c.args.words.now net 0) lane) c.truth_table-table.result (bit_of c.of_none.result lane) (omega arith) (omega arith) c.requires.arity c.truth_table-table.ensures (c.of_none.ensures lane low)

pub returns-in-len1 : goal.returns-in-len1
returns-in-len1 c = λ lane low. by_table c.args.cover.now 1 c.args.ins.now (λ (net : ℕ). bit_of (get_or c.args.words.now net 0) lane) c.truth_table-table.result (bit_of c.value.result lane) (omega arith) (omega arith) c.requires.arity c.truth_table-table.ensures (rw (c.of.ensures, c.get.ensures) at (c.value.ensures lane low))

pub returns-in-len2 : goal.returns-in-len2
returns-in-len2 c = λ lane low. by_table c.args.cover.now 2 c.args.ins.now (λ (net : ℕ). bit_of (get_or c.args.words.now net 0) lane) c.truth_table-table.result (bit_of c.of_two.result lane) (omega arith) (omega arith) c.requires.arity c.truth_table-table.ensures (rw (c.of-in-len2.ensures, c.get-in-len2.ensures, c.get-in-len2-2.ensures) at (c.of_two.ensures lane low))

pub returns-in-len3 : goal.returns-in-len3
returns-in-len3 c = λ lane low. by_table c.args.cover.now 3 c.args.ins.now (λ (net : ℕ). bit_of (get_or c.args.words.now net 0) lane) c.truth_table-table.result (bit_of c.of_three.result lane) (omega arith) (omega arith) c.requires.arity c.truth_table-table.ensures (rw (c.of-in-len3.ensures, c.get-in-len3.ensures, c.get-in-len3-2.ensures, c.get-in-len3-3.ensures) at (c.of_three.ensures lane low))

pub returns-in-len4 : goal.returns-in-len4
returns-in-len4 c = λ lane low. by_table c.args.cover.now 4 c.args.ins.now (λ (net : ℕ). bit_of (get_or c.args.words.now net 0) lane) c.truth_table-table.result (bit_of c.of_four.result lane) (omega arith) (omega arith) c.requires.arity c.truth_table-table.ensures (rw (c.of-in-len4.ensures, c.get-in-len4.ensures, c.get-in-len4-2.ensures, c.get-in-len4-3.ensures, c.get-in-len4-4.ensures) at (c.of_four.ensures lane low))

pub returns-in-len5 : goal.returns-in-len5
returns-in-len5 c = λ lane low. by_table c.args.cover.now 5 c.args.ins.now (λ (net : ℕ). bit_of (get_or c.args.words.now net 0) lane) c.truth_table-table.result (bit_of c.of_five.result lane) (omega arith) (omega arith) c.requires.arity c.truth_table-table.ensures (rw (c.of-in-len5.ensures, c.get-in-len5.ensures, c.get-in-len5-2.ensures, c.get-in-len5-3.ensures, c.get-in-len5-4.ensures, c.get-in-len5-5.ensures) at (c.of_five.ensures lane low))

pub returns-in-len6 : goal.returns-in-len6
returns-in-len6 c = λ lane low. by_table c.args.cover.now 6 c.args.ins.now (λ (net : ℕ). bit_of (get_or c.args.words.now net 0) lane) c.truth_table-table.result (bit_of c.of_six.result lane) (omega arith) (omega arith) c.requires.arity c.truth_table-table.ensures (rw (c.of-in-len6.ensures, c.get-in-len6.ensures, c.get-in-len6-2.ensures, c.get-in-len6-3.ensures, c.get-in-len6-4.ensures, c.get-in-len6-5.ensures, c.get-in-len6-6.ensures) at (c.of_six.ensures lane low))
