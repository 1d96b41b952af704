use Rattle.std.proofs.Common.{[], ◌∷◌}
use Rattle.vw_net.specs.TruthTable.{bit_of}
use Rattle.vw_fault.proofs.Tables.{one_more_input}
use Rattle.vw_fault.proofs.table.of_three.Goals as goal

-- the upper half of the table where the last input is 1, and the lower half where it is 0
pub returns : goal.returns
returns c = λ lane low. one_more_input c.args.table (bit_of c.args.a.now.word lane ∷ bit_of c.args.b lane ∷ []) (bit_of c.args.c lane) _ _ _ (c.chosen.ensures lane) (c.of_two.ensures lane low) (c.of_two-2.ensures lane low)
