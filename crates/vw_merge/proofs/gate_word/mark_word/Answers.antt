use Rattle.std.proofs.Common.{ap, sym, ◌∙◌}
use Rattle.vw_net.specs.declared.cover.Mark.{Mark}
use Rattle.vw_net.specs.Mark.{mark_matches}
use Rattle.vw_net.specs.TruthTable.{bit_of}
use Rattle.vw_merge.proofs.Lanes.{lane_not, lane_ones}
use Rattle.vw_merge.proofs.gate_word.mark_word.Goals as goal

-- each mark asks for one of both bits, or for neither
pub returns-in-Zero : goal.returns-in-Zero
returns-in-Zero c = λ lane low. lane_not c.args.word lane low ∙ ap (λ (mark : Mark). mark_matches mark (bit_of c.args.word lane)) (sym c.in-Zero.is)

pub returns-in-Any : goal.returns-in-Any
returns-in-Any c = λ lane low. lane_ones lane low ∙ ap (λ (mark : Mark). mark_matches mark (bit_of c.args.word lane)) (sym c.in-Any.is)
