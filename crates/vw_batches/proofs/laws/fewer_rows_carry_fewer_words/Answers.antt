use Rattle.vw_net.specs.Cells.{start_values}
use Rattle.vw_batches.proofs.LinkWords.{words_of_front}
use Rattle.vw_batches.proofs.laws.fewer_rows_carry_fewer_words.Goals as goal

pub returns : goal.returns
returns c = λ planned unknown rows count link. words_of_front planned link 0 (start_values unknown planned.ordered.flat.cells) count rows
