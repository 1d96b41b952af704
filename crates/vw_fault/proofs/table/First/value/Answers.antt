use Rattle.std.proofs.Common.{◌%◌, List, ℕ, get_or, ap}
use Rattle.vw_fault.proofs.Tables.{one_input}
use Rattle.vw_fault.proofs.table.First.value.Goals as goal

-- its two lowest bits say which of the four tables it is
pub returns : goal.returns
returns c = λ lane low. one_input c.args.table c.args.self.now.word (get_or c.args.self.now.tables (c.args.table % 4) 0) 0 lane low (ap (λ (tables : List ℕ). get_or tables (c.args.table % 4) 0) c.args.self.now.tables_are)
