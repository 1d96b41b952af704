use Rattle.vw_design.proofs.Ordered.{loop_free}
use Rattle.vw_design.proofs.laws.values.ordered_is_loop_free.Goals as goal

-- each gate of a loop would stand before itself in the order
pub returns : goal.returns
returns c = λ design accepted watched ordered made. loop_free design accepted watched ordered.flat made ordered.order ordered.is_order
