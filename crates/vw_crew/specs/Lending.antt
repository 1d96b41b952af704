-- The ends of a node are lent by its group. No public clause cites it.
use Rattle.std.specs.Prelude.{ℕ, [], slice_set}
use Rattle.std.specs.Borrow.{Fml, Lends, MutBor, RattleType}
use mir.Syntax.{named}
use Rattle.vw_prog.specs.declared.ends.PutEnd.{Ghosts as Puts}
use Rattle.vw_prog.specs.declared.ends.TakeEnd.{Ghosts as Takes}
use Rattle.vw_crew.specs.contracts.ends.NodeEnds.{the_row as ends_row}
use Rattle.vw_crew.specs.contracts.group.Group.{the_row}
use Rattle.vw_crew.specs.Ends.{SeenOwn}
use Rattle.vw_crew.specs.Groups.{SeenGroup}

-- once the borrow ends, the node at the place has the ends that it left
abbrev pub LendsEnds : (T U : RattleType) → Puts T.Denot → Takes U.Denot → MutBor SeenGroup → ℕ → MutBor SeenOwn → Fml
LendsEnds T U puts takes group place lent =
    Lends (the_row (record { mir = named 1; lft = [] }) T U puts takes) (ends_row T U puts takes) group lent (λ own. record (group.now) { ends = slice_set group.now.ends place own })
