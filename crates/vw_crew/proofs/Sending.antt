-- Groups may go to other threads.
use denote.Ref.{NamedLft}
use denote.RattleType.{RattleType}
use denote.Param.Send.{IsSend, IsSync, sendable}
use denote.Param.SendFields.{declared_send, declared_sync}
use Rattle.std.proofs.Crossing.{crosses}
use Rattle.vw_prog.specs.declared.ends.PutEnd as put_end
use Rattle.vw_prog.specs.declared.ends.TakeEnd as take_end
use Rattle.vw_net.specs.contracts.ordered.Ordered as ordered
use Rattle.vw_plan.specs.contracts.board.Board as board
use Rattle.vw_plan.specs.contracts.plan.Plan as plan
use Rattle.vw_plan.specs.contracts.checked.Checked as checked
use Rattle.vw_prog.specs.contracts.code.Code as code
use Rattle.vw_prog.specs.contracts.job.Share as share
use Rattle.vw_node.specs.contracts.node.Node as node
use Rattle.vw_crew.specs.contracts.ends.NodeEnds as ends
use Rattle.vw_crew.specs.contracts.group.Group as group

ordered_sync : IsSync ordered.the_row
ordered_sync = search (sendable, crosses) depth 40 fits 20000

board_sync : IsSync board.the_row
board_sync = search (sendable, crosses) depth 40 fits 20000

plan_sync : IsSync plan.the_row
plan_sync = search (sendable, crosses) depth 40 fits 20000

checked_sync : IsSync checked.the_row
checked_sync = declared_sync checked.the_type (ordered_sync, (board_sync, (plan_sync, tt)))

code_sync : IsSync code.the_row
code_sync = search (sendable, crosses) depth 40 fits 20000

share_send : (lifetimes : NamedLft) → IsSend (share.the_row lifetimes)
share_send lifetimes = search (sendable, crosses, checked_sync) depth 40 fits 20000

node_send : (lifetimes : NamedLft) → IsSend (node.the_row lifetimes)
node_send lifetimes = declared_send (node.the_type lifetimes)
    (share_send lifetimes, (search (sendable, crosses, code_sync) depth 40 fits 20000, (search (sendable, crosses) depth 40 fits 20000, (search (sendable, crosses) depth 40 fits 20000, (search (sendable, crosses) depth 40 fits 20000, (search (sendable, crosses) depth 40 fits 20000, (search (sendable, crosses) depth 40 fits 20000, (search (sendable, crosses) depth 40 fits 20000, tt))))))))

ends_send : (T U : RattleType) (t : put_end.Ghosts T.Denot) (u : take_end.Ghosts U.Denot) → IsSend T → IsSend U → IsSend (ends.the_row T U t u)
ends_send T U t u send_t send_u = search (sendable, crosses) depth 40 fits 20000

pub group_send : (lifetimes : NamedLft) (T U : RattleType) (t : put_end.Ghosts T.Denot) (u : take_end.Ghosts U.Denot) → IsSend T → IsSend U → IsSend (group.the_row lifetimes T U t u)
group_send lifetimes T U t u send_t send_u = search (sendable, crosses, node_send, ends_send) depth 40 fits 20000
