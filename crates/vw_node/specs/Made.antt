-- A node that was made for a share. Source: this project.
use Rattle.std.specs.Prelude.{◌≡◌}
use Rattle.vw_prog.specs.declared.job.Job.{Job}
use Rattle.vw_prog.specs.declared.job.Share.{Share}
use Rattle.vw_node.specs.declared.node.Node.{Node}
use Rattle.vw_node.specs.Fits.{FitsJob, IsShare, state_of}
use Rattle.vw_node.specs.States.{start_state}

-- it has what it needs for each job of which this is the share, and stands before its first action
pub record IsMade (share : Share) (node : Node) : Type 0 where
  pub same : node.share ≡ share
  pub fits : (job : Job) → IsShare job share → FitsJob job node
  pub starts : (job : Job) → IsShare job share → state_of node ≡ start_state job share.node
