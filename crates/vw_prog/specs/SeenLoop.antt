-- A shift loop as contracts see it.
use Rattle.std.specs.Prelude.{ℕ, List}
use Rattle.vw_prog.specs.declared.shift.LoopNet.{LoopNet}

-- the link and the pin over which its nets are sent, and the nets in order
pub record SeenLoop : Type 0 where
  pub link : ℕ
  pub pin : ℕ
  pub nets : List LoopNet
