-- The place of a hop's link is the number of the link over which it goes.
use Rattle.std.proofs.Common.{◌≡◌, ℕ, Option, ap}
use Rattle.std.specs.Prelude.{unwrap_or}
use Rattle.vw_plan.specs.declared.board.Board.{Board}
use Rattle.vw_plan.specs.declared.wire.Hop.{Hop}
use Rattle.vw_plan.proofs.HopLinks.{HopLink}
use Rattle.vw_ready.proofs.HopNumbers.{hop_number}
use Rattle.vw_prog.specs.Timetable.{link_of_hop}

-- the timetable has it by that number
pub hop_place : (board : Board) (hop : Hop) (own : HopLink board hop) → link_of_hop board.links hop ≡ own.number
hop_place board hop own = ap (λ (found : Option ℕ). unwrap_or found 0) (hop_number board hop own)
