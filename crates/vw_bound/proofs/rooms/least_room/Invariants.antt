-- the least period for the times so far
use Rattle.vw_bound.specs.Steps.Rooms.{IsRoomSoFar}
use Rattle.vw_bound.proofs.rooms.least_room.Given as goal

abbrev pub invariant-loop-place : goal.invariant-loop-place
invariant-loop-place l = IsRoomSoFar l.pins l.times l.place l.least
