-- the places so far, and those that are left
use Rattle.std.proofs.Common.{◌≡◌, ◌++◌, drop}
use Rattle.vw_sim.specs.Steps.Tables.{wide_places}
use Rattle.vw_sim.proofs.tables.wide_places.Given as goal

abbrev pub invariant-loop-place : goal.invariant-loop-place
invariant-loop-place l = l.places.items ++ wide_places l.room l.cells l.place (drop l.place l.number-items) ≡ wide_places l.room l.cells 0 l.number-items
