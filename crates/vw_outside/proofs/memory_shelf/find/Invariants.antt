-- no text before this place has the name
use Rattle.std.proofs.Common.{◌≡◌, ◌+◌, drop}
use Rattle.std.specs.Prelude.{option_map}
use Rattle.vw_outside.specs.Steps.TextPlaces.{text_place}
use Rattle.vw_outside.proofs.memory_shelf.find.Given as goal

abbrev pub invariant-loop-place : goal.invariant-loop-place
invariant-loop-place l = option_map (λ later. later + l.place) (text_place (drop l.place l.files) l.name) ≡ text_place l.files l.name
