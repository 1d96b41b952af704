-- A worked example: the lines on which the items of the toggle's board stand in its text.
use Rattle.std.proofs.Common.{◌≡◌, [], ◌∷◌, map, refl}
use Rattle.std.specs.Fmt.{digits}
use Rattle.vw_blif.specs.PlainDesigns.{line_of}
use Rattle.vw_plan.proofs.Toggle.{planned_with, quick}
use Rattle.vw_emit_text.specs.Numbered.{spelled_board}

-- The first model has its head on lines 1 to 3 and its end on line 7. The host begins on line 8: three latches of its
-- sequencer, the table and the latch of a hop that reaches it, what it sends by a pin, the pin, and its output. The first
-- chip begins on line 25, with its gate behind the sequencer and two hops that reach it; the second on line 47, with its
-- latch, one hop that reaches it, and two pins
pub toggle_lines : map (λ model. map line_of model.items) (spelled_board (planned_with 0 quick)) ≡
    (4 ∷ 5 ∷ 6 ∷ [])
    ∷ (11 ∷ 12 ∷ 13 ∷ 14 ∷ 17 ∷ 18 ∷ 20 ∷ 22 ∷ [])
    ∷ (28 ∷ 29 ∷ 30 ∷ 31 ∷ 34 ∷ 37 ∷ 38 ∷ 41 ∷ 42 ∷ 44 ∷ [])
    ∷ (50 ∷ 51 ∷ 52 ∷ 53 ∷ 56 ∷ 57 ∷ 60 ∷ 61 ∷ 63 ∷ 65 ∷ 67 ∷ [])
    ∷ []
unfolding digits
toggle_lines = refl
