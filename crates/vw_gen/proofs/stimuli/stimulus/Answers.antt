use Rattle.std.proofs.Common.{◌∙◌, ◌+◌, ◌*◌, ◌++◌, ◌∷◌, [], ℕ, List, ap}
use Rattle.std.specs.List.{flat_map, range_with_len}
use Rattle.vw_gen.specs.Stimulus.{drawn_bits}
use Rattle.vw_gen.proofs.StatesAfter.{bits_moved, drawn_state-row}
use Rattle.vw_text.proofs.LineTexts.{lines_text-map}
use Rattle.vw_text.proofs.WrittenPieces.{range_more, range_all}
use Rattle.vw_gen.proofs.stimuli.stimulus.Goals as goal

pub loop-row-init : goal.loop-row-init
loop-row-init c = (
  ap (λ (text : List ℕ). text ++ flat_map (λ (row : ℕ). drawn_bits (c.args.n + 1) (8 * row) ++ 10 ∷ []) (range_with_len 0 300)) c.new-text.ensures.items,
  c.start-draws.ensures,
)

pub loop-row-preserved : goal.loop-row-preserved
loop-row-preserved c =
    let start = c.args.n + 1 in
    let row = c.loop-row._row in
    let text = c.loop-row.text.items in (
      range_more (λ (number : ℕ). drawn_bits start (8 * number) ++ 10 ∷ []) row 300 text c.push_row.new.text.items _ c.loop-row-test.true
          (c.in_ok-push_row.ensures.text ∙ ap (λ (bits : List ℕ). text ++ (bits ++ 10 ∷ [])) (bits_moved start (8 * row) c.loop-row.draws c.loop-row.invariant.1)) c.loop-row.invariant.0,
      c.in_ok-push_row.ensures.draws ∙ drawn_state-row start row c.loop-row.draws c.loop-row.invariant.1,
    )

pub returns : goal.returns
returns c =
    range_all (λ (row : ℕ). drawn_bits (c.args.n + 1) (8 * row) ++ 10 ∷ []) c.loop-row._row 300 c.loop-row.text.items _ c.loop-row-test.false c.loop-row.invariant.0
    ∙ lines_text-map (λ (row : ℕ). drawn_bits (c.args.n + 1) (8 * row)) (range_with_len 0 300)
