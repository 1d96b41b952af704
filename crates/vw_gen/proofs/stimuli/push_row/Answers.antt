use Rattle.std.proofs.Common.{◌≡◌, ◌∙◌, ◌+◌, ◌%◌, ◌++◌, ◌∷◌, [], ℕ, List, ap, append_assoc, arith}
use Rattle.std.specs.List.{range_with_len}
use Rattle.vw_gen.specs.Draws.{drawn_state, draw}
use Rattle.vw_gen.specs.Stimulus.{drawn_bits}
use Rattle.vw_gen.proofs.StatesAfter.{drawn_state-next}
use Rattle.vw_text.proofs.LineTexts.{bytes-map}
use Rattle.vw_text.proofs.WrittenPieces.{range_more, range_all}
use Rattle.vw_gen.proofs.stimuli.push_row.Goals as goal

pub loop-column-preserved : goal.loop-column-preserved
loop-column-preserved c =
    let start = c.args.draws.now in
    let text = c.loop-column.text.items in
    let further = drawn_state-next start c.loop-column._column c.loop-column.draws c.loop-column.invariant.1 in (
      range_more (λ (column : ℕ). (48 + draw start (column + 1) 2) ∷ []) c.loop-column._column 8 text c.push.new.self.items _ c.loop-column-test.true
          (c.in_ok-push.ensures.items ∙ ap (λ (bit : ℕ). text ++ (48 + bit) ∷ []) (c.draw.ensures.drawn ∙ ap (λ (state : ℕ). state % 2) further)) c.loop-column.invariant.0,
      c.draw.ensures.state ∙ further,
    )

pub returns-clause-text : goal.returns-clause-text
returns-clause-text c =
    let start = c.args.draws.now in
    let old = c.args.text.now.items in
    let written = range_all (λ (column : ℕ). (48 + draw start (column + 1) 2) ∷ []) c.loop-column._column 8 c.loop-column.text.items _ c.loop-column-test.false c.loop-column.invariant.0 in
    let bits = ap (λ (bytes : List ℕ). old ++ bytes) (bytes-map (λ (column : ℕ). 48 + draw start (column + 1) 2) (range_with_len 0 8)) in
    c.in_ok-push-2.ensures.items ∙ ap (λ (text : List ℕ). text ++ 10 ∷ []) (written ∙ bits) ∙ append_assoc old (drawn_bits start 0) (10 ∷ [])

pub returns-clause-draws : goal.returns-clause-draws
returns-clause-draws c =
    let all : c.loop-column._column ≡ 8 = omega (arith, c.loop-column-test.false, c.loop-column.auto._column-end) in
    c.loop-column.invariant.1 ∙ ap (λ (draws : ℕ). drawn_state c.args.draws.now draws) all
