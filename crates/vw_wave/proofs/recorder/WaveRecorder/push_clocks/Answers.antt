-- The lines of one clock more.
use Rattle.std.proofs.Common.{◌≡◌, ◌<◌, ◌+◌, ◌++◌, ◌∷◌, ◌∙◌, ℕ, Bool, List, Some, length, drop, ap, ap₂, sym, append_assoc, arith}
use Rattle.std.proofs.lemmas.List.{drop_more}
use Rattle.std.proofs.lemmas.Option.{get_or_from_slice_get}
use Rattle.vw_text.specs.Physical.{lines_text}
use Rattle.vw_text.proofs.LineTexts.{lines_text-append}
use Rattle.vw_vcd.specs.Changes.{last_row}
use Rattle.vw_vcd.specs.Lines.{lines_of_clock, lines_of_clocks}
use Rattle.vw_vcd.specs.Progress.{Progress}
use Rattle.vw_wave.specs.FlatWave.{joined_rows}
use Rattle.vw_wave.proofs.recorder.WaveRecorder.push_clocks.Goals as goal

pub loop-clock-preserved : goal.loop-clock-preserved
loop-clock-preserved c =
    let i = c.loop-clock.clock in
    let kept = c.loop-clock.invariant in
    let pushed = c.in_ok-push_clock.ensures in
    let wave = c.loop-clock.self.wave in
    let before = c.loop-clock.text.items in
    let outputs = c.args.outputs.now in
    let states = c.args.states.now in
    let row = c.row.result.now in
    let state = c.row-in-loop-clock.result.now in
    let more = joined_rows (drop (i + 1) outputs) (drop (i + 1) states) in
    let within : i < length outputs = omega (arith, c.loop-clock-test.true, c.len-clock-end.ensures) in
    let inside : i < length states = omega (arith, within, c.requires.count) in
    let joined : joined_rows (drop i outputs) (drop i states) ≡ (row ++ state) ∷ more =
    ap₂ (λ (xs ys : List (List Bool)). joined_rows xs ys) (drop_more outputs i row within) (drop_more states i state inside)
    ∙ ap₂ (λ (xs ys : List Bool). (xs ++ ys) ∷ more) (get_or_from_slice_get outputs i row row c.row.ensures) (get_or_from_slice_get states i state state c.row-in-loop-clock.ensures) in
    let front = lines_of_clock wave.clock wave.last (row ++ state) in
    let rest = lines_of_clocks (wave.clock + 1) (Some (row ++ state)) more in
    record {
      text =
          ap₂ (λ (text : List ℕ) (seen : Progress). text ++ lines_text (lines_of_clocks seen.clock seen.last more)) pushed.text pushed.seen
          ∙ append_assoc before (lines_text front) (lines_text rest)
          ∙ ap (λ (text : List ℕ). before ++ text) (sym (lines_text-append front rest))
          ∙ ap (λ (rows : List (List Bool)). before ++ lines_text (lines_of_clocks wave.clock wave.last rows)) (sym joined)
          ∙ kept.text;
      clock = omega (arith, ap (λ (seen : Progress). seen.clock) pushed.seen, kept.clock);
      last = ap (λ (seen : Progress). last_row seen.last more) pushed.seen ∙ ap (λ (rows : List (List Bool)). last_row wave.last rows) (sym joined) ∙ kept.last;
      outputs = pushed.outputs ∙ kept.outputs;
      latches = pushed.latches ∙ kept.latches;
    }
