-- What is left of a wave, before and after some clocks, and of one that has seen none.
use Rattle.std.proofs.Common.{◌≡◌, ◌+◌, ◌++◌, ◌∙◌, ℕ, suc, Bool, List, [], ◌∷◌, Option, None, length, ap, ap₂, refl, sym, append_assoc, arith}
use Rattle.std.proofs.lemmas.List.{length-append}
use Rattle.vw_net.specs.History.{History}
use Rattle.vw_text.specs.Physical.{lines_text}
use Rattle.vw_text.proofs.LineTexts.{lines_text-append}
use Rattle.vw_vcd.specs.Changes.{last_row}
use Rattle.vw_vcd.specs.Lines.{lines_of_clocks, lines_of_head, time_line, wave_text_from}
use Rattle.vw_vcd.specs.Progress.{Progress}
use Rattle.vw_vcd.proofs.WaveParts.{clocks_append}
use Rattle.vw_trace.specs.Recorded.{clocks_before}
use Rattle.vw_wave.specs.FlatWave.{joined_rows, signal_rows, wave_left}

-- the signals of some clocks, and then of others
pub joined_more : (outputs states others further : List (List Bool)) → length outputs ≡ length states → joined_rows (outputs ++ others) (states ++ further) ≡ joined_rows outputs states ++ joined_rows others further
joined_more [] [] others further same = refl
joined_more [] (state ∷ states) others further same = absurd (omega (arith, same))
joined_more (row ∷ outputs) [] others further same = absurd (omega (arith, same))
joined_more (row ∷ outputs) (state ∷ states) others further same =
    let fewer : length outputs ≡ length states = omega (arith, same) in
    ap (λ (rows : List (List Bool)). (row ++ state) ∷ rows) (joined_more outputs states others further fewer)

-- there is a row of signals for each clock
pub length-joined : (outputs states : List (List Bool)) → length outputs ≡ length states → length (joined_rows outputs states) ≡ length outputs
length-joined [] states same = refl
length-joined (row ∷ outputs) [] same = absurd (omega (arith, same))
length-joined (row ∷ outputs) (state ∷ states) same =
    let fewer : length outputs ≡ length states = omega (arith, same) in ap suc (length-joined outputs states fewer)

-- a wave that has seen some clocks more goes on behind their lines
pub wave_goes_on : (old new : Progress) (outputs states : List (List Bool)) (text : List ℕ) → length outputs ≡ length states
    → text ≡ lines_text (lines_of_clocks old.clock old.last (joined_rows outputs states)) → new.clock ≡ old.clock + length outputs → new.last ≡ last_row old.last (joined_rows outputs states)
    → (more : History) → wave_left old (clocks_before outputs states more) ≡ text ++ wave_left new more
wave_goes_on old new outputs states text same is clock last more =
    let rows = joined_rows outputs states in
    let further = signal_rows more in
    let here = lines_of_clocks old.clock old.last rows in
    let rest = lines_of_clocks new.clock new.last further in
    let end = λ (time : ℕ). time_line time ∷ [] in
    let behind : lines_of_clocks (old.clock + length rows) (last_row old.last rows) further ≡ rest =
    ap₂ (λ (first : ℕ) (before : Option (List Bool)). lines_of_clocks first before further) (ap (λ (n : ℕ). old.clock + n) (length-joined outputs states same) ∙ sym clock) (sym last) in
    let lines : lines_of_clocks old.clock old.last (joined_rows (outputs ++ more.outputs) (states ++ more.states)) ≡ here ++ rest =
    ap (lines_of_clocks old.clock old.last) (joined_more outputs states more.outputs more.states same) ∙ clocks_append old.clock old.last rows further
    ∙ ap (λ (list : List (List ℕ)). here ++ list) behind in
    let long = length-append outputs more.outputs in
    let time : old.clock + length (outputs ++ more.outputs) ≡ new.clock + length more.outputs = omega (arith, long, clock) in
    ap₂ (λ (list : List (List ℕ)) (clocks : ℕ). lines_text (list ++ end clocks)) lines time
    ∙ ap lines_text (append_assoc here rest (end (new.clock + length more.outputs)))
    ∙ lines_text-append here (rest ++ end (new.clock + length more.outputs))
    ∙ ap (λ (front : List ℕ). front ++ wave_left new more) (sym is)

-- behind a head, all that is left of a wave that has seen no clock is the whole wave from its next clock on
pub fresh_wave : (first : ℕ) (names : List (List ℕ)) (seen : Progress) (history : History) → seen.clock ≡ first → seen.last ≡ None → length history.outputs ≡ length history.states
    → lines_text (lines_of_head names) ++ wave_left seen history ≡ wave_text_from first names (signal_rows history)
fresh_wave first names seen history clock none same =
    let rows = signal_rows history in
    let count = length history.outputs in
    let time : seen.clock + count ≡ first + length rows = omega (arith, clock, length-joined history.outputs history.states same) in
    let clocks = ap₂ (λ (from : ℕ) (before : Option (List Bool)). lines_of_clocks from before rows) clock none in
    ap₂ (λ (list : List (List ℕ)) (last : ℕ). lines_text (lines_of_head names) ++ lines_text (list ++ time_line last ∷ [])) clocks time
    ∙ sym (lines_text-append (lines_of_head names) (lines_of_clocks first None rows ++ time_line (first + length rows) ∷ []))
