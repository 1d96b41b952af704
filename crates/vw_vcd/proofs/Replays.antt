-- Each wave is replayed as its rows.
use Rattle.std.proofs.Common.{◌≡◌, ◌∙◌, ℕ, Bool, List, [], None, length, map, ap, ap₂, sym, subst}
use Rattle.std.specs.List.{range_with_len}
use Rattle.std.proofs.lemmas.List.Elements.{recursion_from_All}
use Rattle.vw_text.specs.Physical.{text_lines}
use Rattle.vw_vcd.specs.Identifiers.{identifier}
use Rattle.vw_vcd.specs.Lines.{wave_text_from}
use Rattle.vw_vcd.specs.Statements.{Statement, stated}
use Rattle.vw_vcd.specs.Replay.{GivenValue, last_given, replay_of, AreChanges}
use Rattle.vw_vcd.specs.Replayed.{WavesReplay}
use Rattle.vw_vcd.proofs.Digits.{same_number}
use Rattle.vw_vcd.proofs.StatedLines.{wave_stated, wave_says}
use Rattle.vw_vcd.proofs.LinesOfText.{wave_again}
use Rattle.vw_vcd.proofs.GivenInWaves.{clocks_given, wave_gives, wave_declares, wave_ends}
use Rattle.vw_vcd.proofs.KnownValues.{all_values, all_change}

-- by what the lines of its text say
pub waves_replay : WavesReplay
waves_replay first nets rows few short wide =
    let kinds : map stated (text_lines (wave_text_from first nets rows)) ≡ wave_stated first nets rows = ap (map stated) (wave_again first nets rows) ∙ wave_says first nets rows short in
    let ids = ap (λ (all : List Statement). (replay_of all).ids) kinds ∙ wave_declares first nets rows in
    let clocks = ap (λ (all : List Statement). (replay_of all).clocks) kinds ∙ wave_ends first nets rows in
    let given = ap (λ (all : List Statement). (replay_of all).given) kinds ∙ wave_gives first nets rows in
    let are = recursion_from_All (λ (row : List Bool). length row ≡ length nets) rows wide in
    record {
      ids = ids;
      clocks = clocks;
      at_each_time =
          ap₂ (λ (all : List GivenValue) (names : List (List ℕ)). map (λ time. map (last_given all time) names) (range_with_len 0 (replay_of (map stated (text_lines (wave_text_from first nets rows)))).clocks)) given ids
          ∙ ap (λ (last : ℕ). map (λ time. map (last_given (clocks_given identifier first None rows) time) (map identifier (range_with_len 0 (length nets)))) (range_with_len 0 last)) clocks
          ∙ all_values identifier same_number first (length nets) rows few are;
      changes = subst (λ (all : List GivenValue). AreChanges [] all) (sym given) (all_change identifier same_number first (length nets) rows few are);
    }
