-- the words before suit their places, and the places and words that are left decide
use Rattle.std.proofs.Common.{◌≡◌, ◌≤◌, ◌+◌, drop, length, map}
use Rattle.vw_words.specs.Matched.{matched}
use Rattle.vw_words.specs.Views.{place_view, settings_view}
use Rattle.vw_words.proofs.form.Form.matched.Given as goal

abbrev pub invariant-loop-at : goal.invariant-loop-at
invariant-loop-at l =
    let settings = settings_view l.self.settings.now in
    record {
      within : l.at ≤ length l.words;
      rest : l.at + matched (map place_view (drop l.at l.self.places.now)) settings (drop l.at l.words) ≡ matched (map place_view l.self.places.now) settings l.words;
    }
