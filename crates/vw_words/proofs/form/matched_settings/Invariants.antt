-- the words before were all settings, and those that are left decide
use Rattle.std.proofs.Common.{◌≡◌, ◌+◌, [], take, drop}
use Rattle.vw_words.specs.Matched.{matched_settings}
use Rattle.vw_words.specs.Views.{settings_view}
use Rattle.vw_words.proofs.form.matched_settings.Given as goal

abbrev pub invariant-loop-at : goal.invariant-loop-at
invariant-loop-at l = l.at + matched_settings (settings_view l.settings) (take l.at l.words) (drop l.at l.words) ≡ matched_settings (settings_view l.settings) [] l.words
