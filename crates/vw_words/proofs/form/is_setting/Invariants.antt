-- what is left of the settings decides
use Rattle.std.proofs.Common.{◌≡◌, drop}
use Rattle.vw_words.specs.Matched.{is_setting}
use Rattle.vw_words.specs.Views.{settings_view}
use Rattle.vw_words.proofs.form.is_setting.Given as goal

abbrev pub invariant-loop-setting : goal.invariant-loop-setting
invariant-loop-setting l = is_setting (settings_view (drop l.setting-index l.settings)) l.before l.word ≡ is_setting (settings_view l.settings) l.before l.word
