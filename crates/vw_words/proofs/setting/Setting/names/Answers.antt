use Rattle.std.proofs.Common.{◌∙◌, List, ℕ, length, ap}
use Rattle.vw_words.specs.Views.{setting_view}
use Rattle.vw_words.proofs.CountedValues.{values_counted}
use Rattle.vw_words.proofs.setting.Setting.names.Goals as goal

pub returns-clause-count : goal.returns-clause-count
returns-clause-count c = ap (λ (values : List (List ℕ)). length values) c.new.ensures ∙ values_counted (setting_view c.args.self.now) c.args.words.now
