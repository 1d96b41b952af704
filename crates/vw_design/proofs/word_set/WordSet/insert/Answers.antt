use Rattle.std.proofs.Common.{◌∙◌, ap, is_some}
use Rattle.std.specs.Str.{bytes_eq}
use Rattle.std.proofs.lemmas.Map.Text.{hash_map_updates_str}
use Rattle.vw_design.proofs.WordSets.{some_or}
use Rattle.vw_design.proofs.word_set.WordSet.insert.Goals as goal

pub returns-clause-words : goal.returns-clause-words
returns-clause-words c = λ other.
    let put = hash_map_updates_str c.args.word.now c.args.self.now.words c.insert.new.self _ c.in_ok-old.ensures.updates in
    ap is_some (put other) ∙ some_or (bytes_eq c.args.word.now other) _ _
