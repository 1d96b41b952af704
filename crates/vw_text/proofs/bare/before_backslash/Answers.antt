-- What was stripped off is the `\` at the end.
use Rattle.std.proofs.Common.{[], ◌∷◌}
use Rattle.std.proofs.lemmas.Bool.Decides.{Decides-eqb}
use Rattle.std.proofs.lemmas.Slice.Eq.{strip_suffix_is}
use Rattle.vw_text.proofs.LastByte.{stripped_is}
use Rattle.vw_text.proofs.bare.before_backslash.Goals as goal

pub returns : goal.returns
returns c =
    let line = c.args.line.now in
    stripped_is line c.strip_suffix.result (strip_suffix_is Decides-eqb line (92 ∷ []) c.strip_suffix.result c.strip_suffix.ensures.cases)
