-- no text before this place has the name
use Rattle.std.proofs.Common.{◌≡◌, drop}
use Rattle.vw_outside.specs.Sure.{sure_text}
use Rattle.vw_outside.proofs.sure_shelf.text_of.Given as goal

abbrev pub invariant-loop-file : goal.invariant-loop-file
invariant-loop-file l = sure_text (drop l.file-index l.files) l.name ≡ sure_text l.files l.name
