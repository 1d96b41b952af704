-- the bindings so far, and their formals
use Rattle.std.proofs.Common.{map, take}
use Rattle.vw_blif.specs.Bindings.{formal_of}
use Rattle.vw_blif.specs.Steps.FaultAnswers.{AreBinds}
use Rattle.vw_blif.specs.Steps.KeptWords.{Knows}
use Rattle.vw_blif.proofs.bind.binds_of.Given as goal

abbrev pub invariant-loop-word : goal.invariant-loop-word
invariant-loop-word l = record {
  binds : AreBinds (take l.word-index l.words) l.binds.items;
  knows : Knows (map formal_of (take l.word-index l.words)) l.seen.words;
}
