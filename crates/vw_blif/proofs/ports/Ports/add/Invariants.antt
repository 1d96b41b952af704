-- the words so far stand behind the ports that were there
use Rattle.std.proofs.Common.{◌≡◌, ◌++◌, take}
use Rattle.vw_blif.proofs.ports.Ports.add.Given as goal

abbrev pub invariant-loop-word : goal.invariant-loop-word
invariant-loop-word l = l.names.items ≡ l.fn.self.names.items ++ take l.word-index l.words
