-- A byte is taken, or no line begins so.
use Rattle.vw_rows.proofs.LineFronts.{byte_taken, byte_bad}
use Rattle.vw_rows.proofs.line_so_far.LineSoFar.take_byte.Goals as goal

pub returns-in_default-clause-takes : goal.returns-in_default-clause-takes
returns-in_default-clause-takes c of_text = byte_bad c.args.self.now c.args.byte c.args.number c.in_default.ensures c.requires.word c.requires.inside c.requires.plain

pub returns-clause-takes : goal.returns-clause-takes
returns-clause-takes c = (byte_taken c.args.self.now c.in-Some.said c.keep_bit.new.bits c.args.byte c.in-Some.ensures c.requires.word c.requires.inside c.requires.plain c.in_ok-keep_bit.ensures, c.requires.plain)
