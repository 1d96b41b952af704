use Rattle.std.proofs.Common.{◌+◌, ◌*◌, length}
use Rattle.vw_crew.proofs.parts.+parts.Given as goal

abbrev pub decreases-for_each_part : goal.decreases-for_each_part
decreases-for_each_part g l = 4 * length l.s.now

abbrev pub decreases-both_parts : goal.decreases-both_parts
decreases-both_parts g l = 4 * length l.rest.now + 2

abbrev pub decreases-both_parts-back : goal.decreases-both_parts-back
decreases-both_parts-back g l = 4 * length l.rest.now + 1
