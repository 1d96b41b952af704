use Rattle.std.proofs.Common.{rules}
use Rattle.vw_crew.proofs.JoinedParts.{accepts_first, accepts_rest, changes_both}
use Rattle.vw_crew.proofs.parts.+parts.Goals as goal

pub for_each_part-both_parts-requires-clause-first : goal.for_each_part-both_parts-requires-clause-first
for_each_part-both_parts-requires-clause-first g t c κs within =
    let cut = c.split_at_mut-first in
    accepts_first g.F.Fn c.args.f.now c.args.s.now cut.result.0.now cut.result.1.now cut.ensures.value c.requires.accepts

pub for_each_part-both_parts-requires-clause-rest : goal.for_each_part-both_parts-requires-clause-rest
for_each_part-both_parts-requires-clause-rest g t c κs within =
    let cut = c.split_at_mut-first in
    accepts_rest g.F.Fn c.args.f.now c.args.s.now cut.result.0.now cut.result.1.now cut.ensures.value c.requires.accepts

pub for_each_part-returns : goal.for_each_part-returns
for_each_part-returns g t c =
    let cut = c.split_at_mut-first in
    changes_both g.F.Fn c.args.f.now c.args.s.now cut.result.0.now cut.result.1.now c.both_parts.new.first c.both_parts.new.rest cut.ensures.value (search rules) c.both_parts.ensures.first c.both_parts.ensures.rest
