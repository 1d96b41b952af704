-- the words so far, and those that are left of the first ones
use Rattle.std.proofs.Common.{◌≡◌, ◌++◌, take}
use Rattle.vw_courses.specs.declared.forms.TheConstants.{MOST_PROBES}
use Rattle.vw_courses.proofs.words.probes_of.Given as goal

abbrev pub invariant-loop-probe : goal.invariant-loop-probe
invariant-loop-probe l = l.list.items ++ take l.probe-iterator.n l.probe-iterator.iter ≡ take MOST_PROBES l.fn.probes
