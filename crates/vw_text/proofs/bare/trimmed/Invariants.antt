-- What stands behind the end so far is blank.
use Rattle.std.proofs.Common.{◌≡◌, ◌<◌, ◌≤◌, ℕ, true, length, get_or}
use Rattle.vw_text.specs.Bare.{is_blank}
use Rattle.vw_text.proofs.bare.trimmed.Given as goal

abbrev pub invariant-loop-end : goal.invariant-loop-end
invariant-loop-end l = record {
  within : l.end ≤ length l.line;
  blank : (k : ℕ) → l.end ≤ k → k < length l.line → is_blank (get_or l.line k 0) ≡ true;
}

abbrev pub decreases-loop-end : goal.decreases-loop-end
decreases-loop-end l = l.end
