-- each link so far that can be last from the one can be last from the other
use Rattle.std.proofs.Common.{◌≡◌, ◌<◌, ℕ, true, slice_get, Some}
use Rattle.vw_plan.specs.declared.link.Link.{Link}
use Rattle.vw_short_bound.specs.Shortest.{can_be_last}
use Rattle.vw_short_bound.proofs.lasts.covers.Given as goal

abbrev pub invariant-loop-link : goal.invariant-loop-link
invariant-loop-link l = (number : ℕ) (link : Link) → number < l.link-index → slice_get l.board.links number ≡ Some link
    → can_be_last l.board l.home l.node link ≡ true → can_be_last l.board l.source l.node link ≡ true
