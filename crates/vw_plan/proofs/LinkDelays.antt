-- No two links have the same ends, so a hop takes the delay of its link.
use Rattle.std.proofs.Common.{◌≡◌, ◌<◌, ◌≤◌, ◌+◌, ◌∷◌, ◌==◌, ◌∙◌, ℕ, zero, suc, true, false, List, [], get_or, slice_get, Some, ap, sym, subst, ⊎_elim, eqb-true, arith}
use Rattle.std.specs.List.{All, AllPairs}
use Rattle.std.proofs.lemmas.Bool.{and_parts, cases_Bool, cases_order}
use Rattle.std.proofs.lemmas.List.Elements.{All-head, All-tail}
use Rattle.std.proofs.lemmas.Option.{get_or_from_slice_get, slice_get_within}
use Rattle.vw_plan.specs.declared.board.Board.{Board}
use Rattle.vw_plan.specs.declared.link.Link.{Link}
use Rattle.vw_plan.specs.declared.wire.Hop.{Hop}
use Rattle.vw_plan.specs.Lead.{arrival, carries, lag}
use Rattle.vw_plan.specs.Links.{HaveSameEnds}

-- links that carry one hop have the same ends
pub same_ends : (hop : Hop) (link other : Link) → carries hop link ≡ true → carries hop other ≡ true → HaveSameEnds link other
same_ends hop link other first second =
    let p = and_parts (link.from == hop.from) (link.to == hop.to) first in
    let q = and_parts (other.from == hop.from) (other.to == hop.to) second in
    (eqb-true link.from hop.from p.0 ∙ sym (eqb-true other.from hop.from q.0), eqb-true link.to hop.to p.1 ∙ sym (eqb-true other.to hop.to q.1))

abbrev IsTimely : Link → Type 0
IsTimely link = (1 ≤ link.delay) × (link.delay ≤ 16)

its_delay : (links : List Link) (number : ℕ) (link : Link) (hop : Hop) → AllPairs (λ one other. ¬ (HaveSameEnds one other)) links
    → All IsTimely links → slice_get links number ≡ Some link → carries hop link ≡ true → lag links hop + 1 ≡ link.delay
its_delay [] number link hop once timely is carried = cc
its_delay (first ∷ links) zero link hop once timely is carried =
    let same : first ≡ link = cc in
    let own : carries hop first ≡ true = ap (carries hop) same ∙ carried in
    let some : (1 ≤ first.delay) × (first.delay ≤ 16) = All-head IsTimely first links timely in
    let whole : lag (first ∷ links) hop + 1 ≡ link.delay = rw own (omega (arith, some.0, ap (λ (one : Link). one.delay) same)) in whole
its_delay (first ∷ links) (suc number) link hop once timely is carried =
    let if_here = λ (own : carries hop first ≡ true).
    let there : get_or links number first ≡ link = get_or_from_slice_get links number link first is in
    let both : HaveSameEnds first (get_or links number first) = subst (HaveSameEnds first) (sym there) (same_ends hop first link own carried) in
    let whole : lag (first ∷ links) hop + 1 ≡ link.delay = absurd (once 0 (suc number) first (omega arith) (omega (arith, slice_get_within links number link is)) both) in whole in
    let if_later = λ (apart : carries hop first ≡ false).
    let rest = its_delay links number link hop (λ i j default before within. once (suc i) (suc j) default (omega (arith, before)) (omega (arith, within))) (All-tail IsTimely first links timely) is carried in
    let whole : lag (first ∷ links) hop + 1 ≡ link.delay = rw apart rest in whole in
    ⊎_elim if_here if_later (cases_Bool (carries hop first))

pub its_lag : (board : Board) (number : ℕ) (link : Link) (hop : Hop) → slice_get board.links number ≡ Some link → carries hop link ≡ true
    → lag board.links hop + 1 ≡ link.delay
its_lag board number link hop is carried = its_delay board.links number link hop board.linked.separate.once board.linked.separate.timely is carried

pub arrives : (board : Board) (number : ℕ) (link : Link) (hop : Hop) → slice_get board.links number ≡ Some link → carries hop link ≡ true
    → arrival board.links hop + 1 ≡ hop.at + link.delay
arrives board number link hop is carried = omega (arith, its_lag board number link hop is carried)

pub one_number : (board : Board) (one other : ℕ) (link second : Link) → slice_get board.links one ≡ Some link
    → slice_get board.links other ≡ Some second → HaveSameEnds link second → one ≡ other
one_number board one other link second is its ends = ⊎_elim (λ same. same) (λ apart. ⊎_elim if_less if_more apart) (cases_order one other) where
  at_one : get_or board.links one link ≡ link
  at_one = get_or_from_slice_get board.links one link link is

  at_other : get_or board.links other link ≡ second
  at_other = get_or_from_slice_get board.links other second link its

  if_less : one < other → one ≡ other
  if_less less = absurd (board.linked.separate.once one other link less (slice_get_within board.links other second its) (ap (λ (l : Link). l.from) at_one ∙ ends.0 ∙ ap (λ (l : Link). l.from) (sym at_other), ap (λ (l : Link). l.to) at_one ∙ ends.1 ∙ ap (λ (l : Link). l.to) (sym at_other)))

  if_more : other < one → one ≡ other
  if_more more = absurd (board.linked.separate.once other one link more (slice_get_within board.links one link is) (ap (λ (l : Link). l.from) at_other ∙ sym ends.0 ∙ ap (λ (l : Link). l.from) (sym at_one), ap (λ (l : Link). l.to) at_other ∙ sym ends.1 ∙ ap (λ (l : Link). l.to) (sym at_one)))
