-- Nothing is done yet.
use Rattle.std.proofs.Common.{◌≡◌, ◌≤◌, ◌+◌, ◌∙◌, ◌∷◌, ◌++◌, ℕ, zero, suc, List, [], length, map, max, replicate, get_or, ap, ap₂, refl, sym, subst, ⊎_elim, true≢false, arith}
use Rattle.std.specs.List.{All}
use Rattle.std.proofs.lemmas.Bool.{cases_lt}
use Rattle.std.proofs.lemmas.List.{get_or_past, get_or-replicate, length-replicate}
use Rattle.std.proofs.lemmas.List.Concat.{flat_map-cons}
use Rattle.std.proofs.lemmas.List.Elements.{All-head, All-replicate, All-tail}
use Rattle.vw_net.specs.declared.ordered.Ordered.{Ordered}
use Rattle.vw_plan.specs.declared.board.Board.{Board}
use Rattle.vw_plan.specs.declared.link.Link.{Link}
use Rattle.vw_plan.specs.declared.need.Route.{Route}
use Rattle.vw_plan.specs.declared.wire.Hop.{Hop}
use Rattle.vw_plan.specs.Lead.{after_last}
use Rattle.vw_net.specs.Lists.{greatest}
use Rattle.vw_pipe.specs.declared.draft.Draft.{Draft}
use Rattle.vw_pipe.specs.declared.task.Task.{Task}
use Rattle.vw_pipe.specs.Steps.FinishedSchedules.{all_hops}
use Rattle.vw_pipe.specs.Steps.Drafts.{IsUntouched}
use Rattle.vw_pipe.specs.Steps.Underway.{IsUnderway}

-- hops of which there are none
abbrev IsNone : List Hop → Type 0
IsNone sent = sent ≡ []

abbrev HaveNoHops : List (List Hop) → Type 0
HaveNoHops hops = All IsNone hops

none_in_all : (hops : List (List Hop)) → HaveNoHops hops → all_hops hops ≡ []
none_in_all [] none = refl
none_in_all (sent ∷ hops) none =
    let first = All-head IsNone sent hops none in
    let others = All-tail IsNone sent hops none in
    flat_map-cons (λ (one : List Hop). one) sent hops ∙ ap₂ (λ (a b : List Hop). a ++ b) first (none_in_all hops others)

none_last : (links : List Link) (hops : List (List Hop)) → HaveNoHops hops → 0 ≡ greatest (map (after_last links) hops)
none_last links [] none = refl
none_last links (sent ∷ hops) none =
    let first = All-head IsNone sent hops none in
    let others = All-tail IsNone sent hops none in
    ap₂ max (ap (after_last links) (sym first)) (none_last links hops others)

none_arrived : (links : List Link) (hops : List (List Hop)) (count : ℕ) → length hops ≡ count → HaveNoHops hops
    → map (after_last links) hops ≡ replicate count 0
none_arrived links [] zero long none = refl
none_arrived links [] (suc count) long none = absurd (omega (arith, long))
none_arrived links (sent ∷ hops) zero long none = absurd (omega (arith, long))
none_arrived links (sent ∷ hops) (suc count) long none =
    let first = All-head IsNone sent hops none in
    let others = All-tail IsNone sent hops none in
    let rest = none_arrived links hops count (omega (arith, long)) others in
    ap₂ (λ (one : ℕ) (rest : List ℕ). one ∷ rest) (ap (after_last links) first) rest

-- a list of zeros has 0 everywhere, and past its end
zero_at : (count net : ℕ) → ◌≡◌ {A = ℕ} (get_or (replicate count 0) net 0) 0
zero_at count net =
    let long : length (replicate {A = ℕ} count 0) ≡ count = length-replicate {A = ℕ} count 0 in
    ⊎_elim (λ within. get_or-replicate count net 0 0 within) (λ past. get_or_past (replicate count 0) net 0 (omega arith)) (cases_lt net count)

pub started : (ordered : Ordered) (board : Board) (chip_of : List ℕ) (routes : List Route) (tasks : List Task) (draft : Draft)
    → IsUntouched ordered board routes draft → IsUnderway ordered board chip_of routes tasks 0 draft
started ordered board chip_of routes tasks draft untouched =
    let nets : ℕ = ordered.flat.inputs + length ordered.flat.cells in
    let no_slot : draft.table.taken ≡ [] = ap (λ table. table.taken) untouched.table in
    let hops = draft.hops.items in
    let none_at : (number : ℕ) → get_or hops number [] ≡ [] = λ number.
    ⊎_elim (λ within. untouched.none number [] within) (λ past. get_or_past hops number [] past) (cases_lt number (length hops)) in
    let leads_low = All-replicate (λ lead. lead ≤ 0) nets 0 (omega arith) in
    record {
      fit = record {
        nets = ap length untouched.leads ∙ length-replicate nets 0;
        long = untouched.long;
        arrivals = untouched.arrivals ∙ sym (none_arrived board.links draft.hops.items (length routes) untouched.long untouched.none);
        widths = ap (λ table. table.widths) untouched.table;
        early = record {
          few = rw no_slot (omega arith);
          soon = rw no_slot (subst (All (λ lead. lead ≤ 0)) (sym untouched.leads) leads_low);
          sent = λ number default within place hop inside.
              let none : length (get_or hops number default) ≡ 0 = ap length (untouched.none number default within) in
              absurd (omega (arith, inside, none));
          last = rw (no_slot, untouched.last) (omega arith);
        };
      };
      none = λ number no. none_at number;
      sent = λ number route at done. absurd (true≢false (sym done));
      worked = λ place within done. absurd (true≢false (sym done));
      zero = λ net no. ap (λ (list : List ℕ). get_or list net 0) untouched.leads ∙ zero_at nets net;
      last = untouched.last ∙ none_last board.links draft.hops.items untouched.none;
      size = ap length no_slot ∙ sym (ap length (none_in_all draft.hops.items untouched.none));
      slots = λ hop. rw (none_in_all draft.hops.items untouched.none, no_slot) refl;
    }
