-- The same task, in other words.
use Rattle.std.proofs.Common.{◌≡◌, ◌∙◌, ℕ, List, Result, Ok, Err, ap, ap₂, subst}
use Rattle.std.specs.Prelude.{OnOk}
use Rattle.vw_net.specs.declared.flat.Flat.{Flat}
use Rattle.vw_plan.specs.declared.board.Board.{Board}
use Rattle.vw_plan.specs.declared.need.Route.{Route}
use Rattle.vw_plan.specs.declared.wire.Hop.{Hop}
use Rattle.vw_plan.specs.Nets.{node_of}
use Rattle.vw_pipe.specs.declared.draft.Draft.{Draft}
use Rattle.vw_pipe.specs.Steps.Drafts.{IsSentMore}
use Rattle.vw_pipe.specs.Steps.Leads.{usable_so_far}

pub on_ok : {A E : Type 0} (result : Result A E) {P Q : Type 0} → (P → Q) → OnOk result P → OnOk result Q
on_ok (Ok x) leads is = leads is
on_ok (Err e) leads is = tt

pub same_usable : (flat : Flat) (board : Board) (chip_of : List ℕ) (routes : List Route) (hops : List (List Hop)) (leads : List ℕ)
    (node one_net other_net net : ℕ)
    → node ≡ node_of flat chip_of one_net → one_net ≡ net → other_net ≡ net
    → usable_so_far flat board chip_of routes hops leads node other_net ≡ usable_so_far flat board chip_of routes hops leads (node_of flat chip_of net) net
same_usable flat board chip_of routes hops leads node one_net other_net net node_is one_is other_is =
    ap₂ (λ (at read : ℕ). usable_so_far flat board chip_of routes hops leads at read) (node_is ∙ ap (node_of flat chip_of) one_is) other_is

pub same_sent : (board : Board) (one route : Route) (number ready microcycle : ℕ) (old new : Draft) → one ≡ route → ready ≡ microcycle
    → IsSentMore board one number ready old new → IsSentMore board route number microcycle old new
same_sent board one route number ready microcycle old new same_route same_microcycle sent =
    let sent_then = subst (λ (m : ℕ). IsSentMore board one number m old new) same_microcycle sent in
    subst (λ (r : Route). IsSentMore board r number microcycle old new) same_route sent_then
