-- What is known of microcycles, from a schedule in the making.
use Rattle.std.proofs.Common.{◌≡◌, ◌<◌, ◌≤◌, ◌^◌, ◌∙◌, ℕ, List, length, map, sym, subst, arith}
use Rattle.std.specs.List.{All}
use Rattle.std.specs.HashMap.{HashMap}
use Rattle.std.proofs.lemmas.List.Elements.{All-map, All-weaker}
use Rattle.vw_net.specs.declared.ordered.Ordered.{Ordered}
use Rattle.vw_plan.specs.declared.board.Board.{Board}
use Rattle.vw_plan.specs.declared.need.Route.{Route}
use Rattle.vw_plan.specs.declared.wire.Hop.{Hop}
use Rattle.vw_plan.specs.Lead.{after_last}
use Rattle.vw_ready.specs.Leads.{arrival_by}
use Rattle.vw_ready.specs.Pairs.{HasPairs}
use Rattle.vw_pipe.specs.declared.draft.Draft.{Draft}
use Rattle.vw_pipe.specs.Steps.Drafts.{IsFitDraft, microcycle_limit}
use Rattle.vw_pipe.specs.Steps.Leads.{arrived_by, route_pairs}
use Rattle.vw_pipe.proofs.HopsTo.{arrived}
use Rattle.vw_pipe.proofs.LeadLimits.{HasArrived, last_low}

module _ {ordered : Ordered} {board : Board} {routes : List Route} {draft : Draft} (fit : IsFitDraft ordered board routes draft) where
  -- no microcycle so far is later than this
  abbrev top : ℕ
  top = microcycle_limit (length draft.table.taken)

  -- microcycles are early
  pub leads_low : (items : List ℕ) → items ≡ draft.leads.items → All (λ lead. lead < 2 ^ 63) items
  leads_low items same =
      let early : (lead : ℕ) → lead ≤ top → lead < 2 ^ 63 = λ lead low. omega (arith, low, fit.early.few) in
      subst (All (λ lead. lead < 2 ^ 63)) (sym same) (All-weaker (λ lead. lead ≤ top) (λ lead. lead < 2 ^ 63) early draft.leads.items fit.early.soon)

  pub arrivals_low : (items : List ℕ) → items ≡ draft.arrivals.items → All (λ microcycle. microcycle < 2 ^ 63) items
  arrivals_low items same = subst (All (λ microcycle. microcycle < 2 ^ 63)) (sym (same ∙ fit.arrivals)) (λ place default within. low place default within) where
    last_early : (hops : List Hop) → All (HasArrived board.links top) hops → after_last board.links hops < 2 ^ 63
    last_early hops early = omega (arith, last_low board.links top hops early, fit.early.few)

    each : All (λ hops. after_last board.links hops < 2 ^ 63) draft.hops.items
    each = All-weaker (All (HasArrived board.links top)) (λ hops. after_last board.links hops < 2 ^ 63) last_early draft.hops.items fit.early.sent

    low : All (λ microcycle. microcycle < 2 ^ 63) (map (after_last board.links) draft.hops.items)
    low = All-map (λ microcycle. microcycle < 2 ^ 63) (after_last board.links) draft.hops.items each

  -- and arrivals are those of the hops so far
  pub arrived_so_far : {S : Type 0} (table : HashMap (ℕ × ℕ) ℕ S) (items : List ℕ) → HasPairs (route_pairs routes) table
      → items ≡ draft.arrivals.items → arrival_by table items ≡ arrived_by board routes draft.hops.items
  arrived_so_far table items has same = arrived board routes draft.hops.items table items fit.long has (same ∙ fit.arrivals)
