-- a net that is ready after the gates so far has its lead
use Rattle.std.proofs.Common.{◌≡◌, ◌<◌, ◌+◌, ◌^◌, ℕ, true, length, take, slice_index_or}
use Rattle.std.specs.List.{All}
use Rattle.vw_net.specs.Order.{is_ready}
use Rattle.vw_plan.specs.Lead.{lead}
use Rattle.vw_plan.specs.PlannedBoard.{home}
use Rattle.vw_ready.specs.LeadTables.{planned_in}
use Rattle.vw_ready.proofs.home.home_leads.Given as goal

abbrev pub invariant-loop-number : goal.invariant-loop-number
invariant-loop-number l =
    let flat = l.wired.ordered.now.flat in
    let planned = planned_in l.wired in
    record {
      long : length l.leads.items ≡ flat.inputs + length flat.cells;
      low : All (λ number. number < 2 ^ 63) l.leads.items;
      right : (net : ℕ) → is_ready flat.inputs flat.cells (take l.number-index l.wired.ordered.now.order) net ≡ true → slice_index_or l.leads.items net 0 ≡ lead planned (home planned net) net;
    }
