-- A netlist that does the same has the same trace.
use Rattle.std.proofs.Common.{◌≡◌, ◌∙◌, ℕ, Bool, true, false, List, take, ap}
use Rattle.vw_net.specs.declared.flat.Flat.{Flat}
use Rattle.vw_net.specs.Cells.{start_values}
use Rattle.vw_net.specs.History.{History, flat_history, outputs_of}
use Rattle.vw_merge.specs.Same.{DoesTheSame}
use Rattle.vw_trace.specs.FlatTrace.{flat_trace_until}
use Rattle.vw_trace.specs.Triggers.{clocks_until, shown, shown_history}

-- what is shown over some rows, and how many count
pub same_shown : (until : Bool) (flat other : Flat) (state : List Bool) (rows : List (List Bool)) → DoesTheSame flat other → shown_history until other state rows ≡ shown_history until flat state rows
same_shown false flat other state rows same = same.histories state rows
same_shown true flat other state rows same =
    let counts : clocks_until (outputs_of other state rows) ≡ clocks_until (outputs_of flat state rows) = ap (λ (history : History). clocks_until history.outputs) (same.histories state rows) in
    ap (λ (n : ℕ). shown true (flat_history other state (take n rows))) counts
    ∙ ap (shown true) (same.histories state (take (clocks_until (outputs_of flat state rows)) rows))

pub same_trace : (until : Bool) (probes : ℕ) (unknown : Bool) (flat other : Flat) (rows : List (List Bool)) → DoesTheSame flat other → flat_trace_until until probes unknown other rows ≡ flat_trace_until until probes unknown flat rows
same_trace until probes unknown flat other rows same =
    cc (same.outputs, same.latches, same.starts unknown, same_shown until flat other (start_values unknown flat.cells) rows same)
