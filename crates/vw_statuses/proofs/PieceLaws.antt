-- The pieces of a run join to the trace of the whole.
use Rattle.std.proofs.Common.{◌≡◌, ◌≤◌, ◌+◌, ◌++◌, ◌∙◌, ℕ, Bool, List, [], length, refl, sym, ap, ap₂, subst, arith}
use Rattle.std.proofs.lemmas.List.{drop_at}
use Rattle.vw_net.specs.declared.flat.Flat.{Flat}
use Rattle.vw_net.specs.Cells.{start_values}
use Rattle.vw_net.specs.History.{History, state_after}
use Rattle.vw_design.specs.Flattened.{IsFlatOf}
use Rattle.vw_design.specs.declared.design.Design.{Design}
use Rattle.vw_design.specs.Paths.{Word as ProbeWord}
use Rattle.vw_design.specs.NetReads.{root_outputs}
use Rattle.vw_design.specs.Preorder.{latches}
use Rattle.vw_design.specs.PathHistory.{path_start, path_state_after, path_history_from}
use Rattle.vw_front.specs.Designs.{WatchedDesign, IsWatchedDesignOf, spells_once}
use Rattle.vw_resume.specs.declared.state.State.{State}
use Rattle.vw_resume.specs.Joined.{IsJoined}
use Rattle.vw_resume.specs.States.{Spells, state_text}
use Rattle.vw_resume.proofs.SavedStates.{saved_spells}
use Rattle.vw_resume.proofs.JoinedTraces.{traces_joined}
use Rattle.vw_resume.proofs.ReadBack.{spelled_once}
use Rattle.vw_rows.specs.Trace.{trace_text_from}
use Rattle.vw_trace.specs.FlatTrace.{flat_trace, trace_from}
use Rattle.vw_courses.specs.Commands.{trace_of, saved_of, replayed_trace_of}
use Rattle.vw_rows.specs.declared.limits.TheConstants.{MOST_CLOCKS}
use Rattle.vw_statuses.specs.Pieces.{PiecesJoin, ReplaysJoin, WatchedPiecesJoin}
use Rattle.vw_statuses.specs.ReplayStatuses.{Replay, AreReplayed, replay_text}
use Rattle.vw_statuses.specs.ResumeStatuses.{AreResumed, Resumption, trace_from_state}
use Rattle.vw_courses.proofs.FlatTraces.{trace_same, saved_same, probes_counted}
use Rattle.vw_statuses.proofs.OnBoards.{design_of_netlist, watched_once}
use Rattle.vw_statuses.proofs.PathPieces.{path_histories_join, path_outputs_counted, path_states_counted, path_state_counted, path_start_counted}

-- the traces of netlists do
abbrev TracesJoin : Type 0
TracesJoin = (probes : ℕ) (unknown : Bool) (flat : Flat) (rows more : List (List Bool))
    → IsJoined (flat_trace probes unknown flat rows) (trace_from probes (length rows) (state_after flat (start_values unknown flat.cells) rows) flat more) (flat_trace probes unknown flat (rows ++ more))

-- so those of a design do, from a state that is its own, whatever nets are watched
pub pieces_join_at : TracesJoin → (probes : List ProbeWord) (unknown : Bool) (d : List ℕ) (spelled : WatchedDesign) (rows more : List (List Bool)) (its : Resumption)
    → IsWatchedDesignOf probes d spelled → length rows ≤ MOST_CLOCKS → AreResumed probes (record { design = d; state = saved_of unknown spelled rows }) its
    → IsJoined (trace_of unknown spelled rows) (trace_from_state probes its more) (trace_of unknown spelled (rows ++ more))
pieces_join_at joins probes unknown d spelled rows more its is few are =
    let flat = its.ordered.flat in
    let count = length probes in
    let of : IsFlatOf spelled.design spelled.nets flat = design_of_netlist probes d spelled its.ordered is are.netlist in
    let trace : (all : List (List Bool)) → flat_trace count unknown flat all ≡ trace_of unknown spelled all = λ all. trace_same unknown count spelled flat of (probes_counted probes d spelled is) all in
    let saved : State = record { clock = length rows; latches = state_after flat (start_values unknown flat.cells) rows } in
    let same : its.state ≡ saved = spelled_once (saved_of unknown spelled rows) its.state saved are.state_is.spells
    (subst (λ (text : List ℕ). Spells text saved) (saved_same unknown spelled its.ordered of rows) (saved_spells unknown flat rows few)) in
    subst (λ (text : List ℕ). IsJoined text (trace_from_state probes its more) (trace_of unknown spelled (rows ++ more))) (trace rows)
    (subst (λ (text : List ℕ). IsJoined (flat_trace count unknown flat rows) (trace_from_state probes its more) text) (trace (rows ++ more))
    (subst (λ (one : State). IsJoined (flat_trace count unknown flat rows) (trace_from count one.clock one.latches flat more) (flat_trace count unknown flat (rows ++ more))) (sym same)
    (joins count unknown flat rows more)))

pub pieces_join : TracesJoin → PiecesJoin
pieces_join joins = pieces_join_at joins []

-- the design of a text without probes is that with them, and no state looks at the nets
pub watched_pieces_join : TracesJoin → WatchedPiecesJoin
watched_pieces_join joins probes unknown d spelled plain rows more its is bare few are =
    let same : plain.design ≡ spelled.design = spells_once d plain.design spelled.design bare.design_of.spelled is.design_of.spelled in
    pieces_join_at joins probes unknown d spelled rows more its is few
    (subst (λ (design : Design). AreResumed probes (record { design = d; state = state_text (length rows) (path_state_after design (path_start unknown design) rows) }) its) same are)

-- ---- replays

-- the state that was saved is that of the design behind the rows
pub saved_state : (probes : List ProbeWord) (unknown : Bool) (d : List ℕ) (spelled plain : WatchedDesign) (rows : List (List Bool)) (its : Replay)
    → IsWatchedDesignOf probes d spelled → IsWatchedDesignOf [] d plain → length rows ≤ MOST_CLOCKS
    → AreReplayed probes (record { design = d; state = saved_of unknown plain rows }) its
    → its ≡ record { watched = spelled; state = record { clock = length rows; latches = path_state_after spelled.design (path_start unknown spelled.design) rows } }
saved_state probes unknown d spelled plain rows its is bare few are =
    let same : its.watched ≡ spelled = watched_once probes d its.watched spelled are.design_is is in
    let one : plain.design ≡ spelled.design = spells_once d plain.design spelled.design bare.design_of.spelled is.design_of.spelled in
    let after : Design → List Bool = λ design. path_state_after design (path_start unknown design) rows in
    let saved : State = record { clock = length rows; latches = after spelled.design } in
    let count : length (after spelled.design) ≡ length (latches spelled.design) = path_state_counted spelled.design (path_start unknown spelled.design) rows (path_start_counted spelled.design unknown) in
    let held : length its.state.latches ≡ length (latches spelled.design) = are.state_is.its_latches ∙ ap (λ (watched : WatchedDesign). length (latches watched.design)) same in
    let spells : Spells (saved_of unknown plain rows) saved = record {
      few_clocks = few;
      few_latches = omega (arith, count, held, are.state_is.spells.few_latches);
      spelled = ap (λ (design : Design). state_text (length rows) (after design)) one;
    } in
    let state : its.state ≡ saved = spelled_once (saved_of unknown plain rows) its.state saved are.state_is.spells spells in
    λ i. record { watched = same i; state = state i }

-- the trace of the whole is that of the first rows and that of the replay
pub replays_of_designs_join : ReplaysJoin
replays_of_designs_join probes unknown d spelled plain rows more its is bare few are =
    let design = spelled.design in
    let start = path_start unknown design in
    let one = path_history_from design spelled.nets start rows in
    let behind = path_history_from design spelled.nets (path_state_after design start rows) more in
    let trace : ℕ → History → List ℕ = λ first history. trace_text_from first (length (root_outputs design)) (length spelled.nets) (length (latches design)) history in
    let count : length one.outputs ≡ length rows = path_outputs_counted design spelled.nets start rows in
    let same : length one.outputs ≡ length one.states = count ∙ sym (path_states_counted design start rows) in
    let first : ℕ = length rows in
    let behind_all : 0 + length one.outputs ≡ length rows = omega (arith, count) in
    let replayed : replay_text replayed_trace_of its (rows ++ more) ≡ trace (0 + length one.outputs) behind =
    ap (λ (from : Replay). replay_text replayed_trace_of from (rows ++ more)) (saved_state probes unknown d spelled plain rows its is bare few are)
    ∙ ap₂ (λ (n : ℕ) (these : List (List Bool)). trace n (path_history_from design spelled.nets (path_state_after design start rows) these)) (sym behind_all) (drop_at rows more first refl) in
    subst (λ (text : List ℕ). IsJoined (trace_of unknown spelled rows) text (trace_of unknown spelled (rows ++ more))) (sym replayed)
    (subst (λ (history : History). IsJoined (trace 0 one) (trace (0 + length one.outputs) behind) (trace 0 history)) (sym (path_histories_join design spelled.nets start rows more))
    (traces_joined 0 (length (root_outputs design)) (length spelled.nets) (length (latches design)) one behind same))
