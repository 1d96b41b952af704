-- What a viewer finds in the wave of a design.
use Rattle.std.proofs.Common.{◌≡◌, ◌≤◌, ◌+◌, ◌^◌, ◌++◌, ◌∙◌, ℕ, Bool, List, drop, length, length-append, map, sym, ap, subst, arith}
use Rattle.std.proofs.lemmas.List.{length-map}
use Rattle.vw_net.specs.declared.flat.Flat.{Flat}
use Rattle.vw_net.specs.Cells.{latch_count, start_values}
use Rattle.vw_net.specs.History.{History, flat_history, state_after}
use Rattle.vw_design.specs.Flattened.{IsFlatOf}
use Rattle.vw_design.specs.NetReads.{root_outputs}
use Rattle.vw_design.specs.PathHistory.{path_history}
use Rattle.vw_design.specs.Paths.{Word, printed}
use Rattle.vw_design.specs.Preorder.{latches}
use Rattle.vw_design.proofs.FlatHistories.{histories_agree}
use Rattle.vw_flat.specs.Printed.{printed_site}
use Rattle.vw_front.specs.Designs.{WatchedDesign}
use Rattle.vw_front.specs.Names.{signal_names}
use Rattle.vw_front.proofs.RunningDesigns.{netlist_of}
use Rattle.vw_vcd.specs.Lines.{wave_text}
use Rattle.vw_resume.specs.declared.state.State.{State}
use Rattle.vw_resume.specs.Resumed.{replayed_wave}
use Rattle.vw_vcd.specs.Replayed.{ReplaysAs, ReplaysFrom}
use Rattle.vw_wave.specs.FlatWave.{flat_wave, signal_rows}
use Rattle.vw_courses.specs.Commands.{replayed_wave_of}
use Rattle.vw_courses.proofs.FlatTraces.{outputs_counted, latches_counted, probes_counted}
use Rattle.vw_courses.proofs.ReplayTexts.{replayed_wave_same}
use Rattle.vw_statuses.specs.ReplayStatuses.{Replay, replay_text}
use Rattle.vw_statuses.specs.WaveLaw.{ReplayedWavesReplay, WavesReplay}
use Rattle.vw_statuses.proofs.FewRows.{few_rows}
use Rattle.vw_statuses.proofs.PieceLaws.{saved_state}
use Rattle.vw_statuses.proofs.OnBoards.{design_of_netlist}

-- there is a name for each output and each latch of the netlist
names_counted : (probes : List Word) (watched : WatchedDesign) (flat : Flat) → IsFlatOf watched.design watched.nets flat → length probes ≡ length watched.nets
    → length (signal_names probes watched.design) ≡ length flat.outputs + latch_count flat.cells
names_counted probes watched flat is found =
    let outputs = map printed (root_outputs watched.design) in
    let driven = map printed_site (latches watched.design) in
    omega (
      arith,
      outputs_counted watched flat is,
      length-append (root_outputs watched.design) watched.nets,
      latches_counted watched flat is,
      found,
      length-append outputs (probes ++ driven),
      length-append probes driven,
      length-map (root_outputs watched.design) printed,
      length-map (latches watched.design) printed_site,
    )

-- the wave of a netlist of the design is that of the design, and is replayed as what the netlist does
pub designs_replay : ((names : List Word) (unknown : Bool) (flat : Flat) (rows : List (List Bool)) → length names ≡ length flat.outputs + latch_count flat.cells → length rows ≤ 2 ^ 32
    → ReplaysAs (flat_wave names unknown flat rows) (length names) (signal_rows (flat_history flat (start_values unknown flat.cells) rows))) → WavesReplay
designs_replay law probes few d s unknown spelled rows is are =
    let made = netlist_of probes d (spelled, is) few in
    let flat = design_of_netlist probes d spelled made.0 is made.1 in
    let names = signal_names probes spelled.design in
    let found = probes_counted probes d spelled is in
    subst (λ (history : History). ReplaysAs (wave_text names (signal_rows history)) (length names) (signal_rows history)) (histories_agree spelled.design spelled.nets made.0.flat flat unknown rows)
    (law names unknown made.0.flat rows (names_counted probes spelled made.0.flat flat found) (omega (arith, few_rows _ s rows are)))

-- and so is a wave from a state on
pub designs_replay_from : ((names : List Word) (unknown : Bool) (flat : Flat) (rows more : List (List Bool)) → length names ≡ length flat.outputs + latch_count flat.cells → length (rows ++ more) ≤ 2 ^ 32
    → ReplaysFrom (length rows) (replayed_wave names flat (length rows) (state_after flat (start_values unknown flat.cells) rows) (rows ++ more)) (length names)
    (drop (length rows) (signal_rows (flat_history flat (start_values unknown flat.cells) (rows ++ more))))) → ReplayedWavesReplay
designs_replay_from law probes few unknown d spelled plain rows more its is bare short are =
    let made = netlist_of probes d (spelled, is) few in
    let flat = design_of_netlist probes d spelled made.0 is made.1 in
    let names = signal_names probes spelled.design in
    let all = rows ++ more in
    let clock : ℕ = length rows in
    let found = probes_counted probes d spelled is in
    let from : State = record { clock = clock; latches = state_after made.0.flat (start_values unknown made.0.flat.cells) rows } in
    let on : List Bool → State = λ latches. record { clock = clock; latches = latches } in
    let text : replayed_wave names made.0.flat from.clock from.latches all ≡ replay_text (replayed_wave_of probes) its all =
    replayed_wave_same spelled made.0.flat flat probes from all
    ∙ ap (λ (history : History). replayed_wave_of probes (on history.last) spelled all) (histories_agree spelled.design spelled.nets made.0.flat flat unknown rows)
    ∙ sym (ap (λ (one : Replay). replay_text (replayed_wave_of probes) one all) (saved_state probes unknown d spelled plain rows its is bare (omega (arith, short, length-append rows more)) are)) in
    subst (λ (one : List ℕ). ReplaysFrom clock one (length names) (drop clock (signal_rows (path_history spelled.design spelled.nets unknown all)))) text
    (subst (λ (history : History). ReplaysFrom clock (replayed_wave names made.0.flat from.clock from.latches all) (length names) (drop clock (signal_rows history))) (histories_agree spelled.design spelled.nets made.0.flat flat unknown all)
    (law names unknown made.0.flat rows more (names_counted probes spelled made.0.flat flat found) (omega (arith, short))))
