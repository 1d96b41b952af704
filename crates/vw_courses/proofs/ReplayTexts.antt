-- What a netlist does from a state on, as what its design does.
use Rattle.std.proofs.Common.{◌≡◌, ℕ, Bool, false, List, drop, length, ap, subst}
use Rattle.std.proofs.Math.Path.{fun_ext}
use Rattle.vw_net.specs.declared.flat.Flat.{Flat}
use Rattle.vw_net.specs.Cells.{latch_count}
use Rattle.vw_net.specs.History.{History}
use Rattle.vw_design.specs.Paths.{Word}
use Rattle.vw_design.specs.Clocks.{columns}
use Rattle.vw_design.specs.Flattened.{IsFlatOf}
use Rattle.vw_front.specs.Designs.{WatchedDesign}
use Rattle.vw_front.specs.Names.{signal_names}
use Rattle.vw_course.specs.Course.{Course}
use Rattle.vw_resume.specs.declared.state.State.{State}
use Rattle.vw_rows.specs.Trace.{trace_text_from}
use Rattle.vw_vcd.specs.Lines.{wave_text_from}
use Rattle.vw_wave.specs.FlatWave.{signal_rows}
use Rattle.vw_courses.specs.Messages.{vocabulary}
use Rattle.vw_courses.specs.Commands.{TextFrom, replayed_trace_of, replayed_trace_of_until, replayed_wave_of, replayed_wave_of_until, netlist_replay, netlist_replay_until, netlist_replayed_wave, netlist_replayed_wave_until, replay_rest, design_replay}
use Rattle.vw_courses.proofs.FlatTraces.{latches_counted, probes_same, roots_same, shown_same, with_trigger}

module _ (watched : WatchedDesign) (flat : Flat) (is : IsFlatOf watched.design watched.nets flat) where
  pub replayed_trace_until_same : (until : Bool) (count : ℕ) → with_trigger until count ≡ length watched.nets → (from : State) (rows : List (List Bool))
      → netlist_replay_until until count flat from rows ≡ replayed_trace_of_until until from watched rows
  replayed_trace_until_same until count its_count from rows = λ i.
      trace_text_from from.clock (roots_same watched flat is until count its_count i) (probes_same watched flat is until count its_count i) (latches_counted watched flat is i)
      (shown_same watched flat is until from.latches (drop from.clock rows) i)

  pub replayed_trace_same : (count : ℕ) → count ≡ length watched.nets → (from : State) (rows : List (List Bool)) → netlist_replay count flat from rows ≡ replayed_trace_of from watched rows
  replayed_trace_same = replayed_trace_until_same false

  pub replayed_wave_until_same : (until : Bool) (probes : List Word) (from : State) (rows : List (List Bool))
      → netlist_replayed_wave_until until (signal_names probes watched.design) flat from rows ≡ replayed_wave_of_until until probes from watched rows
  replayed_wave_until_same until probes from rows =
      ap (λ (history : History). wave_text_from from.clock (signal_names probes watched.design) (signal_rows history)) (shown_same watched flat is until from.latches (drop from.clock rows))

  pub replayed_wave_same : (probes : List Word) (from : State) (rows : List (List Bool)) → netlist_replayed_wave (signal_names probes watched.design) flat from rows ≡ replayed_wave_of probes from watched rows
  replayed_wave_same = replayed_wave_until_same false

  -- the course of a netlist is that of its design
  pub replay_of_design : (F : Course vocabulary → Type 0) (state stimulus : List ℕ) (text : TextFrom WatchedDesign) (flat_text : State → List (List Bool) → List ℕ)
      → ((from : State) (rows : List (List Bool)) → flat_text from rows ≡ text from watched rows)
      → F (replay_rest (latch_count flat.cells) flat.inputs state stimulus flat_text) → F (design_replay state stimulus text watched)
  replay_of_design F state stimulus text flat_text same of =
      subst (λ (count : ℕ). F (replay_rest count (length (columns watched.design)) state stimulus (λ from. text from watched))) (latches_counted watched flat is)
      (subst (λ (width : ℕ). F (replay_rest (latch_count flat.cells) width state stimulus (λ from. text from watched))) is.inputs
      (subst (λ (its : State → List (List Bool) → List ℕ). F (replay_rest (latch_count flat.cells) flat.inputs state stimulus its)) (fun_ext (λ from. fun_ext (same from))) of))
