-- The trace of a design's netlist is the trace of the design, with the nets that are watched.
use Rattle.std.proofs.Common.{◌≡◌, ◌≤◌, ◌+◌, ◌-◌, ℕ, suc, Bool, true, false, List, [], ◌∷◌, Option, Some, None, length, length-append, take, refl, sym, ◌∙◌, ap, arith}
use Rattle.std.proofs.lemmas.List.{length-map}
use Rattle.vw_net.specs.declared.flat.Flat.{Flat}
use Rattle.vw_net.specs.declared.ordered.Ordered.{Ordered}
use Rattle.vw_net.specs.Cells.{latch_count, start_values}
use Rattle.vw_net.specs.History.{History, flat_history}
use Rattle.vw_net.proofs.Counts.{length-start_values}
use Rattle.vw_design.specs.Paths.{Word, Net}
use Rattle.vw_design.specs.Preorder.{Site, latches}
use Rattle.vw_design.specs.NetReads.{root_outputs}
use Rattle.vw_design.specs.Flattened.{number_of, IsFlatOf}
use Rattle.vw_design.specs.PathHistory.{latch_start, path_start}
use Rattle.vw_design.specs.Probes.{Finds, shown_nets}
use Rattle.vw_design.proofs.FlatHistories.{histories_agree, histories_agree_from}
use Rattle.vw_front.specs.Designs.{WatchedDesign, IsWatchedDesignOf, IsNetlistOf}
use Rattle.vw_design.proofs.PairedLists.{AllZip-length}
use Rattle.vw_rows.specs.Trace.{trace_text}
use Rattle.vw_resume.specs.States.{state_text}
use Rattle.vw_courses.specs.Commands.{watched_words, ends_by, counted_in, shown_of, trace_of, trace_of_until, wave_of, wave_of_until, netlist_wave, netlist_wave_until, saved_of, netlist_state}
use Rattle.vw_trace.specs.FlatTrace.{flat_trace, flat_trace_until}
use Rattle.vw_trace.specs.Triggers.{clocks_until, counted, shown, shown_count, shown_history}
use Rattle.vw_vcd.specs.Lines.{wave_text}
use Rattle.vw_wave.specs.FlatWave.{signal_rows}
use Rattle.vw_front.specs.Names.{signal_names}

-- what is shown: the outputs of the root, and the watched nets
pub outputs_counted : (watched : WatchedDesign) (flat : Flat) → IsFlatOf watched.design watched.nets flat → length flat.outputs ≡ length (shown_nets watched.design watched.nets)
outputs_counted watched flat is =
    sym (length-map flat.outputs (λ (net : ℕ). Some net)) ∙ ap (λ (list : List (Option ℕ)). length list) (sym is.outputs)
    ∙ length-map (shown_nets watched.design watched.nets) (λ (net : Net). number_of watched.design net.path net.name)

pub latches_counted : (watched : WatchedDesign) (flat : Flat) → IsFlatOf watched.design watched.nets flat → latch_count flat.cells ≡ length (latches watched.design)
latches_counted watched flat is =
    sym (length-start_values false flat.cells) ∙ ap (λ (history : History). length history.last) (histories_agree watched.design watched.nets flat is false [])
    ∙ length-map (latches watched.design) (λ (site : Site). latch_start false site.item)

-- so many probes, and the trigger, where there is one
abbrev pub with_trigger : Bool → ℕ → ℕ
with_trigger false count = count
with_trigger true count = suc count

pub words_counted : (until : Option Word) (probes : List Word) → with_trigger (ends_by until) (length probes) ≡ length (watched_words until probes)
words_counted None probes = refl
words_counted (Some net) probes = omega (arith, length-append probes (net ∷ []))

shown_counted : (until : Bool) (count all : ℕ) → with_trigger until count ≡ all → shown_count until all ≡ count
shown_counted false count all counted = sym counted
shown_counted true count all counted = omega (arith, counted)

root_counted : (until : Bool) (count all roots outputs : ℕ) → with_trigger until count ≡ all → outputs ≡ roots + all → shown_count until outputs - count ≡ roots
root_counted false count all roots outputs counted are = omega (arith, counted, are)
root_counted true count all roots outputs counted are = omega (arith, counted, are)

module _ (watched : WatchedDesign) (flat : Flat) (is : IsFlatOf watched.design watched.nets flat) where
  -- the same clocks count
  pub counted_same : (until : Bool) (state : List Bool) (rows : List (List Bool)) → counted until flat state rows ≡ counted_in until watched state rows
  counted_same false state rows = refl
  counted_same true state rows =
      ap (λ (history : History). take (clocks_until history.outputs) rows) (histories_agree_from watched.design watched.nets flat is state rows)

  -- and the same is shown of them
  pub shown_same : (until : Bool) (state : List Bool) (rows : List (List Bool)) → shown_history until flat state rows ≡ shown_of until watched state rows
  shown_same until state rows =
      ap (λ (these : List (List Bool)). shown until (flat_history flat state these)) (counted_same until state rows)
      ∙ ap (shown until) (histories_agree_from watched.design watched.nets flat is state (counted_in until watched state rows))

  pub starts_same : (unknown : Bool) → start_values unknown flat.cells ≡ path_start unknown watched.design
  starts_same unknown = ap (λ (history : History). history.last) (histories_agree watched.design watched.nets flat is unknown [])

  pub counted_same_from_start : (until unknown : Bool) (rows : List (List Bool))
      → counted until flat (start_values unknown flat.cells) rows ≡ counted_in until watched (path_start unknown watched.design) rows
  counted_same_from_start until unknown rows =
      ap (λ (state : List Bool). counted until flat state rows) (starts_same unknown) ∙ counted_same until (path_start unknown watched.design) rows

  pub shown_same_from_start : (until unknown : Bool) (rows : List (List Bool))
      → shown_history until flat (start_values unknown flat.cells) rows ≡ shown_of until watched (path_start unknown watched.design) rows
  shown_same_from_start until unknown rows =
      ap (λ (state : List Bool). shown_history until flat state rows) (starts_same unknown) ∙ shown_same until (path_start unknown watched.design) rows

  -- so many outputs of the root and so many probes are shown
  pub roots_same : (until : Bool) (count : ℕ) → with_trigger until count ≡ length watched.nets → shown_count until (length flat.outputs) - count ≡ length (root_outputs watched.design)
  roots_same until count its_count =
      root_counted until count (length watched.nets) (length (root_outputs watched.design)) (length flat.outputs) its_count
      (outputs_counted watched flat is ∙ length-append (root_outputs watched.design) watched.nets)

  pub probes_same : (until : Bool) (count : ℕ) → with_trigger until count ≡ length watched.nets → count ≡ shown_count until (length watched.nets)
  probes_same until count its_count = sym (shown_counted until count (length watched.nets) its_count)

pub trace_until_same : (until unknown : Bool) (count : ℕ) (watched : WatchedDesign) (flat : Flat) → IsFlatOf watched.design watched.nets flat → with_trigger until count ≡ length watched.nets
    → (rows : List (List Bool)) → flat_trace_until until count unknown flat rows ≡ trace_of_until until unknown watched rows
trace_until_same until unknown count watched flat is its_count rows = λ i.
    trace_text (roots_same watched flat is until count its_count i) (probes_same watched flat is until count its_count i) (latches_counted watched flat is i)
    (shown_same_from_start watched flat is until unknown rows i)

pub trace_same : (unknown : Bool) (count : ℕ) (watched : WatchedDesign) (flat : Flat) → IsFlatOf watched.design watched.nets flat → count ≡ length watched.nets
    → (rows : List (List Bool)) → flat_trace count unknown flat rows ≡ trace_of unknown watched rows
trace_same = trace_until_same false

-- and so is the wave, whatever its signals are called
pub wave_until_same : (until : Bool) (probes : List Word) (unknown : Bool) (watched : WatchedDesign) (ordered : Ordered) → IsFlatOf watched.design watched.nets ordered.flat
    → (rows : List (List Bool)) → netlist_wave_until until (signal_names probes watched.design) unknown ordered rows ≡ wave_of_until until probes unknown watched rows
wave_until_same until probes unknown watched ordered is rows =
    ap (λ (history : History). wave_text (signal_names probes watched.design) (signal_rows history)) (shown_same_from_start watched ordered.flat is until unknown rows)

pub wave_same : (probes : List Word) (unknown : Bool) (watched : WatchedDesign) (ordered : Ordered) → IsFlatOf watched.design watched.nets ordered.flat
    → (rows : List (List Bool)) → netlist_wave (signal_names probes watched.design) unknown ordered rows ≡ wave_of probes unknown watched rows
wave_same = wave_until_same false

-- and so is the state after the rows
pub saved_same : (unknown : Bool) (watched : WatchedDesign) (ordered : Ordered) → IsFlatOf watched.design watched.nets ordered.flat
    → (rows : List (List Bool)) → netlist_state unknown ordered rows ≡ saved_of unknown watched rows
saved_same unknown watched ordered is rows = ap (λ (history : History). state_text (length rows) history.last) (histories_agree watched.design watched.nets ordered.flat is unknown rows)

-- each probe has its net, and so has the trigger, so that they are among the outputs
pub probes_counted : (probes : List Word) (d : List ℕ) (watched : WatchedDesign) → IsWatchedDesignOf probes d watched → length probes ≡ length watched.nets
probes_counted probes d watched is = AllZip-length (Finds watched.design) probes watched.nets is.found

pub probes_fit : (probes : List Word) (d : List ℕ) (ordered : Ordered) → IsNetlistOf probes d ordered → length probes ≤ length ordered.flat.outputs
probes_fit probes d ordered is =
    omega (
      arith,
      probes_counted probes d is.watched is.is,
      outputs_counted is.watched ordered.flat is.flat,
      length-append (root_outputs is.watched.design) is.watched.nets,
    )
