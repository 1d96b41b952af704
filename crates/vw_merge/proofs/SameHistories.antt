-- A merged netlist does the same as the netlist that it was made of.
use Rattle.std.proofs.Common.{◌≡◌, ◌+◌, ◌++◌, ◌∙◌, ℕ, Bool, true, false, List, [], ◌∷◌, length, map, take, slice_get, slice_index_or, Option, Some, All, ap, ap₂, sym, refl, arith}
use Rattle.std.proofs.lemmas.Bool.{lt-ltb}
use Rattle.std.proofs.lemmas.List.{append-nil, length-map}
use Rattle.vw_net.specs.declared.cell.Cell.{Cell}
use Rattle.vw_net.specs.declared.cell.Cell.TheVariants.{Gate}
use Rattle.vw_net.specs.declared.cover.Cover.{Cover}
use Rattle.vw_net.specs.declared.flat.Flat.{Flat}
use Rattle.vw_net.specs.declared.ordered.Ordered.{Ordered}
use Rattle.vw_net.specs.Cells.{latch_count, latch_inputs, start_values}
use Rattle.vw_net.specs.Cover.{cover_value}
use Rattle.vw_net.specs.History.{flat_history, next_state, outputs_at, outputs_of, state_after, states_of}
use Rattle.vw_net.specs.Order.{is_gate, is_latch}
use Rattle.vw_net.specs.Value.{net_value}
use Rattle.vw_net.proofs.Counts.{latch_count-append}
use Rattle.vw_net.proofs.Levels.{net_value-input, net_value-latch}
use Rattle.vw_merge.specs.Merging.{AreLatchesOf, AreSettled, Carries, SameThere}
use Rattle.vw_merge.specs.Same.{DoesTheSame}
use Rattle.vw_merge.proofs.ListEnds.{back_there}
use Rattle.vw_merge.proofs.NewLatches.{all_latches, latches_before, latch_inputs-append, no_latch_among, start_values-append}

-- netlists with the same outputs and the same next latch values in every clock have the same histories
module _ (flat other : Flat) (outputs : (row state : List Bool) → outputs_at other row state ≡ outputs_at flat row state) (next : (row state : List Bool) → next_state other row state ≡ next_state flat row state) where
  same_outputs : (state : List Bool) (rows : List (List Bool)) → outputs_of other state rows ≡ outputs_of flat state rows
  same_outputs state [] = refl
  same_outputs state (row ∷ rows) = ap₂ (λ (bits : List Bool) (more : List (List Bool)). bits ∷ more) (outputs row state) (ap (λ (after : List Bool). outputs_of other after rows) (next row state) ∙ same_outputs (next_state flat row state) rows)

  same_states : (state : List Bool) (rows : List (List Bool)) → states_of other state rows ≡ states_of flat state rows
  same_states state [] = refl
  same_states state (row ∷ rows) = ap (λ (more : List (List Bool)). state ∷ more) (ap (λ (after : List Bool). states_of other after rows) (next row state) ∙ same_states (next_state flat row state) rows)

  same_last : (state : List Bool) (rows : List (List Bool)) → state_after other state rows ≡ state_after flat state rows
  same_last state [] = refl
  same_last state (row ∷ rows) = ap (λ (after : List Bool). state_after other after rows) (next row state) ∙ same_last (next_state flat row state) rows

  pub same_history : (state : List Bool) (rows : List (List Bool)) → flat_history other state rows ≡ flat_history flat state rows
  same_history state rows = cc (same_outputs state rows, same_states state rows, same_last state rows)

module _ (flat : Flat) (merged : Ordered) (latches gates : List Cell) (to : List (Option ℕ)) (outputs : List ℕ)
    (inputs_are : merged.flat.inputs ≡ flat.inputs) (cells_are : merged.flat.cells ≡ latches ++ gates) (outputs_are : merged.flat.outputs ≡ outputs)
    (all_gates : All (λ cell. is_gate (Some cell) ≡ true) gates) (carries : Carries flat gates to) (are_latches : AreLatchesOf flat.cells to latches)
    (same_nets : (value other : ℕ → Bool) → SameThere to value other → map value outputs ≡ map other flat.outputs)
    (settle : (row state : List Bool) (number : ℕ) (ins : List ℕ) (cover : Cover) → slice_get merged.flat.cells number ≡ Some (Gate ins cover)
    → net_value merged.flat row state (merged.flat.inputs + number) ≡ cover_value cover (map (net_value merged.flat row state) ins)) where
  module _ (row state : List Bool) where
    -- its nets have their values as it says
    settled : AreSettled flat.inputs (latch_count flat.cells) gates row state (net_value merged.flat row state)
    settled = record {
      of_inputs = λ net low. net_value-input merged.flat row state net (lt-ltb net merged.flat.inputs (omega (arith, inputs_are, low)));
      of_latches = λ number low.
          let its = latches_before latches gates number are_latches.all (omega (arith, are_latches.count, low)) in
          let latch = ap (λ (cells : List Cell). is_latch (slice_get cells number)) cells_are ∙ its.0 in
          ap (λ (inputs : ℕ). net_value merged.flat row state (inputs + number)) (sym inputs_are)
          ∙ net_value-latch merged.flat row state number latch
          ∙ ap (λ (at : ℕ). slice_index_or state at false) (ap (λ (cells : List Cell). latch_count (take number cells)) cells_are ∙ its.1);
      of_gates = λ place ins cover is.
          let number = length latches + place in
          let there : slice_get merged.flat.cells number ≡ Some (Gate ins cover) = ap (λ (cells : List Cell). slice_get cells number) cells_are ∙ back_there latches gates place number refl ∙ is in
          ap (net_value merged.flat row state) (omega (arith, inputs_are, are_latches.count)) ∙ settle row state number ins cover there;
    }

    there : SameThere to (net_value merged.flat row state) (net_value flat row state)
    there = carries row state (net_value merged.flat row state) settled

    same_clock : outputs_at merged.flat row state ≡ outputs_at flat row state
    same_clock = ap (map (net_value merged.flat row state)) outputs_are ∙ same_nets (net_value merged.flat row state) (net_value flat row state) there

    taken_are : latch_inputs merged.flat.cells ≡ latch_inputs latches
    taken_are = ap latch_inputs cells_are ∙ latch_inputs-append latches gates ∙ ap (λ (nets : List ℕ). latch_inputs latches ++ nets) (no_latch_among gates all_gates).0 ∙ append-nil (latch_inputs latches)

    same_next : next_state merged.flat row state ≡ next_state flat row state
    same_next = ap (map (net_value merged.flat row state)) taken_are ∙ are_latches.taken (net_value merged.flat row state) (net_value flat row state) there

  pub does_the_same : DoesTheSame flat merged.flat
  does_the_same = record {
    inputs = inputs_are;
    outputs =
        let bits = λ (net : ℕ). false in
        let same : map bits outputs ≡ map bits flat.outputs = same_nets bits bits (λ net new is. refl) in
        ap (λ (nets : List ℕ). length nets) outputs_are ∙ sym (length-map outputs bits) ∙ ap (λ (all : List Bool). length all) same ∙ length-map flat.outputs bits;
    latches =
        ap latch_count cells_are
        ∙ omega (arith, latch_count-append latches gates, (no_latch_among gates all_gates).1, all_latches latches are_latches.all, are_latches.count);
    starts = λ unknown.
        ap (start_values unknown) cells_are
        ∙ start_values-append unknown latches gates
        ∙ ap (λ (bits : List Bool). start_values unknown latches ++ bits) ((no_latch_among gates all_gates).2 unknown)
        ∙ append-nil (start_values unknown latches)
        ∙ are_latches.starts unknown;
    histories = same_history flat merged.flat same_clock same_next;
  }
