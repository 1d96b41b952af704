-- The gates of a netlist as numbers that read each other.
use Rattle.std.proofs.Common.{◌≡◌, ◌+◌, ◌-◌, ◌==◌, ◌&&◌, ℕ, zero, suc, Bool, true, false, cond, List, [], ◌∷◌, map, slice_get, nat_lt, Option, Some, None, refl, sym, ◌∙◌, ap, true≢false, arith}
use Rattle.std.proofs.lemmas.Bool.{and_from, or_left, or_right, eq-eqb, ltb-false, le-ltb}
use Rattle.std.proofs.lemmas.Option.{none-some, same_Some}
use Rattle.vw_net.specs.declared.cell.Cell.{Cell}
use Rattle.vw_net.specs.declared.cell.Cell.TheVariants.{Gate, Latch}
use Rattle.vw_net.specs.declared.flat.Flat.{Flat}
use Rattle.vw_net.specs.Order.{is_gate, is_among, read_nets_at, gate_inputs}
use Rattle.vw_net.proofs.Orders.{gate_within}
use Rattle.vw_order.specs.GateReads.{gate_reads}
use Rattle.vw_order.specs.Graphs.{Reads, StaysWithin}
use Rattle.vw_order.specs.Steps.Gates.{gate_of, gates}

-- the gate that drives a net
gate_is : (inputs : ℕ) (cells : List Cell) (net number : ℕ) → gate_of inputs cells net ≡ Some number
    → (net ≡ inputs + number) × (is_gate (slice_get cells number) ≡ true)
gate_is inputs cells net number is = by (nat_lt net inputs) refl (is_gate (slice_get cells (net - inputs))) refl is where
  by : (low : Bool) → nat_lt net inputs ≡ low → (gate : Bool) → is_gate (slice_get cells (net - inputs)) ≡ gate
      → cond low None (cond gate (Some (net - inputs)) None) ≡ Some number
      → (net ≡ inputs + number) × (is_gate (slice_get cells number) ≡ true)
  by true low gate is_it found = absurd (none-some number found)
  by false low false is_it found = absurd (none-some number found)
  by false low true is_it found =
      let past = ltb-false net inputs low in
      let same : net - inputs ≡ number = same_Some (net - inputs) number found in
      (omega arith, ap (λ (n : ℕ). is_gate (slice_get cells n)) (sym same) ∙ is_it)

pub is_gate_of : (inputs : ℕ) (cells : List Cell) (number : ℕ) → is_gate (slice_get cells number) ≡ true → gate_of inputs cells (inputs + number) ≡ Some number
is_gate_of inputs cells number gate =
    let past : nat_lt (inputs + number) inputs ≡ false = le-ltb (inputs + number) inputs (omega arith) in
    let same : inputs + number - inputs ≡ number = omega arith in
    rw (past, same, gate) refl

-- what stands at a place of a list of answers
map_at : (f : ℕ → Option ℕ) (nets : List ℕ) (place number : ℕ) → slice_get (map f nets) place ≡ Some (Some number)
    → (net : ℕ) × (is_among nets net ≡ true) × (f net ≡ Some number)
map_at f [] place number at = absurd (none-some (Some number) at)
map_at f (net ∷ nets) zero number at = (net, or_left (net == net) (is_among nets net) (eq-eqb net net refl), same_Some (f net) (Some number) at)
map_at f (net ∷ nets) (suc place) number at =
    let rest = map_at f nets place number at in (rest.0, or_right (net == rest.0) (is_among nets rest.0) rest.1, rest.2)

-- the inputs of a gate are what it reads
inputs_read : (found : Option Cell) → is_gate found ≡ true → gate_inputs found ≡ read_nets_at found
inputs_read None gate = refl
inputs_read (Some (Gate ins cover)) gate = refl
inputs_read (Some (Latch d init)) gate = absurd (true≢false (sym gate))

inputs_gate : (found : Option Cell) (net : ℕ) → is_among (gate_inputs found) net ≡ true → is_gate found ≡ true
inputs_gate None net among = absurd (true≢false (sym among))
inputs_gate (Some (Gate ins cover)) net among = refl
inputs_gate (Some (Latch d init)) net among = absurd (true≢false (sym among))

module _ (flat : Flat) where
  -- one gate reads another at a place
  pub reads_of : (number other : ℕ) → Reads (gates flat) number other → gate_reads flat number other ≡ true
  reads_of number other reads =
      let at = map_at (gate_of flat.inputs flat.cells) (gate_inputs (slice_get flat.cells number)) reads.0 other reads.1 in
      let is = gate_is flat.inputs flat.cells at.0 other at.2 in
      let gate = inputs_gate (slice_get flat.cells number) at.0 at.1 in
      and_from (is_gate (slice_get flat.cells number)) (is_gate (slice_get flat.cells other) && is_among (read_nets_at (slice_get flat.cells number)) (flat.inputs + other)) gate
      (and_from (is_gate (slice_get flat.cells other)) (is_among (read_nets_at (slice_get flat.cells number)) (flat.inputs + other)) is.1
      (ap (is_among (read_nets_at (slice_get flat.cells number))) (sym is.0) ∙ ap (λ (nets : List ℕ). is_among nets at.0) (sym (inputs_read (slice_get flat.cells number) gate)) ∙ at.1))

  pub within : StaysWithin (gates flat)
  within = record {
    below = gate_within flat.cells;
    started = λ number gate. gate;
    read = λ number place read counts reads.
        let at = map_at (gate_of flat.inputs flat.cells) (gate_inputs (slice_get flat.cells number)) place read reads in
        (gate_is flat.inputs flat.cells at.0 read at.2).1;
  }
