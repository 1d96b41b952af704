-- Gates that are kept with room for the same number of nets.
use Rattle.std.proofs.Common.{◌≡◌, ◌≤◌, ◌<◌, ◌+◌, ◌++◌, ℕ, Bool, true, false, List, length, map, drop, get_or, replicate, slice_get, slice_index_or, nat_le, Option, Some, None, ap, sym, refl, subst, true≢false, ◌∙◌, length-append, length-drop, All, arith}
use Rattle.std.proofs.lemmas.Bool.{leb-true}
use Rattle.std.proofs.lemmas.List.{map-append, length-map, length-replicate}
use Rattle.std.proofs.lemmas.List.Elements.{All-append, All-drop, All-from_get_or, All-map, All-replicate}
use Rattle.vw_net.specs.declared.cell.Cell.{Cell}
use Rattle.vw_net.specs.declared.cell.Cell.TheVariants.{Gate, Latch}
use Rattle.vw_net.specs.declared.cover.Cover.{Cover}
use Rattle.vw_net.specs.Cells.{IsWellFormed}
use Rattle.vw_net.specs.Cover.{cover_value}
use Rattle.vw_net.specs.Order.{IsOrder, is_gate}
use Rattle.vw_net.specs.TruthTable.{bit_of, place_of, truth_table}
use Rattle.vw_net.proofs.FittingCells.{cell_fits}
use Rattle.vw_net.proofs.ReadyNets.{order_gate, order_within}
use Rattle.vw_net.proofs.TruthTables.{place_of-below, truth_table_repeats}
use Rattle.vw_sim.specs.declared.kept.TableStep.{TableStep}
use Rattle.vw_sim.specs.Steps.Tables.{IsWithin, kept_reads, table_step, table_steps}
use Rattle.vw_sim.specs.Steps.Values.{bits_at}

-- where there is room for its nets, the table has its value at the place of theirs and of those of net 0
pub kept_value : (cover : Cover) (ins : List ℕ) (room : ℕ) (values : List Bool) → length ins ≡ cover.inputs → nat_le (length ins) room ≡ true → room ≤ 6 → bit_of (truth_table cover) (place_of (bits_at values (kept_reads room ins))) ≡ cover_value cover (bits_at values ins)
kept_value cover ins room values arity enough few =
    let value = λ (net : ℕ). slice_index_or values net false in
    let zeros : List ℕ = replicate room 0 in
    let length-zeros : length zeros ≡ room = length-replicate room 0 in
    let more = drop (length ins) zeros in
    let kept : kept_reads room ins ≡ ins ++ more = rw enough refl in
    let split : bits_at values (kept_reads room ins) ≡ bits_at values ins ++ bits_at values more = ap (map value) kept ∙ map-append value ins more in
    let own : length (bits_at values ins) ≡ length ins = length-map ins value in
    let further : length (bits_at values more) ≡ length more = length-map more value in
    let below : length (bits_at values ins ++ bits_at values more) ≤ 6 = omega (arith, own, further, length-append (bits_at values ins) (bits_at values more), length-drop (length ins) zeros, length-zeros, leb-true (length ins) room enough, few) in
    ap (λ (bits : List Bool). bit_of (truth_table cover) (place_of bits)) split ∙ truth_table_repeats cover (bits_at values ins) (bits_at values more) (own ∙ arity) below

-- what is kept are nets that there are
kept_reads-within : (room nets : ℕ) (ins : List ℕ) → 0 < nets → All (λ net. net < nets) ins → All (λ net. net < nets) (kept_reads room ins)
kept_reads-within room nets ins some inside = by (nat_le (length ins) room) refl where
  none : All (λ net. net < nets) (replicate room 0)
  none = All-replicate (λ net. net < nets) room 0 some

  by : (enough : Bool) → nat_le (length ins) room ≡ enough → All (λ net. net < nets) (kept_reads room ins)
  by true enough = rw enough (All-append (λ net. net < nets) ins (drop (length ins) (replicate room 0)) inside (All-drop (λ net. net < nets) (length ins) (replicate room 0) none))
  by false enough = rw enough none

-- and so is the net that is driven
step-within : (room nets net : ℕ) (cell : Cell) → net < nets → IsWellFormed nets cell → IsWithin room nets (table_step room net (Some cell))
step-within room nets net (Gate ins cover) within well = record { reads = kept_reads-within room nets ins (omega arith) well.1; net = within }
step-within room nets net (Latch d init) within well = record { reads = All-replicate (λ read. read < nets) room 0 (omega arith); net = within }

-- a cell that is a gate
pub record GateThere (cell : Option Cell) : Type 0 where
  pub ins : List ℕ
  pub cover : Cover
  pub is : cell ≡ Some (Gate ins cover)

pub gate_there : (cell : Option Cell) → is_gate cell ≡ true → GateThere cell
gate_there None gate = absurd (true≢false (sym gate))
gate_there (Some (Gate ins cover)) gate = record { ins = ins; cover = cover; is = refl }
gate_there (Some (Latch d init)) gate = absurd (true≢false (sym gate))

-- so each gate of an order reads and drives nets that there are
all-within : {inputs : ℕ} {cells : List Cell} {order : List ℕ} (is_order : IsOrder inputs cells order) → All (IsWellFormed (inputs + length cells)) cells → (room : ℕ) → All (IsWithin room (inputs + length cells)) (table_steps room inputs cells order)
all-within {inputs} {cells} {order} is_order fit room =
    let nets = inputs + length cells in
    let step = λ (number : ℕ). table_step room (inputs + number) (slice_get cells number) in
    All-map (IsWithin room nets) step order (All-from_get_or (λ (number : ℕ). IsWithin room nets (step number)) order 0 (λ place within.
    let number = get_or order place 0 in
    let there = gate_there (slice_get cells number) (order_gate is_order place within) in
    let its = step-within room nets (inputs + number) (Gate there.ins there.cover) (omega (arith, order_within is_order place within)) (cell_fits nets cells number (Gate there.ins there.cover) fit there.is) in
    subst (λ (cell : Option Cell). IsWithin room nets (table_step room (inputs + number) cell)) (sym there.is) its))

pub steps-within : {inputs : ℕ} {cells : List Cell} {order : List ℕ} (is_order : IsOrder inputs cells order) → All (IsWellFormed (inputs + length cells)) cells → (room nets : ℕ) (steps : List (TableStep room)) → steps ≡ table_steps room inputs cells order → nets ≡ inputs + length cells → All (IsWithin room nets) steps
steps-within {inputs} {cells} {order} is_order fit room nets steps kept size = subst (λ (n : ℕ). All (IsWithin room n) steps) (sym size) (subst (λ (all : List (TableStep room)). All (IsWithin room (inputs + length cells)) all) (sym kept) (all-within is_order fit room))

pub length-steps : (room inputs : ℕ) (cells : List Cell) (order : List ℕ) (steps : List (TableStep room)) → steps ≡ table_steps room inputs cells order → length steps ≡ length order
length-steps room inputs cells order steps kept = ap (λ (all : List (TableStep room)). length all) kept ∙ length-map order (λ (number : ℕ). table_step room (inputs + number) (slice_get cells number))

-- the place of the values of at most six nets is one of 64
pub values_place-below : (value : ℕ → Bool) (nets : List ℕ) → length nets ≤ 6 → place_of (map value nets) < 64
values_place-below value nets few = place_of-below (map value nets) (omega (arith, length-map nets value))

pub rest_place-below : (value : ℕ → Bool) (nets : List ℕ) (i : ℕ) → length nets ≤ 6 → place_of (map value (drop i nets)) < 64
rest_place-below value nets i few = values_place-below value (drop i nets) (omega (arith, length-drop i nets))
