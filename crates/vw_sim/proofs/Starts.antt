-- Values before the gates, where a simulator has put the bits of the inputs and of the latches.
use Rattle.std.proofs.Common.{◌≡◌, ◌<◌, ◌+◌, ◌++◌, ℕ, Bool, true, false, List, [], length, drop, slice_index_or, ap, ◌∙◌, arith}
use Rattle.std.proofs.lemmas.List.{get_or_append_left, length-append, length-drop}
use Rattle.vw_net.specs.declared.flat.Flat.{Flat}
use Rattle.vw_net.specs.Cells.{latch_count}
use Rattle.vw_net.specs.Order.{is_ready}
use Rattle.vw_net.specs.Value.{net_value}
use Rattle.vw_net.proofs.WrittenBits.{length-with_bits}
use Rattle.vw_net.specs.Steps.WrittenBits.{with_bits}
use Rattle.vw_sim.specs.Steps.Simulator.{latch_nets}
use Rattle.vw_sim.proofs.LatchNets.{bits_latch, bits_rest}
use Rattle.vw_sim.proofs.Values.{net_value-before_gates}

pub starts : (flat : Flat) (row state before first values : List Bool) (nets : List ℕ) → length row ≡ flat.inputs → length state ≡ latch_count flat.cells → length first ≡ flat.inputs + length flat.cells → first ≡ row ++ drop (length row) before
    → nets ≡ latch_nets flat.inputs flat.cells → values ≡ with_bits nets state first → (net : ℕ) → is_ready flat.inputs flat.cells [] net ≡ true → slice_index_or values net false ≡ net_value flat row state net
starts flat row state before first values nets columns latches size put are written net ready =
    let its = with_bits (latch_nets flat.inputs flat.cells) state first in
    let is : values ≡ its = written ∙ ap (λ (ns : List ℕ). with_bits ns state first) are in
    let inputs = λ (at : ℕ) (within : at < length row). ap (λ (all : List Bool). slice_index_or all at false) put ∙ get_or_append_left row (drop (length row) before) false at within in
    let start = net_value-before_gates flat row state first its columns inputs (λ number latch. bits_latch flat.inputs flat.cells state first number latch (omega arith) latches) (λ at other. bits_rest flat.inputs flat.cells state first at other) in
    ap (λ (all : List Bool). slice_index_or all net false) is ∙ start net ready

-- the inputs' bits change no length
pub filled : (row before first : List Bool) (inputs cells : ℕ) → first ≡ row ++ drop (length row) before → length row ≡ inputs → length before ≡ inputs + cells → length first ≡ inputs + cells
filled row before first inputs cells put columns size = omega (arith, ap length put, length-append row (drop (length row) before), length-drop (length row) before)

-- nor do those of the latches
pub both_put : (row state before first values : List Bool) (nets : List ℕ) (inputs cells : ℕ) → first ≡ row ++ drop (length row) before → length row ≡ inputs → length before ≡ inputs + cells → values ≡ with_bits nets state first → length values ≡ inputs + cells
both_put row state before first values nets inputs cells put columns size written = ap length written ∙ length-with_bits nets state first ∙ filled row before first inputs cells put columns size
