-- What functions of this crate make of slots, step by step. No public clause cites it.
use Rattle.std.specs.Prelude.{◌≡◌, ◌<◌, ◌+◌, ◌++◌, ℕ, Bool, false, List, [], ◌∷◌, drop, length, map, min, take, slice_get, slice_set, Option, Some, None, IsTrue, true}
use Rattle.std.specs.List.{All}
use Rattle.std.specs.Option.{option_and_then}
use Rattle.vw_net.specs.declared.cell.Cell.{Cell}
use Rattle.vw_net.specs.declared.cell.Cell.TheVariants.{Gate, Latch}
use Rattle.vw_net.specs.Cover.{cover_value}
use Rattle.vw_net.specs.TruthTable.{bit_of, place_of}
use Rattle.vw_prog.specs.declared.code.Code.{Code}
use Rattle.vw_prog.specs.declared.job.Share.{Share}
use Rattle.vw_prog.specs.SeenGates.{SeenGate}
use Rattle.vw_node.specs.Fits.{bit_at_slot}

-- ---- gates

-- a gate reads slots that there are
abbrev pub ReadsWithin : ℕ → SeenGate → Type 0
ReadsWithin slots gate = All (λ slot. slot < slots) gate.reads

-- bits after gates were worked out, one after the other, into slots from one on
abbrev pub with_gates : ℕ → List SeenGate → List Bool → List Bool
with_gates slot [] bits = bits
with_gates slot (gate ∷ gates) bits = with_gates (slot + 1) gates (slice_set bits slot (bit_of gate.truth_table (place_of (map (bit_at_slot bits) gate.reads))))

-- a gate has as many reads as its cover has inputs
abbrev pub HasArity : Option Cell → List ℕ → Type 0
HasArity None reads = IsTrue true
HasArity (Some (Gate ins cover)) reads = length reads ≡ cover.inputs
HasArity (Some (Latch d init)) reads = IsTrue true

-- what a gate makes of the bits of its reads
abbrev pub wide_by : Option Cell → List Bool → List ℕ → Bool
wide_by None bits reads = false
wide_by (Some (Gate ins cover)) bits reads = cover_value cover (map (bit_at_slot bits) reads)
wide_by (Some (Latch d init)) bits reads = false

-- ---- sources

-- what a code reads and writes at the ends of clocks are slots that there are, and each latch has one input and one number
pub record NamesSlots (slots : ℕ) (code : Code) : Type 0 where
  pub latches : All (λ slot. slot < slots) code.latches.items
  pub inputs : All (λ slot. slot < slots) code.inputs.items
  pub records : All (λ slot. slot < slots) code.records.items
  pub paired : length code.inputs.items ≡ length code.latches.items
  pub numbered : length code.numbers.items ≡ length code.latches.items

-- the row of a clock, where the node has rows
abbrev pub row_at : Share → ℕ → Option (List Bool)
row_at share clock = option_and_then (λ rows. slice_get rows.now clock) share.rows

-- bits with a row in the first slots, as far as there are some
abbrev pub with_row : Option (List Bool) → List Bool → List Bool
with_row None bits = bits
with_row (Some row) bits = let count = min (length row) (length bits) in take count row ++ drop count bits
