-- What a contract sees of a sink, and what a write does.
use Rattle.std.specs.Prelude.{◌≡◌, ◌<◌, ◌≤◌, ℕ, List, ◌++◌, length, take, Option, Some, option_map, Result, Ok, Err, IfOk, OnErr}
use Rattle.vw_outside.specs.declared.sink.Failed.{Failed}
use Rattle.vw_outside.specs.declared.unwritten.Unwritten.{Unwritten}
use Rattle.vw_outside.specs.declared.unwritten.Unwritten.TheVariants.{WriteFault, NoMemory}
use Rattle.vw_outside.specs.Faults.{one_more}

-- the bytes so far, where a sink tells them, and how many faults it has counted
pub record SeenSink : Type 0 where
  pub told : Option (List ℕ)
  pub faults : ℕ

-- the sink with a piece at the end of its bytes
abbrev pub appended : SeenSink → List ℕ → SeenSink
appended sink piece = record sink { told = option_map (λ so_far. so_far ++ piece) sink.told }

-- the sink with one more fault
abbrev pub faulted : SeenSink → SeenSink
faulted sink = record sink { faults = one_more sink.faults }

-- a part of the bytes, from their front, was appended
abbrev pub WrotePart : List ℕ → SeenSink → SeenSink → Type 0
WrotePart bytes before after = (count : ℕ) × (count ≤ length bytes) × (after ≡ appended before (take count bytes))

-- a part of the bytes, from their front, was appended, and then a write failed
abbrev pub FailedAfterPart : List ℕ → SeenSink → SeenSink → Type 0
FailedAfterPart bytes before after =
    (count : ℕ) × (count ≤ length bytes) × (after ≡ faulted (appended before (take count bytes)))

-- a text was appended whole; or a write failed or memory ran out, and a part of it was appended
abbrev pub WritesOut : List ℕ → SeenSink → SeenSink → Result (Unit {0}) Unwritten → Type 0
WritesOut text before after (Ok done) = after ≡ appended before text
WritesOut text before after (Err WriteFault) = FailedAfterPart text before after
WritesOut text before after (Err NoMemory) = WrotePart text before after

-- what a write of a piece answers, and what it leaves of the sink
pub record WriteEnds (piece : List ℕ) (before after : SeenSink) (answer : Result ℕ Failed) : Type 0 where
  pub within : IfOk answer (λ count. count ≤ length piece)
  pub progress : IfOk answer (λ count. 0 < length piece → 0 < count)
  pub done : IfOk answer (λ count. after ≡ appended before (take count piece))
  pub failed : OnErr answer (after ≡ faulted before)

-- what is seen of a sink that tells these bytes and has counted so many faults
abbrev pub seen_bytes : List ℕ → ℕ → SeenSink
seen_bytes bytes faults = record { told = Some bytes; faults = faults }
