-- What a recorder that waits for its end leaves of out before that.
use Rattle.std.proofs.Common.{◌≡◌, ◌∙◌, ℕ, Bool, true, false, List, [], Result, Ok, Err, refl, ap, subst}
use Rattle.std.specs.Prelude.{OnOk}
use Rattle.std.specs.Bool.{OnTrue}
use Rattle.vw_outside.specs.declared.unwritten.Unwritten.{Unwritten}
use Rattle.vw_outside.specs.declared.unwritten.Unwritten.TheVariants as unwritten
use Rattle.vw_outside.specs.Writes.{SeenSink, appended, WritesOut}
use Rattle.vw_outside.proofs.PiecesWritten.{appended-nil}
use Rattle.vw_rows.specs.declared.fault.StimFault.{StimFault}
use Rattle.vw_rows.specs.declared.fault.StimFault.TheVariants as rows
use Rattle.vw_trace.specs.RunFaults.{run_fault_of, run_fault_of_rows}
use Rattle.vw_trace.specs.Streamed.{StopsSilently}

-- what holds anyway
pub always : (waits : Bool) (P : Type 0) → P → OnTrue waits P
always true P so = so
always false P so = tt

-- a text without bytes was written
no_bytes : (made : List ℕ) (before after : SeenSink) (answer : Result (Unit {0}) Unwritten) → made ≡ [] → WritesOut made before after answer → OnOk answer (after ≡ before)
no_bytes made before after (Ok done) none wrote = wrote ∙ ap (appended before) none ∙ appended-nil before
no_bytes made before after (Err why) none wrote = tt

-- a batch was written down
pub silent_batch : (waits : Bool) (made : List ℕ) (before after : SeenSink) (answer : Result (Unit {0}) Unwritten) → OnTrue waits (made ≡ []) → WritesOut made before after answer → OnTrue waits (OnOk answer (after ≡ before))
silent_batch true made before after answer none wrote = no_bytes made before after answer none wrote
silent_batch false made before after answer none wrote = tt

-- and then a further one
pub silent_further : (waits other : Bool) → other ≡ waits → (first mid last : SeenSink) → OnTrue waits (mid ≡ first) → OnTrue other (last ≡ mid) → OnTrue waits (last ≡ first)
silent_further true other same first mid last one two = subst (λ (b : Bool). OnTrue b (last ≡ mid)) same two ∙ one
silent_further false other same first mid last one two = tt

-- a batch in which the run doesn't end
pub silent_open : (waits : Bool) (before after : SeenSink) → OnTrue waits (false ≡ false → after ≡ before) → OnTrue waits (after ≡ before)
silent_open true before after same = same refl
silent_open false before after same = tt

-- rows couldn't be read
unread : (before after : SeenSink) (fault : StimFault) → after ≡ before → StopsSilently before after (Err (run_fault_of_rows fault))
unread before after rows.TooLarge same = same
unread before after (rows.BadLine line) same = same
unread before after (rows.WrongWidth line found wanted) same = same
unread before after (rows.TooManyClocks count) same = same
unread before after rows.ReadFault same = same
unread before after rows.NoMemory same = tt

pub stops_unread : (waits : Bool) (before after : SeenSink) (fault : StimFault) → OnTrue waits (after ≡ before) → OnTrue waits (StopsSilently before after (Err (run_fault_of_rows fault)))
stops_unread true before after fault same = unread before after fault same
stops_unread false before after fault same = tt

-- a text couldn't be written
pub stops_unwritten : (waits : Bool) (before after : SeenSink) (why : Unwritten) → OnTrue waits (StopsSilently before after (Err (run_fault_of why)))
stops_unwritten waits before after unwritten.WriteFault = always waits (Unit {0}) tt
stops_unwritten waits before after unwritten.NoMemory = always waits (Unit {0}) tt
