-- The clocks of an engine, written down while a checked stimulus is read again.
use Rattle.std.proofs.Common.{◌≡◌, ◌≢◌, ◌<◌, ◌≤◌, ◌+◌, ◌-◌, ◌^◌, ◌⊎◌, ℕ, Bool, true, false, true≢false, List, [], ◌∷◌, ◌++◌, length, take, drop, min, replicate, inl, inr, Ok, Err, refl, sym, ◌∙◌, ap, ap₂, subst, arith, append_assoc, append-nil, length-append}
use Rattle.std.specs.Bool.{OnTrue}
use Rattle.std.specs.List.{All}
use Rattle.std.proofs.Math.Seq.{take-add}
use Rattle.std.proofs.lemmas.List.{take-append-drop, take_at, take_all, drop-drop, length-drop, length-replicate}
use Rattle.std.proofs.lemmas.List.Elements.{All-append, All-nil, All-replicate}
use Rattle.vw_net.specs.declared.flat.Flat.{Flat}
use Rattle.vw_net.specs.Cells.{latch_count}
use Rattle.vw_net.specs.History.{History, flat_history, joined, outputs_of, state_after}
use Rattle.vw_net.proofs.Counts.{length-outputs_of}
use Rattle.vw_outside.specs.declared.shelf.Shelf as shelves
use Rattle.vw_outside.specs.declared.unwritten.Unwritten.{Unwritten}
use Rattle.vw_outside.specs.declared.unwritten.Unwritten.TheVariants as unwritten
use Rattle.vw_outside.specs.Told.{Told, untold, absent, held, IsTextOf}
use Rattle.vw_outside.specs.Reads.{SeenShelf, CountsFault}
use Rattle.vw_outside.specs.Writes.{SeenSink, appended, WrotePart, WritesOut}
use Rattle.vw_outside.proofs.PiecesWritten.{IsLeft, part_written, unwritten_in_piece, last_piece, appended-appended, appended-nil}
use Rattle.vw_rows.specs.declared.fault.StimFault.{StimFault}
use Rattle.vw_rows.specs.declared.fault.StimFault.TheVariants as rows_faults
use Rattle.vw_rows.specs.declared.rereading.Rereading.{Rereading}
use Rattle.vw_rows.specs.declared.stimulus.Stimulus.{Stimulus}
use Rattle.vw_rows.specs.Rereadings.{SameShelf, seen_shelf}
use Rattle.vw_rows.specs.Stimulus.{stimulus_rows, is_text_fault}
use Rattle.vw_rows.specs.Standing.{GaveMore, StandsWhereHeld}
use Rattle.vw_trace.specs.declared.engine.Batch.{Batch}
use Rattle.vw_trace.specs.declared.fault.RunFault.{RunFault}
use Rattle.vw_trace.specs.declared.fault.RunFault.TheVariants.{NoMemory}
use Rattle.vw_trace.specs.Batches.{WroteClocks, ends_in, left_by, shown_before}
use Rattle.vw_trace.specs.Engines.{SeenEngine, HasWorked, engine_after}
use Rattle.vw_trace.specs.Recorded.{no_more_clocks}
use Rattle.vw_trace.specs.Recorders.{IsBehind, IsOf, SeenRecorder}
use Rattle.vw_trace.specs.RunFaults.{run_fault_of, run_fault_of_rows}
use Rattle.vw_trace.specs.Streamed.{IsNotHeld, MayBeRows, EndsStreaming, Feeds, Records, StopsSilently, clocks_left, shown_by, worked_by}
use Rattle.vw_trace.specs.Triggers.{shown_count}
use Rattle.vw_trace.proofs.Silence.{always, silent_further, silent_open, stops_unread, stops_unwritten}
use Rattle.vw_trace.proofs.Triggered.{full_batch, last_batch, one_batch, shown_next, shown_none}

-- what histories one after the other say of a netlist
abbrev pub HistoriesJoin : Flat → Type 0
HistoriesJoin flat = (state : List Bool) (first second : List (List Bool)) → flat_history flat state (first ++ second) ≡ joined (flat_history flat state first) (flat_history flat (state_after flat state first) second)

-- ---- what is told of the stimulus

-- so many of the rows that the stimulus still gives were read; where no text is held, as many rows of the width
pub record IsFrontOfRows (told : Told) (stimulus : Stimulus) (rows : List (List Bool)) : Type 0 where
  pub wide : All (λ row. length row ≡ stimulus.width) rows
  pub same : (text : List ℕ) (all : List (List Bool)) → told ≡ held text → stimulus_rows stimulus.width text ≡ Ok all → rows ≡ take (length rows) (drop stimulus.done all)

-- rows that may be those of the stimulus, of which these are the first
pub record BeginWith (told : Told) (stimulus : Stimulus) (rows : List (List Bool)) : Type 0 where
  pub whole : List (List Bool)
  pub more : List (List Bool)
  pub split : whole ≡ rows ++ more
  pub are : MayBeRows told stimulus whole

same_text : (told : Told) (text other : List ℕ) → told ≡ held text → told ≡ held other → text ≡ other
same_text told text other is its = subst (λ (t : Told). IsTextOf t text) its (subst (λ (t : Told). IsTextOf t text) (sym is) refl)

same_rows : (told : Told) (width : ℕ) (text other : List ℕ) (all others : List (List Bool)) → told ≡ held text → told ≡ held other → stimulus_rows width text ≡ Ok all → stimulus_rows width other ≡ Ok others → all ≡ others
same_rows told width text other all others is its said so =
    let same : Ok all ≡ Ok others = sym said ∙ ap (stimulus_rows width) (same_text told text other is its) ∙ so in cc

abbrev IsHeldText : Told → Type 0
IsHeldText untold = ⊥
IsHeldText absent = ⊥
IsHeldText (held text) = Unit {0}

pub begin_with : (told : Told) (stimulus : Stimulus) (rows : List (List Bool)) → StandsWhereHeld stimulus told → IsFrontOfRows told stimulus rows → BeginWith told stimulus rows
begin_with told stimulus rows stands front = by told refl where
  -- nothing is held, so the rows so far may be all
  alone : IsNotHeld told → BeginWith told stimulus rows
  alone none = record {
    whole = rows;
    more = [];
    split = sym (append-nil rows);
    are = record { same = λ text all is said. absurd (none text is); wide = λ so. front.wide };
  }

  by : (one : Told) → told ≡ one → BeginWith told stimulus rows
  by untold is = alone (λ text its. subst (λ (t : Told). IsHeldText t) (sym its ∙ is) tt)
  by absent is = alone (λ text its. subst (λ (t : Told). IsHeldText t) (sym its ∙ is) tt)
  by (held text) is =
      let its = stands text is in
      let all : List (List Bool) = drop stimulus.done its.rows in
      record {
        whole = all;
        more = drop (length rows) all;
        split = sym (take-append-drop (length rows) all) ∙ ap (λ (r : List (List Bool)). r ++ drop (length rows) all) (sym (front.same text its.rows is its.accepted));
        are = record {
          same = λ other others held said. ap (drop stimulus.done) (same_rows told stimulus.width text other its.rows others is held its.accepted said);
          wide = λ none. absurd (none text is);
        };
      }

-- so that there are as many as were counted
pub record BeginAll (told : Told) (stimulus : Stimulus) (rows : List (List Bool)) : Type 0 where
  pub whole : List (List Bool)
  pub more : List (List Bool)
  pub split : whole ≡ rows ++ more
  pub are : MayBeRows told stimulus whole
  pub count : length whole ≡ clocks_left stimulus

-- how many rows a text has
count_held : (told : Told) (stimulus : Stimulus) (stands : StandsWhereHeld stimulus told) (text : List ℕ) (is : told ≡ held text) → length (drop stimulus.done (stands text is).rows) ≡ clocks_left stimulus
count_held told stimulus stands text is =
    length-drop stimulus.done (stands text is).rows ∙ ap (λ (n : ℕ). n - stimulus.done) (stands text is).clocks

pub begin_all : (told : Told) (stimulus : Stimulus) (rows : List (List Bool)) → StandsWhereHeld stimulus told → IsFrontOfRows told stimulus rows → length rows ≤ clocks_left stimulus → BeginAll told stimulus rows
begin_all told stimulus rows stands front few = by told refl where
  -- nothing is held, so any rows of the width may follow
  alone : IsNotHeld told → BeginAll told stimulus rows
  alone none =
      let missing = clocks_left stimulus - length rows in
      let more = replicate missing (replicate stimulus.width false) in
      record {
        whole = rows ++ more;
        more = more;
        split = refl;
        are = record {
          same = λ text all is said. absurd (none text is);
          wide = λ so. All-append (λ row. length row ≡ stimulus.width) rows more front.wide
              (All-replicate (λ row. length row ≡ stimulus.width) missing (replicate stimulus.width false) (length-replicate stimulus.width false));
        };
        count = omega (arith, length-append rows more, length-replicate missing (replicate stimulus.width false), few);
      }

  by : (one : Told) → told ≡ one → BeginAll told stimulus rows
  by untold is = alone (λ text its. subst (λ (t : Told). IsHeldText t) (sym its ∙ is) tt)
  by absent is = alone (λ text its. subst (λ (t : Told). IsHeldText t) (sym its ∙ is) tt)
  by (held text) is =
      let its = stands text is in
      let all : List (List Bool) = drop stimulus.done its.rows in
      record {
        whole = all;
        more = drop (length rows) all;
        split = sym (take-append-drop (length rows) all) ∙ ap (λ (r : List (List Bool)). r ++ drop (length rows) all) (sym (front.same text its.rows is its.accepted));
        are = record {
          same = λ other others held said. ap (drop stimulus.done) (same_rows told stimulus.width text other its.rows others is held its.accepted said);
          wide = λ none. absurd (none text is);
        };
        count = count_held told stimulus stands text is;
      }

-- a batch of rows more
front_of_front : (k : ℕ) (xs next : List (List Bool)) → next ≡ take k xs → next ≡ take (length next) xs
front_of_front k xs next is =
    let whole : next ++ drop k xs ≡ xs = ap (λ (r : List (List Bool)). r ++ drop k xs) is ∙ take-append-drop k xs in
    sym (take_at next (drop k xs) (length next) refl) ∙ ap (take (length next)) whole

front_further : (told : Told) (stimulus : Stimulus) (rows next : List (List Bool)) (k done : ℕ) → IsFrontOfRows told stimulus rows → All (λ row. length row ≡ stimulus.width) next → done ≡ stimulus.done + length rows
    → ((text : List ℕ) (all : List (List Bool)) → told ≡ held text → stimulus_rows stimulus.width text ≡ Ok all → next ≡ take k (drop done all)) → IsFrontOfRows told stimulus (rows ++ next)
front_further told stimulus rows next k done front wide count same = record {
  wide = All-append (λ row. length row ≡ stimulus.width) rows next front.wide wide;
  same = λ text all is said.
      let left : List (List Bool) = drop stimulus.done all in
      let behind : drop done all ≡ drop (length rows) left = ap (λ (n : ℕ). drop n all) count ∙ sym (drop-drop (length rows) stimulus.done all) in
      ap₂ (λ (a b : List (List Bool)). a ++ b) (front.same text all is said) (front_of_front k (drop (length rows) left) next (same text all is said ∙ ap (take k) behind))
      ∙ sym (take-add (length rows) (length next) left) ∙ ap (λ (n : ℕ). take n left) (sym (length-append rows next));
}

-- ---- what is done meanwhile

-- what was done for the first of some rows, which were all worked out
done_for_front : (until : Bool) (engine : SeenEngine) (Done : List (List Bool) → Type 0) (rows more whole : List (List Bool)) → whole ≡ rows ++ more → worked_by until engine rows ≡ rows → Done rows
    → (count : ℕ) × Done (worked_by until engine (take count whole))
done_for_front until engine Done rows more whole split all done =
    (length rows, subst Done (sym (ap (λ (list : List (List Bool)). worked_by until engine (take (length rows) list)) split ∙ ap (worked_by until engine) (take_at rows more (length rows) refl) ∙ all)) done)

-- ---- how it ends

module _ (name text : List ℕ) (shelf : SeenShelf) (out : SeenSink) (shelf_after : SeenShelf) (out_after : SeenSink) where
  -- the text wasn't written whole
  pub ends_unwritten : (why : Unwritten) → shelf_after ≡ shelf → WritesOut text out out_after (Err why) → EndsStreaming name text shelf out shelf_after out_after (Err (run_fault_of why))
  ends_unwritten unwritten.WriteFault same failed = (same, failed)
  ends_unwritten unwritten.NoMemory same part = (same, part)

  -- rows weren't read
  pub ends_unread : (fault : StimFault) → WrotePart text out out_after → (fault ≡ rows_faults.ReadFault → CountsFault name shelf shelf_after) → (fault ≢ rows_faults.ReadFault → shelf_after ≡ shelf)
      → ((its : List ℕ) → shelf.told name ≡ held its → is_text_fault fault ≡ false) → EndsStreaming name text shelf out shelf_after out_after (Err (run_fault_of_rows fault))
  ends_unread rows_faults.TooLarge part counts kept sure = (λ its is. true≢false (sure its is), refl, kept (λ is. true≢false (ap is_text_fault is)), part)
  ends_unread (rows_faults.BadLine line) part counts kept sure = (λ its is. true≢false (sure its is), refl, kept (λ is. true≢false (ap is_text_fault is)), part)
  ends_unread (rows_faults.WrongWidth line found wanted) part counts kept sure = (λ its is. true≢false (sure its is), refl, kept (λ is. true≢false (ap is_text_fault is)), part)
  ends_unread (rows_faults.TooManyClocks count) part counts kept sure = (λ its is. true≢false (sure its is), refl, kept (λ is. true≢false (ap is_text_fault is)), part)
  ends_unread rows_faults.ReadFault part counts kept sure = (counts refl, part)
  ends_unread rows_faults.NoMemory part counts kept sure = (kept (λ is. no_memory_read is), part) where
    no_memory_read : rows_faults.NoMemory ≡ rows_faults.ReadFault → ⊥
    no_memory_read is = cc

-- ---- underway

-- the next rows of a stimulus were read, at most 256; there were some
pub record HasNext {S : Type 0} {shelf : shelves.Ghosts S} (now after : Rereading S shelf) (next : List (List Bool)) : Type 0 where
  pub some : now.stimulus.now.done < now.stimulus.now.clocks
  pub count : length next ≡ min 256 (clocks_left now.stimulus.now)
  pub same : SameShelf now after
  pub kept : seen_shelf after ≡ seen_shelf now
  pub wide : All (λ row. length row ≡ now.stimulus.now.width) next
  pub are : (text : List ℕ) (all : List (List Bool)) → (seen_shelf now).told now.stimulus.now.name ≡ held text → stimulus_rows now.stimulus.now.width text ≡ Ok all → next ≡ take 256 (drop now.stimulus.now.done all)
  pub gave : GaveMore (length next) now.stimulus.now after.stimulus.now

-- so many rows were given and their clocks written down, the run hasn't ended in them, and what else is done for them was done; the recorder
-- is the engine's, and all else is as it was
pub record IsUnderway {S : Type 0} {shelf : shelves.Ghosts S} (until : Bool) (Done : List (List Bool) → Type 0)
    (rows now : Rereading S shelf) (engine here : SeenEngine) (recorder written : SeenRecorder) (out out_now : SeenSink) : Type 0 where
  pub given : List (List Bool)
  pub front : IsFrontOfRows ((seen_shelf rows).told rows.stimulus.now.name) rows.stimulus.now given
  pub gave : GaveMore (length given) rows.stimulus.now now.stimulus.now
  pub same_shelf : SameShelf rows now
  pub shelf_is : seen_shelf now ≡ seen_shelf rows
  pub stands : here ≡ engine_after engine given
  pub text : List ℕ
  pub wrote : out_now ≡ appended out text
  pub left : (more : List (List Bool)) → recorder.left (shown_by until engine (given ++ more)) ≡ text ++ written.left (shown_by until here more)
  pub whole : worked_by until engine given ≡ given
  pub in_step : now.stimulus.now.done < now.stimulus.now.clocks → (more : List (List Bool)) → worked_by until engine (given ++ more) ≡ given ++ worked_by until here more
  pub its : IsOf until here written
  pub its_waits : written.waits ≡ recorder.waits
  pub silent : OnTrue recorder.waits (out_now ≡ out)
  pub meanwhile : Done given

-- an engine whose next clock has this number
abbrev with_clock : SeenEngine → ℕ → SeenEngine
with_clock engine clock = record { netlist = engine.netlist; clock = clock; state = engine.state }

module _ {S : Type 0} {shelf : shelves.Ghosts S} where
  -- before the first batch
  pub begins : (until : Bool) (Done : List (List Bool) → Type 0) (rows : Rereading S shelf) (engine : SeenEngine) (recorder : SeenRecorder) (out : SeenSink) → IsOf until engine recorder → Done []
      → IsUnderway until Done rows rows engine engine recorder recorder out out
  begins until Done rows engine recorder out its none =
      let same_number : (n : ℕ) → n + 0 ≡ n = λ n. omega arith in
      record {
        given = [];
        front = record { wide = All-nil (λ row. length row ≡ rows.stimulus.now.width); same = λ text all is said. refl };
        gave = record { name = refl; width = refl; clocks = refl; done = sym (same_number rows.stimulus.now.done) };
        same_shelf = refl;
        shelf_is = refl;
        stands = ap (with_clock engine) (sym (same_number engine.clock));
        text = [];
        wrote = sym (appended-nil out);
        left = λ more. refl;
        whole = one_batch engine.netlist engine.state until [] (omega arith);
        in_step = λ some more. refl;
        its = its;
        its_waits = refl;
        silent = always recorder.waits (out ≡ out) refl;
        meanwhile = none;
      }

  module _ {until : Bool} {Done : List (List Bool) → Type 0} {rows now : Rereading S shelf} {engine here : SeenEngine} {recorder written : SeenRecorder} {out out_now : SeenSink} (underway : IsUnderway until Done rows now engine here recorder written out out_now) where
    abbrev told : Told
    told = (seen_shelf rows).told rows.stimulus.now.name

    abbrev given : List (List Bool)
    given = underway.given

    -- the text of a whole run
    abbrev text_of : List (List Bool) → List ℕ
    text_of these = recorder.left (shown_by until engine these)

    -- what is told of the stimulus is what was told before
    told_then : (seen_shelf now).told now.stimulus.now.name ≡ told
    told_then = ap₂ (λ (s : SeenShelf) (name : List ℕ). s.told name) underway.shelf_is underway.gave.name

    -- what is left of the text of a run that goes on so
    left_then : (whole more : List (List Bool)) → whole ≡ given ++ more → IsLeft out (text_of whole) out_now (written.left (shown_by until here more))
    left_then whole more split = record { so_far = underway.text; seen = underway.wrote; whole = sym (underway.left more) ∙ ap text_of (sym split) }

    -- the rows that come next fit the engine
    pub columns_then : Feeds engine rows.stimulus.now → now.stimulus.now.width ≡ here.netlist.inputs
    columns_then feeds = underway.gave.width ∙ feeds.columns ∙ ap (λ (e : SeenEngine). e.netlist.inputs) (sym underway.stands)

    pub few_then : Feeds engine rows.stimulus.now → (count : ℕ) → count ≡ min 256 (clocks_left now.stimulus.now) → here.clock + count < 2 ^ 32
    few_then feeds count is =
        let clock : here.clock ≡ engine.clock + length given = ap (λ (e : SeenEngine). e.clock) underway.stands in
        omega (arith, clock, is, underway.gave.done, underway.gave.clocks, feeds.few, now.stimulus.now.some_left)

    -- the latch values that follow the last clock are those of the recorder
    pub its_latches : (state : List Bool) → state ≡ here.state → length here.state ≡ latch_count here.netlist.cells → length state ≡ written.latches
    its_latches state is latches = ap (λ (bits : List Bool). length bits) is ∙ latches ∙ sym underway.its.latches

    -- it stopped before the next batch was written
    stopped : (fault : RunFault) (after : Rereading S shelf) (engine_now : SeenEngine) (out_after : SeenSink) → SameShelf now after
        → (whole more : List (List Bool)) → whole ≡ given ++ more → MayBeRows told rows.stimulus.now whole → EndsStreaming rows.stimulus.now.name (text_of whole) (seen_shelf rows) out (seen_shelf after) out_after (Err fault)
        → (DoneAfter : List (List Bool) → Type 0) → ((count : ℕ) × DoneAfter (worked_by until engine (take count whole))) → OnTrue recorder.waits (StopsSilently out out_after (Err fault))
        → Records until DoneAfter rows after engine engine_now recorder out out_after (Err fault)
    stopped fault after engine_now out_after shelf_same whole more split are ends DoneAfter done quiet = record {
      streams = record {
        same = shelf_same ∙ underway.same_shelf;
        rows = whole;
        are = are;
        ends = ends;
        count = tt;
        meanwhile = (done.0, (done.1, tt));
      };
      silent = quiet;
    }

    -- rows weren't read
    pub unread : (fault : StimFault) (after : Rereading S shelf) (engine_now : SeenEngine) → SameShelf now after → (fault ≡ rows_faults.ReadFault → CountsFault now.stimulus.now.name (seen_shelf now) (seen_shelf after))
        → (fault ≢ rows_faults.ReadFault → seen_shelf after ≡ seen_shelf now) → ((text : List ℕ) → (seen_shelf now).told now.stimulus.now.name ≡ held text → is_text_fault fault ≡ false)
        → Records until Done rows after engine engine_now recorder out out_now (Err (run_fault_of_rows fault))
    unread fault after engine_now same counts kept sure =
        let begun = begin_with told rows.stimulus.now given rows.stands underway.front in
        let counted : fault ≡ rows_faults.ReadFault → CountsFault rows.stimulus.now.name (seen_shelf rows) (seen_shelf after) =
        λ is. subst (λ (s : SeenShelf). CountsFault rows.stimulus.now.name s (seen_shelf after)) underway.shelf_is (subst (λ (name : List ℕ). CountsFault name (seen_shelf now) (seen_shelf after)) underway.gave.name (counts is)) in
        stopped (run_fault_of_rows fault) after engine_now out_now same begun.whole begun.more begun.split begun.are
        (ends_unread rows.stimulus.now.name (text_of begun.whole) (seen_shelf rows) out (seen_shelf after) out_now fault
        (part_written out (text_of begun.whole) out_now (written.left (shown_by until here begun.more)) (left_then begun.whole begun.more begun.split))
        counted (λ is. kept is ∙ underway.shelf_is) (λ text is. sure text (told_then ∙ is)))
        Done (done_for_front until engine Done given begun.more begun.whole begun.split underway.whole underway.meanwhile)
        (stops_unread recorder.waits out out_now fault underway.silent)

    -- the next rows were read
    module _ {after : Rereading S shelf} {next : List (List Bool)} (read : HasNext now after next) where
      front_then : IsFrontOfRows told rows.stimulus.now (given ++ next)
      front_then = front_further told rows.stimulus.now given next 256 now.stimulus.now.done underway.front
          (subst (λ (n : ℕ). All (λ row. length row ≡ n) next) underway.gave.width read.wide) underway.gave.done
          (λ text all is said. read.are text all (told_then ∙ is) (ap (λ (n : ℕ). stimulus_rows n text) underway.gave.width ∙ said))

      abbrev begun : BeginWith told rows.stimulus.now (given ++ next)
      begun = begin_with told rows.stimulus.now (given ++ next) rows.stands front_then

      begun_split : begun.whole ≡ given ++ (next ++ begun.more)
      begun_split = begun.split ∙ append_assoc given next begun.more

      -- there was no memory for their clocks
      pub not_worked : (engine_now : SeenEngine) (DoneAfter : List (List Bool) → Type 0) → DoneAfter given → Records until DoneAfter rows after engine engine_now recorder out out_now (Err NoMemory)
      not_worked engine_now DoneAfter done =
          stopped NoMemory after engine_now out_now read.same begun.whole (next ++ begun.more) begun_split begun.are
          (read.kept ∙ underway.shelf_is, part_written out (text_of begun.whole) out_now (written.left (shown_by until here (next ++ begun.more))) (left_then begun.whole (next ++ begun.more) begun_split))
          DoneAfter (done_for_front until engine DoneAfter given (next ++ begun.more) begun.whole begun_split underway.whole done)
          (always recorder.waits (Unit {0}) tt)

      few_next : length next ≤ 256
      few_next = omega (arith, read.count)

      -- all of them are worked out
      whole_then : worked_by until engine (given ++ next) ≡ given ++ next
      whole_then = underway.in_step read.some next ∙ ap (λ (list : List (List Bool)). given ++ list) (one_batch here.netlist here.state until next few_next)

      -- they were worked out
      module _ (join : HistoriesJoin engine.netlist) {there : SeenEngine} {batch : Batch} (worked : HasWorked here there next batch) where
        stands_then : there ≡ engine_after engine (given ++ next)
        stands_then = ap_worked where
          state : List Bool
          state = state_after engine.netlist engine.state given

          ap_worked : there ≡ engine_after engine (given ++ next)
          ap_worked =
              let first : engine_after here next ≡ engine_after (engine_after engine given) next = ap (λ (e : SeenEngine). engine_after e next) underway.stands in
              let clocks : engine.clock + length given + length next ≡ engine.clock + length (given ++ next) = omega (arith, length-append given next) in
              let states : state_after engine.netlist state next ≡ state_after engine.netlist engine.state (given ++ next) = sym (ap (λ (history : History). history.last) (join engine.state given next)) in
              worked.stands ∙ first ∙ (λ i. record { netlist = engine.netlist; clock = clocks i; state = states i })

        -- a history that goes on behind these rows
        goes_on : (more : List (List Bool)) → written.left (shown_by until here (next ++ more)) ≡ written.left (shown_before until batch there.state (shown_by until there more))
        goes_on more =
            ap written.left (shown_next until here.netlist here.state next more batch worked.outputs worked.states)
            ∙ ap (λ (e : SeenEngine). written.left (shown_before until batch e.state (shown_by until e more))) (sym worked.stands)

        -- what is worked out behind them
        module _ (ends : Bool) (is : ends ≡ ends_in until batch.outputs) where
          ends_there : ends ≡ ends_in until (outputs_of here.netlist here.state next)
          ends_there = is ∙ ap (ends_in until) worked.outputs

          steps_on : (more : List (List Bool)) → worked_by until engine ((given ++ next) ++ more) ≡ given ++ worked_by until here (next ++ more)
          steps_on more = ap (worked_by until engine) (append_assoc given next more) ∙ underway.in_step read.some (next ++ more)

          full_then : ends ≡ false → length next ≡ 256 → (more : List (List Bool)) → worked_by until engine ((given ++ next) ++ more) ≡ (given ++ next) ++ worked_by until there more
          full_then none full more =
              steps_on more
              ∙ ap (λ (list : List (List Bool)). given ++ list) (full_batch here.netlist here.state next more until full (sym ends_there ∙ none) ∙ ap (λ (e : SeenEngine). next ++ worked_by until e more) (sym worked.stands))
              ∙ sym (append_assoc given next (worked_by until there more))

          last_then : ends ≡ true → (more : List (List Bool)) → (length next ≡ 256) ⊎ (more ≡ []) → worked_by until engine ((given ++ next) ++ more) ≡ given ++ next
          last_then all more whole =
              steps_on more ∙ ap (λ (list : List (List Bool)). given ++ list) (last_batch here.netlist here.state next more until few_next whole (sym ends_there ∙ all))

        -- not all of them were written down
        pub unwritten_lines : (why : Unwritten) (recorder_after : SeenRecorder) (out_after : SeenSink) (DoneAfter : List (List Bool) → Type 0) → WroteClocks until written recorder_after batch there.state out_now out_after (Err why) → DoneAfter (given ++ next)
            → Records until DoneAfter rows after engine there recorder out out_after (Err (run_fault_of why))
        unwritten_lines why recorder_after out_after DoneAfter wrote done =
            let rest = wrote.front (shown_by until there begun.more) in
            let left : IsLeft out (text_of begun.whole) out_now (wrote.text ++ rest.0) =
            subst (λ (r : List ℕ). IsLeft out (text_of begun.whole) out_now r) (goes_on begun.more ∙ rest.1) (left_then begun.whole (next ++ begun.more) begun_split) in
            stopped (run_fault_of why) after there out_after read.same begun.whole (next ++ begun.more) begun_split begun.are
            (ends_unwritten rows.stimulus.now.name (text_of begun.whole) (seen_shelf rows) out (seen_shelf after) out_after why (read.kept ∙ underway.shelf_is)
            (unwritten_in_piece out (text_of begun.whole) out_now out_after wrote.text rest.0 why left wrote.writes))
            DoneAfter (done_for_front until engine DoneAfter (given ++ next) begun.more begun.whole begun.split whole_then done)
            (stops_unwritten recorder.waits out out_after why)

        -- the text so far, and what is left of it
        text_then : (ends : Bool) (recorder_after : SeenRecorder) (text : List ℕ) → ((more : History) → written.left (shown_before until batch there.state more) ≡ text ++ left_by ends recorder_after more)
            → (more : List (List Bool)) → text_of ((given ++ next) ++ more) ≡ (underway.text ++ text) ++ left_by ends recorder_after (shown_by until there more)
        text_then ends recorder_after text lines more =
            ap text_of (append_assoc given next more) ∙ underway.left (next ++ more)
            ∙ ap (λ (rest : List ℕ). underway.text ++ rest) (goes_on more ∙ lines (shown_by until there more))
            ∙ sym (append_assoc underway.text text (left_by ends recorder_after (shown_by until there more)))

        gave_then : GaveMore (length (given ++ next)) rows.stimulus.now after.stimulus.now
        gave_then = record {
          name = read.gave.name ∙ underway.gave.name;
          width = read.gave.width ∙ underway.gave.width;
          clocks = read.gave.clocks ∙ underway.gave.clocks;
          done = omega (arith, length-append given next, underway.gave.done, read.gave.done);
        }

        -- one batch more
        pub further : (recorder_after : SeenRecorder) (out_after : SeenSink) (DoneAfter : List (List Bool) → Type 0) (ends : Bool) → ends ≡ false → WroteClocks until written recorder_after batch there.state out_now out_after (Ok ends) → DoneAfter (given ++ next)
            → IsUnderway until DoneAfter rows after engine there recorder recorder_after out out_after
        further recorder_after out_after DoneAfter ends none its done =
            let wrote : WroteClocks until written recorder_after batch there.state out_now out_after (Ok false) = subst (λ (b : Bool). WroteClocks until written recorder_after batch there.state out_now out_after (Ok b)) none its in
            let count : length batch.outputs ≡ length next = ap (λ (list : List (List Bool)). length list) worked.outputs ∙ length-outputs_of here.netlist here.state next in
            record {
              given = given ++ next;
              front = front_then;
              gave = gave_then;
              same_shelf = read.same ∙ underway.same_shelf;
              shelf_is = read.kept ∙ underway.shelf_is;
              stands = stands_then;
              text = underway.text ++ wrote.text;
              wrote = wrote.writes ∙ ap (λ (sink : SeenSink). appended sink wrote.text) underway.wrote ∙ appended-appended out underway.text wrote.text;
              left = text_then false recorder_after wrote.text wrote.rest;
              whole = whole_then;
              in_step = λ some. full_then false wrote.ends refl (omega (arith, some, read.count, read.some, read.gave.done, read.gave.clocks));
              its = its_then (wrote.stands refl) count;
              its_waits = (wrote.stands refl).waits ∙ underway.its_waits;
              silent = silent_further recorder.waits written.waits underway.its_waits out out_now out_after underway.silent (silent_open written.waits out_now out_after wrote.silent);
              meanwhile = done;
            } where
              its_then : IsBehind (length batch.outputs) written recorder_after → length batch.outputs ≡ length next → IsOf until there recorder_after
              its_then stands count =
                  let same : there.netlist ≡ here.netlist = ap (λ (e : SeenEngine). e.netlist) worked.stands in
                  let clock : there.clock ≡ here.clock + length next = ap (λ (e : SeenEngine). e.clock) worked.stands in
                  record {
                    outputs = stands.outputs ∙ underway.its.outputs ∙ ap (λ (flat : Flat). shown_count until (length flat.outputs)) (sym same);
                    latches = stands.latches ∙ underway.its.latches ∙ ap (λ (flat : Flat). latch_count flat.cells) (sym same);
                    clock = omega (arith, stands.clock, underway.its.clock, clock, count);
                  }

        -- the run has ended in these rows
        pub ended : (recorder_after : SeenRecorder) (out_after : SeenSink) (DoneAfter : List (List Bool) → Type 0) (ends : Bool) → ends ≡ true → WroteClocks until written recorder_after batch there.state out_now out_after (Ok ends) → DoneAfter (given ++ next)
            → Records until DoneAfter rows after engine there recorder out out_after (Ok tt)
        ended recorder_after out_after DoneAfter ends all its done =
            let wrote : WroteClocks until written recorder_after batch there.state out_now out_after (Ok true) = subst (λ (b : Bool). WroteClocks until written recorder_after batch there.state out_now out_after (Ok b)) all its in
            let some : length (given ++ next) ≤ clocks_left rows.stimulus.now =
            omega (arith, length-append given next, read.count, underway.gave.done, underway.gave.clocks, read.some) in
            let run = begin_all told rows.stimulus.now (given ++ next) rows.stands front_then some in
            let worked_all : worked_by until engine run.whole ≡ given ++ next =
            ap (worked_by until engine) run.split ∙ last_then true wrote.ends refl run.more (full_or_last run.more (sym (length-append (given ++ next) run.more) ∙ ap (λ (list : List (List Bool)). length list) (sym run.split) ∙ run.count)) in
            record {
              streams = record {
                same = read.same ∙ underway.same_shelf;
                rows = run.whole;
                are = run.are;
                ends = (
                  read.kept ∙ underway.shelf_is,
                  wrote.writes ∙ ap (λ (sink : SeenSink). appended sink wrote.text) underway.wrote ∙ appended-appended out underway.text wrote.text
                      ∙ ap (appended out) (sym (ap text_of run.split ∙ text_then true recorder_after wrote.text wrote.rest run.more ∙ append-nil (underway.text ++ wrote.text))),
                );
                count = run.count;
                meanwhile = (subst DoneAfter (sym worked_all) done, stands_then ∙ ap (engine_after engine) (sym worked_all));
              };
              silent = always recorder.waits (Unit {0}) tt;
            } where
              full_or_last : (more : List (List Bool)) → length (given ++ next) + length more ≡ clocks_left rows.stimulus.now → (length next ≡ 256) ⊎ (more ≡ [])
              full_or_last [] count = inr refl
              full_or_last (row ∷ more) count = inl (omega (arith, count, length-append given next, read.count, underway.gave.done, underway.gave.clocks, read.some))

    -- all rows were given
    module _ (all_done : clocks_left now.stimulus.now ≡ 0) (state : List Bool) (is : state ≡ here.state) (out_after : SeenSink) where
      their_count : length given ≡ clocks_left rows.stimulus.now
      their_count = omega (arith, all_done, underway.gave.done, underway.gave.clocks, now.stimulus.now.some_left)

      are_all : MayBeRows told rows.stimulus.now given
      are_all = record {
        same = λ text all is said.
            let stands = rows.stands text is in
            let its = same_rows told rows.stimulus.now.width text text stands.rows all is is stands.accepted said in
            let long : length (drop rows.stimulus.now.done all) ≡ clocks_left rows.stimulus.now =
            length-drop rows.stimulus.now.done all ∙ ap (λ (r : List (List Bool)). length r - rows.stimulus.now.done) (sym its) ∙ ap (λ (n : ℕ). n - rows.stimulus.now.done) stands.clocks in
            underway.front.same text all is said ∙ take_all (length given) (drop rows.stimulus.now.done all) (omega (arith, long, their_count));
        wide = λ none. underway.front.wide;
      }

      abbrev last : List ℕ
      last = written.left (no_more_clocks state)

      left_last : IsLeft out (text_of given) out_now last
      left_last = subst (λ (bits : List Bool). IsLeft out (text_of given) out_now (written.left (no_more_clocks bits))) (sym is)
          (subst (λ (history : History). IsLeft out (text_of given) out_now (written.left history)) (shown_none until here.netlist here.state) (left_then given [] (sym (append-nil given))))

      -- what follows the last clock wasn't written whole
      pub no_end : (why : Unwritten) → WritesOut last out_now out_after (Err why) → Records until Done rows now engine here recorder out out_after (Err (run_fault_of why))
      no_end why failed =
          stopped (run_fault_of why) now here out_after refl given [] (sym (append-nil given)) are_all
          (ends_unwritten rows.stimulus.now.name (text_of given) (seen_shelf rows) out (seen_shelf now) out_after why underway.shelf_is
          (unwritten_in_piece out (text_of given) out_now out_after last [] why
          (subst (λ (rest : List ℕ). IsLeft out (text_of given) out_now rest) (sym (append-nil last)) left_last) failed))
          Done (done_for_front until engine Done given [] given (sym (append-nil given)) underway.whole underway.meanwhile)
          (stops_unwritten recorder.waits out out_after why)

      -- all was written
      pub all_recorded : out_after ≡ appended out_now last → Records until Done rows now engine here recorder out out_after (Ok tt)
      all_recorded all = record {
        streams = record {
          same = underway.same_shelf;
          rows = given;
          are = are_all;
          ends = (underway.shelf_is, last_piece out (text_of given) out_now out_after last left_last all);
          count = their_count;
          meanwhile = (subst Done (sym underway.whole) underway.meanwhile, underway.stands ∙ ap (engine_after engine) (sym underway.whole));
        };
        silent = always recorder.waits (Unit {0}) tt;
      }
