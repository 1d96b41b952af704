-- A batch that was written down, in a run with a trigger or without one.
use Rattle.std.proofs.Common.{◌≡◌, ◌∙◌, ◌++◌, ℕ, Bool, true, false, true≢false, List, [], length, map, Ok, Err, refl, sym, ap, ap₂, subst, arith, append-nil, if◌then◌else◌}
use Rattle.std.specs.Bool.{OnTrue}
use Rattle.vw_net.specs.History.{History}
use Rattle.vw_outside.specs.declared.unwritten.Unwritten.{Unwritten}
use Rattle.vw_outside.specs.declared.unwritten.Unwritten.TheVariants.{NoMemory}
use Rattle.vw_outside.specs.Writes.{SeenSink, WritesOut}
use Rattle.vw_outside.proofs.PiecesWritten.{appended-nil}
use Rattle.vw_trace.specs.declared.engine.Batch.{Batch}
use Rattle.vw_trace.specs.Batches.{WroteClocks, shown_before, shown_front}
use Rattle.vw_trace.specs.Recorded.{clocks_before}
use Rattle.vw_trace.specs.Recorders.{IsBehind, SeenRecorder, Wrote}
use Rattle.vw_trace.specs.Triggers.{but_last, fires}
use Rattle.vw_trace.proofs.Silence.{always}

-- what is silent on success
silent_so : (waits : Bool) (P : Type 0) → OnTrue waits P → OnTrue waits (false ≡ false → P)
silent_so true P so = λ same. so
silent_so false P so = tt

-- what is shown of a batch in which the trigger isn't 1
shown_going : (batch shown : Batch) (last : List Bool) → fires batch.outputs ≡ false → shown.outputs ≡ map but_last batch.outputs → shown.states ≡ batch.states → (more : History)
    → shown_before true batch last more ≡ clocks_before shown.outputs shown.states more
shown_going batch shown last going outputs states more =
    ap (λ (b : Bool). if b then shown_front batch last else clocks_before (map but_last batch.outputs) batch.states more) going
    ∙ sym (ap₂ (λ (os ss : List (List Bool)). clocks_before os ss more) outputs states)

-- and of one in which it is
left_ending : (before : SeenRecorder) (batch : Batch) (last : List Bool) → fires batch.outputs ≡ true → (more : History) → before.left (shown_before true batch last more) ≡ before.left (shown_front batch last) ++ []
left_ending before batch last ends more =
    ap (λ (b : Bool). before.left (if b then shown_front batch last else clocks_before (map but_last batch.outputs) batch.states more)) ends
    ∙ sym (append-nil (before.left (shown_front batch last)))

module _ {before after : SeenRecorder} {batch : Batch} {last : List Bool} {out out_after : SeenSink} where
  -- without a trigger
  pub wrote_plain : Wrote before after batch out out_after (Ok tt) → WroteClocks false before after batch last out out_after (Ok false)
  wrote_plain wrote = record {
    text = wrote.text;
    writes = wrote.writes;
    front = wrote.front;
    rest = wrote.rest;
    ends = refl;
    stands = λ going. wrote.stands;
    silent = silent_so before.waits (out_after ≡ out) wrote.silent;
  }

  pub wrote_plain_part : {why : Unwritten} → Wrote before after batch out out_after (Err why) → WroteClocks false before after batch last out out_after (Err why)
  wrote_plain_part wrote = record {
    text = wrote.text;
    writes = wrote.writes;
    front = wrote.front;
    rest = tt;
    ends = tt;
    stands = tt;
    silent = always before.waits (Unit {0}) tt;
  }

  -- with one that isn't 1 in them
  module _ (going : fires batch.outputs ≡ false) (shown : Batch) (outputs : shown.outputs ≡ map but_last batch.outputs) (states : shown.states ≡ batch.states) where
    pub wrote_open_part : {why : Unwritten} → Wrote before after shown out out_after (Err why) → WroteClocks true before after batch last out out_after (Err why)
    wrote_open_part wrote = record {
      text = wrote.text;
      writes = wrote.writes;
      front = λ more. ((wrote.front more).0, ap before.left (shown_going batch shown last going outputs states more) ∙ (wrote.front more).1);
      rest = tt;
      ends = tt;
      stands = tt;
      silent = always before.waits (Unit {0}) tt;
    }

    pub wrote_open : length shown.outputs ≡ length batch.outputs → Wrote before after shown out out_after (Ok tt) → WroteClocks true before after batch last out out_after (Ok false)
    wrote_open count wrote = record {
      text = wrote.text;
      writes = wrote.writes;
      front = λ more. ((wrote.front more).0, ap before.left (shown_going batch shown last going outputs states more) ∙ (wrote.front more).1);
      rest = λ more. ap before.left (shown_going batch shown last going outputs states more) ∙ wrote.rest more;
      ends = sym going;
      stands = λ same. subst (λ (n : ℕ). IsBehind n before after) count wrote.stands;
      silent = silent_so before.waits (out_after ≡ out) wrote.silent;
    }

  -- with one that is 1 in one of them
  module _ (ends : fires batch.outputs ≡ true) where
    pub wrote_end_part : {why : Unwritten} → WritesOut (before.left (shown_front batch last)) out out_after (Err why) → WroteClocks true before after batch last out out_after (Err why)
    wrote_end_part writes = record {
      text = before.left (shown_front batch last);
      writes = writes;
      front = λ more. ([], left_ending before batch last ends more);
      rest = tt;
      ends = tt;
      stands = tt;
      silent = always before.waits (Unit {0}) tt;
    }

    pub wrote_end : WritesOut (before.left (shown_front batch last)) out out_after (Ok tt) → WroteClocks true before after batch last out out_after (Ok true)
    wrote_end writes = record {
      text = before.left (shown_front batch last);
      writes = writes;
      front = λ more. ([], left_ending before batch last ends more);
      rest = left_ending before batch last ends;
      ends = sym ends;
      stands = λ going. absurd (true≢false going);
      silent = by before.waits;
    } where
      by : (waits : Bool) → OnTrue waits (true ≡ false → out_after ≡ out)
      by true = λ going. absurd (true≢false going)
      by false = tt

-- there was no memory
pub no_clocks : {before : SeenRecorder} {batch : Batch} {last : List Bool} {out : SeenSink} (until : Bool) → WroteClocks until before before batch last out out (Err NoMemory)
no_clocks {before = before} {batch = batch} {last = last} {out = out} until = record {
  text = [];
  writes = (0, omega arith, sym (appended-nil out));
  front = λ more. (before.left (shown_before until batch last more), refl);
  rest = tt;
  ends = tt;
  stands = tt;
  silent = always before.waits (Unit {0}) tt;
}
