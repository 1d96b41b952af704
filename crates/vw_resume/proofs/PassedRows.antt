-- Rows that are passed over before a text is written over the others.
use Rattle.std.proofs.Common.{◌≡◌, ◌≢◌, ◌≤◌, ◌+◌, ◌-◌, ◌∙◌, ℕ, Bool, false, List, ◌++◌, length, drop, replicate, Result, Ok, Err, refl, sym, ap, ap₂, subst, length-append, arith}
use Rattle.std.specs.Prelude.{OnOk}
use Rattle.std.specs.List.{All}
use Rattle.std.proofs.lemmas.List.{drop_at, drop-drop, length-drop, length-replicate}
use Rattle.std.proofs.lemmas.List.Elements.{All-append, All-replicate}
use Rattle.vw_outside.specs.declared.shelf.Shelf as shelves
use Rattle.vw_outside.specs.Told.{Told, untold, absent, held, IsTextOf}
use Rattle.vw_outside.specs.Reads.{SeenShelf, CountsFault}
use Rattle.vw_outside.specs.Writes.{SeenSink}
use Rattle.vw_outside.proofs.PiecesWritten.{appended-nil}
use Rattle.vw_rows.specs.declared.fault.StimFault.{StimFault}
use Rattle.vw_rows.specs.declared.fault.StimFault.TheVariants as rows_faults
use Rattle.vw_rows.specs.declared.rereading.Rereading.{Rereading}
use Rattle.vw_rows.specs.declared.stimulus.Stimulus.{Stimulus}
use Rattle.vw_rows.specs.Rereadings.{SameShelf, seen_shelf}
use Rattle.vw_rows.specs.Stimulus.{stimulus_rows, is_text_fault}
use Rattle.vw_rows.specs.Standing.{GaveMore, StandsWhereHeld}
use Rattle.vw_trace.specs.declared.fault.RunFault.{RunFault}
use Rattle.vw_trace.specs.RunFaults.{run_fault_of_rows}
use Rattle.vw_trace.specs.Streamed.{IsNotHeld, MayBeRows, EndsStreaming, DoneFor, Streams, clocks_left}
use Rattle.vw_trace.proofs.Streaming.{ends_unread}
use Rattle.vw_trace.proofs.StreamedTexts.{some_rows}

-- a text that is told is one
same_text : (told : Told) (text other : List ℕ) → told ≡ held text → told ≡ held other → text ≡ other
same_text told text other is its = subst (λ (t : Told). IsTextOf t text) its (subst (λ (t : Told). IsTextOf t text) (sym is) refl)

same_rows : (told : Told) (width : ℕ) (text other : List ℕ) (all others : List (List Bool)) → told ≡ held text → told ≡ held other → stimulus_rows width text ≡ Ok all → stimulus_rows width other ≡ Ok others → all ≡ others
same_rows told width text other all others is its said so =
    let same : Ok all ≡ Ok others = sym said ∙ ap (stimulus_rows width) (same_text told text other is its) ∙ so in cc

abbrev IsHeldText : Told → Type 0
IsHeldText untold = ⊥
IsHeldText absent = ⊥
IsHeldText (held text) = Unit {0}

-- all rows that a stimulus still gave, where these are those behind so many of them
record IsWhole (told : Told) (before : Stimulus) (count : ℕ) (rows : List (List Bool)) : Type 0 where
  whole : List (List Bool)
  behind : drop count whole ≡ rows
  are : MayBeRows told before whole
  counted : length rows ≡ before.clocks - (before.done + count) → length whole ≡ clocks_left before

is_whole : (told : Told) (before after : Stimulus) (count : ℕ) (rows : List (List Bool)) → StandsWhereHeld before told → GaveMore count before after → before.done + count ≤ before.clocks
    → MayBeRows told after rows → IsWhole told before count rows
is_whole told before after count rows stands gave few are = by told refl where
  alone : IsNotHeld told → IsWhole told before count rows
  alone none =
      let front : List (List Bool) = replicate count (replicate before.width false) in
      let long : length front ≡ count = length-replicate count (replicate before.width false) in
      record {
        whole = front ++ rows;
        behind = drop_at front rows count long;
        are = record {
          same = λ text all is said. absurd (none text is);
          wide = λ so. All-append (λ row. length row ≡ before.width) front rows (All-replicate (λ row. length row ≡ before.width) count (replicate before.width false) (length-replicate before.width false))
              (subst (λ (n : ℕ). All (λ row. length row ≡ n) rows) gave.width (are.wide so));
        };
        counted = λ is. omega (arith, is, few, long, length-append front rows);
      }

  by : (one : Told) → told ≡ one → IsWhole told before count rows
  by untold is = alone (λ text its. subst (λ (t : Told). IsHeldText t) (sym its ∙ is) tt)
  by absent is = alone (λ text its. subst (λ (t : Told). IsHeldText t) (sym its ∙ is) tt)
  by (held text) is =
      let its = stands text is in
      let said : stimulus_rows after.width text ≡ Ok its.rows = ap (λ (n : ℕ). stimulus_rows n text) gave.width ∙ its.accepted in
      record {
        whole = drop before.done its.rows;
        behind = drop-drop count before.done its.rows ∙ ap (λ (n : ℕ). drop n its.rows) (sym gave.done) ∙ sym (are.same text its.rows is said);
        are = record {
          same = λ other others held said. ap (drop before.done) (same_rows told before.width text other its.rows others is held its.accepted said);
          wide = λ none. absurd (none text is);
        };
        counted = λ so. length-drop before.done its.rows ∙ ap (λ (n : ℕ). n - before.done) its.clocks;
      }

module _ {S : Type 0} {shelf : shelves.Ghosts S} (Text : List (List Bool) → List ℕ) (before between after : Rereading S shelf) (out out_after : SeenSink) where
  -- rows that were to be passed over weren't read
  pub not_passed : (fault : StimFault) → SameShelf before after → (fault ≡ rows_faults.ReadFault → CountsFault before.stimulus.now.name (seen_shelf before) (seen_shelf after))
      → (fault ≢ rows_faults.ReadFault → seen_shelf after ≡ seen_shelf before) → ((text : List ℕ) → (seen_shelf before).told before.stimulus.now.name ≡ held text → is_text_fault fault ≡ false)
      → Streams Text (λ these. Unit {0}) before after out out (Err (run_fault_of_rows fault))
  not_passed fault same counts kept sure =
      let some = some_rows before in
      record {
        same = same;
        rows = some.whole;
        are = some.are;
        ends = ends_unread before.stimulus.now.name (Text some.whole) (seen_shelf before) out (seen_shelf after) out fault (0, omega arith, sym (appended-nil out)) counts kept sure;
        count = tt;
        meanwhile = (0, tt);
      }

  -- what was written behind the rows that were passed over is a text of all
  pub behind_passed : (count : ℕ) (answer : Result (Unit {0}) RunFault) → count ≤ clocks_left before.stimulus.now → SameShelf before between → seen_shelf between ≡ seen_shelf before
      → GaveMore count before.stimulus.now between.stimulus.now → Streams Text (λ these. Unit {0}) between after out out_after answer
      → Streams (λ these. Text (drop count these)) (λ these. Unit {0}) before after out out_after answer
  behind_passed count answer few same kept gave streams =
      let old = before.stimulus.now in
      let new = between.stimulus.now in
      let told : (seen_shelf between).told new.name ≡ (seen_shelf before).told old.name = ap₂ (λ (s : SeenShelf) (name : List ℕ). s.told name) kept gave.name in
      let all = is_whole ((seen_shelf before).told old.name) old new count streams.rows before.stands gave (omega (arith, few, old.some_left))
      (subst (λ (t : Told). MayBeRows t new streams.rows) told streams.are) in
      let left : clocks_left new ≡ old.clocks - (old.done + count) = ap₂ (λ (n m : ℕ). n - m) gave.clocks gave.done in
      record {
        same = streams.same ∙ same;
        rows = all.whole;
        are = all.are;
        ends = subst (λ (rows : List (List Bool)). EndsStreaming old.name (Text rows) (seen_shelf before) out (seen_shelf after) out_after answer) (sym all.behind)
            (subst (λ (s : SeenShelf). EndsStreaming old.name (Text streams.rows) s out (seen_shelf after) out_after answer) kept
            (subst (λ (name : List ℕ). EndsStreaming name (Text streams.rows) (seen_shelf between) out (seen_shelf after) out_after answer) gave.name streams.ends));
        count = counted answer streams.count (λ is. all.counted (is ∙ left));
        meanwhile = done all.whole answer;
      } where
        counted : {P Q : Type 0} (its : Result (Unit {0}) RunFault) → OnOk its P → (P → Q) → OnOk its Q
        counted (Ok one) is so = so is
        counted (Err fault) is so = tt

        done : (rows : List (List Bool)) (its : Result (Unit {0}) RunFault) → DoneFor (λ these. Unit {0}) rows its
        done rows (Ok one) = tt
        done rows (Err fault) = (0, tt)

-- ---- on the way

-- of so many rows that are to be passed over, all but the last so many were
pub record IsPassing {S : Type 0} {shelf : shelves.Ghosts S} (count left : ℕ) (rows now : Rereading S shelf) : Type 0 where
  pub few : left ≤ count
  pub same : SameShelf rows now
  pub kept : seen_shelf now ≡ seen_shelf rows
  pub gave : GaveMore (count - left) rows.stimulus.now now.stimulus.now

-- what is told of the stimulus is what was told before
pub told_now : {S : Type 0} {shelf : shelves.Ghosts S} {count left : ℕ} {rows now : Rereading S shelf} → IsPassing count left rows now
    → (seen_shelf now).told now.stimulus.now.name ≡ (seen_shelf rows).told rows.stimulus.now.name
told_now passing = ap₂ (λ (s : SeenShelf) (name : List ℕ). s.told name) passing.kept passing.gave.name
