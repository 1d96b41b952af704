-- The next rows of a stimulus that stands in a text.
use Rattle.std.proofs.Common.{◌≡◌, ◌≤◌, ◌+◌, ◌-◌, min, ℕ, suc, Bool, false, true, List, [], ◌∷◌, ◌++◌, length, replicate, take, drop, Result, Ok, Err, refl, sym, ◌∙◌, ap, ap₂, subst, arith, nat_lt}
use Rattle.std.specs.List.{All}
use Rattle.std.proofs.lemmas.Bool.{cond-true, ltb-false}
use Rattle.std.proofs.lemmas.List.{append_assoc, length-append, length-replicate, length-drop, drop-drop, drop_at, take_at, take_min, get_or_append_left}
use Rattle.std.proofs.lemmas.List.Elements.{All-replicate}
use Rattle.vw_outside.specs.Told.{Told, held}
use Rattle.vw_text.specs.Physical.{text_lines}
use Rattle.vw_rows.specs.declared.fault.StimFault.{StimFault}
use Rattle.vw_rows.specs.declared.fault.StimFault.TheVariants.{TooLarge}
use Rattle.vw_rows.specs.declared.scan.Scan.{Scan}
use Rattle.vw_rows.specs.declared.batch.Batch.{Batch}
use Rattle.vw_rows.specs.declared.stimulus.Stimulus.{Stimulus}
use Rattle.vw_rows.specs.Stimulus.{last_row, behind, rows_of_lines, stimulus_rows, is_text_fault}
use Rattle.vw_rows.specs.Standing.{StandsIn, rows_left, HasNoNext, IsFoundIn}
use Rattle.vw_rows.specs.Steps.Lines.{IsLine}
use Rattle.vw_rows.specs.Steps.Batches.{all_rows, GivesCopies, HasFitNumbers, IsGathered, HasItsRows, IsAtLine, GathersOf}
use Rattle.vw_rows.specs.Steps.NextRows.{IsNext}
use Rattle.vw_rows.proofs.LastRows.{last_row-same, last_row-copies, behind-behind}

-- a text that is accepted isn't too large
pub accepted_short : (width : ℕ) (text : List ℕ) (rows : List (List Bool)) → stimulus_rows width text ≡ Ok rows → length text ≤ 1073741824
accepted_short width text rows is = by (nat_lt 1073741824 (length text)) refl
  where
    by : (large : Bool) → nat_lt 1073741824 (length text) ≡ large → length text ≤ 1073741824
    by true e = absurd (let wrong : ◌≡◌ {A = Result (List (List Bool)) StimFault} (Err TooLarge) (Ok rows) = sym (cond-true _ _ _ e) ∙ is in cc)
    by false e = ltb-false 1073741824 (length text) e

-- a batch of which nothing was gathered, but for copies that are owed
pub gathered_at_start : (stimulus : Stimulus) (old new : Batch) → IsLine [] old.scan.line → old.scan.width ≡ stimulus.width
    → old.scan.number ≡ stimulus.line → old.scan.clocks ≡ stimulus.done + stimulus.owed → old.at ≡ stimulus.at → old.read ≡ stimulus.at
    → old.rows ≡ [] → old.owed ≡ stimulus.owed → length stimulus.before ≡ stimulus.width → GivesCopies stimulus.before old new
    → IsGathered stimulus.before stimulus.done stimulus.line stimulus.at (rows_left stimulus) [] new
gathered_at_start stimulus old new fresh width number clocks at read none owed wide gives =
    let before = stimulus.before in
    let copies = replicate stimulus.owed before in
    let all : all_rows before new ≡ copies =
    gives.all ∙ ap (λ (rows : List (List Bool)). rows ++ replicate old.owed (last_row before rows)) none ∙ ap (λ (n : ℕ). replicate n before) owed in
    let scan = gives.places.scan in
    let last : last_row before (all_rows before new) ≡ before = ap (last_row before) all ∙ last_row-same stimulus.owed before in
    let new_width : new.scan.width ≡ stimulus.width = ap (λ (s : Scan). s.width) scan ∙ width in
    let new_number : new.scan.number ≡ stimulus.line = ap (λ (s : Scan). s.number) scan ∙ number in
    let new_clocks : new.scan.clocks ≡ stimulus.done + stimulus.owed = ap (λ (s : Scan). s.clocks) scan ∙ clocks in
    record {
      so_far = record {
        line = [];
        is = subst (λ (s : Scan). IsLine [] s.line) (sym scan) fresh;
        short = omega arith;
        clocks = omega (new_clocks, ap (λ (rows : List (List Bool)). length rows) all, length-replicate stimulus.owed before, arith);
        lines = [];
        place = λ rest. refl;
        number = omega (new_number, arith);
        left = λ rest.
            sym (ap₂ (λ (rows : List (List Bool)) (row : List Bool). behind rows (rows_of_lines new.scan.width new.scan.number new.scan.clocks row (text_lines rest))) all last
            ∙ ap (λ (n : ℕ). behind copies (rows_of_lines n new.scan.number new.scan.clocks before (text_lines rest))) new_width
            ∙ ap₂ (λ (n m : ℕ). behind copies (rows_of_lines stimulus.width n m before (text_lines rest))) new_number new_clocks);
      };
      place = omega (gives.places.at, at, gives.places.read, read, arith);
      size = omega (gives.places.read, read, arith);
      first = wide ∙ sym new_width;
      wide = subst (λ (rows : List (List Bool)). All (λ row. length row ≡ new.scan.width) rows) (sym all) (All-replicate (λ row. length row ≡ new.scan.width) stimulus.owed before (wide ∙ sym new_width));
    }

-- how many rows are left
pub count_left : (stimulus : Stimulus) (text : List ℕ) → (stands : StandsIn stimulus text)
    → length (drop stimulus.done stands.rows) ≡ stimulus.clocks - stimulus.done
count_left stimulus text stands = length-drop stimulus.done stands.rows ∙ ap (λ (n : ℕ). n - stimulus.done) stands.clocks

-- rows that are the front of others
front_of : (rows all : List (List Bool)) (said : Result (List (List Bool)) StimFault) → behind rows said ≡ Ok all
    → (rows ≡ take (length rows) all) × (said ≡ Ok (drop (length rows) all))
front_of rows all (Ok more) is =
    let whole : rows ++ more ≡ all = (let e : ◌≡◌ {A = Result (List (List Bool)) StimFault} (Ok (rows ++ more)) (Ok all) = is in cc) in
    (sym (ap (take (length rows)) (sym whole) ∙ take_at rows more (length rows) refl), ap Ok (sym (ap (drop (length rows)) (sym whole) ∙ drop_at rows more (length rows) refl)))
front_of rows all (Err fault) is = absurd (let e : ◌≡◌ {A = Result (List (List Bool)) StimFault} (Err fault) (Ok all) = is in cc)

-- what stands behind the rows of a batch
rows_behind : (stimulus : Stimulus) (text : List ℕ) (batch : Batch) → (stands : StandsIn stimulus text)
    → (at : IsAtLine stimulus.before stimulus.line stimulus.at (rows_left stimulus) (drop stimulus.at text) batch) → (last : List Bool)
    → last ≡ last_row stimulus.before batch.rows
    → behind batch.rows (behind (replicate batch.owed last) (rows_of_lines batch.scan.width batch.scan.number batch.scan.clocks last (text_lines (drop at.at (drop stimulus.at text))))) ≡ Ok (drop stimulus.done stands.rows)
rows_behind stimulus text batch stands at last is =
    let before = stimulus.before in
    let rows = batch.rows in
    let copies = last_row-copies before rows batch.owed in
    behind-behind rows (replicate batch.owed last) (rows_of_lines batch.scan.width batch.scan.number batch.scan.clocks last (text_lines (drop at.at (drop stimulus.at text))))
    ∙ ap (λ (row : List Bool). behind (rows ++ replicate batch.owed row) (rows_of_lines batch.scan.width batch.scan.number batch.scan.clocks row (text_lines (drop at.at (drop stimulus.at text))))) is
    ∙ ap (λ (row : List Bool). behind (all_rows before batch) (rows_of_lines batch.scan.width batch.scan.number batch.scan.clocks row (text_lines (drop at.at (drop stimulus.at text))))) (sym copies)
    ∙ sym at.left ∙ stands.left

-- the rows of a batch are the next ones
pub rows_next : (told : Told) (stimulus : Stimulus) (text : List ℕ) (all : List (List Bool)) (batch : Batch) (wanted most : ℕ)
    → told ≡ held text → StandsIn stimulus text → stimulus_rows stimulus.width text ≡ Ok all
    → wanted ≡ min most (stimulus.clocks - stimulus.done) → IsNext told wanted stimulus batch
    → batch.rows ≡ take most (drop stimulus.done all)
rows_next told stimulus text all batch wanted most told_is stands given count next =
    let at = next.stands text told_is in
    let rest = drop stimulus.done stands.rows in
    let same : stands.rows ≡ all = (let e : ◌≡◌ {A = Result (List (List Bool)) StimFault} (Ok stands.rows) (Ok all) = sym stands.accepted ∙ given in cc) in
    let front = front_of batch.rows rest _ (rows_behind stimulus text batch stands at (last_row stimulus.before batch.rows) refl) in
    let long : length batch.rows ≡ min most (length rest) = next.full ∙ count ∙ ap (λ (n : ℕ). min most n) (sym (count_left stimulus text stands)) in
    front.0 ∙ ap (λ (n : ℕ). take n rest) long ∙ take_min most rest ∙ ap (λ (rows : List (List Bool)). take most (drop stimulus.done rows)) same

-- the stimulus behind a batch
pub stands_behind : (told : Told) (stimulus new : Stimulus) (text : List ℕ) (batch : Batch) (wanted : ℕ) → told ≡ held text
    → StandsIn stimulus text → IsNext told wanted stimulus batch → batch.scan.width ≡ stimulus.width
    → new.width ≡ stimulus.width → new.clocks ≡ stimulus.clocks → new.done ≡ stimulus.done + wanted → new.at ≡ batch.at
    → new.line ≡ batch.scan.number → new.before ≡ last_row stimulus.before batch.rows → new.owed ≡ batch.owed → StandsIn new text
stands_behind told stimulus new text batch wanted told_is stands next wide width clocks done at line before owed =
    let there = next.stands text told_is in
    let rows = batch.rows in
    let place : drop new.at text ≡ drop there.at (drop stimulus.at text) = ap (λ (n : ℕ). drop n text) (omega (at, there.is, arith)) ∙ sym (drop-drop there.at stimulus.at text) in
    let front = front_of rows (drop stimulus.done stands.rows) _ (rows_behind stimulus text batch stands there new.before before) in
    let sum : new.done + new.owed ≡ batch.scan.clocks =
    omega (done, owed, next.has.clocks, next.full, length-append rows (replicate batch.owed (last_row stimulus.before rows)), length-replicate batch.owed (last_row stimulus.before rows), arith) in
    let gone : drop (length rows) (drop stimulus.done stands.rows) ≡ drop new.done stands.rows = drop-drop (length rows) stimulus.done stands.rows ∙ ap (λ (n : ℕ). drop n stands.rows) (omega (done, next.full, arith)) in
    record {
      rows = stands.rows;
      accepted = ap (λ (n : ℕ). stimulus_rows n text) width ∙ stands.accepted;
      clocks = stands.clocks ∙ sym clocks;
      lines = stands.lines ++ there.lines;
      place =
          stands.place ∙ ap (λ (ls : List (List ℕ)). stands.lines ++ ls) there.place ∙ sym (append_assoc stands.lines there.lines (text_lines (drop there.at (drop stimulus.at text))))
          ∙ ap (λ (bs : List ℕ). (stands.lines ++ there.lines) ++ text_lines bs) (sym place);
      inside = omega (at, there.is, there.inside, length-drop stimulus.at text, stands.inside, arith);
      number = omega (line, there.number, stands.number, length-append stands.lines there.lines, arith);
      left =
          ap (λ (n : ℕ). behind (replicate n new.before) (rows_of_lines new.width new.line (new.done + new.owed) new.before (text_lines (drop new.at text)))) owed
          ∙ ap (λ (n : ℕ). behind (replicate batch.owed new.before) (rows_of_lines n new.line (new.done + new.owed) new.before (text_lines (drop new.at text)))) (width ∙ sym wide)
          ∙ ap₂ (λ (n m : ℕ). behind (replicate batch.owed new.before) (rows_of_lines batch.scan.width n m new.before (text_lines (drop new.at text)))) line sum
          ∙ ap (λ (bs : List ℕ). behind (replicate batch.owed new.before) (rows_of_lines batch.scan.width batch.scan.number batch.scan.clocks new.before (text_lines bs))) place
          ∙ front.1 ∙ ap Ok gone;
      first = λ none.
          let empty : rows ≡ [] = by rows (omega (none, done, next.full, arith)) in
          before ∙ ap (last_row stimulus.before) empty ∙ stands.first (omega (none, done, arith)) ∙ ap (λ (n : ℕ). replicate n false) (sym width);
    }
  where
    by : (list : List (List Bool)) → length list ≡ 0 → list ≡ []
    by [] e = refl
    by (b ∷ bs) e = absurd (omega (e, arith))

-- what was gathered from the place of a stimulus on is next
pub gathered_next : (told : Told) (stimulus : Stimulus) (wanted : ℕ) (mid new : Batch)
    → IsGathered stimulus.before stimulus.done stimulus.line stimulus.at (rows_left stimulus) [] mid → mid.read ≡ stimulus.at
    → GathersOf told stimulus.before mid new (Ok tt)
    → HasFitNumbers new → length new.rows ≡ wanted → ((text : List ℕ) → told ≡ held text → StandsIn stimulus text) → IsNext told wanted stimulus new
gathered_next told stimulus wanted mid new gathered read gathers fit full stands =
    let r = gathers stimulus.done stimulus.line (rows_left stimulus) (subst (λ (n : ℕ). IsGathered stimulus.before stimulus.done stimulus.line n (rows_left stimulus) [] mid) (sym read) gathered) in
    record {
      fit = fit;
      full = full;
      has = r.0;
      stands = λ text told_is. subst (λ (n : ℕ). IsAtLine stimulus.before stimulus.line n (rows_left stimulus) (drop n text) new) read
          (r.1 text told_is (omega (read, (stands text told_is).inside, arith)));
    }

-- a fault lies in bytes that were read, and a text that is told has none
pub never_fails : (told : Told) (stimulus : Stimulus) (wanted : ℕ) (mid new : Batch) (fault : StimFault)
    → IsGathered stimulus.before stimulus.done stimulus.line stimulus.at (rows_left stimulus) [] mid → mid.read ≡ stimulus.at
    → mid.wanted ≡ wanted
    → GathersOf told stimulus.before mid new (Err fault) → stimulus.done + wanted ≤ stimulus.clocks
    → ((text : List ℕ) → told ≡ held text → StandsIn stimulus text) → is_text_fault fault ≡ true
    → HasNoNext wanted stimulus fault × ((text : List ℕ) → told ≡ held text → ⊥)
never_fails told stimulus wanted mid new fault gathered read same gathers few stands of_text =
    let origin = subst (λ (n : ℕ). IsGathered stimulus.before stimulus.done stimulus.line n (rows_left stimulus) [] mid) (sym read) gathered in
    let fails = gathers of_text stimulus.done stimulus.line (rows_left stimulus) origin in
    let bytes = fails.0.0 in (
      (bytes, subst (λ (n : ℕ). IsFoundIn n stimulus.line bytes fault (rows_left stimulus bytes)) same fails.0.1),
      λ text told_is.
          let there = stands text told_is in
          let left : rows_left stimulus (drop mid.read text) ≡ Ok (drop stimulus.done there.rows) = ap (λ (n : ℕ). rows_left stimulus (drop n text)) read ∙ there.left in
          let missing = fails.1 text told_is (omega (read, there.inside, arith)) (drop stimulus.done there.rows) left in
          omega (missing, same, few, count_left stimulus text there, arith),
    )

-- the rows have the width
pub rows_wide : (stimulus : Stimulus) (batch : Batch) → HasItsRows stimulus.before stimulus.done batch → batch.scan.width ≡ stimulus.width
    → All (λ row. length row ≡ stimulus.width) batch.rows
rows_wide stimulus batch has width = λ k d inside.
    let rows = batch.rows in
    let copies = replicate batch.owed (last_row stimulus.before rows) in
    let there = has.wide k d (omega (inside, length-append rows copies, arith)) in
    sym (ap (λ (row : List Bool). length row) (get_or_append_left rows copies d k inside)) ∙ there ∙ width

last_of : (width : ℕ) (row : List Bool) (rows : List (List Bool)) → length row ≡ width → All (λ row. length row ≡ width) rows
    → length (last_row row rows) ≡ width
last_of width row [] wide all = wide
last_of width row (next ∷ rows) wide all = last_of width next rows (all 0 next (omega arith)) (λ k d inside. all (suc k) d (omega (inside, arith)))

pub last_wide : (stimulus : Stimulus) (batch : Batch) → HasItsRows stimulus.before stimulus.done batch → batch.scan.width ≡ stimulus.width
    → length (last_row stimulus.before batch.rows) ≡ stimulus.width
last_wide stimulus batch has width = last_of stimulus.width stimulus.before batch.rows (has.first ∙ width) (rows_wide stimulus batch has width)
