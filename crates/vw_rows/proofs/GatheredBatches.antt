-- Batches that are gathered line by line.
use Rattle.std.proofs.Common.{◌≡◌, ◌≢◌, ◌<◌, ◌≤◌, ◌+◌, ◌^◌, ℕ, suc, Bool, List, [], ◌∷◌, ◌++◌, length, replicate, take, drop, Result, Ok, Err, refl, sym, ◌∙◌, ap, subst, arith}
use Rattle.std.specs.List.{All}
use Rattle.std.proofs.lemmas.List.{append_assoc, append-nil, length-append, take-append-drop, length-take-le, drop_all}
use Rattle.std.proofs.lemmas.List.Elements.{All-append, All-cons, All-nil, All-replicate}
use Rattle.vw_rows.specs.declared.fault.StimFault.{StimFault}
use Rattle.vw_rows.specs.declared.line_so_far.LineSoFar.{LineSoFar}
use Rattle.vw_rows.specs.declared.scan.Adds.{Adds}
use Rattle.vw_rows.specs.declared.scan.Adds.TheVariants.{Nothing, Row, Copies}
use Rattle.vw_rows.specs.declared.batch.Batch.{Batch}
use Rattle.vw_rows.specs.declared.fault.StimFault.TheVariants.{BadLine}
use Rattle.vw_rows.specs.Standing.{IsFoundIn}
use Rattle.vw_rows.specs.Stimulus.{last_row, line_words, rows_added, within_run, behind, rows_of_lines}
use Rattle.vw_rows.specs.Steps.Lines.{IsLine, EndsBy, TakesAll}
use Rattle.vw_rows.specs.Steps.Scans.{rows_by, FitsWidth, AddsToRun, IsReadSoFar}
use Rattle.vw_rows.specs.Steps.Batches.{all_rows, IsGathered, GathersFurther, FailsWith, EndsCounted, HasItsRows, IsAtLine}
use Rattle.vw_text.specs.Physical.{text_lines}
use Rattle.vw_text.proofs.FirstLine.{line_alone}
use Rattle.vw_rows.proofs.ScannedLines.{rows_from, length-rows_by, last_line, last_line_at_fault}
use Rattle.vw_rows.proofs.CountedRows.{with_line, further_in, front_taken, begins_next, ends_at_fault}

-- the batch with another line, read up to another place
abbrev pub with_read : Batch → LineSoFar → ℕ → Batch
with_read batch line read = record { scan = with_line batch.scan line; at = batch.at; read = read; rows = batch.rows; wanted = batch.wanted; owed = batch.owed }

pub line_goes_on : (before : List Bool) (piece : List ℕ) (count : ℕ) (old : Batch) (line : LineSoFar)
    → TakesAll piece count old.scan.line line → GathersFurther before piece old (with_read old line (old.read + count))
line_goes_on before piece count old line all base start origin total read g small =
    let r = further_in piece before base start total read (all_rows before old) old.scan line all.goes g.so_far in
    record {
      so_far = r.0;
      place = omega (r.1, g.place, all.long, arith);
      size = omega (g.size, all.long, length-append read piece, arith);
      first = g.first;
      wide = g.wide;
    }

-- the row that is kept is the one that the line spells
same_rows : (adds : Adds) (width kept : ℕ) (row bits last : List Bool) → FitsWidth width adds row → kept ≡ width
    → (length row ≤ kept → bits ≡ row) → rows_by adds bits last ≡ rows_by adds row last
same_rows Nothing width kept row bits last fits same is = refl
same_rows Row width kept row bits last fits same is = ap (λ (r : List Bool). r ∷ []) (is (omega (fits, same, arith)))
same_rows (Copies times) width kept row bits last fits same is = refl

-- they have the width
wide_rows : (adds : Adds) (width : ℕ) (row last : List Bool) → FitsWidth width adds row → length last ≡ width
    → All (λ row. length row ≡ width) (rows_by adds row last)
wide_rows Nothing width row last fits wide = All-nil (λ row. length row ≡ width)
wide_rows Row width row last fits wide = All-cons (λ row. length row ≡ width) row [] fits (All-nil (λ row. length row ≡ width))
wide_rows (Copies times) width row last fits wide = All-replicate (λ row. length row ≡ width) times last wide

last_wide : (width : ℕ) (row : List Bool) (rows : List (List Bool)) → length row ≡ width → All (λ row. length row ≡ width) rows
    → length (last_row row rows) ≡ width
last_wide width row [] wide all = wide
last_wide width row (next ∷ rows) wide all = last_wide width next rows (all 0 next (omega arith)) (λ k d inside. all (suc k) d (omega (inside, arith)))

pub line_ends : (before : List Bool) (piece : List ℕ) (count : ℕ) (old new : Batch) (line : LineSoFar)
    → EndsBy piece count old.scan.line line → line.kept ≡ old.scan.width
    → EndsCounted before (with_read old line (old.read + count)) new → GathersFurther before (take count piece) old new
line_ends before piece count old new line ends kept counted base start origin total read g small =
    let so = g.so_far in
    let front = ends.front in
    let rows = all_rows before old in
    let last = last_row before rows in
    let is = ends.goes.line so.line so.is in
    let added = counted.counted (so.line ++ front) is in
    let next = begins_next front before base start total read rows old.scan line counted.adds new.scan so is added counted.fresh counted.width counted.number counted.clocks in
    let taken = front_taken piece front count ends.cut ends.long in
    let same : rows ++ rows_by counted.adds added.row last ≡ all_rows before new =
    sym (counted.all ∙ ap (λ (more : List (List Bool)). rows ++ more) (same_rows counted.adds old.scan.width line.kept added.row line.bits.items last added.fits kept added.bits)) in
    let there : (so' : IsReadSoFar before base start total (read ++ take count piece) new.scan (all_rows before new)) × (length so'.line ≡ 0) =
    subst (λ (bs : List ℕ). (so' : IsReadSoFar before base start total (read ++ bs) new.scan (all_rows before new)) × (length so'.line ≡ 0)) (sym taken)
    (subst (λ (all : List (List Bool)). (so' : IsReadSoFar before base start total (read ++ (front ++ 10 ∷ [])) new.scan all) × (length so'.line ≡ 0)) same next) in
    let width : new.scan.width ≡ old.scan.width = counted.width in
    record {
      so_far = there.0;
      place = omega (there.1, counted.at, counted.read, arith);
      size = omega (g.size, counted.read, length-append read (take count piece), ap (λ (bs : List ℕ). length bs) taken, length-append front (10 ∷ []), ends.long, arith);
      first = g.first ∙ sym width;
      wide = subst (λ (n : ℕ). All (λ row. length row ≡ n) (all_rows before new)) (sym width)
          (subst (λ (all : List (List Bool)). All (λ row. length row ≡ old.scan.width) all) same
          (All-append (λ row. length row ≡ old.scan.width) rows (rows_by counted.adds added.row last) g.wide (wide_rows counted.adds old.scan.width added.row last added.fits (last_wide old.scan.width before rows g.first g.wide))));
    }

pub line_fails : (before : List Bool) (piece : List ℕ) (count : ℕ) (old : Batch) (line : LineSoFar) (fault : StimFault) → EndsBy piece count old.scan.line line
    → ((whole : List ℕ) → IsLine whole line → length whole < 2 ^ 63 → (last : List Bool) → within_run old.scan.clocks (rows_added old.scan.width old.scan.number last (line_words whole)) ≡ Err fault)
    → FailsWith before piece old fault
line_fails before piece count old line fault ends at_fault base start origin total read g small rest =
    ends_at_fault piece count old.scan line fault ends at_fault before base start total read (all_rows before old) g.so_far small rest

-- ---- several lines of a piece

pub gathers_nothing : (before : List Bool) (batch : Batch) → GathersFurther before [] batch batch
gathers_nothing before batch base start origin total read g small = subst (λ (bs : List ℕ). IsGathered before base start origin total bs batch) (sym (append-nil read)) g

pub gathers_on : (before : List Bool) (one two both : List ℕ) (old mid new : Batch) → both ≡ one ++ two → GathersFurther before one old mid
    → GathersFurther before two mid new → GathersFurther before both old new
gathers_on before one two both old mid new whole first second base start origin total read g small =
    let long : length both ≡ length one + length two = ap (λ (bs : List ℕ). length bs) whole ∙ length-append one two in
    subst (λ (bs : List ℕ). IsGathered before base start origin total bs new) (append_assoc read one two ∙ ap (λ (bs : List ℕ). read ++ bs) (sym whole))
    (second base start origin total (read ++ one) (first base start origin total read g (omega (long, small, arith))) (omega (long, small, length-append read one, arith)))

-- a part of a piece was read, and this is left
pub record IsBatchPart (before : List Bool) (piece rest : List ℕ) (old new : Batch) : Type 0 where
  pub gone : List ℕ
  pub cut : piece ≡ gone ++ rest
  pub gathers : GathersFurther before gone old new
  pub read : new.read ≡ old.read + length gone

pub part_at_start : (before : List Bool) (piece : List ℕ) (batch : Batch) → IsBatchPart before piece piece batch batch
part_at_start before piece batch = record { gone = []; cut = refl; gathers = gathers_nothing before batch; read = omega arith }

pub part_further : (before : List Bool) (piece rest after : List ℕ) (count : ℕ) (old mid new : Batch) → count ≤ length rest
    → after ≡ drop count rest → new.read ≡ mid.read + count → IsBatchPart before piece rest old mid
    → GathersFurther before (take count rest) mid new
    → IsBatchPart before piece after old new
part_further before piece rest after count old mid new within is read part gathers = record {
  gone = part.gone ++ take count rest;
  cut = part.cut ∙ ap (λ (bs : List ℕ). part.gone ++ bs) (sym (take-append-drop count rest) ∙ ap (λ (bs : List ℕ). take count rest ++ bs) (sym is)) ∙ sym (append_assoc part.gone (take count rest) after);
  gathers = gathers_on before part.gone (take count rest) (part.gone ++ take count rest) old mid new refl part.gathers gathers;
  read = omega (read, part.read, length-append part.gone (take count rest), length-take-le count rest within, arith);
}

pub part_fails : (before : List Bool) (piece rest : List ℕ) (old mid : Batch) (fault : StimFault) → IsBatchPart before piece rest old mid
    → FailsWith before rest mid fault → FailsWith before piece old fault
part_fails before piece rest old mid fault part fails base start origin total read g small more =
    let long : length piece ≡ length part.gone + length rest = ap (λ (bs : List ℕ). length bs) part.cut ∙ length-append part.gone rest in
    let same : (read ++ part.gone) ++ (rest ++ more) ≡ read ++ (piece ++ more) =
    append_assoc read part.gone (rest ++ more) ∙ ap (λ (bs : List ℕ). read ++ bs) (sym (append_assoc part.gone rest more) ∙ ap (λ (bs : List ℕ). bs ++ more) (sym part.cut)) in
    sym (ap total same)
    ∙ fails base start origin total (read ++ part.gone) (part.gathers base start origin total read g (omega (long, small, arith))) (omega (long, small, length-append read part.gone, arith)) more

-- ---- the end of the text

-- what a line that has ended adds
pub record AddsRowsBy (before : List Bool) (base : ℕ) (old new : Batch) (by : List (List Bool)) : Type 0 where
  pub all : all_rows before new ≡ all_rows before old ++ by
  pub has : HasItsRows before base new

ended_rows : (before : List Bool) (base start origin : ℕ) (total : List ℕ → Result (List (List Bool)) StimFault) (read line : List ℕ) (old new : Batch)
    → IsGathered before base start origin total read old → old.scan.line.kept ≡ old.scan.width
    → (counted : EndsCounted before old new) → IsLine line old.scan.line → (added : AddsToRun old.scan counted.adds line)
    → AddsRowsBy before base old new (rows_by counted.adds added.row (last_row before (all_rows before old)))
ended_rows before base start origin total read line old new g kept counted is added =
    let rows = all_rows before old in
    let last = last_row before rows in
    let by = rows_by counted.adds added.row last in
    let same : all_rows before new ≡ rows ++ by =
    counted.all ∙ ap (λ (more : List (List Bool)). rows ++ more) (same_rows counted.adds old.scan.width old.scan.line.kept added.row old.scan.line.bits.items last added.fits kept added.bits) in
    let long : length (all_rows before new) ≡ length rows + length by = ap (λ (rs : List (List Bool)). length rs) same ∙ length-append rows by in
    record {
      all = same;
      has = record {
        clocks = omega (counted.clocks, g.so_far.clocks, long, length-rows_by counted.adds added.row last, arith);
        first = g.first ∙ sym counted.width;
        wide = subst (λ (n : ℕ). All (λ row. length row ≡ n) (all_rows before new)) (sym counted.width)
            (subst (λ (all : List (List Bool)). All (λ row. length row ≡ old.scan.width) all) (sym same)
            (All-append (λ row. length row ≡ old.scan.width) rows by g.wide (wide_rows counted.adds old.scan.width added.row last added.fits (last_wide old.scan.width before rows g.first g.wide))));
      };
    }

-- all rows of the text
pub text_ended : (before : List Bool) (base start origin : ℕ) (total : List ℕ → Result (List (List Bool)) StimFault) (read : List ℕ) (old new : Batch)
    → IsGathered before base start origin total read old → old.scan.line.kept ≡ old.scan.width → old.scan.clocks ≤ 4294967295
    → EndsCounted before old new → (total read ≡ Ok (all_rows before new)) × HasItsRows before base new
text_ended before base start origin total read old new g kept few counted =
    let so = g.so_far in
    let rows = all_rows before old in
    let last = last_row before rows in
    let added = counted.counted so.line so.is in
    let by = rows_by counted.adds added.row last in
    let ended = ended_rows before base start origin total read so.line old new g kept counted so.is added in (
      ap total (sym (append-nil read)) ∙ so.left [] ∙ ap (λ (text : List ℕ). behind rows (rows_from old.scan last text)) (append-nil so.line)
          ∙ ap (behind rows) (last_line old.scan last so.line by so.is.unended few (added.added last)) ∙ ap Ok (sym ended.all),
      ended.has,
    )

-- the batch stands at the end of the text
pub at_end : (before : List Bool) (base start origin : ℕ) (total : List ℕ → Result (List (List Bool)) StimFault) (read : List ℕ) (old new : Batch)
    → IsGathered before base start origin total read old → old.at ≢ old.read
    → EndsCounted before old new → total read ≡ Ok (all_rows before new) → IsAtLine before start origin total read new
at_end before base start origin total read old new g apart counted whole =
    let so = g.so_far in
    let some : 0 < length so.line = omega (g.place, apart, arith) in
    let gone : drop (length read) read ≡ [] = drop_all (length read) read (omega arith) in
    record {
      lines = so.lines ++ so.line ∷ [];
      at = length read;
      is = omega (counted.at, g.size, arith);
      inside = omega arith;
      place =
          ap text_lines (sym (append-nil read)) ∙ so.place [] ∙ ap (λ (text : List ℕ). so.lines ++ text_lines text) (append-nil so.line)
          ∙ ap (λ (ls : List (List ℕ)). so.lines ++ ls) (line_alone so.line some so.is.unended)
          ∙ sym (append-nil (so.lines ++ so.line ∷ [])) ∙ ap (λ (text : List ℕ). (so.lines ++ so.line ∷ []) ++ text_lines text) (sym gone);
      number = omega (counted.number, so.number, length-append so.lines (so.line ∷ []), arith);
      left =
          whole ∙ ap Ok (sym (append-nil (all_rows before new)))
          ∙ ap (λ (text : List ℕ). behind (all_rows before new) (rows_of_lines new.scan.width new.scan.number new.scan.clocks (last_row before (all_rows before new)) (text_lines text))) (sym gone);
    }

-- where no copy is owed, all rows are those of the batch
pub rows_alone : (before : List Bool) (batch : Batch) → batch.owed ≡ 0 → all_rows before batch ≡ batch.rows
rows_alone before batch none = ap (λ (n : ℕ). batch.rows ++ replicate n (last_row before batch.rows)) none ∙ append-nil batch.rows

-- a text that ends where a line would begin
pub ends_before_line : (before : List Bool) (base start origin : ℕ) (total : List ℕ → Result (List (List Bool)) StimFault) (read : List ℕ) (old : Batch)
    → IsGathered before base start origin total read old → old.at ≡ old.read → total read ≡ Ok (all_rows before old)
ends_before_line before base start origin total read old g same =
    let so = g.so_far in
    let rows = all_rows before old in
    let none : so.line ≡ [] = by so.line (omega (g.place, same, arith)) in
    ap total (sym (append-nil read)) ∙ so.left []
    ∙ ap (λ (text : List ℕ). behind rows (rows_from old.scan (last_row before rows) text)) (append-nil so.line ∙ none) ∙ ap Ok (append-nil rows)
  where
    by : (list : List ℕ) → length list ≡ 0 → list ≡ []
    by [] e = refl
    by (b ∷ bs) e = absurd (omega (e, arith))

ok_same : (one two : List (List Bool)) → ◌≡◌ {A = Result (List (List Bool)) StimFault} (Ok one) (Ok two) → one ≡ two
ok_same one two e = cc

pub too_few : (total : List ℕ → Result (List (List Bool)) StimFault) (read : List ℕ) (before : List Bool) (batch : Batch) (all : List (List Bool)) (wanted : ℕ)
    → total read ≡ Ok (all_rows before batch) → total read ≡ Ok all → batch.owed ≡ 0 → length batch.rows < wanted → length all < wanted
too_few total read before batch all wanted is given none few =
    let same : all ≡ batch.rows = ok_same all (all_rows before batch) (sym given ∙ is) ∙ rows_alone before batch none in
    omega (ap (λ (rs : List (List Bool)). length rs) same, few, arith)

-- where copies aren't owed, and rows are missing, the line behind the last is bad
pub none_behind : (before : List Bool) (batch : Batch) (total : List ℕ → Result (List (List Bool)) StimFault) (read : List ℕ) (wanted start : ℕ)
    → total read ≡ Ok (all_rows before batch) → batch.owed ≡ 0 → length batch.rows < wanted
    → batch.scan.number ≡ start + length (text_lines read)
    → IsFoundIn wanted start read (BadLine batch.scan.number) (total read)
none_behind before batch total read wanted start is none few number =
    subst (λ (said : Result (List (List Bool)) StimFault). IsFoundIn wanted start read (BadLine batch.scan.number) said) (sym is)
    (omega (ap (λ (rs : List (List Bool)). length rs) (rows_alone before batch none), few, arith), ap BadLine number)

-- the number of the line behind the last, which nothing ends
pub number_ended : (before : List Bool) (base start origin : ℕ) (total : List ℕ → Result (List (List Bool)) StimFault) (read : List ℕ) (old new : Batch)
    → IsGathered before base start origin total read old → old.at ≢ old.read
    → EndsCounted before old new → new.scan.number ≡ start + length (text_lines read)
number_ended before base start origin total read old new g apart counted =
    let so = g.so_far in
    let some : 0 < length so.line = omega (g.place, apart, arith) in
    let lines : text_lines read ≡ so.lines ++ so.line ∷ [] =
    ap text_lines (sym (append-nil read)) ∙ so.place [] ∙ ap (λ (text : List ℕ). so.lines ++ text_lines text) (append-nil so.line)
    ∙ ap (λ (ls : List (List ℕ)). so.lines ++ ls) (line_alone so.line some so.is.unended) in
    omega (counted.number, so.number, ap (λ (ls : List (List ℕ)). length ls) lines, length-append so.lines (so.line ∷ []), arith)

-- the number of the line that would begin where the text ends
pub number_before_line : (before : List Bool) (base start origin : ℕ) (total : List ℕ → Result (List (List Bool)) StimFault) (read : List ℕ) (old : Batch)
    → IsGathered before base start origin total read old → old.at ≡ old.read → old.scan.number ≡ start + length (text_lines read)
number_before_line before base start origin total read old g same =
    let so = g.so_far in
    let none : so.line ≡ [] = by so.line (omega (g.place, same, arith)) in
    let lines : text_lines read ≡ so.lines ++ [] =
    ap text_lines (sym (append-nil read)) ∙ so.place [] ∙ ap (λ (text : List ℕ). so.lines ++ text_lines text) (append-nil so.line ∙ none) in
    omega (so.number, ap (λ (ls : List (List ℕ)). length ls) (lines ∙ append-nil so.lines), arith)
  where
    by : (list : List ℕ) → length list ≡ 0 → list ≡ []
    by [] e = refl
    by (b ∷ bs) e = absurd (omega (e, arith))

-- the last line is at fault
pub end_at_fault : (before : List Bool) (base start origin : ℕ) (total : List ℕ → Result (List (List Bool)) StimFault) (read : List ℕ) (old : Batch) (fault : StimFault)
    → IsGathered before base start origin total read old → old.scan.clocks ≤ 4294967295
    → length read < 2 ^ 62
    → ((line : List ℕ) → IsLine line old.scan.line → length line < 2 ^ 63 → (last : List Bool) → within_run old.scan.clocks (rows_added old.scan.width old.scan.number last (line_words line)) ≡ Err fault)
    → total read ≡ Err fault
end_at_fault before base start origin total read old fault g few small ends =
    let so = g.so_far in
    let rows = all_rows before old in
    let last = last_row before rows in
    ap total (sym (append-nil read)) ∙ so.left [] ∙ ap (λ (text : List ℕ). behind rows (rows_from old.scan last text)) (append-nil so.line)
    ∙ ap (behind rows) (last_line_at_fault old.scan last so.line fault so.is.unended few (ends so.line so.is (omega (so.short, small, arith)) last))

pub no_rows : (total : List ℕ → Result (List (List Bool)) StimFault) (read : List ℕ) (fault : StimFault) (all : List (List Bool))
    → total read ≡ Err fault → total read ≡ Ok all → ⊥
no_rows total read fault all one two = (let e : ◌≡◌ {A = Result (List (List Bool)) StimFault} (Err fault) (Ok all) = sym one ∙ two in cc)
