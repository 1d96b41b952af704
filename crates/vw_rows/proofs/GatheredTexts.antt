-- A batch that is gathered from a text.
use Rattle.std.proofs.Common.{◌≡◌, ◌<◌, ◌≤◌, ◌+◌, ◌-◌, ℕ, Bool, List, [], ◌∷◌, ◌++◌, length, take, drop, Result, Ok, Err, refl, sym, ◌∙◌, ap, subst, arith, true, false, cond, nat_lt}
use Rattle.std.proofs.lemmas.List.{append_assoc, append-nil, length-append, take-append-drop, length-take-le, length-drop, drop-drop, drop_all, drop_at}
use Rattle.std.proofs.lemmas.Bool.{cond-true, lt-ltb, ltb-true}
use Rattle.vw_outside.specs.Told.{Told, held}
use Rattle.vw_outside.specs.Reads.{Fills}
use Rattle.vw_text.specs.Physical.{text_lines}
use Rattle.vw_rows.specs.declared.fault.StimFault.{StimFault}
use Rattle.vw_rows.specs.declared.batch.Batch.{Batch}
use Rattle.vw_rows.specs.Stimulus.{last_row, behind}
use Rattle.vw_rows.specs.Standing.{IsFoundIn}
use Rattle.vw_rows.specs.Steps.Batches.{all_rows, IsGathered, GathersFurther, GathersFront, FailsWith, IsAtLine, EndsTextOf, GathersOf}
use Rattle.vw_rows.proofs.ScannedLines.{rows_from}
use Rattle.vw_rows.proofs.GatheredBatches.{gathers_nothing, gathers_on, no_rows}

-- bytes from a place on were read
pub record IsReadOn (told : Told) (before : List Bool) (old new : Batch) : Type 0 where
  pub bytes : List ℕ
  pub gathers : GathersFurther before bytes old new
  pub read : new.read ≡ old.read + length bytes
  pub front : (text : List ℕ) → told ≡ held text → old.read ≤ length text → bytes ++ drop new.read text ≡ drop old.read text

pub nothing_on : (told : Told) (before : List Bool) (batch : Batch) → IsReadOn told before batch batch
nothing_on told before batch = record { bytes = []; gathers = gathers_nothing before batch; read = omega arith; front = λ text is inside. refl }

-- a piece stands at a place of a text
pub piece_there : (text buffer piece : List ℕ) (from count : ℕ) → Fills text from buffer count → piece ≡ take count buffer
    → (piece ++ drop (from + count) text ≡ drop from text) × (length piece ≡ count)
piece_there text buffer piece from count fills is =
    let there : piece ≡ take count (drop from text) = is ∙ fills.front in
    let size : length piece ≡ count = ap (λ (bs : List ℕ). length bs) there ∙ length-take-le count (drop from text) (omega (fills.within, length-drop from text, arith)) in (
      ap (λ (bs : List ℕ). bs ++ drop (from + count) text) there
          ∙ ap (λ (bs : List ℕ). take count (drop from text) ++ bs) (sym (drop-drop count from text ∙ ap (λ (n : ℕ). drop n text) (omega arith)))
          ∙ take-append-drop count (drop from text),
      size,
    )

-- what stands behind the front of a piece
behind_front : (text piece gone rest : List ℕ) (from count : ℕ) → piece ++ drop (from + count) text ≡ drop from text → piece ≡ gone ++ rest
    → gone ++ drop (from + length gone) text ≡ drop from text
behind_front text piece gone rest from count there cut =
    let whole : gone ++ (rest ++ drop (from + count) text) ≡ drop from text = sym (append_assoc gone rest (drop (from + count) text)) ∙ ap (λ (bs : List ℕ). bs ++ drop (from + count) text) (sym cut) ∙ there in
    let tail : drop (from + length gone) text ≡ rest ++ drop (from + count) text =
    ap (λ (n : ℕ). drop n text) (omega arith) ∙ sym (drop-drop (length gone) from text) ∙ ap (drop (length gone)) (sym whole) ∙ drop_at gone (rest ++ drop (from + count) text) (length gone) refl in
    ap (λ (bs : List ℕ). gone ++ bs) tail ∙ whole

-- a piece more
pub read_further : (told : Told) (before : List Bool) (old mid new : Batch) (buffer piece : List ℕ) (count : ℕ)
    → ((text : List ℕ) → told ≡ held text → Fills text mid.read buffer count) → piece ≡ take count buffer
    → IsReadOn told before old mid → GathersFront before piece mid new → IsReadOn told before old new
read_further told before old mid new buffer piece count fills is so_far front = record {
  bytes = so_far.bytes ++ front.gone;
  gathers = gathers_on before so_far.bytes front.gone (so_far.bytes ++ front.gone) old mid new refl so_far.gathers front.gathers;
  read = omega (so_far.read, front.read, length-append so_far.bytes front.gone, arith);
  front = λ text told_is inside.
      let there = piece_there text buffer piece mid.read count (fills text told_is) is in
      let here = behind_front text piece front.gone front.rest mid.read count there.0 front.cut in
      append_assoc so_far.bytes front.gone (drop new.read text) ∙ ap (λ (bs : List ℕ). so_far.bytes ++ bs) (ap (λ (n : ℕ). front.gone ++ drop n text) front.read ∙ here) ∙ so_far.front text told_is inside;
}

-- nothing is left of the text
none_left : (text buffer : List ℕ) (from count : ℕ) → Fills text from buffer count → 0 < length buffer → count ≡ 0 → drop from text ≡ []
none_left text buffer from count fills room none = drop_all from text (no_less from (length text) (λ more. omega (fills.progress room more, none, arith)))
  where
    no_less : (m n : ℕ) → (m < n → ⊥) → n ≤ m
    no_less m n not_less = omega (arith, not_less)

-- where bytes have rows and no fault in them, these are fewer than are wanted
few_found : (wanted number : ℕ) (bytes : List ℕ) (fault : StimFault) (said : Result (List (List Bool)) StimFault) (all : List (List Bool))
    → IsFoundIn wanted number bytes fault said → said ≡ Ok all → length all < wanted
few_found wanted number bytes fault (Err other) all found is = absurd (cc)
few_found wanted number bytes fault (Ok rows) all found is =
    let same : rows ≡ all = cc in
    omega (found.0, ap (λ (rs : List (List Bool)). length rs) same, arith)

-- the text has ended
pub finish_gathers : (told : Told) (before : List Bool) (old mid new : Batch) (buffer : List ℕ) (count : ℕ) (result : Result (Unit {0}) StimFault)
    → 0 < length buffer → count ≡ 0 → mid.wanted ≡ old.wanted → mid.read ≤ 1073741824
    → ((text : List ℕ) → told ≡ held text → Fills text mid.read buffer count) → IsReadOn told before old mid
    → EndsTextOf before mid new result → GathersOf told before old new result
finish_gathers told before old mid new buffer count (Ok u) room none wanted limit fills so_far ends = λ base start total g.
    let bytes = so_far.bytes in
    let r = ends base start old.read total bytes (so_far.gathers base start old.read total [] g (omega (so_far.read, limit, arith))) in (
      r.0,
      λ text told_is inside.
          let whole : bytes ≡ drop old.read text =
          sym (append-nil bytes) ∙ ap (λ (bs : List ℕ). bytes ++ bs) (sym (none_left text buffer mid.read count (fills text told_is) room none)) ∙ so_far.front text told_is inside in
          subst (λ (bs : List ℕ). IsAtLine before start old.read total bs new) whole r.1,
    )
finish_gathers told before old mid new buffer count (Err fault) room none wanted limit fills so_far ends = λ of_text base start total g.
    let bytes = so_far.bytes in
    let found = ends of_text base start old.read total bytes (so_far.gathers base start old.read total [] g (omega (so_far.read, limit, arith))) (omega (so_far.read, limit, arith)) in (
      (bytes, subst (λ (n : ℕ). IsFoundIn n start bytes fault (total bytes)) wanted found),
      λ text told_is inside all is.
          let whole : bytes ≡ drop old.read text =
          sym (append-nil bytes) ∙ ap (λ (bs : List ℕ). bytes ++ bs) (sym (none_left text buffer mid.read count (fills text told_is) room none)) ∙ so_far.front text told_is inside in
          omega (few_found mid.wanted start bytes fault (total bytes) all found (ap total whole ∙ is), wanted, arith),
    )

-- a piece is at fault
pub take_fails : (told : Told) (before : List Bool) (old mid : Batch) (buffer piece : List ℕ) (count : ℕ) (fault : StimFault)
    → mid.read + count ≤ 1073741824 → count ≤ length buffer
    → ((text : List ℕ) → told ≡ held text → Fills text mid.read buffer count) → piece ≡ take count buffer → IsReadOn told before old mid
    → FailsWith before piece mid fault
    → (base start : ℕ) (total : List ℕ → Result (List (List Bool)) StimFault) → IsGathered before base start old.read total [] old
    → ((bytes : List ℕ) × IsFoundIn old.wanted start bytes fault (total bytes))
    × ((text : List ℕ) → told ≡ held text → old.read ≤ length text → (all : List (List Bool)) → total (drop old.read text) ≡ Ok all → length all < old.wanted)
take_fails told before old mid buffer piece count fault limit within fills is so_far fails base start total g =
    let bytes = so_far.bytes in
    let gathered = so_far.gathers base start old.read total [] g (omega (so_far.read, limit, arith)) in
    let long : length piece ≡ count = ap (λ (bs : List ℕ). length bs) is ∙ length-take-le count buffer within in
    let failed = fails base start old.read total bytes gathered (omega (so_far.read, limit, long, arith)) in
    let read = bytes ++ (piece ++ []) in (
      (read, subst (λ (said : Result (List (List Bool)) StimFault). IsFoundIn old.wanted start read fault said) (sym (failed [])) refl),
      λ text told_is inside all given.
          let there = piece_there text buffer piece mid.read count (fills text told_is) is in
          let rest = drop (mid.read + count) text in
          let whole : bytes ++ (piece ++ rest) ≡ drop old.read text = ap (λ (bs : List ℕ). bytes ++ bs) there.0 ∙ so_far.front text told_is inside in
          absurd (no_rows total (drop old.read text) fault all (sym (ap total whole) ∙ failed rest) given),
    )

-- as many rows as are wanted
pub settled_gathers : (told : Told) (before : List Bool) (old mid : Batch) → IsReadOn told before old mid → mid.at ≡ mid.read
    → mid.read ≤ 1073741824 → GathersOf told before old mid (Ok tt)
settled_gathers told before old mid so_far settled limit base start total g =
    let bytes = so_far.bytes in
    let gathered = so_far.gathers base start old.read total [] g (omega (so_far.read, limit, arith)) in
    let so = gathered.so_far in
    let rows = all_rows before mid in
    let none : so.line ≡ [] = by so.line (omega (gathered.place, settled, arith)) in (
      record { clocks = so.clocks; first = gathered.first; wide = gathered.wide },
      λ text told_is inside.
          let rest = drop mid.read text in
          let whole = so_far.front text told_is inside in
          let tail : rest ≡ drop (length bytes) (drop old.read text) = sym (ap (drop (length bytes)) (sym whole) ∙ drop_at bytes rest (length bytes) refl) in
          record {
            lines = so.lines;
            at = length bytes;
            is = settled ∙ so_far.read;
            inside = omega (ap (λ (bs : List ℕ). length bs) whole, length-append bytes rest, arith);
            place =
                ap text_lines (sym whole) ∙ so.place rest ∙ ap (λ (line : List ℕ). so.lines ++ text_lines (line ++ rest)) none
                ∙ ap (λ (bs : List ℕ). so.lines ++ text_lines bs) tail;
            number = so.number;
            left =
                ap total (sym whole) ∙ so.left rest ∙ ap (λ (line : List ℕ). behind rows (rows_from mid.scan (last_row before rows) (line ++ rest))) none
                ∙ ap (λ (bs : List ℕ). behind rows (rows_from mid.scan (last_row before rows) bs)) tail;
          },
    )
  where
    by : (list : List ℕ) → length list ≡ 0 → list ≡ []
    by [] e = refl
    by (b ∷ bs) e = absurd (omega (e, arith))

-- how much is left to read
abbrev pub still_to_read : Batch → ℕ
still_to_read batch = cond (nat_lt (length batch.rows) batch.wanted) (1073741825 - batch.read) 0

pub less_to_read : (old new : Batch) → length old.rows < old.wanted → old.read ≤ 1073741824
    → (length new.rows < new.wanted → old.read < new.read) → still_to_read new < still_to_read old
less_to_read old new missing limit further = by (nat_lt (length new.rows) new.wanted) refl
  where
    was : still_to_read old ≡ 1073741825 - old.read
    was = cond-true _ _ _ (lt-ltb (length old.rows) old.wanted missing)

    by : (more : Bool) → nat_lt (length new.rows) new.wanted ≡ more → cond more (1073741825 - new.read) 0 < still_to_read old
    by true e = omega (was, further (ltb-true (length new.rows) new.wanted e), limit, arith)
    by false e = omega (was, limit, arith)

-- a piece of which all was read, where rows are missing still
pub piece_read : (before : List Bool) (piece : List ℕ) (old new : Batch) → 0 < length piece → GathersFront before piece old new
    → length new.rows < new.wanted → old.read < new.read
piece_read before piece old new some front missing =
    omega (some, front.read, ap (λ (bs : List ℕ). length bs) (front.cut ∙ ap (λ (bs : List ℕ). front.gone ++ bs) (front.whole missing) ∙ append-nil front.gone), arith)
