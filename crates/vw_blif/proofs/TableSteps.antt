-- Tables, row by row.
use Rattle.std.proofs.Common.{◌≡◌, ◌<◌, ◌≤◌, ◌-◌, ℕ, zero, suc, Bool, true, false, not, ◌||◌, List, [], ◌∷◌, ◌++◌, length, map, take, Option, Some, None, ltb, eqb, refl, sym, ◌∙◌, ap, ap₂, append_assoc, length-take, ne_eqb, eqb-true, All, true≢false, arith}
use Rattle.std.specs.Prelude.{codes, option_map}
use Rattle.std.specs.Str.{bytes_eq}
use Rattle.std.proofs.Math.Bool.{or-false}
use Rattle.std.proofs.lemmas.Bool.{and_parts, le-ltb}
use Rattle.std.proofs.lemmas.List.{map-append, length-map}
use Rattle.std.proofs.lemmas.List.Elements.{All-push}
use Rattle.std.proofs.lemmas.Slice.Eq.{bytes_eq-Decides}
use Rattle.vw_net.specs.declared.cover.Mark.{Mark}
use Rattle.vw_net.specs.declared.cover.Row.{Row}
use Rattle.vw_text.specs.declared.line.Line.{Line}
use Rattle.vw_blif.specs.declared.table.GrowingTable.{GrowingTable}
use Rattle.vw_blif.specs.Words.{front_words, last_word}
use Rattle.vw_design.specs.Paths.{Word}
use Rattle.vw_blif.specs.Kinds.{further}
use Rattle.vw_blif.specs.Spelled.{table}
use Rattle.vw_blif.specs.Rows.{mark_of_byte, is_value, value_word, is_row_of, row_marks, are_on_set}
use Rattle.vw_blif.specs.Before.{or_value}
use Rattle.vw_blif.specs.Faults.{differs_from}
use Rattle.vw_blif.specs.Steps.Blocks.{on_or}
use Rattle.vw_blif.specs.Steps.Tables.{BeginsTable, AddsRow, is_other_value}
use Rattle.vw_design.proofs.Names.{name_same}
use Rattle.vw_blif.proofs.LastWord.{front_words-take}

pub length-front_words : (words : List Word) → 0 < length words → length (front_words words) ≡ length words - 1
length-front_words words some =
    ap (λ (ws : List Word). length ws) (front_words-take words) ∙ (let e = length-take (length words - 1) words in let r : length (take (length words - 1) words) ≡ length words - 1 = omega arith in r)

pub some_words : (n : ℕ) → false ≡ eqb n 0 → 0 < n
some_words zero none = absurd (true≢false (sym none))
some_words (suc n) some = omega arith

pub begins : (line : Line) (t : GrowingTable) → t.line ≡ line.number → t.ins ≡ front_words (further line) → t.out ≡ last_word (further line) → t.on ≡ None → t.rows.items ≡ []
    → 0 < length (further line) → length (further line) ≤ 129 → BeginsTable line t
begins line t at ins out on rows some few = record {
  makes = λ more. rw (at, ins, out, on, rows) refl;
  stays = rw (on, ins) (ap (λ n. record { width = n; value = None }) (length-front_words (further line) some));
  some = ne_eqb (length (further line)) 0 (λ none. omega arith);
  few = le-ltb 129 (length (further line)) few;
}

-- the last word of a row is a value, and the value that it says
last_value : (width : ℕ) (words : List Word) → is_row_of width words ≡ true → is_value (last_word words) ≡ true
last_value width [] row = absurd (true≢false (sym row))
last_value width (value ∷ []) row = (and_parts (eqb width 0) (is_value value) row).1
last_value width (marks ∷ value ∷ []) row =
    (and_parts _ (is_value value) ((and_parts (eqb (length marks) width) _ ((and_parts (ltb 0 width) _ row).1)).1)).1
last_value width (marks ∷ value ∷ more ∷ words) row = absurd (true≢false (sym row))

-- a row has a mark for each input of its table
pub length-row_marks : (width : ℕ) (words : List Word) → is_row_of width words ≡ true → length (row_marks words) ≡ width
length-row_marks width [] row = absurd (true≢false (sym row))
length-row_marks width (value ∷ []) row = sym (eqb-true width 0 ((and_parts (eqb width 0) (is_value value) row).0))
length-row_marks width (marks ∷ value ∷ []) row =
    length-map marks mark_of_byte ∙ eqb-true (length marks) width ((and_parts (eqb (length marks) width) _ ((and_parts (ltb 0 width) _ row).1)).0)
length-row_marks width (marks ∷ value ∷ more ∷ words) row = absurd (true≢false (sym row))

-- and so do all rows of a table with that row more
pub even_rows : (width : ℕ) (old new : List Row) (row : Row) → new ≡ old ++ row ∷ [] → All (λ (r : Row). length r.marks ≡ width) old → length row.marks ≡ width
    → All (λ (r : Row). length r.marks ≡ width) new
even_rows width old new row more each is = rw more (All-push (λ (r : Row). length r.marks ≡ width) old row each is)

value_is : (word : Word) → is_value word ≡ true → value_word (bytes_eq word (codes "1")) ≡ word
value_is word is = by_test (bytes_eq word (codes "1")) refl
  where
    by_test : (t : Bool) → bytes_eq word (codes "1") ≡ t → value_word t ≡ word
    by_test true one = sym ((bytes_eq-Decides word (codes "1")).0 one)
    by_test false other = sym ((bytes_eq-Decides word (codes "0")).0 (sym (or-false (bytes_eq word (codes "0"))) ∙ ap (λ b. bytes_eq word (codes "0") || b) (sym other) ∙ is))

same_value : (first one : Bool) → is_other_value (Some first) one ≡ false → first ≡ one
same_value true true same = refl
same_value true false same = absurd (true≢false same)
same_value false true same = absurd (true≢false same)
same_value false false same = refl

module _ (line : Line) (one : Bool) (width : ℕ) (ends : one ≡ bytes_eq (last_word line.words) (codes "1")) (row_is : is_row_of width line.words ≡ true) where
  word_is : value_word one ≡ last_word line.words
  word_is = ap value_word ends ∙ value_is (last_word line.words) (last_value width line.words row_is)

  on_is : (on : Option Bool) (rows : List Line) → is_other_value on one ≡ false → one ≡ on_or on (are_on_set (line ∷ rows))
  on_is None rows same = ends
  on_is (Some first) rows same = sym (same_value first one same)

  value_told : (on : Option Bool) → is_other_value on one ≡ false → value_word one ≡ or_value (option_map value_word on) (last_word line.words)
  value_told None same = word_is
  value_told (Some first) same = ap value_word (sym (same_value first one same))

  same_told : (on : Option Bool) → is_other_value on one ≡ false → differs_from (option_map value_word on) (last_word line.words) ≡ false
  same_told None same = refl
  same_told (Some first) same = ap not (ap₂ bytes_eq (ap value_word (same_value first one same) ∙ word_is) refl ∙ name_same (last_word line.words))

pub adds_row : (line : Line) (old new : GrowingTable) (row : Row) (one : Bool) → new.line ≡ old.line → new.ins ≡ old.ins → new.out ≡ old.out → new.on ≡ Some one
    → new.rows.items ≡ old.rows.items ++ row ∷ [] → row.marks ≡ row_marks line.words → one ≡ bytes_eq (last_word line.words) (codes "1")
    → is_row_of (length old.ins) line.words ≡ true → is_other_value old.on one ≡ false → AddsRow old line new
adds_row line old new row one at ins out on rows marks ends row_is same = record {
  makes = λ more.
      let value : one ≡ on_or old.on (are_on_set (line ∷ more)) = on_is line one (length old.ins) ends row_is old.on more same in
      let lists : map (λ (r : Row). r.marks) (old.rows.items ++ row ∷ []) ++ map (λ (l : Line). row_marks l.words) more ≡ map (λ (r : Row). r.marks) old.rows.items ++ map (λ (l : Line). row_marks l.words) (line ∷ more) =
      ap (λ (ms : List (List Mark)). ms ++ map (λ (l : Line). row_marks l.words) more) (map-append (λ (r : Row). r.marks) old.rows.items (row ∷ []))
      ∙ append_assoc (map (λ (r : Row). r.marks) old.rows.items) (row.marks ∷ []) (map (λ (l : Line). row_marks l.words) more)
      ∙ ap (λ (m : List Mark). map (λ (r : Row). r.marks) old.rows.items ++ m ∷ map (λ (l : Line). row_marks l.words) more) marks in
      rw (at, ins, out, on, rows) (ap₂ (λ (v : Bool) (ms : List (List Mark)). table old.line old.ins old.out v ms) value lists);
  stays = rw (ins, on) (ap (λ (w : Word). record { width = length old.ins; value = Some w }) (value_told line one (length old.ins) ends row_is old.on same));
  fits = row_is;
  same = same_told line one (length old.ins) ends row_is old.on same;
}
