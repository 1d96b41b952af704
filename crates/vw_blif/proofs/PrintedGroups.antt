-- A printed design is cut into its models, and a printed model into its ports and items.
use Rattle.std.proofs.Common.{◌≡◌, ℕ, ◌+◌, Bool, true, false, not, ◌||◌, cond, List, [], ◌∷◌, ◌++◌, length, map, take, drop, Option, Some, None, eqb, refl, sym, ◌∙◌, ap, ap₂, true≢false, arith}
use Rattle.std.specs.Prelude.{codes}
use Rattle.std.specs.Str.{bytes_eq}
use Rattle.std.specs.List.{list_any, list_all, position_or_len}
use Rattle.std.proofs.lemmas.Bool.{and_parts, or_parts, not-true}
use Rattle.std.proofs.Math.Seq.{take-append_seam, drop-append-add}
use Rattle.vw_net.specs.declared.cover.Mark.{Mark}
use Rattle.vw_net.specs.declared.cover.Mark.TheVariants.{Zero as zero_mark, One as one_mark, Any}
use Rattle.vw_net.specs.declared.cell.Init.{Init}
use Rattle.vw_net.specs.declared.cell.Init.TheVariants.{Zero, One, Free}
use Rattle.vw_design.specs.declared.item.Edge.{Edge}
use Rattle.vw_design.specs.declared.item.Edge.TheVariants.{Rise, Fall, Unsaid}
use Rattle.vw_text.specs.declared.line.Line.{Line}
use Rattle.vw_text.specs.WordLines.{is_empty}
use Rattle.vw_text.specs.PlainLines.{is_plain, numbered_lines}
use Rattle.vw_blif.specs.declared.kind.Kind.{Kind}
use Rattle.vw_blif.specs.declared.kind.Kind.TheVariants.{Row}
use Rattle.vw_blif.specs.Words.{front_words, last_word}
use Rattle.vw_design.specs.Paths.{Word}
use Rattle.vw_blif.specs.Kinds.{kind, is_model, is_end, is_row}
use Rattle.vw_blif.specs.Spelled.{Binding, table, latch}
use Rattle.vw_blif.specs.Rows.{mark_of_byte, value_word, row_marks, are_on_set}
use Rattle.vw_blif.specs.Latches.{control_of, init_of}
use Rattle.vw_blif.specs.Bindings.{formal_of, actual_part, bind_of}
use Rattle.vw_blif.specs.Designs.{table_of, item_of}
use Rattle.vw_blif.specs.Printed.{FreeNumber, dont_care, unknown, Printing, mark_byte, row_words, free_word, init_word, control_word, latch_words, bind_word}
use Rattle.vw_blif.specs.PlainDesigns.{is_plain_table, is_plain_control, can_stand_beside, is_plain_bind}

pub numbered-append : (n : ℕ) (lines others : List (List Word)) → numbered_lines n (lines ++ others) ≡ numbered_lines n lines ++ numbered_lines (n + length lines) others
numbered-append n [] others = ap (λ m. numbered_lines m others) (omega arith)
numbered-append n (words ∷ lines) others =
    ap (λ (ls : List Line). record { number = n; words = words } ∷ ls) (numbered-append (n + 1) lines others ∙ ap (λ m. numbered_lines (n + 1) lines ++ numbered_lines m others) (omega arith))

-- ---- rows

pub row_kind : (n : ℕ) (on : Bool) (marks : List Mark) → kind (record { number = n; words = row_words on marks }) ≡ Row
row_kind n true [] = refl
row_kind n false [] = refl
row_kind n on (zero_mark ∷ marks) = refl
row_kind n on (one_mark ∷ marks) = refl
row_kind n on (Any ∷ marks) = refl

-- whether a line begins a group, and whether it isn't one of those between a `.model` and its `.end`
abbrev pub begins_group : Line → Bool
begins_group line = not (is_row (kind line))

abbrev pub ends_model : Line → Bool
ends_model line = is_model (kind line) || is_end (kind line)

abbrev pub rows_at : ℕ → Bool → List (List Mark) → List Line
rows_at n on rows = numbered_lines n (map (row_words on) rows)

pub rows_begin_none : (n : ℕ) (on : Bool) (rows : List (List Mark)) → list_any begins_group (rows_at n on rows) ≡ false
rows_begin_none n on [] = refl
rows_begin_none n on (row ∷ rows) =
    ap₂ (λ (k : Kind) (b : Bool). not (is_row k) || b) (row_kind n on row) (rows_begin_none (n + 1) on rows)

pub rows_stay : (n : ℕ) (on : Bool) (rows : List (List Mark)) → list_any ends_model (rows_at n on rows) ≡ false
rows_stay n on [] = refl
rows_stay n on (row ∷ rows) =
    ap₂ (λ (k : Kind) (b : Bool). (is_model k || is_end k) || b) (row_kind n on row) (rows_stay (n + 1) on rows)

marks_back : (marks : List Mark) → map mark_of_byte (map mark_byte marks) ≡ marks
marks_back [] = refl
marks_back (zero_mark ∷ marks) = ap (λ (ms : List Mark). zero_mark ∷ ms) (marks_back marks)
marks_back (one_mark ∷ marks) = ap (λ (ms : List Mark). one_mark ∷ ms) (marks_back marks)
marks_back (Any ∷ marks) = ap (λ (ms : List Mark). Any ∷ ms) (marks_back marks)

row_back : (on : Bool) (marks : List Mark) → row_marks (row_words on marks) ≡ marks
row_back on [] = refl
row_back on (mark ∷ marks) = marks_back (mark ∷ marks)

rows_back : (n : ℕ) (on : Bool) (rows : List (List Mark)) → map (λ (l : Line). row_marks l.words) (rows_at n on rows) ≡ rows
rows_back n on [] = refl
rows_back n on (row ∷ rows) = ap₂ (λ (m : List Mark) (ms : List (List Mark)). m ∷ ms) (row_back on row) (rows_back (n + 1) on rows)

pub row_last : (on : Bool) (marks : List Mark) → last_word (row_words on marks) ≡ value_word on
row_last on [] = refl
row_last on (mark ∷ marks) = refl

value_says : (on : Bool) → bytes_eq (value_word on) (codes "1") ≡ on
value_says true = refl
value_says false = refl

set_back : (n : ℕ) (on : Bool) (rows : List (List Mark)) → (on || not (is_empty rows)) ≡ true → are_on_set (rows_at n on rows) ≡ on
set_back n true [] some = refl
set_back n false [] some = absurd (true≢false (sym some))
set_back n on (row ∷ rows) some = ap (λ (w : Word). bytes_eq w (codes "1")) (row_last on row) ∙ value_says on

-- ---- tables

front_back : (words : List Word) (word : Word) → front_words (words ++ word ∷ []) ≡ words
front_back [] word = refl
front_back (first ∷ []) word = refl
front_back (first ∷ next ∷ words) word = ap (λ (ws : List Word). first ∷ ws) (front_back (next ∷ words) word)

last_back : (words : List Word) (word : Word) → last_word (words ++ word ∷ []) ≡ word
last_back [] word = refl
last_back (first ∷ []) word = refl
last_back (first ∷ next ∷ words) word = last_back (next ∷ words) word

same_table : (n m : ℕ) (ins ins' : List Word) (out out' : Word) (on on' : Bool) (rows rows' : List (List Mark)) → n ≡ m → ins ≡ ins' → out ≡ out' → on ≡ on' → rows ≡ rows'
    → table n ins out on rows ≡ table m ins' out' on' rows'
same_table n m ins ins' out out' on on' rows rows' a b c d e = cc

pub table_back : (n line : ℕ) (ins : List Word) (out : Word) (on : Bool) (rows : List (List Mark)) → line ≡ n → is_plain_table ins out on rows ≡ true
    → table_of (record { number = n; words = codes ".names" ∷ (ins ++ out ∷ []) }) (rows_at (n + 1) on rows) ≡ table line ins out on rows
table_back n line ins out on rows at plain =
    let a = and_parts (list_all is_plain ins) _ plain in
    let b = and_parts (is_plain out) _ a.1 in
    let c = and_parts _ _ b.1 in
    let d = and_parts (list_all (λ (row : List Mark). eqb (length row) (length ins)) rows) (on || not (is_empty rows)) c.1 in
    same_table n line (front_words (ins ++ out ∷ [])) ins (last_word (ins ++ out ∷ [])) out (are_on_set (rows_at (n + 1) on rows)) on
    (map (λ (l : Line). row_marks l.words) (rows_at (n + 1) on rows)) rows
    (sym at) (front_back ins out) (last_back ins out) (set_back (n + 1) on rows d.1) (rows_back (n + 1) on rows)

-- ---- latches

-- initial values are read back, whichever way a free latch is written
free_back : (free : FreeNumber) → init_of (Some (free_word free)) ≡ Free
free_back dont_care = refl
free_back unknown = refl

init_back : (printing : Printing) (init : Init) → init_of (Some (init_word printing init)) ≡ init
init_back printing Zero = refl
init_back printing One = refl
init_back printing Free = free_back printing.free

control_back : (control : Option Word) → is_plain_control control ≡ true → control_of (Some (control_word control)) ≡ control
control_back None plain = refl
control_back (Some control) plain =
    let other = not-true _ (and_parts (is_plain control) (not (bytes_eq control (codes "NIL"))) plain).1 in
    ap (λ (b : Bool). cond b None (Some control)) other

pub latch_back : (printing : Printing) (n line : ℕ) (d q : Word) (edge : Edge) (control : Option Word) (init : Init) → line ≡ n → can_stand_beside edge control ≡ true
    → item_of (record { head = record { number = n; words = codes ".latch" ∷ d ∷ q ∷ latch_words printing edge control init }; tail = [] }) ≡ Some (latch line d q edge control init)
latch_back printing n line d q Rise control init at plain =
    ap₂ (λ (c : Option Word) (i : Init). Some (latch n d q Rise c i)) (control_back control plain) (init_back printing init) ∙ ap (λ m. Some (latch m d q Rise control init)) (sym at)
latch_back printing n line d q Fall control init at plain =
    ap₂ (λ (c : Option Word) (i : Init). Some (latch n d q Fall c i)) (control_back control plain) (init_back printing init) ∙ ap (λ m. Some (latch m d q Fall control init)) (sym at)
latch_back printing n line d q Unsaid None init at plain =
    ap₂ (λ (m : ℕ) (i : Init). Some (latch m d q Unsaid None i)) (sym at) (init_back printing init)
latch_back printing n line d q Unsaid (Some control) init at plain = absurd (true≢false (sym plain))

-- ---- bindings

sign_at : (formal actual : Word) → list_any (λ b. eqb b 61) formal ≡ false → position_or_len (λ b. eqb b 61) (formal ++ 61 ∷ actual) ≡ length formal
sign_at [] actual none = refl
sign_at (b ∷ bs) actual none =
    let parts = or_parts (eqb b 61) (list_any (λ b. eqb b 61) bs) none in
    ap₂ (λ (t : Bool) (n : ℕ). cond (not t) (1 + n) 0) parts.0 (sign_at bs actual parts.1) ∙ (let e : 1 + length bs ≡ length (b ∷ bs) = omega arith in e)

pub formal_back : (bind : Binding) → is_plain_bind bind ≡ true → formal_of (bind_word bind) ≡ bind.formal
formal_back bind plain =
    let none = not-true _ (and_parts (is_plain bind.actual) _ (and_parts (is_plain bind.formal) _ plain).1).1 in
    ap (λ n. take n (bind_word bind)) (sign_at bind.formal bind.actual none) ∙ take-append_seam bind.formal (61 ∷ bind.actual)

pub actual_back : (bind : Binding) → is_plain_bind bind ≡ true → actual_part (bind_word bind) ≡ bind.actual
actual_back bind plain =
    let none = not-true _ (and_parts (is_plain bind.actual) _ (and_parts (is_plain bind.formal) _ plain).1).1 in
    ap (λ n. drop (n + 1) (bind_word bind)) (sign_at bind.formal bind.actual none) ∙ drop-append-add bind.formal (61 ∷ bind.actual) 1

pub binds_back : (binds : List Binding) → list_all is_plain_bind binds ≡ true → map bind_of (map bind_word binds) ≡ binds
binds_back [] plain = refl
binds_back (bind ∷ binds) plain =
    let parts = and_parts (is_plain_bind bind) (list_all is_plain_bind binds) plain in
    let one : bind_of (bind_word bind) ≡ bind = ap₂ (λ (f a : Word). record { formal = f; actual = a }) (formal_back bind parts.0) (actual_back bind parts.0) in
    ap₂ (λ (b : Binding) (bs : List Binding). b ∷ bs) one (binds_back binds parts.1)
