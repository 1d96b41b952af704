-- The lines of a printed design are plain.
use Rattle.std.proofs.Common.{◌≡◌, Bool, true, false, not, ◌&&◌, ◌||◌, List, [], ◌∷◌, ◌++◌, length, map, Option, Some, None, eqb, refl, ◌∙◌, ap₂, ne_eqb, length-append, arith}
use Rattle.std.specs.Prelude.{codes}
use Rattle.std.specs.Str.{bytes_eq}
use Rattle.std.specs.List.{AllByRecursion, list_all, list_any, flat_map}
use Rattle.std.proofs.lemmas.Bool.{and_parts, and_from, not_from_false, not-true}
use Rattle.std.proofs.lemmas.List.Folds.{list_all-append, list_any-append}
use Rattle.vw_net.specs.declared.cover.Mark.{Mark}
use Rattle.vw_net.specs.declared.cover.Mark.TheVariants.{Zero as zero_mark, One as one_mark, Any}
use Rattle.vw_net.specs.declared.cell.Init.{Init}
use Rattle.vw_net.specs.declared.cell.Init.TheVariants.{Zero, One, Free}
use Rattle.vw_design.specs.declared.item.Edge.{Edge}
use Rattle.vw_design.specs.declared.item.Edge.TheVariants.{Rise, Fall, Unsaid}
use Rattle.vw_design.specs.Distinct.{are_distinct}
use Rattle.vw_text.specs.WordLines.{is_empty}
use Rattle.vw_text.specs.PlainLines.{is_special, is_plain, IsPlainLine}
use Rattle.vw_design.specs.Paths.{Word}
use Rattle.vw_blif.specs.Spelled.{Binding, SpelledItem, table, latch, place, SpelledModel}
use Rattle.vw_blif.specs.Rows.{value_word}
use Rattle.vw_blif.specs.Printed.{FreeNumber, dont_care, unknown, Printing, mark_byte, row_words, free_word, init_word, control_word, latch_words, bind_word, item_lines, port_lines, bare_lines, open_port_lines, head_lines, model_lines, design_lines}
use Rattle.vw_blif.specs.PlainDesigns.{is_plain_control, can_stand_beside, is_plain_bind, is_plain_item, are_plain_ports, is_plain_model}

-- words, all of them plain
abbrev is_plain_line : List Word → Bool
is_plain_line words = not (is_empty words) && list_all is_plain words

pub from_tests : (lines : List (List Word)) → list_all is_plain_line lines ≡ true → AllByRecursion IsPlainLine lines
from_tests [] all = tt
from_tests (words ∷ lines) all =
    let parts = and_parts (is_plain_line words) (list_all is_plain_line lines) all in (parts.0, from_tests lines parts.1)

not_empty : {A : Type 0} (x : A) (xs : List A) → not (is_empty (x ∷ xs)) ≡ true
not_empty x xs = not_from_false (is_empty (x ∷ xs)) (ne_eqb (length (x ∷ xs)) 0 (λ none. absurd (omega arith)))

-- a line that begins with a plain word
first_plain : (word : Word) (words : List Word) → is_plain word ≡ true → list_all is_plain words ≡ true → is_plain_line (word ∷ words) ≡ true
first_plain word words one all =
    and_from (not (is_empty (word ∷ words))) (list_all is_plain (word ∷ words)) (not_empty word words)
    (and_from (is_plain word) (list_all is_plain words) one all)

words_before : (words : List Word) (word : Word) → list_all is_plain words ≡ true → is_plain word ≡ true → list_all is_plain (words ++ word ∷ []) ≡ true
words_before words word all one =
    list_all-append is_plain words (word ∷ [])
    ∙ and_from (list_all is_plain words) (is_plain word && true) all (and_from (is_plain word) true one refl)

lines_before : (lines others : List (List Word)) → list_all is_plain_line lines ≡ true → list_all is_plain_line others ≡ true → list_all is_plain_line (lines ++ others) ≡ true
lines_before lines others all more =
    list_all-append is_plain_line lines others ∙ and_from (list_all is_plain_line lines) (list_all is_plain_line others) all more

-- the lines of each of some things
each_plain : {A : Type 0} (f : A → List (List Word)) (p : A → Bool) → ((x : A) → p x ≡ true → list_all is_plain_line (f x) ≡ true) → (xs : List A) → list_all p xs ≡ true
    → list_all is_plain_line (flat_map f xs) ≡ true
each_plain f p each [] all = refl
each_plain f p each (x ∷ xs) all =
    let parts = and_parts (p x) (list_all p xs) all in
    lines_before (f x) (flat_map f xs) (each x parts.0) (each_plain f p each xs parts.1)

-- ---- rows

marks_plain : (marks : List Mark) → list_any is_special (map mark_byte marks) ≡ false
marks_plain [] = refl
marks_plain (zero_mark ∷ marks) = marks_plain marks
marks_plain (one_mark ∷ marks) = marks_plain marks
marks_plain (Any ∷ marks) = marks_plain marks

value_plain : (on : Bool) → is_plain (value_word on) ≡ true
value_plain true = refl
value_plain false = refl

row_plain : (on : Bool) (marks : List Mark) → is_plain_line (row_words on marks) ≡ true
row_plain on [] = first_plain (value_word on) [] (value_plain on) refl
row_plain on (mark ∷ marks) =
    let word = map mark_byte (mark ∷ marks) in
    let plain : is_plain word ≡ true =
    and_from (not (is_empty word)) (not (list_any is_special word)) (not_empty (mark_byte mark) (map mark_byte marks))
    (not_from_false (list_any is_special word) (marks_plain (mark ∷ marks))) in
    first_plain word (value_word on ∷ []) plain (and_from (is_plain (value_word on)) true (value_plain on) refl)

rows_plain : (on : Bool) (rows : List (List Mark)) → list_all is_plain_line (map (row_words on) rows) ≡ true
rows_plain on [] = refl
rows_plain on (row ∷ rows) = and_from (is_plain_line (row_words on row)) (list_all is_plain_line (map (row_words on) rows)) (row_plain on row) (rows_plain on rows)

-- ---- latches

-- the words of initial values are plain
free_plain : (free : FreeNumber) → is_plain (free_word free) ≡ true
free_plain dont_care = refl
free_plain unknown = refl

init_plain : (printing : Printing) (init : Init) → is_plain (init_word printing init) ≡ true
init_plain printing Zero = refl
init_plain printing One = refl
init_plain printing Free = free_plain printing.free

control_plain : (control : Option Word) → is_plain_control control ≡ true → is_plain (control_word control) ≡ true
control_plain None plain = refl
control_plain (Some control) plain = (and_parts (is_plain control) (not (bytes_eq control (codes "NIL"))) plain).0

-- a type, a control and an initial value
typed_plain : (printing : Printing) (type_ : Word) (control : Option Word) (init : Init) → is_plain type_ ≡ true → is_plain_control control ≡ true
    → list_all is_plain (type_ ∷ control_word control ∷ init_word printing init ∷ []) ≡ true
typed_plain printing type_ control init one plain =
    and_from (is_plain type_) (is_plain (control_word control) && (is_plain (init_word printing init) && true)) one
    (and_from (is_plain (control_word control)) (is_plain (init_word printing init) && true) (control_plain control plain)
    (and_from (is_plain (init_word printing init)) true (init_plain printing init) refl))

latch_plain : (printing : Printing) (edge : Edge) (control : Option Word) (init : Init) → can_stand_beside edge control ≡ true → list_all is_plain (latch_words printing edge control init) ≡ true
latch_plain printing Rise control init plain = typed_plain printing (codes "re") control init refl plain
latch_plain printing Fall control init plain = typed_plain printing (codes "fe") control init refl plain
latch_plain printing Unsaid control init plain = and_from (is_plain (init_word printing init)) true (init_plain printing init) refl

-- ---- bindings

bind_plain : (bind : Binding) → is_plain_bind bind ≡ true → is_plain (bind_word bind) ≡ true
bind_plain bind plain =
    let parts = and_parts (is_plain bind.formal) (is_plain bind.actual && not (list_any (λ b. eqb b 61) bind.formal)) plain in
    let actual = (and_parts (is_plain bind.actual) (not (list_any (λ b. eqb b 61) bind.formal)) parts.1).0 in
    let formal_bytes = not-true _ (and_parts (not (is_empty bind.formal)) (not (list_any is_special bind.formal)) parts.0).1 in
    let actual_bytes = not-true _ (and_parts (not (is_empty bind.actual)) (not (list_any is_special bind.actual)) actual).1 in
    let long = length-append bind.formal (61 ∷ bind.actual) in
    and_from (not (is_empty (bind_word bind))) (not (list_any is_special (bind_word bind)))
    (not_from_false _ (ne_eqb (length (bind_word bind)) 0 (λ none. absurd (omega (long, none, arith)))))
    (not_from_false _ (list_any-append is_special bind.formal (61 ∷ bind.actual) ∙ ap₂ (λ (a b : Bool). a || (false || b)) formal_bytes actual_bytes))

binds_plain : (binds : List Binding) → list_all is_plain_bind binds ≡ true → list_all is_plain (map bind_word binds) ≡ true
binds_plain [] plain = refl
binds_plain (bind ∷ binds) plain =
    let parts = and_parts (is_plain_bind bind) (list_all is_plain_bind binds) plain in
    and_from (is_plain (bind_word bind)) (list_all is_plain (map bind_word binds)) (bind_plain bind parts.0) (binds_plain binds parts.1)

-- ---- items, models and designs

one_line : (words : List Word) → is_plain_line words ≡ true → list_all is_plain_line (words ∷ []) ≡ true
one_line words plain = and_from (is_plain_line words) true plain refl

item_plain : (printing : Printing) (item : SpelledItem) → is_plain_item item ≡ true → list_all is_plain_line (item_lines printing item) ≡ true
item_plain printing (table line ins out on rows) plain =
    let parts = and_parts (list_all is_plain ins) _ plain in
    let out_plain = (and_parts (is_plain out) _ parts.1).0 in
    and_from (is_plain_line (codes ".names" ∷ (ins ++ out ∷ []))) (list_all is_plain_line (map (row_words on) rows))
    (first_plain (codes ".names") (ins ++ out ∷ []) refl (words_before ins out parts.0 out_plain)) (rows_plain on rows)
item_plain printing (latch line d q edge control init) plain =
    let parts = and_parts (is_plain d) (is_plain q && can_stand_beside edge control) plain in
    let others = and_parts (is_plain q) (can_stand_beside edge control) parts.1 in
    one_line (codes ".latch" ∷ d ∷ q ∷ latch_words printing edge control init)
    (first_plain (codes ".latch") (d ∷ q ∷ latch_words printing edge control init) refl
    (and_from (is_plain d) (list_all is_plain (q ∷ latch_words printing edge control init)) parts.0
    (and_from (is_plain q) (list_all is_plain (latch_words printing edge control init)) others.0 (latch_plain printing edge control init others.1))))
item_plain printing (place line model binds) plain =
    let parts = and_parts (is_plain model) (list_all is_plain_bind binds && are_distinct (map (λ (b : Binding). b.formal) binds)) plain in
    let all = (and_parts (list_all is_plain_bind binds) (are_distinct (map (λ (b : Binding). b.formal) binds)) parts.1).0 in
    one_line (codes ".subckt" ∷ model ∷ map bind_word binds)
    (first_plain (codes ".subckt") (model ∷ map bind_word binds) refl
    (and_from (is_plain model) (list_all is_plain (map bind_word binds)) parts.0 (binds_plain binds all)))

ports_plain : (keyword : Word) (ports : List Word) → is_plain keyword ≡ true → are_plain_ports ports ≡ true → list_all is_plain_line (port_lines keyword ports) ≡ true
ports_plain keyword [] one plain = refl
ports_plain keyword (port ∷ ports) one plain =
    one_line (keyword ∷ port ∷ ports) (first_plain keyword (port ∷ ports) one (and_parts (list_all is_plain (port ∷ ports)) (are_distinct (port ∷ ports)) plain).0)

-- a keyword that stands alone is plain, and so is nothing
bare_plain : (bare : Bool) (keyword : Word) → is_plain keyword ≡ true → list_all is_plain_line (bare_lines bare keyword) ≡ true
bare_plain false keyword one = refl
bare_plain true keyword one = one_line (keyword ∷ []) (first_plain keyword [] one refl)

-- the same where the keyword may stand alone
open_ports_plain : (printing : Printing) (keyword : Word) (ports : List Word) → is_plain keyword ≡ true → are_plain_ports ports ≡ true → list_all is_plain_line (open_port_lines printing keyword ports) ≡ true
open_ports_plain printing keyword [] one plain = bare_plain printing.bare keyword one
open_ports_plain printing keyword (port ∷ ports) one plain = ports_plain keyword (port ∷ ports) one plain

-- what a plain model has
pub record HasPlainParts (model : SpelledModel) : Type 0 where
  pub name : is_plain model.name ≡ true
  pub inputs : are_plain_ports model.inputs ≡ true
  pub outputs : are_plain_ports model.outputs ≡ true
  pub clocks : are_plain_ports model.clocks ≡ true
  pub items : list_all is_plain_item model.items ≡ true

pub plain_parts : (model : SpelledModel) → is_plain_model model ≡ true → HasPlainParts model
plain_parts model plain =
    let a = and_parts (is_plain model.name) _ plain in
    let b = and_parts (are_plain_ports model.inputs) _ a.1 in
    let c = and_parts (are_plain_ports model.outputs) _ b.1 in
    let d = and_parts (are_plain_ports model.clocks) (list_all is_plain_item model.items) c.1 in
    record { name = a.0; inputs = b.0; outputs = c.0; clocks = d.0; items = d.1 }

model_plain : (printing : Printing) (model : SpelledModel) → is_plain_model model ≡ true → list_all is_plain_line (model_lines printing model) ≡ true
model_plain printing model plain =
    let is = plain_parts model plain in
    let name = one_line (codes ".model" ∷ model.name ∷ []) (first_plain (codes ".model") (model.name ∷ []) refl (and_from (is_plain model.name) true is.name refl)) in
    let inputs = open_ports_plain printing (codes ".inputs") model.inputs refl is.inputs in
    let outputs = open_ports_plain printing (codes ".outputs") model.outputs refl is.outputs in
    let clocks = ports_plain (codes ".clock") model.clocks refl is.clocks in
    let ports = lines_before (open_port_lines printing (codes ".inputs") model.inputs) (open_port_lines printing (codes ".outputs") model.outputs ++ port_lines (codes ".clock") model.clocks) inputs
    (lines_before (open_port_lines printing (codes ".outputs") model.outputs) (port_lines (codes ".clock") model.clocks) outputs clocks) in
    lines_before (head_lines printing model) (flat_map (item_lines printing) model.items ++ (codes ".end" ∷ []) ∷ [])
    (lines_before ((codes ".model" ∷ model.name ∷ []) ∷ []) (open_port_lines printing (codes ".inputs") model.inputs ++ (open_port_lines printing (codes ".outputs") model.outputs ++ port_lines (codes ".clock") model.clocks)) name ports)
    (lines_before (flat_map (item_lines printing) model.items) ((codes ".end" ∷ []) ∷ []) (each_plain (item_lines printing) is_plain_item (item_plain printing) model.items is.items) refl)

pub lines_plain : (printing : Printing) (design : List SpelledModel) → list_all is_plain_model design ≡ true → AllByRecursion IsPlainLine (design_lines printing design)
lines_plain printing design plain = from_tests (design_lines printing design) (each_plain (model_lines printing) is_plain_model (model_plain printing) design plain)
