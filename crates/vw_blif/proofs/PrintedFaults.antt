-- No line of a printed design has a fault.
use Rattle.std.proofs.Common.{◌≡◌, ℕ, ◌+◌, ◌-◌, ◌≤◌, Bool, true, false, not, ◌&&◌, ◌||◌, List, [], ◌∷◌, ◌++◌, length, map, Option, Some, None, eqb, refl, sym, ◌∙◌, ap, ap₂, subst, append_assoc, length-append, eq-eqb, eqb-true, ne_eqb, arith}
use Rattle.std.specs.Prelude.{codes, option_map, nat_lt}
use Rattle.std.specs.Str.{bytes_eq}
use Rattle.std.specs.List.{list_any, list_all, flat_map}
use Rattle.std.proofs.lemmas.Bool.{and_parts, and_from, or_parts, not-true, lt-ltb, le-ltb, leb-true}
use Rattle.std.proofs.lemmas.List.{length-map}
use Rattle.vw_net.specs.declared.cover.Mark.{Mark}
use Rattle.vw_net.specs.declared.cover.Mark.TheVariants.{Zero as zero_mark, One as one_mark, Any}
use Rattle.vw_net.specs.declared.cell.Init.{Init}
use Rattle.vw_net.specs.declared.cell.Init.TheVariants.{Zero, One, Free}
use Rattle.vw_design.specs.declared.item.Edge.TheVariants.{Rise, Fall, Unsaid}
use Rattle.vw_design.specs.Distinct.{has_name, are_distinct}
use Rattle.vw_text.specs.declared.line.Line.{Line}
use Rattle.vw_text.specs.WordLines.{is_empty}
use Rattle.vw_text.specs.PlainLines.{is_special, is_plain, numbered_lines}
use Rattle.vw_blif.specs.declared.fault.TextFault.{TextFault}
use Rattle.vw_blif.specs.declared.kind.Kind.{Kind}
use Rattle.vw_blif.specs.Words.{last_word}
use Rattle.vw_design.specs.Paths.{Word}
use Rattle.vw_blif.specs.Kinds.{input, output, clocked}
use Rattle.vw_blif.specs.Spelled.{Binding, SpelledItem, table, latch, place, SpelledModel}
use Rattle.vw_blif.specs.Rows.{is_mark, is_value, value_word, is_row_of}
use Rattle.vw_blif.specs.Latches.{is_init}
use Rattle.vw_blif.specs.Bindings.{formal_of, is_no_bind, repeats, has_bad_bind}
use Rattle.vw_blif.specs.Before.{OpenTable, is_open, open_behind, or_value, table_behind, open_table, names_behind, names_of_models, ports_before}
use Rattle.vw_blif.specs.Faults.{differs_from, faults_by, first_of, fault_at}
use Rattle.std.specs.Option.{option_or}
use Rattle.vw_blif.specs.Read.{first_fault}
use Rattle.vw_blif.specs.Printed.{FreeNumber, dont_care, unknown, Printing, mark_byte, row_words, free_word, init_word, latch_words, bind_word, item_lines, port_lines, bare_lines, open_port_lines, model_lines, design_lines}
use Rattle.vw_blif.specs.PlainDesigns.{is_plain_bind, is_plain_item, are_plain_ports, is_plain_model}
use Rattle.vw_design.proofs.Names.{name_same}
use Rattle.vw_design.proofs.DistinctNames.{fresh_behind}
use Rattle.vw_blif.proofs.PrintedWords.{plain_parts}
use Rattle.vw_blif.proofs.PrintedGroups.{numbered-append, row_kind, row_last, rows_at, formal_back, actual_back}
use Rattle.vw_blif.proofs.PrintedModels.{item_first, lines_between, model_line, end_line, model_cut}

-- the lines before stand in a model, and these are the names of the models so far
record Inside (names : List Word) (before : List Line) : Type 0 where
  open_ : is_open before ≡ true
  names_ : names_of_models before ≡ names

-- further lines have no fault behind lines that stand in a model
abbrev IsFineInside : List Word → List Line → Type 0
IsFineInside names rest = (before : List Line) → Inside names before → first_fault before rest ≡ None

fine_then : (before : List Line) (line : Line) (rest : List Line) → fault_at before line ≡ None → first_fault (line ∷ before) rest ≡ None → first_fault before (line ∷ rest) ≡ None
fine_then before line rest fine further = ap (λ (o : Option TextFault). option_or o (first_fault (line ∷ before) rest)) fine ∙ further

-- ---- names that are all different

pub repeats_none : (before words : List Word) → are_distinct (before ++ words) ≡ true → repeats before words ≡ false
repeats_none before [] all = refl
repeats_none before (word ∷ words) all =
    ap₂ (λ (a b : Bool). a || b) (fresh_behind before word words all)
    (repeats_none (before ++ word ∷ []) words (ap are_distinct (append_assoc before (word ∷ []) words) ∙ all))

-- ---- rows

marks_fine : (marks : List Mark) → list_all is_mark (map mark_byte marks) ≡ true
marks_fine [] = refl
marks_fine (zero_mark ∷ marks) = marks_fine marks
marks_fine (one_mark ∷ marks) = marks_fine marks
marks_fine (Any ∷ marks) = marks_fine marks

value_fine : (on : Bool) → is_value (value_word on) ≡ true
value_fine true = refl
value_fine false = refl

row_fits : (width : ℕ) (on : Bool) (marks : List Mark) → length marks ≡ width → is_row_of width (row_words on marks) ≡ true
row_fits width on [] long = and_from (eqb width 0) (is_value (value_word on)) (eq-eqb width 0 (sym long)) (value_fine on)
row_fits width on (mark ∷ marks) long =
    let word = map mark_byte (mark ∷ marks) in
    let some : nat_lt 0 width ≡ true = lt-ltb 0 width (omega (long, arith)) in
    let even : eqb (length word) width ≡ true = eq-eqb (length word) width (length-map (mark ∷ marks) mark_byte ∙ long) in
    and_from (nat_lt 0 width) (eqb (length word) width && (list_all is_mark word && is_value (value_word on))) some
    (and_from (eqb (length word) width) (list_all is_mark word && is_value (value_word on)) even
    (and_from (list_all is_mark word) (is_value (value_word on)) (marks_fine (mark ∷ marks)) (value_fine on)))

-- the next row ends in the digit of the first
same_digit : (value : Option Word) (word digit : Word) → word ≡ digit → differs_from value digit ≡ false → differs_from (Some (or_value value word)) digit ≡ false
same_digit None word digit is same = ap (λ (w : Word). not (bytes_eq w digit)) is ∙ ap not (name_same digit)
same_digit (Some first) word digit is same = same

rows_fine : (names : List Word) (width n : ℕ) (on : Bool) (rows : List (List Mark)) (rest : List Line) → list_all (λ row. eqb (length row) width) rows ≡ true → IsFineInside names rest
    → (before : List Line) → Inside names before → (value : Option Word) → open_table before ≡ Some (record { width = width; value = value }) → differs_from value (value_word on) ≡ false
    → first_fault before (rows_at n on rows ++ rest) ≡ None
rows_fine names width n on [] rest even further before inside value is same = further before inside
rows_fine names width n on (row ∷ rows) rest even further before inside value is same =
    let line : Line = record { number = n; words = row_words on row } in
    let parts = and_parts (eqb (length row) width) (list_all (λ (r : List Mark). eqb (length r) width) rows) even in
    let k = row_kind n on row in
    let fits = row_fits width on row (eqb-true (length row) width parts.0) in
    let ends : differs_from value (last_word (row_words on row)) ≡ false = ap (differs_from value) (row_last on row) ∙ same in
    let fine : fault_at before line ≡ None = ap (λ (c : Kind). first_of (faults_by c before line)) k ∙ rw (inside.open_, is, fits, ends) refl in
    fine_then before line (rows_at (n + 1) on rows ++ rest) fine
    (rows_fine names width (n + 1) on rows rest parts.1 further (line ∷ before)
    (record {
      open_ = ap (λ (c : Kind). open_behind c (is_open before)) k ∙ inside.open_;
      names_ = ap (λ (c : Kind). names_behind c line (names_of_models before)) k ∙ inside.names_;
    })
    (Some (or_value value (last_word (row_words on row))))
    (ap (λ (c : Kind). table_behind c line (open_table before)) k
    ∙ ap (λ (o : Option OpenTable). option_map (λ (t : OpenTable). record { width = t.width; value = Some (or_value t.value (last_word (row_words on row))) }) o) is)
    (same_digit value (last_word (row_words on row)) (value_word on) (row_last on row) same))

-- ---- items

not_none : {A : Type 0} (x : A) (xs : List A) → eqb (length (x ∷ xs)) 0 ≡ false
not_none x xs = ne_eqb (length (x ∷ xs)) 0 (λ none. absurd (omega arith))

-- the words of initial values may stand there
free_fine : (free : FreeNumber) → is_init (Some (free_word free)) ≡ true
free_fine dont_care = refl
free_fine unknown = refl

init_fine : (printing : Printing) (init : Init) → is_init (Some (init_word printing init)) ≡ true
init_fine printing Zero = refl
init_fine printing One = refl
init_fine printing Free = free_fine printing.free

some_bytes : (word : Word) → is_plain word ≡ true → eqb (length word) 0 ≡ false
some_bytes word plain = not-true _ (and_parts (not (is_empty word)) (not (list_any is_special word)) plain).0

binds_fine : (binds : List Binding) → list_all is_plain_bind binds ≡ true → list_any is_no_bind (map bind_word binds) ≡ false
binds_fine [] plain = refl
binds_fine (bind ∷ binds) plain =
    let parts = and_parts (is_plain_bind bind) (list_all is_plain_bind binds) plain in
    let formal = and_parts (is_plain bind.formal) (is_plain bind.actual && not (list_any (λ b. eqb b 61) bind.formal)) parts.0 in
    let actual = (and_parts (is_plain bind.actual) (not (list_any (λ b. eqb b 61) bind.formal)) formal.1).0 in
    ap₂ (λ (a b : Bool). a || b)
    (ap₂ (λ (f a : Word). eqb (length f) 0 || eqb (length a) 0) (formal_back bind parts.0) (actual_back bind parts.0)
    ∙ ap₂ (λ (a b : Bool). a || b) (some_bytes bind.formal formal.0) (some_bytes bind.actual actual))
    (binds_fine binds parts.1)

formals_back : (binds : List Binding) → list_all is_plain_bind binds ≡ true → map formal_of (map bind_word binds) ≡ map (λ bind. bind.formal) binds
formals_back [] plain = refl
formals_back (bind ∷ binds) plain =
    let parts = and_parts (is_plain_bind bind) (list_all is_plain_bind binds) plain in
    ap₂ (λ (w : Word) (ws : List Word). w ∷ ws) (formal_back bind parts.0) (formals_back binds parts.1)

place_fine : (model : Word) (binds : List Binding) → list_all is_plain_bind binds ≡ true → are_distinct (map (λ bind. bind.formal) binds) ≡ true
    → has_bad_bind (model ∷ map bind_word binds) ≡ false
place_fine model binds plain once =
    ap₂ (λ (a b : Bool). a || b) (binds_fine binds plain)
    (ap (λ (ws : List Word). repeats [] ws) (formals_back binds plain) ∙ repeats_none [] (map (λ (b : Binding). b.formal) binds) once)

-- a line that keeps the model open
kept : (names : List Word) (before : List Line) (line : Line) → Inside names before → is_open (line ∷ before) ≡ is_open before → names_of_models (line ∷ before) ≡ names_of_models before → Inside names (line ∷ before)
kept names before line inside stays same = record { open_ = stays ∙ inside.open_; names_ = same ∙ inside.names_ }

item_fine : (printing : Printing) (names : List Word) (n : ℕ) (item : SpelledItem) (rest : List Line) → is_plain_item item ≡ true → IsFineInside names rest → IsFineInside names (numbered_lines n (item_lines printing item) ++ rest)
item_fine printing names n (table line ins out on rows) rest plain further before inside =
    let first : Line = record { number = n; words = codes ".names" ∷ (ins ++ out ∷ []) } in
    let a = and_parts (list_all is_plain ins) _ plain in
    let b = and_parts (is_plain out) _ a.1 in
    let c = and_parts _ _ b.1 in
    let d = and_parts (list_all (λ (row : List Mark). eqb (length row) (length ins)) rows) (on || not (is_empty rows)) c.1 in
    let long = length-append ins (out ∷ []) in
    let narrow : length ins ≤ 128 = leb-true (length ins) 128 c.0 in
    let some : eqb (length (ins ++ out ∷ [])) 0 ≡ false = ne_eqb (length (ins ++ out ∷ [])) 0 (λ none. absurd (omega (long, none, arith))) in
    let few : nat_lt 129 (length (ins ++ out ∷ [])) ≡ false = le-ltb 129 (length (ins ++ out ∷ [])) (omega (long, narrow, arith)) in
    let width : length (ins ++ out ∷ []) - 1 ≡ length ins = omega (long, arith) in
    fine_then before first (rows_at (n + 1) on rows ++ rest) (rw (inside.open_, some, few) refl)
    (rows_fine names (length ins) (n + 1) on rows rest d.0 further (first ∷ before) (kept names before first inside refl refl) None
    (ap (λ w. Some (record { width = w; value = None })) width) refl)
item_fine printing names n (latch line d q Rise control init) rest plain further before inside =
    let first : Line = record { number = n; words = codes ".latch" ∷ d ∷ q ∷ latch_words printing Rise control init } in
    fine_then before first rest (rw (inside.open_, init_fine printing init) refl) (further (first ∷ before) (kept names before first inside refl refl))
item_fine printing names n (latch line d q Fall control init) rest plain further before inside =
    let first : Line = record { number = n; words = codes ".latch" ∷ d ∷ q ∷ latch_words printing Fall control init } in
    fine_then before first rest (rw (inside.open_, init_fine printing init) refl) (further (first ∷ before) (kept names before first inside refl refl))
item_fine printing names n (latch line d q Unsaid control init) rest plain further before inside =
    let first : Line = record { number = n; words = codes ".latch" ∷ d ∷ q ∷ latch_words printing Unsaid control init } in
    fine_then before first rest (rw (inside.open_, init_fine printing init) refl) (further (first ∷ before) (kept names before first inside refl refl))
item_fine printing names n (place line model binds) rest plain further before inside =
    let first : Line = record { number = n; words = codes ".subckt" ∷ model ∷ map bind_word binds } in
    let parts = and_parts (list_all is_plain_bind binds) (are_distinct (map (λ (b : Binding). b.formal) binds)) (and_parts (is_plain model) _ plain).1 in
    fine_then before first rest (rw (inside.open_, not_none model (map bind_word binds), place_fine model binds parts.0 parts.1) refl) (further (first ∷ before) (kept names before first inside refl refl))

items_fine : (printing : Printing) (names : List Word) (n : ℕ) (items : List SpelledItem) (rest : List Line) → list_all is_plain_item items ≡ true → IsFineInside names rest
    → IsFineInside names (numbered_lines n (flat_map (item_lines printing) items) ++ rest)
items_fine printing names n [] rest plain further = further
items_fine printing names n (item ∷ items) rest plain further =
    let parts = and_parts (is_plain_item item) (list_all is_plain_item items) plain in
    let first = numbered_lines n (item_lines printing item) in
    let others = numbered_lines (n + length (item_lines printing item)) (flat_map (item_lines printing) items) in
    subst (IsFineInside names) (sym (ap (λ (ls : List Line). ls ++ rest) (item_first printing n item items) ∙ append_assoc first others rest))
    (item_fine printing names n item (others ++ rest) parts.0 (items_fine printing names (n + length (item_lines printing item)) items rest parts.1 further))

-- ---- ports

ports_once : (ports : List Word) → are_plain_ports ports ≡ true → repeats [] ports ≡ false
ports_once ports plain = repeats_none [] ports (and_parts (list_all is_plain ports) (are_distinct ports) plain).1

clocks_fine : (names : List Word) (n : ℕ) (ports : List Word) (rest : List Line) → are_plain_ports ports ≡ true → IsFineInside names rest
    → (before : List Line) → Inside names before → ports_before clocked before ≡ []
    → first_fault before (numbered_lines n (port_lines (codes ".clock") ports) ++ rest) ≡ None
clocks_fine names n [] rest plain further before inside none = further before inside
clocks_fine names n (port ∷ ports) rest plain further before inside none =
    let line : Line = record { number = n; words = codes ".clock" ∷ port ∷ ports } in
    fine_then before line rest (rw (inside.open_, none, ports_once (port ∷ ports) plain) refl) (further (line ∷ before) (kept names before line inside refl refl))

-- what stands for a list without ports
no_outputs_fine : (bare : Bool) (names : List Word) (n : ℕ) (rest : List Line)
    → ((before : List Line) → Inside names before → ports_before clocked before ≡ [] → first_fault before rest ≡ None)
    → (before : List Line) → Inside names before → ports_before output before ≡ [] → ports_before clocked before ≡ []
    → first_fault before (numbered_lines n (bare_lines bare (codes ".outputs")) ++ rest) ≡ None
no_outputs_fine false names n rest further before inside none clocks = further before inside clocks
no_outputs_fine true names n rest further before inside none clocks =
    let line : Line = record { number = n; words = codes ".outputs" ∷ [] } in
    fine_then before line rest (rw inside.open_ refl) (further (line ∷ before) (kept names before line inside refl refl) clocks)

no_inputs_fine : (bare : Bool) (names : List Word) (n : ℕ) (rest : List Line)
    → ((before : List Line) → Inside names before → ports_before output before ≡ [] → ports_before clocked before ≡ [] → first_fault before rest ≡ None)
    → (before : List Line) → Inside names before → ports_before input before ≡ [] → ports_before output before ≡ [] → ports_before clocked before ≡ []
    → first_fault before (numbered_lines n (bare_lines bare (codes ".inputs")) ++ rest) ≡ None
no_inputs_fine false names n rest further before inside none outputs clocks = further before inside outputs clocks
no_inputs_fine true names n rest further before inside none outputs clocks =
    let line : Line = record { number = n; words = codes ".inputs" ∷ [] } in
    fine_then before line rest (rw inside.open_ refl) (further (line ∷ before) (kept names before line inside refl refl) outputs clocks)

outputs_fine : (printing : Printing) (names : List Word) (n : ℕ) (ports : List Word) (rest : List Line) → are_plain_ports ports ≡ true
    → ((before : List Line) → Inside names before → ports_before clocked before ≡ [] → first_fault before rest ≡ None)
    → (before : List Line) → Inside names before → ports_before output before ≡ [] → ports_before clocked before ≡ []
    → first_fault before (numbered_lines n (open_port_lines printing (codes ".outputs") ports) ++ rest) ≡ None
outputs_fine printing names n [] rest plain further before inside none clocks = no_outputs_fine printing.bare names n rest further before inside none clocks
outputs_fine printing names n (port ∷ ports) rest plain further before inside none clocks =
    let line : Line = record { number = n; words = codes ".outputs" ∷ port ∷ ports } in
    fine_then before line rest (rw (inside.open_, none, ports_once (port ∷ ports) plain) refl) (further (line ∷ before) (kept names before line inside refl refl) clocks)

inputs_fine : (printing : Printing) (names : List Word) (n : ℕ) (ports : List Word) (rest : List Line) → are_plain_ports ports ≡ true
    → ((before : List Line) → Inside names before → ports_before output before ≡ [] → ports_before clocked before ≡ [] → first_fault before rest ≡ None)
    → (before : List Line) → Inside names before → ports_before input before ≡ [] → ports_before output before ≡ [] → ports_before clocked before ≡ []
    → first_fault before (numbered_lines n (open_port_lines printing (codes ".inputs") ports) ++ rest) ≡ None
inputs_fine printing names n [] rest plain further before inside none outputs clocks = no_inputs_fine printing.bare names n rest further before inside none outputs clocks
inputs_fine printing names n (port ∷ ports) rest plain further before inside none outputs clocks =
    let line : Line = record { number = n; words = codes ".inputs" ∷ port ∷ ports } in
    fine_then before line rest (rw (inside.open_, none, ports_once (port ∷ ports) plain) refl) (further (line ∷ before) (kept names before line inside refl refl) outputs clocks)

-- ---- models

-- lines that were numbered together, before others
apart_lines : (n : ℕ) (lines others : List (List Word)) (rest : List Line) → numbered_lines n (lines ++ others) ++ rest ≡ numbered_lines n lines ++ (numbered_lines (n + length lines) others ++ rest)
apart_lines n lines others rest =
    ap (λ (ls : List Line). ls ++ rest) (numbered-append n lines others) ∙ append_assoc (numbered_lines n lines) (numbered_lines (n + length lines) others) rest

body_fine : (printing : Printing) (names : List Word) (n : ℕ) (model : SpelledModel) (rest : List Line) → is_plain_model model ≡ true → IsFineInside names rest
    → (before : List Line) → Inside names before → ports_before input before ≡ [] → ports_before output before ≡ [] → ports_before clocked before ≡ []
    → first_fault before (numbered_lines n (lines_between printing model) ++ rest) ≡ None
body_fine printing names n model rest plain further before inside i o c =
    let is = plain_parts model plain in
    let ins = open_port_lines printing (codes ".inputs") model.inputs in
    let outs = open_port_lines printing (codes ".outputs") model.outputs in
    let clks = port_lines (codes ".clock") model.clocks in
    let items = flat_map (item_lines printing) model.items in
    let m = n + length ins in
    let k = m + length outs in
    let fine : IsFineInside names (numbered_lines (k + length clks) items ++ rest) = items_fine printing names (k + length clks) model.items rest is.items further in
    let NoFault : List Line → List Line → Type 0 = λ b ls. first_fault b ls ≡ None in
    subst (NoFault before) (sym (apart_lines n ins (outs ++ (clks ++ items)) rest))
    (inputs_fine printing names n model.inputs (numbered_lines m (outs ++ (clks ++ items)) ++ rest) is.inputs
    (λ b inside_b o_b c_b. subst (NoFault b) (sym (apart_lines m outs (clks ++ items) rest))
    (outputs_fine printing names m model.outputs (numbered_lines k (clks ++ items) ++ rest) is.outputs
    (λ b' inside_b' c_b'. subst (NoFault b') (sym (apart_lines k clks items rest))
    (clocks_fine names k model.clocks (numbered_lines (k + length clks) items ++ rest) is.clocks fine b' inside_b' c_b'))
    b inside_b o_b c_b))
    before inside i o c)

-- ---- designs

-- the end of a model, behind which its names are all that counts
end_fine : (names : List Word) (number : ℕ) (rest : List Line) → ((before : List Line) → names_of_models before ≡ names → first_fault before rest ≡ None) → IsFineInside names (end_line number ∷ rest)
end_fine names number rest further before inside =
    fine_then before (end_line number) rest (rw inside.open_ refl) (further (end_line number ∷ before) inside.names_)

pub design_fine : (printing : Printing) (names : List Word) (n : ℕ) (design : List SpelledModel) → list_all is_plain_model design ≡ true → repeats names (map (λ model. model.name) design) ≡ false
    → (before : List Line) → names_of_models before ≡ names → first_fault before (numbered_lines n (design_lines printing design)) ≡ None
design_fine printing names n [] plain new before are = refl
design_fine printing names n (model ∷ design) plain new before are =
    let parts = and_parts (is_plain_model model) (list_all is_plain_model design) plain in
    let fresh = or_parts (has_name names model.name) (repeats (names ++ model.name ∷ []) (map (λ (m : SpelledModel). m.name) design)) new in
    let first = model_line n model in
    let body = numbered_lines (n + 1) (lines_between printing model) in
    let last = end_line (n + 1 + length (lines_between printing model)) in
    let next = n + length (model_lines printing model) in
    let rest = numbered_lines next (design_lines printing design) in
    let whole : numbered_lines n (design_lines printing (model ∷ design)) ≡ first ∷ (body ++ last ∷ rest) =
    numbered-append n (model_lines printing model) (design_lines printing design)
    ∙ ap (λ (ls : List Line). ls ++ rest) (model_cut printing n model)
    ∙ ap (λ (ls : List Line). first ∷ ls) (append_assoc body (last ∷ []) rest) in
    let unseen : has_name (names_of_models before) model.name ≡ false = ap (λ (ns : List Word). has_name ns model.name) are ∙ fresh.0 in
    let begun : Inside (names ++ model.name ∷ []) (first ∷ before) = record { open_ = refl; names_ = ap (λ (ns : List Word). ns ++ model.name ∷ []) are } in
    ap (first_fault before) whole
    ∙ fine_then before first (body ++ last ∷ rest) (rw unseen refl)
    (body_fine printing (names ++ model.name ∷ []) (n + 1) model (last ∷ rest) parts.0
    (end_fine (names ++ model.name ∷ []) (n + 1 + length (lines_between printing model)) rest (design_fine printing (names ++ model.name ∷ []) next design parts.1 fresh.1))
    (first ∷ before) begun refl refl refl)
