-- A printed design is cut into its models, and a printed model into its ports and items.
use Rattle.std.proofs.Common.{◌≡◌, ℕ, ◌+◌, Bool, true, false, ◌||◌, List, [], ◌∷◌, ◌++◌, length, map, Option, Some, eqb, refl, sym, ◌∙◌, ap, ap₂, subst, append_assoc, append-nil, length-append, eqb-true, if◌then◌else◌, arith}
use Rattle.std.specs.Prelude.{codes}
use Rattle.std.specs.List.{list_any, list_all, flat_map, filter_map, cons_option}
use Rattle.std.proofs.lemmas.Bool.{and_parts, or_parts}
use Rattle.std.proofs.lemmas.List.Folds.{list_any-append}
use Rattle.vw_design.specs.Distinct.{are_distinct}
use Rattle.vw_text.specs.declared.line.Line.{Line}
use Rattle.vw_text.specs.PlainLines.{is_plain, numbered_lines}
use Rattle.vw_design.specs.Paths.{Word}
use Rattle.vw_blif.specs.Kinds.{kind, is_model, is_end, input, output, clocked}
use Rattle.vw_blif.specs.Spelled.{Binding, SpelledItem, table, latch, place, SpelledModel}
use Rattle.vw_blif.specs.CutLists.{Part, CutList, with_element, cut_before, until}
use Rattle.vw_blif.specs.Designs.{item_of, ports_of, model_by, model_of, blocks, spelled_models}
use Rattle.vw_blif.specs.Printed.{Printing, latch_words, bind_word, item_lines, port_lines, bare_lines, open_port_lines, head_lines, model_lines, design_lines}
use Rattle.vw_blif.specs.PlainDesigns.{is_plain_bind, is_plain_item, can_stand_beside, is_plain_model, line_of, have_line_numbers, have_numbers}
use Rattle.vw_blif.proofs.CutLines.{cut_front}
use Rattle.vw_blif.proofs.PrintedWords.{plain_parts}
use Rattle.vw_blif.proofs.PrintedGroups.{numbered-append, begins_group, ends_model, rows_at, rows_begin_none, rows_stay, table_back, latch_back, binds_back}

-- a line that begins a part, others that don't, and lines that begin with a part
part_cut : (begins : Line → Bool) (line : Line) (tail rest : List Line) → begins line ≡ true → list_any begins tail ≡ false → (cut_before begins rest).before ≡ []
    → cut_before begins (line ∷ (tail ++ rest)) ≡ record { before = []; parts = record { head = line; tail = tail } ∷ (cut_before begins rest).parts }
part_cut begins line tail rest is none fresh =
    let cut = cut_before begins rest in
    ap₂ (λ (test : Bool) (c : CutList Line). with_element test line c) is (cut_front begins tail rest none)
    ∙ ap (λ (ls : List Line). record { before = []; parts = record { head = line; tail = ls } ∷ cut.parts })
    (ap (λ (ls : List Line). tail ++ ls) fresh ∙ append-nil tail)

-- ---- groups

-- what groups add, where no row stands before them
record Adds (lines : List Line) (inputs outputs clocks : List Word) (items : List SpelledItem) : Type 0 where
  before : (cut_before begins_group lines).before ≡ []
  inputs_ : flat_map (ports_of input) (cut_before begins_group lines).parts ≡ inputs
  outputs_ : flat_map (ports_of output) (cut_before begins_group lines).parts ≡ outputs
  clocks_ : flat_map (ports_of clocked) (cut_before begins_group lines).parts ≡ clocks
  items_ : filter_map item_of (cut_before begins_group lines).parts ≡ items
  stay : list_any ends_model lines ≡ false

no_line : Adds [] [] [] [] []
no_line = record { before = refl; inputs_ = refl; outputs_ = refl; clocks_ = refl; items_ = refl; stay = refl }

-- a group of a line and rows before others
group_first : (line : Line) (rows rest : List Line) (inputs outputs clocks : List Word) (items : List SpelledItem) → begins_group line ≡ true → ends_model line ≡ false
    → list_any begins_group rows ≡ false → list_any ends_model rows ≡ false → Adds rest inputs outputs clocks items
    → Adds (line ∷ (rows ++ rest)) (ports_of input (record { head = line; tail = rows }) ++ inputs) (ports_of output (record { head = line; tail = rows }) ++ outputs)
    (ports_of clocked (record { head = line; tail = rows }) ++ clocks) (cons_option (item_of (record { head = line; tail = rows })) items)
group_first line rows rest inputs outputs clocks items begins stays none stay adds =
    let part : Part Line = record { head = line; tail = rows } in
    let cut = part_cut begins_group line rows rest begins none adds.before in
    record {
      before = ap (λ (c : CutList Line). c.before) cut;
      inputs_ = ap (λ (c : CutList Line). flat_map (ports_of input) c.parts) cut ∙ ap (λ (ws : List Word). ports_of input part ++ ws) adds.inputs_;
      outputs_ = ap (λ (c : CutList Line). flat_map (ports_of output) c.parts) cut ∙ ap (λ (ws : List Word). ports_of output part ++ ws) adds.outputs_;
      clocks_ = ap (λ (c : CutList Line). flat_map (ports_of clocked) c.parts) cut ∙ ap (λ (ws : List Word). ports_of clocked part ++ ws) adds.clocks_;
      items_ = ap (λ (c : CutList Line). filter_map item_of c.parts) cut ∙ ap (λ (is : List SpelledItem). cons_option (item_of part) is) adds.items_;
      stay = ap₂ (λ (a b : Bool). a || b) stays (list_any-append ends_model rows rest ∙ ap₂ (λ (a b : Bool). a || b) stay adds.stay);
    }

-- ---- items

-- the lines of an item, and then those of the others
pub item_first : (printing : Printing) (n : ℕ) (item : SpelledItem) (items : List SpelledItem)
    → numbered_lines n (flat_map (item_lines printing) (item ∷ items)) ≡ numbered_lines n (item_lines printing item) ++ numbered_lines (n + length (item_lines printing item)) (flat_map (item_lines printing) items)
item_first printing n item items = numbered-append n (item_lines printing item) (flat_map (item_lines printing) items)

with_item : (lines : List Line) (items : List SpelledItem) (found : Option SpelledItem) (item : SpelledItem) → found ≡ Some item → Adds lines [] [] [] (cons_option found items) → Adds lines [] [] [] (item ∷ items)
with_item lines items found item is adds = record {
  before = adds.before;
  inputs_ = adds.inputs_;
  outputs_ = adds.outputs_;
  clocks_ = adds.clocks_;
  items_ = adds.items_ ∙ ap (λ (o : Option SpelledItem). cons_option o items) is;
  stay = adds.stay;
}

one_item : (printing : Printing) (n : ℕ) (item : SpelledItem) (rest : List Line) (items : List SpelledItem) → is_plain_item item ≡ true → line_of item ≡ n → Adds rest [] [] [] items
    → Adds (numbered_lines n (item_lines printing item) ++ rest) [] [] [] (item ∷ items)
one_item printing n (table line ins out on rows) rest items plain at adds =
    let first : Line = record { number = n; words = codes ".names" ∷ (ins ++ out ∷ []) } in
    with_item (first ∷ (rows_at (n + 1) on rows ++ rest)) items (item_of (record { head = first; tail = rows_at (n + 1) on rows })) (table line ins out on rows)
    (ap (λ (i : SpelledItem). Some i) (table_back n line ins out on rows at plain))
    (group_first first (rows_at (n + 1) on rows) rest [] [] [] items refl refl (rows_begin_none (n + 1) on rows) (rows_stay (n + 1) on rows) adds)
one_item printing n (latch line d q edge control init) rest items plain at adds =
    let first : Line = record { number = n; words = codes ".latch" ∷ d ∷ q ∷ latch_words printing edge control init } in
    let beside = (and_parts (is_plain q) (can_stand_beside edge control) (and_parts (is_plain d) _ plain).1).1 in
    with_item (first ∷ rest) items (item_of (record { head = first; tail = [] })) (latch line d q edge control init)
    (latch_back printing n line d q edge control init at beside)
    (group_first first [] rest [] [] [] items refl refl refl refl adds)
one_item printing n (place line model binds) rest items plain at adds =
    let first : Line = record { number = n; words = codes ".subckt" ∷ model ∷ map bind_word binds } in
    let all = (and_parts (list_all is_plain_bind binds) (are_distinct (map (λ (b : Binding). b.formal) binds)) (and_parts (is_plain model) _ plain).1).0 in
    with_item (first ∷ rest) items (item_of (record { head = first; tail = [] })) (place line model binds)
    (ap₂ (λ (m : ℕ) (bs : List Binding). Some (place m model bs)) (sym at) (binds_back binds all))
    (group_first first [] rest [] [] [] items refl refl refl refl adds)

all_items : (printing : Printing) (n : ℕ) (items : List SpelledItem) → list_all is_plain_item items ≡ true → have_line_numbers printing n items ≡ true → Adds (numbered_lines n (flat_map (item_lines printing) items)) [] [] [] items
all_items printing n [] plain at = no_line
all_items printing n (item ∷ items) plain at =
    let parts = and_parts (is_plain_item item) (list_all is_plain_item items) plain in
    let numbers = and_parts (eqb (line_of item) n) (have_line_numbers printing (n + length (item_lines printing item)) items) at in
    let rest = all_items printing (n + length (item_lines printing item)) items parts.1 numbers.1 in
    let P : List Line → Type 0 = λ ls. Adds ls [] [] [] (item ∷ items) in
    subst P (sym (item_first printing n item items)) (one_item printing n item (numbered_lines (n + length (item_lines printing item)) (flat_map (item_lines printing) items)) items parts.0 (eqb-true (line_of item) n numbers.0) rest)

-- ---- ports

-- what stands for a list without ports adds none
no_inputs : (bare : Bool) (n : ℕ) (outputs clocks : List Word) (items : List SpelledItem) (rest : List Line) → Adds rest [] outputs clocks items
    → Adds (numbered_lines n (bare_lines bare (codes ".inputs")) ++ rest) [] outputs clocks items
no_inputs false n outputs clocks items rest adds = adds
no_inputs true n outputs clocks items rest adds =
    group_first (record { number = n; words = codes ".inputs" ∷ [] }) [] rest [] outputs clocks items refl refl refl refl adds

no_outputs : (bare : Bool) (n : ℕ) (clocks : List Word) (items : List SpelledItem) (rest : List Line) → Adds rest [] [] clocks items
    → Adds (numbered_lines n (bare_lines bare (codes ".outputs")) ++ rest) [] [] clocks items
no_outputs false n clocks items rest adds = adds
no_outputs true n clocks items rest adds =
    group_first (record { number = n; words = codes ".outputs" ∷ [] }) [] rest [] [] clocks items refl refl refl refl adds

-- the lines of a list of ports before others
inputs_first : (printing : Printing) (n : ℕ) (ports outputs clocks : List Word) (items : List SpelledItem) (rest : List Line) → Adds rest [] outputs clocks items
    → Adds (numbered_lines n (open_port_lines printing (codes ".inputs") ports) ++ rest) ports outputs clocks items
inputs_first printing n [] outputs clocks items rest adds = no_inputs printing.bare n outputs clocks items rest adds
inputs_first printing n (port ∷ ports) outputs clocks items rest adds =
    let line : Line = record { number = n; words = codes ".inputs" ∷ port ∷ ports } in
    let P : List Word → Type 0 = λ ws. Adds (line ∷ rest) ws outputs clocks items in
    subst P (append-nil (port ∷ ports)) (group_first line [] rest [] outputs clocks items refl refl refl refl adds)

outputs_first : (printing : Printing) (n : ℕ) (ports clocks : List Word) (items : List SpelledItem) (rest : List Line) → Adds rest [] [] clocks items
    → Adds (numbered_lines n (open_port_lines printing (codes ".outputs") ports) ++ rest) [] ports clocks items
outputs_first printing n [] clocks items rest adds = no_outputs printing.bare n clocks items rest adds
outputs_first printing n (port ∷ ports) clocks items rest adds =
    let line : Line = record { number = n; words = codes ".outputs" ∷ port ∷ ports } in
    let P : List Word → Type 0 = λ ws. Adds (line ∷ rest) [] ws clocks items in
    subst P (append-nil (port ∷ ports)) (group_first line [] rest [] [] clocks items refl refl refl refl adds)

clocks_first : (n : ℕ) (ports : List Word) (items : List SpelledItem) (rest : List Line) → Adds rest [] [] [] items
    → Adds (numbered_lines n (port_lines (codes ".clock") ports) ++ rest) [] [] ports items
clocks_first n [] items rest adds = adds
clocks_first n (port ∷ ports) items rest adds =
    let line : Line = record { number = n; words = codes ".clock" ∷ port ∷ ports } in
    let P : List Word → Type 0 = λ ws. Adds (line ∷ rest) [] [] ws items in
    subst P (append-nil (port ∷ ports)) (group_first line [] rest [] [] [] items refl refl refl refl adds)

-- ---- models

-- the lines of a model between its first and its `.end`
abbrev pub lines_between : Printing → SpelledModel → List (List Word)
lines_between printing model =
    open_port_lines printing (codes ".inputs") model.inputs ++ (open_port_lines printing (codes ".outputs") model.outputs
    ++ (port_lines (codes ".clock") model.clocks ++ flat_map (item_lines printing) model.items))

body_adds : (printing : Printing) (n : ℕ) (model : SpelledModel) → is_plain_model model ≡ true → have_line_numbers printing (n + length (head_lines printing model)) model.items ≡ true
    → Adds (numbered_lines (n + 1) (lines_between printing model)) model.inputs model.outputs model.clocks model.items
body_adds printing n model plain at =
    let a = open_port_lines printing (codes ".inputs") model.inputs in
    let b = open_port_lines printing (codes ".outputs") model.outputs in
    let c = port_lines (codes ".clock") model.clocks in
    let i = flat_map (item_lines printing) model.items in
    let m = n + 1 + length a + length b + length c in
    let long = length-append a (b ++ c) in
    let longer = length-append b c in
    let same : n + length (head_lines printing model) ≡ m = omega (long, longer, arith) in
    let numbers : have_line_numbers printing m model.items ≡ true = ap (λ k. have_line_numbers printing k model.items) (sym same) ∙ at in
    let A : List Line → Type 0 = λ ls. Adds ls [] [] model.clocks model.items in
    let B : List Line → Type 0 = λ ls. Adds ls [] model.outputs model.clocks model.items in
    let C : List Line → Type 0 = λ ls. Adds ls model.inputs model.outputs model.clocks model.items in
    let items = all_items printing m model.items (plain_parts model plain).items numbers in
    let clocks = subst A (sym (numbered-append (n + 1 + length a + length b) c i)) (clocks_first (n + 1 + length a + length b) model.clocks model.items (numbered_lines m i) items) in
    let outputs = subst B (sym (numbered-append (n + 1 + length a) b (c ++ i))) (outputs_first printing (n + 1 + length a) model.outputs model.clocks model.items (numbered_lines (n + 1 + length a + length b) (c ++ i)) clocks) in
    subst C (sym (numbered-append (n + 1) a (b ++ (c ++ i)))) (inputs_first printing (n + 1) model.inputs model.outputs model.clocks model.items (numbered_lines (n + 1 + length a) (b ++ (c ++ i))) outputs)

abbrev pub model_line : ℕ → SpelledModel → Line
model_line n model = record { number = n; words = codes ".model" ∷ model.name ∷ [] }

abbrev pub end_line : ℕ → Line
end_line n = record { number = n; words = codes ".end" ∷ [] }

end_last : (a b c d e : List (List Word)) → (a ++ (b ++ c)) ++ (d ++ e) ≡ (a ++ (b ++ (c ++ d))) ++ e
end_last a b c d e = simp append_assoc

-- the first line of a model, its body, and its `.end`
pub model_cut : (printing : Printing) (n : ℕ) (model : SpelledModel)
    → numbered_lines n (model_lines printing model) ≡ model_line n model ∷ (numbered_lines (n + 1) (lines_between printing model) ++ end_line (n + 1 + length (lines_between printing model)) ∷ [])
model_cut printing n model =
    ap (λ (ls : List (List Word)). model_line n model ∷ numbered_lines (n + 1) ls)
    (end_last (open_port_lines printing (codes ".inputs") model.inputs) (open_port_lines printing (codes ".outputs") model.outputs) (port_lines (codes ".clock") model.clocks) (flat_map (item_lines printing) model.items) ((codes ".end" ∷ []) ∷ []))
    ∙ ap (λ (ls : List Line). model_line n model ∷ ls) (numbered-append (n + 1) (lines_between printing model) ((codes ".end" ∷ []) ∷ []))

-- lines none of which leaves the model, in parts
neither : (lines : List Line) → list_any ends_model lines ≡ false → (list_any (λ line. is_model (kind line)) lines ≡ false) × (list_any (λ line. is_end (kind line)) lines ≡ false)
neither [] stay = (refl, refl)
neither (line ∷ lines) stay =
    let parts = or_parts (ends_model line) (list_any ends_model lines) stay in
    let here = or_parts (is_model (kind line)) (is_end (kind line)) parts.0 in
    let there = neither lines parts.1 in
    (ap₂ (λ (a b : Bool). a || b) here.0 there.0, ap₂ (λ (a b : Bool). a || b) here.1 there.1)

until_end : (ends : Line → Bool) (lines : List Line) (last : Line) → list_any ends lines ≡ false → ends last ≡ true → until ends (lines ++ last ∷ []) ≡ lines
until_end ends [] last none is = ap (λ (b : Bool). if b then [] else last ∷ []) is
until_end ends (line ∷ lines) last none is =
    let parts = or_parts (ends line) (list_any ends lines) none in
    ap₂ (λ (b : Bool) (ls : List Line). if b then [] else line ∷ ls) parts.0 (until_end ends lines last parts.1 is)

same_model : (a b : SpelledModel) → a.name ≡ b.name → a.inputs ≡ b.inputs → a.outputs ≡ b.outputs → a.clocks ≡ b.clocks → a.items ≡ b.items → a ≡ b
same_model a b name inputs outputs clocks items =
    ap (λ (w : Word). record { name = w; inputs = a.inputs; outputs = a.outputs; clocks = a.clocks; items = a.items }) name
    ∙ ap (λ (ws : List Word). record { name = b.name; inputs = ws; outputs = a.outputs; clocks = a.clocks; items = a.items }) inputs
    ∙ ap (λ (ws : List Word). record { name = b.name; inputs = b.inputs; outputs = ws; clocks = a.clocks; items = a.items }) outputs
    ∙ ap (λ (ws : List Word). record { name = b.name; inputs = b.inputs; outputs = b.outputs; clocks = ws; items = a.items }) clocks
    ∙ ap (λ (is : List SpelledItem). record { name = b.name; inputs = b.inputs; outputs = b.outputs; clocks = b.clocks; items = is }) items

model_back : (n : ℕ) (model : SpelledModel) (body : List Line) (last : Line) → is_end (kind last) ≡ true → Adds body model.inputs model.outputs model.clocks model.items
    → model_of (record { head = model_line n model; tail = body ++ last ∷ [] }) ≡ model
model_back n model body last is adds =
    ap (λ (ls : List Line). model_by model.name ((cut_before begins_group ls).parts)) (until_end (λ line. is_end (kind line)) body last (neither body adds.stay).1 is)
    ∙ same_model (model_by model.name ((cut_before begins_group body).parts)) model refl adds.inputs_ adds.outputs_ adds.clocks_ adds.items_

-- ---- designs

record AreModels (lines : List Line) (design : List SpelledModel) : Type 0 where
  before : (blocks lines).before ≡ []
  models : map model_of (blocks lines).parts ≡ design

model_first : (printing : Printing) (n : ℕ) (model : SpelledModel) (rest : List Line) (design : List SpelledModel) → is_plain_model model ≡ true → have_line_numbers printing (n + length (head_lines printing model)) model.items ≡ true
    → AreModels rest design → AreModels (numbered_lines n (model_lines printing model) ++ rest) (model ∷ design)
model_first printing n model rest design plain at are =
    let first = model_line n model in
    let body = numbered_lines (n + 1) (lines_between printing model) in
    let last = end_line (n + 1 + length (lines_between printing model)) in
    let adds = body_adds printing n model plain at in
    let none : list_any (λ line. is_model (kind line)) (body ++ last ∷ []) ≡ false =
    list_any-append (λ line. is_model (kind line)) body (last ∷ []) ∙ ap (λ (b : Bool). b || false) (neither body adds.stay).0 in
    let cut = ap (λ (ls : List Line). blocks (ls ++ rest)) (model_cut printing n model) ∙ part_cut (λ line. is_model (kind line)) first (body ++ last ∷ []) rest refl none are.before in
    record {
      before = ap (λ (c : CutList Line). c.before) cut;
      models = ap (λ (c : CutList Line). map model_of c.parts) cut ∙ ap₂ (λ (m : SpelledModel) (ms : List SpelledModel). m ∷ ms) (model_back n model body last refl adds) are.models;
    }

all_models : (printing : Printing) (n : ℕ) (design : List SpelledModel) → list_all is_plain_model design ≡ true → have_numbers printing n design ≡ true → AreModels (numbered_lines n (design_lines printing design)) design
all_models printing n [] plain at = record { before = refl; models = refl }
all_models printing n (model ∷ design) plain at =
    let parts = and_parts (is_plain_model model) (list_all is_plain_model design) plain in
    let numbers = and_parts (have_line_numbers printing (n + length (head_lines printing model)) model.items) (have_numbers printing (n + length (model_lines printing model)) design) at in
    let rest = all_models printing (n + length (model_lines printing model)) design parts.1 numbers.1 in
    let P : List Line → Type 0 = λ ls. AreModels ls (model ∷ design) in
    subst P (sym (numbered-append n (model_lines printing model) (design_lines printing design)))
    (model_first printing n model (numbered_lines (n + length (model_lines printing model)) (design_lines printing design)) design parts.0 numbers.0 rest)

-- a design is what its printed lines spell
pub spelled_back : (printing : Printing) (n : ℕ) (design : List SpelledModel) → list_all is_plain_model design ≡ true → have_numbers printing n design ≡ true → spelled_models (numbered_lines n (design_lines printing design)) ≡ design
spelled_back printing n design plain at = (all_models printing n design plain at).models
