-- What a model becomes with a `.latch` or a `.subckt` line, and why it refuses one.
use Rattle.std.proofs.Common.{◌≡◌, ◌<◌, ◌≤◌, ℕ, Bool, true, false, ◌||◌, List, [], ◌∷◌, ◌++◌, map, length, Some, append_assoc, ltb, refl, sym, ◌∙◌, ap, ap₂, ◌⊎◌, inl, inr, true≢false}
use Rattle.std.specs.Prelude.{◌==◌}
use Rattle.std.specs.List.{filter_map}
use Rattle.std.proofs.Math.Bool.{or-true}
use Rattle.std.proofs.lemmas.Bool.{lt-ltb, le-ltb}
use Rattle.std.proofs.lemmas.List.{map-append}
use Rattle.vw_design.specs.declared.item.Item.{Item}
use Rattle.vw_text.specs.declared.line.Line.{Line}
use Rattle.vw_design.specs.Paths.{Word}
use Rattle.vw_blif.specs.declared.fault.TextFault.{TextFault}
use Rattle.vw_blif.specs.declared.fault.TextFault.TheVariants.{TooLarge, NoModel, Unsupported, BadWords, BadRow, MixedRows, TooWide, BadLatchType, BadInit, DuplicateModel, DuplicatePort, BadBind, NoMemory}
use Rattle.vw_blif.specs.declared.block.Block.{Block}
use Rattle.vw_blif.specs.declared.kind.Kind.{Kind}
use Rattle.vw_blif.specs.declared.kind.Kind.TheVariants.{Latch, Subckt}
use Rattle.vw_blif.specs.Kinds.{kind, further}
use Rattle.vw_blif.specs.Latches.{latch_of, has_bad_type, has_bad_init}
use Rattle.vw_blif.specs.Spelled.{SpelledItem, spelled_item}
use Rattle.vw_blif.specs.Bindings.{spelled_placing, has_bad_bind}
use Rattle.vw_blif.specs.Designs.{groups, item_of}
use Rattle.vw_blif.specs.Before.{is_open}
use Rattle.vw_blif.specs.Faults.{has_bad_count, when, faults_by, first_of, fault_at}
use Rattle.vw_blif.specs.Steps.FaultAnswers.{Says, SaysLatch, SaysPlace}
use Rattle.vw_blif.specs.Steps.Blocks.{table_items, items_so_far, ClosesTable, HasItem, TakesLine}

-- the faults that such a line can have in a model
latch_faults : (k : Kind) (before : List Line) (line : Line) → k ≡ Latch → is_open before ≡ true → faults_by k before line
    ≡ when (has_bad_count Latch (length (further line))) (BadWords line.number) ++ (when (has_bad_type (further line)) (BadLatchType line.number) ++ (when (has_bad_init (further line)) (BadInit line.number) ++ []))
latch_faults k before line is open_ = rw (is, open_) refl

place_faults : (k : Kind) (before : List Line) (line : Line) → k ≡ Subckt → is_open before ≡ true → faults_by k before line
    ≡ when (has_bad_count Subckt (length (further line))) (BadWords line.number) ++ when (has_bad_bind (further line)) (BadBind line.number)
place_faults k before line is open_ = rw (is, open_) refl

few_or_many : (n : ℕ) → ◌⊎◌ (n < 2) ((2 ≤ n) × (5 < n)) → has_bad_count Latch n ≡ true
few_or_many n (inl few) = ap (λ (b : Bool). b || ltb 5 n) (lt-ltb n 2 few)
few_or_many n (inr many) = ap (λ (b : Bool). ltb n 2 || b) (lt-ltb 5 n many.1) ∙ or-true (ltb n 2)

right_count : (n : ℕ) → 2 ≤ n → n ≤ 5 → has_bad_count Latch n ≡ false
right_count n some few = ap₂ (λ (b c : Bool). b || c) (le-ltb n 2 some) (le-ltb 5 n few)

module _ (line : Line) (words : List Word) (same : words ≡ further line) (before : List Line) (open_ : is_open before ≡ true) where
  pub latch_miscounted : kind line ≡ Latch → ◌⊎◌ (length words < 2) ((2 ≤ length words) × (5 < length words)) → fault_at before line ≡ Some (BadWords line.number)
  latch_miscounted is count =
      ap first_of (latch_faults (kind line) before line is open_) ∙ rw (ap (λ (ws : List Word). has_bad_count Latch (length ws)) (sym same) ∙ few_or_many (length words) count) refl

  pub latch_refused : kind line ≡ Latch → 2 ≤ length words → length words ≤ 5 → (fault : TextFault) → SaysLatch line.number words fault → Says fault (fault_at before line)
  latch_refused is some few fault says = by_fault fault (rw same at says)
    where
      count_is_right : has_bad_count Latch (length (further line)) ≡ false
      count_is_right = ap (λ (ws : List Word). has_bad_count Latch (length ws)) (sym same) ∙ right_count (length words) some few

      by_fault : (fault : TextFault) → SaysLatch line.number (further line) fault → Says fault (fault_at before line)
      by_fault TooLarge says = absurd says
      by_fault (NoModel at) says = absurd says
      by_fault (Unsupported at word) says = absurd says
      by_fault (BadWords at) says = absurd says
      by_fault (BadRow at) says = absurd says
      by_fault (MixedRows at) says = absurd says
      by_fault (TooWide at) says = absurd says
      by_fault (BadLatchType at) says = λ told. ap first_of (latch_faults (kind line) before line is open_) ∙ rw (count_is_right, says.1, says.0) refl
      by_fault (BadInit at) says = λ told. ap first_of (latch_faults (kind line) before line is open_) ∙ rw (count_is_right, says.1, says.2, says.0) refl
      by_fault (DuplicateModel at) says = absurd says
      by_fault (DuplicatePort at) says = absurd says
      by_fault (BadBind at) says = absurd says
      by_fault NoMemory says = λ told. absurd (true≢false (sym told))

  pub place_miscounted : kind line ≡ Subckt → true ≡ (length words == 0) → fault_at before line ≡ Some (BadWords line.number)
  place_miscounted is none =
      ap first_of (place_faults (kind line) before line is open_) ∙ rw (ap (λ (ws : List Word). has_bad_count Subckt (length ws)) (sym same) ∙ sym none) refl

  pub place_refused : kind line ≡ Subckt → false ≡ (length words == 0) → (fault : TextFault) → SaysPlace line.number words fault → Says fault (fault_at before line)
  place_refused is some fault says = by_fault fault (rw same at says)
    where
      count_is_right : has_bad_count Subckt (length (further line)) ≡ false
      count_is_right = ap (λ (ws : List Word). has_bad_count Subckt (length ws)) (sym same) ∙ sym some

      by_fault : (fault : TextFault) → SaysPlace line.number (further line) fault → Says fault (fault_at before line)
      by_fault TooLarge says = absurd says
      by_fault (NoModel at) says = absurd says
      by_fault (Unsupported at word) says = absurd says
      by_fault (BadWords at) says = absurd says
      by_fault (BadRow at) says = absurd says
      by_fault (MixedRows at) says = absurd says
      by_fault (TooWide at) says = absurd says
      by_fault (BadLatchType at) says = absurd says
      by_fault (BadInit at) says = absurd says
      by_fault (DuplicateModel at) says = absurd says
      by_fault (DuplicatePort at) says = absurd says
      by_fault (BadBind at) says = λ told. ap first_of (place_faults (kind line) before line is open_) ∙ rw (count_is_right, says.1, says.0) refl
      by_fault NoMemory says = λ told. absurd (true≢false (sym told))

-- an item behind those of a model whose open table came to them
pub items_more : (old mid : Block) (items : List Item) (item : Item) → ClosesTable old mid → items ≡ mid.items.items ++ item ∷ []
    → map spelled_item items ≡ items_so_far old ++ spelled_item item ∷ []
items_more old mid items item closes more =
    ap (λ (is : List Item). map spelled_item is) more ∙ map-append spelled_item mid.items.items (item ∷ []) ∙ ap (λ (is : List SpelledItem). is ++ spelled_item item ∷ []) closes.items

put_behind : (items table_ more : List SpelledItem) (item : SpelledItem) → ((items ++ table_) ++ item ∷ []) ++ more ≡ items ++ (table_ ++ item ∷ more)
put_behind items table_ more item = simp append_assoc

module _ (old new : Block) (item : Item) (line : Line) (has : HasItem old item new) where
  items_and_more : (more : List SpelledItem) → map spelled_item new.items.items ++ more ≡ map spelled_item old.items.items ++ (table_items old.table [] ++ spelled_item item ∷ more)
  items_and_more more = ap (λ (is : List SpelledItem). is ++ more) has.items ∙ put_behind (map spelled_item old.items.items) (table_items old.table []) more (spelled_item item)

  pub latch_taken : kind line ≡ Latch → 2 ≤ length (further line) → length (further line) ≤ 5 → spelled_item item ≡ latch_of line.number (further line)
      → has_bad_type (further line) ≡ false → has_bad_init (further line) ≡ false → TakesLine old line new
  latch_taken is some few spells type_ init = record {
    stays = λ before told. record {
      open_ = rw is told.open_;
      table_ = rw (is, has.table_) refl;
      inputs = rw (is, has.ports.inputs) told.inputs;
      outputs = rw (is, has.ports.outputs) told.outputs;
      clocks = rw (is, has.ports.clocks) told.clocks;
    };
    fine = λ before told. ap first_of (latch_faults (kind line) before line is told.open_) ∙ rw (right_count (length (further line)) some few, type_, init) refl;
    makes = λ rest. rw (is, is, is, has.ports.name, has.ports.inputs, has.ports.outputs, has.ports.clocks, has.table_, items_and_more (filter_map item_of (groups rest).parts), spells) refl;
    name = has.ports.name;
  }

  pub place_taken : kind line ≡ Subckt → false ≡ (length (further line) == 0) → spelled_item item ≡ spelled_placing line.number (further line) → has_bad_bind (further line) ≡ false
      → TakesLine old line new
  place_taken is some spells binds = record {
    stays = λ before told. record {
      open_ = rw is told.open_;
      table_ = rw (is, has.table_) refl;
      inputs = rw (is, has.ports.inputs) told.inputs;
      outputs = rw (is, has.ports.outputs) told.outputs;
      clocks = rw (is, has.ports.clocks) told.clocks;
    };
    fine = λ before told. ap first_of (place_faults (kind line) before line is told.open_) ∙ rw (sym some, binds) refl;
    makes = λ rest. rw (is, is, is, has.ports.name, has.ports.inputs, has.ports.outputs, has.ports.clocks, has.table_, items_and_more (filter_map item_of (groups rest).parts), spells) refl;
    name = has.ports.name;
  }
