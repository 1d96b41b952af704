-- What a design becomes with one line more.
use Rattle.std.proofs.Common.{◌≡◌, ◌<◌, ◌≤◌, Bool, true, false, not, ◌||◌, List, [], ◌∷◌, ◌++◌, length, map, get_or, Option, Some, None, is_some, refl, sym, ◌∙◌, ap, ap₂, subst, append_assoc, append-nil, length-append, ne_eqb, true≢false, arith}
use Rattle.std.specs.Prelude.{◌==◌}
use Rattle.std.specs.Str.{bytes_eq}
use Rattle.std.proofs.Math.Bool.{or_comm}
use Rattle.vw_text.specs.declared.line.Line.{Line}
use Rattle.vw_design.specs.declared.model.Model as model
use Rattle.vw_design.specs.Distinct.{has_name}
use Rattle.vw_blif.specs.declared.fault.TextFault.{TextFault}
use Rattle.vw_blif.specs.declared.fault.TextFault.TheVariants.{NoModel, BadWords, DuplicateModel}
use Rattle.vw_blif.specs.declared.block.Block.{Block}
use Rattle.vw_blif.specs.declared.reader.Reader.{Reader}
use Rattle.vw_blif.specs.declared.kind.Kind.{Kind}
use Rattle.vw_blif.specs.declared.kind.Kind.TheVariants.{Model, Inputs, Outputs, Clock, Names, Latch, Subckt, End, Other, Row}
use Rattle.vw_blif.specs.Words.{first_word}
use Rattle.vw_design.specs.Paths.{Word}
use Rattle.vw_blif.specs.Kinds.{kind, further, is_model, is_end, input, output, clocked}
use Rattle.vw_blif.specs.Spelled.{SpelledModel, spelled_model}
use Rattle.vw_blif.specs.Designs.{blocks, model_of}
use Rattle.vw_blif.specs.Before.{is_open, open_behind, names_behind, names_of_models, table_behind, open_table, ports_behind, ports_before}
use Rattle.vw_blif.specs.Faults.{when, faults_by, first_of, fault_at}
use Rattle.vw_blif.specs.Steps.Names.{opened, names_so_far}
use Rattle.vw_blif.specs.Steps.Blocks.{block_made, IsAsBefore, TakesLine, RefusesInModel, IsNew}
use Rattle.vw_blif.specs.Steps.Readers.{models_with, models_made, HasOpenSaid, HasAllSaid, EndsModel, ReadsLine, RefusesLine}
use Rattle.vw_blif.proofs.Repeats.{has_name-push}

-- a line of the open model

pub is_no_model : (k : Kind) → (k ≡ Model → ⊥) → is_model k ≡ false
is_no_model Model other = absurd (other refl)
is_no_model Inputs other = refl
is_no_model Outputs other = refl
is_no_model Clock other = refl
is_no_model Names other = refl
is_no_model Latch other = refl
is_no_model Subckt other = refl
is_no_model End other = refl
is_no_model Other other = refl
is_no_model Row other = refl

same_names : (k : Kind) (line : Line) (names : List Word) → is_model k ≡ false → names_behind k line names ≡ names
same_names Model line names other = absurd (true≢false other)
same_names Inputs line names other = refl
same_names Outputs line names other = refl
same_names Clock line names other = refl
same_names Names line names other = refl
same_names Latch line names other = refl
same_names Subckt line names other = refl
same_names End line names other = refl
same_names Other line names other = refl
same_names Row line names other = refl

module _ (old new : Reader) (line : Line) (b taken : Block) (was : opened old.block ≡ Some b) (is : opened new.block ≡ Some taken) (same : new.models ≡ old.models)
    (other : is_model (kind line) ≡ false) (takes : TakesLine b line taken) where
  names_taken : names_so_far new.models.items (opened new.block) ≡ names_so_far old.models.items (opened old.block)
  names_taken = rw (same, was, is, takes.name) refl

  told_block : (before : List Line) → HasAllSaid before old → IsAsBefore before b
  told_block before told = subst (λ (o : Option Block). HasOpenSaid before o) was told.block

  pub line_taken : ReadsLine old line new
  line_taken = record {
    stays = λ before told.
        let next = takes.stays before (told_block before told) in
        record {
          open_ = next.open_ ∙ sym (ap is_some is);
          names = same_names (kind line) line (names_of_models before) other ∙ told.names ∙ sym names_taken;
          block = subst (λ (o : Option Block). HasOpenSaid (line ∷ before) o) (sym is) next;
        };
    fine = λ before told. takes.fine before (told_block before told);
    makes = λ rest. rw (same, was, is, other, takes.makes (blocks rest).before) refl;
    count = omega (ap (λ (names : List Word). length names) names_taken, arith);
  }

-- a line that the open model refuses
pub line_refused : (old : Reader) (line : Line) (b : Block) (fault : TextFault) → opened old.block ≡ Some b → RefusesInModel b line fault → RefusesLine old line fault
line_refused old line b fault was refuses = λ before told. refuses before (subst (λ (o : Option Block). HasOpenSaid before o) was told.block)

-- a `.end` line

end_faults : (k : Kind) (before : List Line) (line : Line) → k ≡ End → faults_by k before line ≡ when (not (is_open before)) (NoModel line.number) ++ []
end_faults k before line is = rw is refl

-- a model whose lines come to its end
made_end : (b : Block) (line : Line) (lines : List Line) → kind line ≡ End → block_made b (line ∷ lines) ≡ block_made b []
made_end b line lines is = rw (ap is_end is) refl

pub model_ended : (old ended new : Reader) (line : Line) (b : Block) → opened old.block ≡ Some b → ended.models ≡ old.models → opened ended.block ≡ Some b → kind line ≡ End → EndsModel ended new
    → ReadsLine old line new
model_ended old ended new line b was same is is_end_ ends =
    let other : is_model (kind line) ≡ false = ap is_model is_end_ in
    let names : names_so_far new.models.items (opened new.block) ≡ names_so_far old.models.items (opened old.block) = ends.names ∙ rw (same, is, was) refl in
    record {
      stays = λ before told. record {
        open_ = ap (λ (k : Kind). open_behind k (is_open before)) is_end_ ∙ sym (ap is_some ends.block);
        names = same_names (kind line) line (names_of_models before) other ∙ told.names ∙ sym names;
        block = subst (λ (o : Option Block). HasOpenSaid (line ∷ before) o) (sym ends.block) tt;
      };
      fine = λ before told.
          ap first_of (end_faults (kind line) before line is_end_)
          ∙ ap (λ (open_ : Bool). first_of (when (not open_) (NoModel line.number) ++ [])) (told.open_ ∙ ap is_some was);
      makes = λ rest.
          let made : map spelled_model new.models.items ≡ map spelled_model old.models.items ++ block_made b [] ∷ [] = ends.made ∙ rw (same, is) refl in
          rw (ends.block, made, was, other, made_end b line (blocks rest).before is_end_)
          (append_assoc (map spelled_model old.models.items) (block_made b [] ∷ []) (map model_of (blocks rest).parts));
      count = omega (ap (λ (ns : List Word). length ns) names, arith);
    }

-- a `.model` line

-- the faults that it can have
model_faults : (k : Kind) (before : List Line) (line : Line) → k ≡ Model
    → faults_by k before line ≡ when (not (length (further line) == 1)) (BadWords line.number) ++ (when (has_name (names_of_models before) (first_word (further line))) (DuplicateModel line.number) ++ [])
model_faults k before line is = rw is refl

pub wrong_count : (line : Line) → kind line ≡ Model → (length (further line) ≡ 1 → ⊥) → (before : List Line) → fault_at before line ≡ Some (BadWords line.number)
wrong_count line is other before =
    ap first_of (model_faults (kind line) before line is)
    ∙ ap (λ (b : Bool). first_of (when (not b) (BadWords line.number) ++ (when (has_name (names_of_models before) (first_word (further line))) (DuplicateModel line.number) ++ []))) (ne_eqb (length (further line)) 1 other)

pub one_word : (words : List Word) (word : Word) → 1 ≤ length words → length words < 2 → word ≡ get_or words 0 word → words ≡ word ∷ []
one_word [] word some few is = absurd (omega (some, arith))
one_word (first ∷ []) word some few is = ap (λ (w : Word). w ∷ []) (sym is)
one_word (first ∷ next ∷ words) word some few is = absurd (omega (few, arith))

-- the names with that of a model that begins
pub names_begun : (models : List model.Model) (o : Option Block) (b : Block) (name : Word) → o ≡ None → b.name ≡ name → names_so_far models (Some b) ≡ names_so_far models o ++ name ∷ []
names_begun models o b name none named = rw (none, named) (ap (λ (names : List Word). names ++ name ∷ []) (sym (append-nil (map (λ (m : model.Model). m.name) models))))

-- whether a name was seen, by the answer that it is new
pub seen_before : (names : List Word) (name : Word) (seen is_new : Bool) → seen ≡ has_name names name → is_new ≡ not seen → has_name names name ≡ not is_new
seen_before names name true is_new knows answer = rw answer (sym knows)
seen_before names name false is_new knows answer = rw answer (sym knows)

behind : (line : Line) (rest : List Line) → kind line ≡ Model → (o : Option Block)
    → models_with o (blocks []) ++ (model_of (record { head = line; tail = (blocks rest).before }) ∷ map model_of (blocks rest).parts) ≡ models_with o (blocks (line ∷ rest))
behind line rest is None = rw (ap is_model is) refl
behind line rest is (Some b) = rw (ap is_model is) refl

module _ (old mid : Reader) (line : Line) (name : Word) (is_kind : kind line ≡ Model) (one : further line ≡ name ∷ []) (ends : EndsModel old mid) where
  names_mid : (before : List Line) → HasAllSaid before old → names_of_models before ≡ names_so_far mid.models.items (opened mid.block)
  names_mid before told = told.names ∙ sym ends.names

  fault_is : (before : List Line) → HasAllSaid before old → (again : Bool) → has_name (names_so_far mid.models.items (opened mid.block)) name ≡ again
      → fault_at before line ≡ first_of (when again (DuplicateModel line.number) ++ [])
  fault_is before told again test =
      ap first_of (model_faults (kind line) before line is_kind)
      ∙ rw (one) (ap (λ (b : Bool). first_of (when b (DuplicateModel line.number) ++ [])) (ap (λ (names : List Word). has_name names name) (names_mid before told) ∙ test))

  pub model_again : has_name (names_so_far mid.models.items (opened mid.block)) name ≡ true → (before : List Line) → HasAllSaid before old → fault_at before line ≡ Some (DuplicateModel line.number)
  model_again again before told = fault_is before told true again

  module _ (new : Reader) (b : Block) (same : new.models ≡ mid.models) (is : opened new.block ≡ Some b) (fresh : IsNew name b)
      (unseen : has_name (names_so_far mid.models.items (opened mid.block)) name ≡ false) where
    names_new : names_so_far new.models.items (opened new.block) ≡ names_so_far mid.models.items (opened mid.block) ++ name ∷ []
    names_new = rw (same, is) (names_begun mid.models.items (opened mid.block) b name ends.block fresh.named)

    names_told : (before : List Line) → HasAllSaid before old → names_of_models (line ∷ before) ≡ names_so_far new.models.items (opened new.block)
    names_told before told =
        ap (λ (k : Kind). names_behind k line (names_of_models before)) is_kind
        ∙ ap₂ (λ (names ws : List Word). names ++ first_word ws ∷ []) (names_mid before told) one
        ∙ sym names_new

    told_new : (before : List Line) → IsAsBefore (line ∷ before) b
    told_new before = record {
      open_ = ap (λ (k : Kind). open_behind k (is_open before)) is_kind;
      table_ = rw fresh.table_ (ap (λ (k : Kind). table_behind k line (open_table before)) is_kind);
      inputs = rw fresh.inputs (ap (λ (k : Kind). ports_behind input k line (ports_before input before)) is_kind);
      outputs = rw fresh.outputs (ap (λ (k : Kind). ports_behind output k line (ports_before output before)) is_kind);
      clocks = rw fresh.clocks (ap (λ (k : Kind). ports_behind clocked k line (ports_before clocked before)) is_kind);
    }

    -- the model of a `.model` line and the lines behind it
    model_made : (lines : List Line) → block_made b lines ≡ model_of (record { head = line; tail = lines })
    model_made lines = rw (fresh.named, fresh.inputs, fresh.outputs, fresh.clocks, fresh.items, fresh.table_, one) refl

    made_new : (rest : List Line) → models_made new rest ≡ models_made old (line ∷ rest)
    made_new rest =
        let cut = blocks rest in
        let front : map spelled_model mid.models.items ≡ models_made old [] = ends.made in
        let next : models_made new rest ≡ models_made old [] ++ (model_of (record { head = line; tail = cut.before }) ∷ map model_of cut.parts) =
        rw (same, is, model_made cut.before, front) refl in
        next ∙ append_assoc (map spelled_model old.models.items) (models_with (opened old.block) (blocks [])) _
        ∙ ap (λ (ms : List SpelledModel). map spelled_model old.models.items ++ ms) (behind line rest is_kind (opened old.block))

    pub model_begun : ReadsLine old line new
    model_begun = record {
      stays = λ before told. record {
        open_ = (told_new before).open_ ∙ sym (ap is_some is);
        names = names_told before told;
        block = subst (λ (o : Option Block). HasOpenSaid (line ∷ before) o) (sym is) (told_new before);
      };
      fine = λ before told. fault_is before told false unseen;
      makes = made_new;
      count =
          let more = ap (λ (names : List Word). length names) names_new in
          let longer = length-append (names_so_far mid.models.items (opened mid.block)) (name ∷ []) in
          let kept = ap (λ (names : List Word). length names) ends.names in
          omega (more, longer, kept, arith);
    }

-- the facts that a design keeps of its names
pub knows_more : (names : List Word) (name : Word) (old new : Word → Bool) → ((other : Word) → old other ≡ has_name names other) → ((other : Word) → new other ≡ (bytes_eq name other || old other))
    → (other : Word) → new other ≡ has_name (names ++ name ∷ []) other
knows_more names name old new knows adds other =
    adds other ∙ ap (λ (b : Bool). bytes_eq name other || b) (knows other) ∙ or_comm (bytes_eq name other) (has_name names other) ∙ sym (has_name-push names name other)
