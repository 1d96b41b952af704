-- A design, line by line.
use Rattle.std.proofs.Common.{◌≡◌, ◌<◌, ◌≤◌, ◌+◌, ◌^◌, ℕ, true, List, [], ◌∷◌, length, map, Option, Some, None, is_some, refl, sym, ◌∙◌, ap, subst, ltb, true≢false, arith}
use Rattle.std.specs.Prelude.{Ok, Err}
use Rattle.std.proofs.lemmas.List.{length-map}
use Rattle.std.proofs.lemmas.Bool.{le-ltb, cond-false}
use Rattle.vw_text.specs.declared.line.Line.{Line}
use Rattle.vw_text.specs.WordLines.{word_lines}
use Rattle.vw_design.specs.declared.model.Model as model
use Rattle.vw_blif.specs.declared.fault.TextFault.{TextFault}
use Rattle.vw_blif.specs.declared.fault.TextFault.TheVariants.{NoModel}
use Rattle.vw_blif.specs.declared.block.Block.{Block}
use Rattle.vw_blif.specs.declared.reader.Reader.{Reader}
use Rattle.vw_blif.specs.declared.kind.Kind.{Kind}
use Rattle.vw_blif.specs.declared.kind.Kind.TheVariants.{Model, Inputs, Outputs, Clock, Names, Latch, Subckt, End, Other, Row}
use Rattle.vw_blif.specs.Kinds.{kind, is_model}
use Rattle.vw_blif.specs.Spelled.{SpelledModel, spelled_model}
use Rattle.vw_blif.specs.Designs.{spelled_models}
use Rattle.vw_blif.specs.Faults.{faults_by, first_of, fault_at}
use Rattle.std.specs.Option.{option_or}
use Rattle.vw_blif.specs.Read.{first_fault, unless, design_of_lines, design_of, is_text_fault}
use Rattle.vw_blif.specs.Steps.Names.{opened, names_so_far}
use Rattle.vw_blif.specs.Steps.Readers.{models_made, HasOpenSaid, HasAllSaid, IsAtStart, ReadsLine, RefusesLine, IsRead}
use Rattle.vw_blif.proofs.FewLines.{few_word_lines}

-- so many lines of a design were read without a fault, and the rest wasn't
pub record IsReadSoFar (lines rest : List Line) (r : Reader) : Type 0 where
  pub before : List Line
  pub told : HasAllSaid before r
  pub faults : first_fault before rest ≡ first_fault [] lines
  pub makes : models_made r rest ≡ spelled_models lines
  pub few : length (names_so_far r.models.items (opened r.block)) + length rest ≤ length lines

pub no_line : (lines : List Line) (r : Reader) → IsAtStart r → IsReadSoFar lines lines r
no_line lines r start = record {
  before = [];
  told = record {
    open_ = rw start.block refl;
    names = rw (start.models, start.block) refl;
    block = subst (λ (b : Option Block). HasOpenSaid [] b) (sym start.block) tt;
  };
  faults = refl;
  makes = rw (start.models, start.block) refl;
  few = rw (start.models, start.block) (omega arith);
}

pub one_line : (lines rest : List Line) (line : Line) (old new : Reader) → IsReadSoFar lines (line ∷ rest) old → ReadsLine old line new
    → IsReadSoFar lines rest new
one_line lines rest line old new kept reads = record {
  before = line ∷ kept.before;
  told = reads.stays kept.before kept.told;
  faults = sym (ap (λ (f : Option TextFault). option_or f (first_fault (line ∷ kept.before) rest)) (reads.fine kept.before kept.told)) ∙ kept.faults;
  makes = reads.makes rest ∙ kept.makes;
  few = omega (reads.count, kept.few, arith);
}

line_at_fault : (lines rest : List Line) (line : Line) (old : Reader) (fault : TextFault) → IsReadSoFar lines (line ∷ rest) old → RefusesLine old line fault
    → is_text_fault fault ≡ true → first_fault [] lines ≡ Some fault
line_at_fault lines rest line old fault kept refuses is =
    sym kept.faults ∙ ap (λ (f : Option TextFault). option_or f (first_fault (line ∷ kept.before) rest)) (refuses kept.before kept.told is)

-- a text that isn't too large has the fault of its lines, or their models
pub of_lines : (text : List ℕ) → length text ≤ 16777216 → design_of text ≡ design_of_lines (word_lines text)
of_lines text small = cond-false (ltb 16777216 (length text)) _ _ (le-ltb 16777216 (length text) small)

some_lines : (lines : List Line) → 0 < length lines → design_of_lines lines ≡ unless (first_fault [] lines) (spelled_models lines)
some_lines [] some = absurd (omega (some, arith))
some_lines (line ∷ lines) some = refl

-- a line at fault
pub has_fault : (text : List ℕ) (rest : List Line) (line : Line) (old : Reader) (fault : TextFault) → length text ≤ 16777216 → IsReadSoFar (word_lines text) (line ∷ rest) old
    → RefusesLine old line fault → is_text_fault fault ≡ true → design_of text ≡ Err fault
has_fault text rest line old fault small kept refuses is =
    let lines = word_lines text in
    of_lines text small ∙ some_lines lines (omega (kept.few, arith))
    ∙ ap (λ (f : Option TextFault). unless f (spelled_models lines)) (line_at_fault lines rest line old fault kept refuses is)

-- the first line begins a model, where it has no fault
first_begins : (line : Line) (kind_ : Kind) → first_of (faults_by kind_ [] line) ≡ None → is_model kind_ ≡ true
first_begins line Model fine = refl
first_begins line Inputs fine = absurd (true≢false (ap is_some fine))
first_begins line Outputs fine = absurd (true≢false (ap is_some fine))
first_begins line Clock fine = absurd (true≢false (ap is_some fine))
first_begins line Names fine = absurd (true≢false (ap is_some fine))
first_begins line Latch fine = absurd (true≢false (ap is_some fine))
first_begins line Subckt fine = absurd (true≢false (ap is_some fine))
first_begins line End fine = absurd (true≢false (ap is_some fine))
first_begins line Other fine = absurd (true≢false (ap is_some fine))
first_begins line Row fine = absurd (true≢false (ap is_some fine))

no_fault : (fault next : Option TextFault) → option_or fault next ≡ None → fault ≡ None
no_fault None next fine = refl
no_fault (Some fault) next fine = absurd (true≢false (ap is_some fine))

some_models : (lines : List Line) → 0 < length lines → first_fault [] lines ≡ None → 0 < length (spelled_models lines)
some_models [] some fine = absurd (omega (some, arith))
some_models (line ∷ lines) some fine =
    let begins = first_begins line (kind line) (no_fault (fault_at [] line) (first_fault (line ∷ []) lines) fine) in
    rw begins (omega arith)

-- lines without a fault that spell no model
no_models : (lines : List Line) → first_fault [] lines ≡ None → length (spelled_models lines) ≡ 0 → lines ≡ []
no_models [] fine none = refl
no_models (line ∷ lines) fine none = absurd (omega (some_models (line ∷ lines) (omega arith) fine, none, arith))

-- lines that spell a model
models_left : (lines : List Line) → 0 < length (spelled_models lines) → 0 < length lines
models_left [] some = absurd (omega (some, arith))
models_left (line ∷ lines) some = omega arith

-- the end of a text
module _ (text : List ℕ) (r : Reader) (models : List model.Model) (small : length text ≤ 16777216)
    (kept : IsReadSoFar (word_lines text) [] r) (read : IsRead r models) where
  made : map spelled_model models ≡ spelled_models (word_lines text)
  made = read.made ∙ kept.makes

  count : length (spelled_models (word_lines text)) ≡ length models
  count = sym (ap (λ (ms : List SpelledModel). length ms) made) ∙ length-map models spelled_model

  pub is_design : 0 < length models → design_of text ≡ Ok (map spelled_model models)
  is_design some =
      of_lines text small ∙ some_lines (word_lines text) (models_left (word_lines text) (omega (some, count, arith)))
      ∙ ap (λ (f : Option TextFault). unless f (spelled_models (word_lines text))) (sym kept.faults)
      ∙ ap (λ (ms : List SpelledModel). Ok ms) (sym made)

  pub has_no_model : length models ≡ 0 → design_of text ≡ Err (NoModel 0)
  has_no_model none = of_lines text small ∙ ap design_of_lines (no_models (word_lines text) (sym kept.faults) (count ∙ none))

  pub has_few : length models < 2 ^ 32
  has_few =
      let counted = read.count in
      let few = kept.few in
      let read_ = few_word_lines text in
      omega (counted, few, read_, small, arith)
