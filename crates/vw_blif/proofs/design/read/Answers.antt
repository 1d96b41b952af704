use Rattle.std.proofs.Common.{◌≡◌, ◌<◌, List, map, vec_len, Ok, ap, sym, ◌∙◌, subst, eqb-true, arith}
use Rattle.std.proofs.lemmas.Result.{err_from_is_err_and}
use Rattle.vw_text.specs.declared.line.Line.{Line}
use Rattle.vw_text.specs.WordLines.{word_lines}
use Rattle.vw_text.specs.Reading.{lines_left}
use Rattle.vw_design.specs.declared.model.Model.{Model}
use Rattle.vw_blif.specs.Spelled.{spelled_model}
use Rattle.vw_blif.specs.Steps.Readers.{IsRead}
use Rattle.vw_blif.proofs.DesignLines.{IsReadSoFar, no_line, one_line, has_fault, is_design, has_no_model, has_few}
use Rattle.vw_blif.proofs.TableSteps.{some_words}
use Rattle.vw_blif.proofs.design.read.Goals as goal

pub loop-reader-init : goal.loop-reader-init
loop-reader-init c =
    subst (λ (ls : List Line). IsReadSoFar (word_lines c.args.text.now) ls c.in_ok-reader.reader) (sym c.new-lines.ensures)
    (no_line (word_lines c.args.text.now) c.in_ok-reader.reader c.in_ok-reader.ensures)

pub returns-in_err-reader-2-clause-fault : goal.returns-in_err-reader-2-clause-fault
returns-in_err-reader-2-clause-fault c =
    let next = rw c.in-Some.is at c.in_ok-line.ensures.read in
    let kept = subst (λ (ls : List Line). IsReadSoFar (word_lines c.args.text.now) ls c.loop-reader.reader) next.0 c.loop-reader.invariant in
    let p = err_from_is_err_and c.from_residual-in_err-reader-2.result c.from_residual-in_err-reader-2.ensures.1 in
    rw (p.1, p.2) (has_fault c.args.text.now (lines_left c.next_line.new.self) c.in-Some.line c.loop-reader.reader c.in_err-reader-2.field-0.0
    (omega (c.if-text-gt-MOST_DESIGN_BYTES.false, arith)) kept c.in_err-reader-2.ensures.refuses)

pub make-requires-clause-few : goal.make-requires-clause-few
make-requires-clause-few c =
    let none = rw c.in_default.is at c.in_ok-line.ensures.read in
    let kept = subst (λ (ls : List Line). IsReadSoFar (word_lines c.args.text.now) ls c.loop-reader.reader) none.0 c.loop-reader.invariant in
    has_few c.args.text.now c.loop-reader.reader c.of.result (omega (c.if-text-gt-MOST_DESIGN_BYTES.false, arith)) kept
    (subst (λ (models : List Model). IsRead c.loop-reader.reader models) (sym c.of.ensures) c.in_ok-models.ensures)

pub loop-reader-preserved : goal.loop-reader-preserved
loop-reader-preserved c =
    let next = rw c.in-Some.is at c.in_ok-line.ensures.read in
    let kept = subst (λ (ls : List Line). IsReadSoFar (word_lines c.args.text.now) ls c.loop-reader.reader) next.0 c.loop-reader.invariant in
    one_line (word_lines c.args.text.now) (lines_left c.next_line.new.self) c.in-Some.line c.loop-reader.reader c.in_ok-reader-2.reader kept c.in_ok-reader-2.ensures.reads

pub returns-then-is_empty-clause-fault : goal.returns-then-is_empty-clause-fault
returns-then-is_empty-clause-fault c = λ is.
    let none = rw c.in_default.is at c.in_ok-line.ensures.read in
    let kept = subst (λ (ls : List Line). IsReadSoFar (word_lines c.args.text.now) ls c.loop-reader.reader) none.0 c.loop-reader.invariant in
    let empty : vec_len c.in_ok-models.models ≡ 0 = eqb-true (vec_len c.in_ok-models.models) 0 (sym c.if-is_empty.ensures) in
    has_no_model c.args.text.now c.loop-reader.reader c.in_ok-models.models.items (omega (c.if-text-gt-MOST_DESIGN_BYTES.false, arith)) kept c.in_ok-models.ensures
    (omega (empty, c.in_ok-models.models.ok, arith))

pub returns-clause-design : goal.returns-clause-design
returns-clause-design c =
    let none = rw c.in_default.is at c.in_ok-line.ensures.read in
    let kept = subst (λ (ls : List Line). IsReadSoFar (word_lines c.args.text.now) ls c.loop-reader.reader) none.0 c.loop-reader.invariant in
    let some : 0 < vec_len c.in_ok-models.models = some_words (vec_len c.in_ok-models.models) c.if-is_empty.ensures in
    is_design c.args.text.now c.loop-reader.reader c.in_ok-models.models.items (omega (c.if-text-gt-MOST_DESIGN_BYTES.false, arith)) kept c.in_ok-models.ensures
    (omega (some, c.in_ok-models.models.ok, arith))
    ∙ ap (λ (models : List Model). Ok (map spelled_model models)) (sym (c.make.ensures ∙ c.of.ensures))
