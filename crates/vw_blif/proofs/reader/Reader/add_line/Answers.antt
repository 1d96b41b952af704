use Rattle.std.proofs.Common.{rules, ◌≡◌, false, Some, refl, sym, ◌∙◌, ap}
use Rattle.std.proofs.lemmas.Result.{err_from_is_err_and}
use Rattle.vw_design.specs.Distinct.{has_name, are_distinct}
use Rattle.vw_blif.specs.declared.block.Block.{Block}
use Rattle.vw_blif.specs.declared.kind.Kind.TheVariants.{End}
use Rattle.vw_blif.specs.Kinds.{kind, is_model}
use Rattle.vw_blif.specs.Steps.Names.{opened, names_so_far}
use Rattle.vw_blif.proofs.ReaderLines.{is_no_model, line_taken, line_refused, model_ended}
use Rattle.vw_blif.proofs.reader.Reader.add_line.Goals as goal

pub invariant_of-open : goal.invariant_of-open
invariant_of-open c =
    let same : names_so_far c.args.self.models.items (Some c.in-Some.block.value) ≡ names_so_far c.args.self.models.items (opened c.args.self.block) = rw (ap opened c.in-Some.is) refl in
    record {
      knows = λ word. c.args.self.knows word ∙ ap (λ names. has_name names word) (sym same);
      distinct = ap are_distinct same ∙ c.args.self.distinct;
      well_made = c.args.self.well_made;
    }

pub returns-then-eq-clause-reads : goal.returns-then-eq-clause-reads
returns-then-eq-clause-reads c =
    let ends : c.args.line_is ≡ End = search rules in
    model_ended c.args.self _ c.in_ok-end.field-0 c.args.line.now c.in-Some.block.value (ap opened c.in-Some.is) refl refl (sym c.requires.is ∙ ends) c.in_ok-end.ensures

pub invariant_of-result : goal.invariant_of-result
invariant_of-result c =
    let was : opened c.args.self.block ≡ Some c.deref_mut.result.now = ap opened c.in-Some.is ∙ ap (λ (b : Block). Some b) (sym c.deref_mut.ensures.value) in
    let same : names_so_far c.args.self.models.items (Some c.take.new.block) ≡ names_so_far c.args.self.models.items (opened c.args.self.block) =
    rw (was, c.in_ok-take.ensures.takes.name) refl in
    record {
      knows = λ word. c.args.self.knows word ∙ ap (λ names. has_name names word) (sym same);
      distinct = ap are_distinct same ∙ c.args.self.distinct;
      well_made = c.args.self.well_made;
    }

pub returns-in_err-take-clause-refuses : goal.returns-in_err-take-clause-refuses
returns-in_err-take-clause-refuses c =
    let was : opened c.args.self.block ≡ Some c.deref_mut.result.now = ap opened c.in-Some.is ∙ ap (λ (b : Block). Some b) (sym c.deref_mut.ensures.value) in
    let p = err_from_is_err_and c.from_residual-in_err-take.result c.from_residual-in_err-take.ensures.1 in
    rw (p.1, p.2) (line_refused c.args.self c.args.line.now c.deref_mut.result.now c.in_err-take.field-0.0 was c.in_err-take.ensures.refuses)

pub returns-clause-reads : goal.returns-clause-reads
returns-clause-reads c =
    let was : opened c.args.self.block ≡ Some c.deref_mut.result.now = ap opened c.in-Some.is ∙ ap (λ (b : Block). Some b) (sym c.deref_mut.ensures.value) in
    let other : is_model (kind c.args.line.now) ≡ false = ap is_model (sym c.requires.is) ∙ is_no_model c.args.line_is c.requires.no_model in
    line_taken c.args.self _ c.args.line.now c.deref_mut.result.now c.take.new.block was refl refl other c.in_ok-take.ensures.takes
