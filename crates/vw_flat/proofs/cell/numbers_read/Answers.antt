use Rattle.std.proofs.Common.{◌<◌, ◌++◌, ◌∷◌, [], ℕ, Some, map, slice_get, sym, ◌∙◌, ap, arith}
use Rattle.std.proofs.lemmas.List.{map-append, take_all}
use Rattle.vw_design.specs.Preorder.{cells}
use Rattle.vw_flat.specs.Steps.Numbers.{net_count, numbers_at}
use Rattle.vw_flat.proofs.LongerLists.{take_more, all_more}
use Rattle.vw_flat.proofs.cell.numbers_read.Goals as goal

-- one number more
pub loop-input-preserved : goal.loop-input-preserved
loop-input-preserved c =
    let design = c.args.elaborated.now in
    let numbers = numbers_at design (slice_get (cells design) c.args.cell) in
    let old = c.loop-input.numbers.items in
    let number = c.number_read.result in
    record {
      numbers =
          ap (map (λ (n : ℕ). Some n)) c.in_ok-push.ensures.items ∙ map-append (λ (n : ℕ). Some n) old (number ∷ []) ∙ ap (λ ns. ns ++ Some number ∷ []) c.loop-input.invariant.numbers
          ∙ sym (take_more numbers c.loop-input.input (Some number) c.number_read.ensures.number);
      fit = all_more (λ (n : ℕ). n < net_count design) old c.push.new.self.items number c.loop-input.invariant.fit c.number_read.ensures.fits c.in_ok-push.ensures.items;
    }

pub returns : goal.returns
returns c =
    let numbers = numbers_at c.args.elaborated.now (slice_get (cells c.args.elaborated.now) c.args.cell) in
    record {
      numbers = c.loop-input.invariant.numbers ∙ take_all c.loop-input.input numbers (omega (arith, c.requires, c.loop-input-test.false));
      fit = c.loop-input.invariant.fit;
    }
