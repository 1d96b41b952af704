use Rattle.std.proofs.Common.{◌∙◌, sym, ap, find, not, List}
use Rattle.vw_design.specs.Paths.{Word}
use Rattle.vw_design.specs.WordSets.{has_word}
use Rattle.vw_models.proofs.AtPlacedModel.{in_inputs, in_clocks}
use Rattle.vw_models.proofs.unbound.unbound_of.Goals as goal

pub returns-then-is_some : goal.returns-then-is_some
returns-then-is_some c =
    let has = λ (w : Word). has_word c.add_formals.new.self.words w in
    in_inputs c.args.model.now c.args.binds.now has (λ w. has_word c.none-bound.result.words w) c.in_ok-add_formals.ensures c.none-bound.ensures
    c.first_out-input.result (c.first_out-input.ensures ∙ ap (λ (l : List Word). find (λ (w : Word). not (has w)) l) c.inputs.ensures) (sym c.is_some.ensures ∙ c.if-is_some.true)

pub returns : goal.returns
returns c =
    let has = λ (w : Word). has_word c.add_formals.new.self.words w in
    in_clocks c.args.model.now c.args.binds.now has (λ w. has_word c.none-bound.result.words w) c.in_ok-add_formals.ensures c.none-bound.ensures
    c.first_out-input.result c.first_out.result (c.first_out-input.ensures ∙ ap (λ (l : List Word). find (λ (w : Word). not (has w)) l) c.inputs.ensures) (sym c.is_some.ensures ∙ c.if-is_some.false)
    (c.first_out.ensures ∙ ap (λ (l : List Word). find (λ (w : Word). not (has w)) l) c.clocks.ensures)
