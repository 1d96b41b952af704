use Rattle.std.proofs.Common.{◌≡◌, ◌++◌, false, List, sym, ◌∙◌, ap, append-nil}
use Rattle.std.proofs.lemmas.List.{take_all}
use Rattle.vw_design.specs.Distinct.{has_name, are_distinct}
use Rattle.vw_design.specs.Paths.{Word}
use Rattle.vw_blif.specs.Bindings.{repeats}
use Rattle.vw_blif.proofs.DistinctSteps.{are_distinct-append, none_again, names_more}
use Rattle.vw_blif.proofs.ports.Ports.add.Goals as goal

pub loop-word-init : goal.loop-word-init
loop-word-init c = sym (append-nil c.args.self.names.items)

pub loop-word-preserved : goal.loop-word-preserved
loop-word-preserved c =
    names_more c.args.self.names.items c.loop-word.names.items c.push.new.self.items c.further-words.result.now c.loop-word.word-index c.word-item.result c.in_ok-copy.field-0
    c.loop-word-test.true c.word-item.is c.loop-word.invariant (c.in_ok-copy.ensures ∙ c.as_slice.ensures) c.in_ok-push.ensures.items

pub invariant_of-result : goal.invariant_of-result
invariant_of-result c =
    let old = c.args.self.names.items in
    let words = c.further-words.result.now in
    let told = c.in_ok-keep_all.ensures old c.args.self.knows in
    let names : c.loop-word.names.items ≡ old ++ words = c.loop-word.invariant ∙ ap (λ (ws : List Word). old ++ ws) (take_all c.loop-word.word-index words c.loop-word-test.false) in
    let fresh : repeats old words ≡ false = none_again c.in_ok-keep_all.field-0 (repeats old words) told.0 c.if-not-branch.false in
    record {
      knows = λ word. told.1 c.if-not-branch.false word ∙ ap (λ (ns : List Word). has_name ns word) (sym names);
      distinct = ap are_distinct names ∙ are_distinct-append old words c.args.self.distinct fresh;
    }

pub returns-clause-ports : goal.returns-clause-ports
returns-clause-ports c =
    let old = c.args.self.names.items in
    let words = c.further-words.result.now in
    let told = c.in_ok-keep_all.ensures old c.args.self.knows in
    record {
      names = c.loop-word.invariant ∙ ap (λ (ws : List Word). old ++ ws) (take_all c.loop-word.word-index words c.loop-word-test.false ∙ c.further-words.ensures);
      fresh = ap (λ (ws : List Word). repeats old ws) (sym c.further-words.ensures) ∙ none_again c.in_ok-keep_all.field-0 (repeats old words) told.0 c.if-not-branch.false;
    }
