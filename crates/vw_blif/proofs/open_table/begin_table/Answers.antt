use Rattle.std.proofs.Common.{rules, ◌≡◌, ◌<◌, ◌≤◌, List, length, refl, ◌∙◌, ap, subst, arith}
use Rattle.vw_blif.specs.Words.{front_words, last_word}
use Rattle.vw_design.specs.Paths.{Word}
use Rattle.vw_blif.specs.Kinds.{further}
use Rattle.vw_blif.proofs.TableSteps.{length-front_words, some_words, begins}
use Rattle.vw_blif.proofs.open_table.begin_table.Goals as goal

pub invariant_of-result : goal.invariant_of-result
invariant_of-result c =
    let ins : c.of.result ≡ front_words c.further-nets.result.now = c.of.ensures ∙ c.in_ok-copies.ensures ∙ c.front_and_last.ensures.front in
    let some : 0 < length c.further-nets.result.now = some_words _ c.if-is_empty.ensures in
    let few : length c.further-nets.result.now ≤ 129 = search rules in
    let count = ap (λ (ws : List Word). length ws) ins ∙ length-front_words c.further-nets.result.now some in
    record {
      narrow = omega (count, few, arith);
      even = λ k d less. absurd (let none = ap length c.new.ensures.items in omega (none, less, arith));
    }

pub returns-clause-table : goal.returns-clause-table
returns-clause-table c =
    let nets : c.further-nets.result.now ≡ further c.args.line.now = c.further-nets.ensures in
    let ins : c.of.result ≡ front_words c.further-nets.result.now = c.of.ensures ∙ c.in_ok-copies.ensures ∙ c.front_and_last.ensures.front in
    let some : 0 < length c.further-nets.result.now = some_words _ c.if-is_empty.ensures in
    let few : length c.further-nets.result.now ≤ 129 = search rules in
    begins c.args.line.now _ c.number-2.ensures
    (ins ∙ ap front_words nets)
    (c.in_ok-copy.ensures ∙ c.as_slice.ensures ∙ c.front_and_last.ensures.last ∙ ap last_word nets)
    refl
    c.new.ensures.items
    (subst (λ (ws : List Word). 0 < length ws) nets some)
    (subst (λ (ws : List Word). length ws ≤ 129) nets few)
