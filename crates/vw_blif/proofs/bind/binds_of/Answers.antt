use Rattle.std.proofs.Common.{◌≡◌, ◌++◌, ◌∷◌, [], ◌+◌, Bool, true, false, not, ◌||◌, List, map, take, drop, refl, sym, ◌∙◌, ap, subst}
use Rattle.std.specs.Str.{bytes_eq}
use Rattle.std.specs.List.{list_any}
use Rattle.std.proofs.Math.Bool.{or_comm}
use Rattle.std.proofs.lemmas.List.{map-append}
use Rattle.std.proofs.Math.Bool.{or-true}
use Rattle.vw_blif.proofs.DistinctSteps.{none_again}
use Rattle.vw_design.specs.declared.item.Bind.{Bind}
use Rattle.vw_design.specs.Distinct.{has_name}
use Rattle.vw_design.specs.Paths.{Word}
use Rattle.vw_blif.specs.Bindings.{formal_of, actual_part, is_no_bind, repeats}
use Rattle.vw_blif.specs.Steps.FaultAnswers.{AreBinds}
use Rattle.vw_design.specs.WordSets.{has_word}
use Rattle.vw_blif.proofs.Repeats.{more_words, cut_at, has_name-push}
use Rattle.vw_blif.proofs.Binds.{binds_more, formal_again}
use Rattle.vw_blif.proofs.bind.binds_of.Goals as goal

-- what an answer says of a test
if_not : (b s : Bool) → b ≡ not s → b ≡ false → s ≡ true
if_not b true e f = refl
if_not b false e f = sym f ∙ e

pub returns-then-not-branch-clause-fault : goal.returns-then-not-branch-clause-fault
returns-then-not-branch-clause-fault c =
    let words = c.args.words.now in
    let i = c.loop-word.word-index in
    let word = c.word-item.result in
    let formal : c.in-Some.formal.now ≡ formal_of word = c.in-Some.ensures.1 ∙ ap formal_of c.as_slice.ensures in
    let seen = if_not c.in_ok-insert.field-0 (has_word c.loop-word.seen.words c.in-Some.formal.now) c.in_ok-insert.ensures.is_new c.if-not-branch.true in
    let old : has_name (map formal_of (take i words)) (formal_of word) ≡ true = sym (c.loop-word.invariant.knows (formal_of word)) ∙ ap (λ (w : Word). has_word c.loop-word.seen.words w) (sym formal) ∙ seen in
    let again : repeats [] (map formal_of words) ≡ true = ap (λ (ws : List Word). repeats [] (map formal_of ws)) (cut_at words i word c.loop-word-test.true c.word-item.is)
    ∙ formal_again (take i words) word (drop (i + 1) words) c.loop-word.invariant.binds.once old in
    (refl, ap (λ b. list_any is_no_bind words || b) again ∙ or-true (list_any is_no_bind words))

pub loop-word-preserved : goal.loop-word-preserved
loop-word-preserved c =
    let words = c.args.words.now in
    let i = c.loop-word.word-index in
    let word = c.word-item.result in
    let more = more_words words i word c.loop-word-test.true c.word-item.is in
    let formal : c.in-Some.formal.now ≡ formal_of word = c.in-Some.ensures.1 ∙ ap formal_of c.as_slice.ensures in
    let actual : c.in-Some.actual.now ≡ actual_part word = c.in-Some.ensures.2 ∙ ap actual_part c.as_slice.ensures in
    let sides : is_no_bind word ≡ false = ap is_no_bind (sym c.as_slice.ensures) ∙ c.in-Some.ensures.0 in
    let unseen = none_again c.in_ok-insert.field-0 (has_word c.loop-word.seen.words c.in-Some.formal.now) c.in_ok-insert.ensures.is_new c.if-not-branch.false in
    let new : has_name (map formal_of (take i words)) (formal_of word) ≡ false = sym (c.loop-word.invariant.knows (formal_of word)) ∙ ap (λ (w : Word). has_word c.loop-word.seen.words w) (sym formal) ∙ unseen in
    let binds = binds_more (take i words) word c.loop-word.binds.items c.in_ok-bind.field-0 c.loop-word.invariant.binds sides (c.in_ok-bind.ensures.formal ∙ formal) (c.in_ok-bind.ensures.actual ∙ actual) new in
    let names : map formal_of (take (i + 1) words) ≡ map formal_of (take i words) ++ formal_of word ∷ [] = ap (map formal_of) more ∙ map-append formal_of (take i words) (word ∷ []) in
    record {
      binds = subst (λ (ws : List Word). AreBinds ws c.push.new.self.items) (sym more) (subst (λ (bs : List Bind). AreBinds (take i words ++ word ∷ []) bs) (sym c.in_ok-push.ensures.items) binds);
      knows = λ other. c.in_ok-insert.ensures.words other
          ∙ ap (λ (w : Word). bytes_eq w other || has_word c.loop-word.seen.words other) formal
          ∙ ap (λ b. bytes_eq (formal_of word) other || b) (c.loop-word.invariant.knows other)
          ∙ or_comm (bytes_eq (formal_of word) other) (has_name (map formal_of (take i words)) other)
          ∙ sym (has_name-push (map formal_of (take i words)) (formal_of word) other)
          ∙ ap (λ (ns : List Word). has_name ns other) (sym names);
    }
