use Rattle.std.proofs.Common.{◌≡◌, ◌+◌, ◌++◌, true, not, ◌||◌, List, take, drop, sym, ◌∙◌, ap}
use Rattle.std.specs.Str.{bytes_eq}
use Rattle.std.proofs.lemmas.List.{take_all}
use Rattle.vw_design.specs.Distinct.{has_name}
use Rattle.vw_design.specs.Paths.{Word}
use Rattle.vw_blif.specs.Bindings.{repeats}
use Rattle.vw_design.specs.WordSets.{has_word}
use Rattle.vw_blif.proofs.Repeats.{more_words, cut_at, new_word, known_words, old_word}
use Rattle.vw_blif.proofs.kept_words.keep_all.Goals as goal

pub returns-then-not-branch : goal.returns-then-not-branch
returns-then-not-branch c = λ before knows.
    let words = c.args.names.now in
    let i = c.loop-name.name-index in
    let word = c.name-item.result in
    let kept = c.loop-name.invariant before knows in
    let old = λ (w : Word). has_word c.loop-name.words.words w in
    let answer : c.in_ok-keep.field-0 ≡ not (old word) = c.in_ok-keep.ensures.is_new ∙ ap (λ (w : Word). not (old w)) c.as_slice.ensures in
    let again : repeats before words ≡ true = ap (repeats before) (cut_at words i word c.loop-name-test.true c.name-item.is) ∙ old_word before (take i words) word old kept.1 c.in_ok-keep.field-0 answer (drop (i + 1) words) c.if-not-branch.true kept.0 in
    (ap not (sym again), λ wrong. absurd (cc))

pub loop-name-preserved : goal.loop-name-preserved
loop-name-preserved c = λ before knows.
    let words = c.args.names.now in
    let i = c.loop-name.name-index in
    let word = c.name-item.result in
    let kept = c.loop-name.invariant before knows in
    let old = λ (w : Word). has_word c.loop-name.words.words w in
    let answer : c.in_ok-keep.field-0 ≡ not (old word) = c.in_ok-keep.ensures.is_new ∙ ap (λ (w : Word). not (old w)) c.as_slice.ensures in
    let more = more_words words i word c.loop-name-test.true c.name-item.is in
    let adds = λ (other : Word). c.in_ok-keep.ensures.words other ∙ ap (λ (w : Word). bytes_eq w other || old other) c.as_slice.ensures in (
      ap (repeats before) more ∙ new_word before (take i words) word old kept.1 c.in_ok-keep.field-0 answer c.if-not-branch.false kept.0,
      λ other. known_words before (take i words) word old kept.1 c.in_ok-keep.field-0 answer (λ w. has_word c.keep.new.words.words w) adds other ∙ ap (λ (ws : List Word). has_name (before ++ ws) other) (sym more),
    )

pub returns : goal.returns
returns c = λ before knows.
    let kept = c.loop-name.invariant before knows in
    let all = take_all c.loop-name.name-index c.args.names.now c.loop-name-test.false in
    (ap not (sym (sym (ap (repeats before) all) ∙ kept.0)), λ same word. kept.1 word ∙ ap (λ (ws : List Word). has_name (before ++ ws) word) all)
