use Rattle.std.proofs.Common.{◌≡◌, ◌≤◌, ◌-◌, suc, List, [], ◌∷◌, length, map, take, drop, get_or, refl, ◌∙◌, ap, ap₂, arith}
use Rattle.std.proofs.lemmas.List.{take_all}
use Rattle.std.proofs.lemmas.Result.{err_from_is_err_and}
use Rattle.vw_design.specs.declared.item.Bind.{Bind}
use Rattle.vw_design.specs.Paths.{Word}
use Rattle.vw_blif.specs.Words.{first_word, further_words}
use Rattle.vw_blif.specs.Spelled.{Binding, place, spelled_bind}
use Rattle.vw_blif.specs.Bindings.{bind_of}
use Rattle.vw_blif.proofs.bind.subckt_of.Goals as goal

first_word_is : (words : List Word) (word : Word) → 1 ≤ length words → word ≡ get_or words 0 word → word ≡ first_word words
first_word_is [] word some is = absurd (omega (arith, some))
first_word_is (one ∷ rest) word some is = is

further_words_are : (words : List Word) → 1 ≤ length words → take (length words - 1) (drop 1 words) ≡ further_words words
further_words_are [] some = absurd (omega (arith, some))
further_words_are (one ∷ rest) some = take_all (suc (length rest) - 1) rest (omega arith)

pub returns-in_default-clause-fault : goal.returns-in_default-clause-fault
returns-in_default-clause-fault c = omega arith

pub returns-in_err-binds-clause-fault : goal.returns-in_err-binds-clause-fault
returns-in_err-binds-clause-fault c =
    let says = rw (further_words_are c.args.words.now c.in-len1-up.len_at_least) at c.in_err-binds.ensures.fault in
    let p = err_from_is_err_and c.from_residual.result c.from_residual.ensures.1 in
    rw (p.1, p.2) says

pub returns-clause-item : goal.returns-clause-item
returns-clause-item c =
    let words = c.args.words.now in
    let rest = further_words_are words c.in-len1-up.len_at_least in
    let model = c.in_ok-copy.ensures ∙ c.as_slice.ensures ∙ first_word_is words c.model-item.result c.in-len1-up.len_at_least c.model-item.is in
    let binds = ap (λ (bs : List Bind). map spelled_bind bs) c.of.ensures ∙ c.in_ok-binds.ensures.binds.spelled ∙ ap (λ (ws : List Word). map bind_of ws) rest in
    ap₂ (λ (w : Word) (bs : List Binding). place c.args.line w bs) model binds

pub returns-clause-shape : goal.returns-clause-shape
returns-clause-shape c = rw c.of.ensures c.in_ok-binds.ensures.binds.distinct

pub returns-clause-fine : goal.returns-clause-fine
returns-clause-fine c =
    let binds = rw (further_words_are c.args.words.now c.in-len1-up.len_at_least) at c.in_ok-binds.ensures.binds in
    rw (binds.sides, binds.once) refl
