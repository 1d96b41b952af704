use Rattle.std.proofs.Common.{◌≡◌, ◌<◌, ◌+◌, ◌++◌, ℕ, zero, suc, List, [], ◌∷◌, length, length-take, take, append_assoc, append-nil, sym, ◌∙◌, ap, ap₂, arith, rules}
use Rattle.vw_courses.specs.declared.forms.TheConstants.{MOST_PROBES}
use Rattle.vw_courses.proofs.words.probes_of.Goals as goal

pub loop-probe-init : goal.loop-probe-init
loop-probe-init c =
    let same = c.into_iter-probe-iterator.ensures.into_iter_gives in
    let made = c.take-probe-items.ensures in
    ap₂ (λ (xs ys : List (List ℕ)). xs ++ ys) c.new-list.ensures.items
    (ap₂ (λ (n : ℕ) (left : List (List ℕ)). take n left) (ap (λ one. one.n) same ∙ made.count) (ap (λ one. one.iter) same ∙ made.source))

-- the first of those that are left goes behind the words so far
one_more : (words left rest : List (List ℕ)) (word : List ℕ) (count less : ℕ) → left ≡ word ∷ rest → less + 1 ≡ count → (words ++ word ∷ []) ++ take less rest ≡ words ++ take count left
one_more words left rest word count less is one =
    let next : count ≡ suc less = omega (arith, one) in
    append_assoc words (word ∷ []) (take less rest) ∙ ap (λ (more : List (List ℕ)). words ++ more) (ap₂ (λ (n : ℕ) (all : List (List ℕ)). take n all) (sym next) (sym is))

pub loop-probe-preserved : goal.loop-probe-preserved
loop-probe-preserved c =
    let steps = c.in-Some.ensures.steps in
    let copied : c.in_ok-to_vec.field-0.items ≡ c.in-Some.probe.now = search rules in
    let word : c.of.result ≡ c.in-Some.probe.now = c.of.ensures ∙ copied in
    ap (λ (list : List (List ℕ)). list ++ take c.next.new.self.n c.next.new.self.iter) (c.in_ok-push.ensures.items ∙ ap (λ (one : List ℕ). c.loop-probe.list.items ++ one ∷ []) word)
    ∙ one_more c.loop-probe.list.items c.loop-probe.probe-iterator.iter c.next.new.self.iter c.in-Some.probe.now c.loop-probe.probe-iterator.n c.next.new.self.n steps.0 steps.1
    ∙ c.loop-probe.invariant

-- nothing is left of them
none_left : (words left all : List (List ℕ)) (count : ℕ) → (0 < count → (left ≡ [])) → words ++ take count left ≡ all → words ≡ all
none_left words left all zero empty is = sym (append-nil words) ∙ is
none_left words left all (suc count) empty is =
    sym (append-nil words) ∙ ap (λ (more : List (List ℕ)). words ++ take (suc count) more) (sym (empty (omega arith))) ∙ is

pub returns-clause-values : goal.returns-clause-values
returns-clause-values c =
    let steps = c.in-None.ensures.steps in
    none_left c.loop-probe.list.items c.loop-probe.probe-iterator.iter (take MOST_PROBES c.args.probes) c.loop-probe.probe-iterator.n (λ some. (steps some).0) c.loop-probe.invariant

pub returns-clause-few : goal.returns-clause-few
returns-clause-few c =
    let steps = c.in-None.ensures.steps in
    let all = none_left c.loop-probe.list.items c.loop-probe.probe-iterator.iter (take MOST_PROBES c.args.probes) c.loop-probe.probe-iterator.n (λ some. (steps some).0) c.loop-probe.invariant in
    omega (arith, ap (λ (list : List (List ℕ)). length list) all, length-take MOST_PROBES c.args.probes)
