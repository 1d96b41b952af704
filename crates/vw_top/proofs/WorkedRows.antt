-- The rows that are worked out of the first of some rows, and how many nets are shown.
use Rattle.std.proofs.Common.{◌≡◌, ◌≤◌, ◌+◌, ◌-◌, ◌++◌, ℕ, zero, suc, Bool, true, false, List, [], ◌∷◌, Option, Some, None, length, length-append, take, min, refl, sym, ◌∙◌, ap, arith, subst, if◌then◌else◌}
use Rattle.std.proofs.lemmas.List.{length-take-le, take_all, take_at}
use Rattle.vw_net.specs.declared.flat.Flat.{Flat}
use Rattle.vw_net.specs.History.{next_state, outputs_at, outputs_of}
use Rattle.vw_design.specs.Paths.{Word}
use Rattle.vw_trace.specs.Triggers.{clocks_until, in_batches, last_is_1, shown_count, worked}
use Rattle.vw_courses.specs.Commands.{ends_by, watched_words}
use Rattle.vw_courses.proofs.FlatTraces.{with_trigger}
use Rattle.vw_files.specs.Watched.{shown_words, triggers}

-- ---- rows

-- the first outputs
outputs_of-take : (flat : Flat) (state : List Bool) (count : ℕ) (rows : List (List Bool)) → outputs_of flat state (take count rows) ≡ take count (outputs_of flat state rows)
outputs_of-take flat state zero rows = refl
outputs_of-take flat state (suc count) [] = refl
outputs_of-take flat state (suc count) (row ∷ rows) = ap (λ (outputs : List (List Bool)). outputs_at flat row state ∷ outputs) (outputs_of-take flat (next_state flat row state) count rows)

-- how many of them count
until_front : (count : ℕ) (outputs : List (List Bool)) → clocks_until (take count outputs) ≡ min count (clocks_until outputs)
until_front zero outputs = omega arith
until_front (suc count) [] = omega arith
until_front (suc count) (one ∷ outputs) = by (until_front count outputs) (last_is_1 one) where
  by : clocks_until (take count outputs) ≡ min count (clocks_until outputs) → (test : Bool) → (if test then 1 else suc (clocks_until (take count outputs))) ≡ min (suc count) (if test then 1 else suc (clocks_until outputs))
  by front true = omega arith
  by front false = omega (arith, front)

-- the first of the first
take_twice : {X : Type 0} (one other : ℕ) (xs : List X) → take one (take other xs) ≡ take (min one other) xs
take_twice zero other xs = ap (λ (n : ℕ). take n xs) (let none : 0 ≡ min 0 other = omega arith in none)
take_twice (suc one) zero xs = ap (λ (n : ℕ). take n xs) (let none : 0 ≡ min (suc one) 0 = omega arith in none)
take_twice (suc one) (suc other) [] = sym (take_all (min (suc one) (suc other)) [] (omega arith))
take_twice (suc one) (suc other) (x ∷ xs) =
    let less : suc (min one other) ≡ min (suc one) (suc other) = omega arith in
    ap (λ (list : List _). x ∷ list) (take_twice one other xs) ∙ ap (λ (n : ℕ). take n (x ∷ xs)) less

-- of the first rows as many are worked out
pub worked_front : (until : Bool) (flat : Flat) (state : List Bool) (count : ℕ) (rows : List (List Bool)) → worked until flat state (take count rows) ≡ take count (worked until flat state rows)
worked_front false flat state count rows = refl
worked_front true flat state count rows =
    let clocks = clocks_until (outputs_of flat state rows) in
    let some : clocks_until (outputs_of flat state (take count rows)) ≡ min count clocks = ap clocks_until (outputs_of-take flat state count rows) ∙ until_front count (outputs_of flat state rows) in
    let same : min (in_batches (min count clocks)) count ≡ min count (in_batches clocks) = omega arith in
    ap (λ (n : ℕ). take (in_batches n) (take count rows)) some ∙ take_twice (in_batches (min count clocks)) count rows
    ∙ ap (λ (n : ℕ). take n rows) same ∙ sym (take_twice count (in_batches clocks) rows)

-- ---- nets

-- the trigger is one more than those that are shown
pub shown_counted : (until : Bool) (nets : List Word) → triggers until ≤ length nets → with_trigger until (length (shown_words until nets)) ≡ length nets
shown_counted false nets some = refl
shown_counted true nets some =
    let long : length (take (length nets - 1) nets) ≡ length nets - 1 = length-take-le (length nets - 1) nets (omega arith) in
    omega (arith, long, some)

-- those that are shown are among the outputs
pub shown_fit : (until : Bool) (nets : List Word) (outputs : ℕ) → triggers until ≤ length nets → length nets ≤ outputs → length (shown_words until nets) ≤ shown_count until outputs
shown_fit false nets outputs some few = few
shown_fit true nets outputs some few =
    let long : length (take (length nets - 1) nets) ≡ length nets - 1 = length-take-le (length nets - 1) nets (omega arith) in
    omega (arith, long, few, some)

-- there are as many names of signals as outputs that are shown and latches
pub signals_fit : (until : Bool) (nets : List Word) (outputs latches names : ℕ) → triggers until ≤ length nets → length nets ≤ outputs → names + length nets ≡ outputs + length (shown_words until nets) + latches → names ≡ shown_count until outputs + latches
signals_fit false nets outputs latches names some few count = omega (arith, count)
signals_fit true nets outputs latches names some few count =
    let long : length (take (length nets - 1) nets) ≡ length nets - 1 = length-take-le (length nets - 1) nets (omega arith) in
    omega (arith, long, count, some, few)

-- of the words of a command the probes are shown
pub shown_probes : (until : Option Word) (probes : List Word) → shown_words (ends_by until) (watched_words until probes) ≡ probes
shown_probes None probes = refl
shown_probes (Some net) probes =
    let long : length (probes ++ net ∷ []) - 1 ≡ length probes = omega (arith, length-append probes (net ∷ [])) in
    ap (λ (n : ℕ). take n (probes ++ net ∷ [])) long ∙ take_at probes (net ∷ []) (length probes) refl

-- what is said of nets, whether the last is a trigger, and those that are shown, as the words of a command have it
pub as_named : (P : List Word → Bool → List Word → Type 0) (until : Option Word) (probes nets : List Word) (ends : Bool) → nets ≡ watched_words until probes → ends ≡ ends_by until
    → P nets ends (shown_words ends nets) → P (watched_words until probes) (ends_by until) probes
as_named P until probes nets ends same is so =
    subst (λ (words : List Word). P (watched_words until probes) (ends_by until) words) (shown_probes until probes)
    (subst (λ (one : Bool). P (watched_words until probes) one (shown_words one (watched_words until probes))) is
    (subst (λ (list : List Word). P list ends (shown_words ends list)) same so))
