-- A number that is no link's has no script.
use Rattle.std.proofs.Common.{◌≡◌, ◌≤◌, ◌∷◌, ◌++◌, ℕ, zero, suc, Bool, true, false, List, [], length, map, eqb, slice_get, if◌then◌else◌, ap, ap₂, refl, ◌∙◌, eq-eqb, eqb-true, Some, arith}
use Rattle.std.specs.Prelude.{unwrap_or, Option}
use Rattle.std.specs.List.{filter}
use Rattle.std.proofs.lemmas.Bool.{and_parts}
use Rattle.std.proofs.lemmas.Option.{slice_get_within}
use Rattle.vw_prog.specs.declared.job.Job.{Job}
use Rattle.vw_prog.specs.declared.word.Word.{Word}
use Rattle.vw_prog.specs.Scripts.{planned_of, script, script_before, word_at}
use Rattle.vw_prog.specs.Timetable.{is_at, is_sending, is_sent, passes, timetable}
use Rattle.vw_prog.proofs.EntryParts.{entry_has}

-- what passes a test is still in the list after it
filter_has : {A : Type 0} (test : A → Bool) (list : List A) (place : ℕ) (one : A) → slice_get list place ≡ Some one → test one ≡ true → (number : ℕ) × (slice_get (filter test list) number ≡ Some one)
filter_has test [] place one is passes = absurd (omega (arith, slice_get_within [] place one is))
filter_has test (first ∷ list) zero one is passes =
    let same : first ≡ one = ap (λ (found : Option _). unwrap_or found first) is in
    let kept : test first ≡ true = ap test same ∙ passes in
    (0, ap (λ (keep : Bool). slice_get (if keep then first ∷ filter test list else filter test list) 0) kept ∙ is)
filter_has test (first ∷ list) (suc place) one is passes =
    let rest = filter_has test list place one is passes in by (test first) refl rest where
      by : (keep : Bool) → test first ≡ keep → (number : ℕ) × (slice_get (filter test list) number ≡ Some one) → (number : ℕ) × (slice_get (filter test (first ∷ list)) number ≡ Some one)
      by true kept rest = (suc rest.0, ap (λ (keep : Bool). slice_get (if keep then first ∷ filter test list else filter test list) (suc rest.0)) kept ∙ rest.1)
      by false left rest = (rest.0, ap (λ (keep : Bool). slice_get (if keep then first ∷ filter test list else filter test list) rest.0) left ∙ rest.1)

filter_none : {A : Type 0} (test : A → Bool) (list : List A) → ((place : ℕ) (one : A) → slice_get list place ≡ Some one → test one ≡ true → ⊥) → filter test list ≡ []
filter_none test [] none = refl
filter_none test (first ∷ list) none = by (test first) refl (filter_none test list (λ place one is. none (suc place) one is)) where
  by : (keep : Bool) → test first ≡ keep → filter test list ≡ [] → filter test (first ∷ list) ≡ []
  by true kept rest = absurd (none 0 first refl kept)
  by false left rest = ap (λ (keep : Bool). if keep then first ∷ filter test list else filter test list) left ∙ rest

module _ (job : Job) (number : ℕ) (past : length job.checked.board.links ≤ number) where
  no_pass : passes (planned_of job) number ≡ []
  no_pass = filter_none (is_sent number) (timetable (planned_of job)) (λ place entry is sent.
      let both = and_parts (is_sending entry) (eqb entry.link number) sent in
      let own = filter_has (is_at entry.node) (timetable (planned_of job)) place entry is (eq-eqb entry.node entry.node refl) in
      let link = (entry_has (planned_of job) job.checked.sound entry.node own.0 entry own.1).leaves both.0 in
      absurd (omega (arith, slice_get_within job.checked.board.links entry.link link.0 link.1.0, eqb-true entry.link number both.1, past)))

  none_before : (clock : ℕ) → script_before job number clock ≡ []
  none_before zero = refl
  none_before (suc clock) = ap₂ (λ (words more : List Word). words ++ more) (none_before clock) (ap (map (word_at job clock)) no_pass)

  pub no_script : script job number ≡ []
  unfolding script
  no_script = none_before (length job.rows)
