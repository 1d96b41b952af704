-- Faults that are graded by the first rows, and then again; and the plain outputs, clock by clock.
use Rattle.std.proofs.Common.{◌≡◌, ◌<◌, ◌+◌, ◌++◌, ◌||◌, ◌∙◌, append_assoc, not, ℕ, zero, suc, Bool, true, false, List, [], ◌∷◌, length, map, take, drop, get_or, filter, ap, ap₂, sym, refl, ⊎_elim, All, true≢false, arith}
use Rattle.std.proofs.Math.Path.{fun_ext}
use Rattle.std.proofs.lemmas.Bool.{cases_Bool}
use Rattle.std.proofs.lemmas.List.{drop_more, take-append-drop}
use Rattle.std.proofs.lemmas.List.Elements.{All-append, All-cons, All-nil, All-weaker}
use Rattle.vw_net.specs.declared.flat.Flat.{Flat}
use Rattle.vw_net.specs.declared.ordered.Ordered.{Ordered}
use Rattle.vw_net.specs.FoundValue.{as_it_is, found_value}
use Rattle.vw_net.specs.Gathered.{gather}
use Rattle.vw_fault.specs.declared.grading.Grading.{Grading}
use Rattle.vw_fault.specs.declared.open.Open.{Open}
use Rattle.vw_fault.specs.Found.{found_next_state, found_outputs, found_outputs_at}
use Rattle.vw_fault.specs.Steps.Groups.{is_seen, open_of, rows_of}
use Rattle.vw_fault.specs.Stuck.{is_detected, net_faults}
use Rattle.vw_fault.specs.Reached.{IsClosedByReading}
use Rattle.vw_fault.specs.Steps.Reaching.{is_marked}
use Rattle.vw_fault.proofs.Differences.{detected_sooner}
use Rattle.vw_fault.proofs.Groups.{outputs-from_found}
use Rattle.vw_fault.proofs.Unreached.{unreached}

one_more : {X : Type 0} (test weaker : X → Bool) → ((x : X) → test x ≡ true → weaker x ≡ true) → (x : X) (xs : List X)
    → filter test (filter weaker xs) ≡ filter test xs
    → (passes passes_weaker : Bool) → test x ≡ passes → weaker x ≡ passes_weaker → filter test (filter weaker (x ∷ xs)) ≡ filter test (x ∷ xs)
one_more test weaker further x xs rest true true is is_weaker = rw (is_weaker, is) (ap (λ (more : List _). x ∷ more) rest)
one_more test weaker further x xs rest true false is is_weaker = absurd (true≢false (sym (further x is) ∙ is_weaker))
one_more test weaker further x xs rest false true is is_weaker = rw (is_weaker, is) rest
one_more test weaker further x xs rest false false is is_weaker = rw (is_weaker, is) rest

-- a weaker test before another leaves what the other alone leaves
filtered_again : {X : Type 0} (test weaker : X → Bool) → ((x : X) → test x ≡ true → weaker x ≡ true) → (xs : List X)
    → filter test (filter weaker xs) ≡ filter test xs
filtered_again test weaker further [] = refl
filtered_again test weaker further (x ∷ xs) = one_more test weaker further x xs (filtered_again test weaker further xs) (test x) (weaker x) refl refl

module _ (grading first : Grading) (count : ℕ) (ordered : first.ordered.now ≡ grading.ordered.now) (start : first.start.now ≡ grading.start.now) (rows : rows_of first ≡ take count (rows_of grading)) where
  -- what the first rows reveal, all rows reveal
  seen_sooner : (fault : Open) → is_seen first fault ≡ true → is_seen grading fault ≡ true
  seen_sooner fault seen =
      let flat = grading.ordered.now.flat in
      let front = take count (rows_of grading) in
      let same : is_seen first fault ≡ is_detected flat grading.start.now front fault =
      ap (λ (o : Ordered). is_detected o.flat first.start.now (rows_of first) fault) ordered
      ∙ ap₂ (λ (s : List Bool) (r : List (List Bool)). is_detected flat s r fault) start rows in
      sym (ap (λ (r : List (List Bool)). is_detected flat grading.start.now r fault) (take-append-drop count (rows_of grading)))
      ∙ detected_sooner flat grading.start.now front (drop count (rows_of grading)) fault (sym same ∙ seen)

  open_sooner : (fault : Open) → not (is_seen grading fault) ≡ true → not (is_seen first fault) ≡ true
  open_sooner fault is_open =
      ⊎_elim
      (λ seen. absurd (true≢false (sym is_open ∙ ap not (seen_sooner fault seen))))
      (λ none. ap not none)
      (cases_Bool (is_seen first fault))

  -- so those that the first rows leave come to the same
  pub pass_further : (left after whole : List Open) → after ≡ open_of first left → open_of grading left ≡ whole → open_of grading after ≡ whole
  pass_further left after whole are so_far =
      ap (open_of grading) are ∙ filtered_again (λ fault. not (is_seen grading fault)) (λ fault. not (is_seen first fault)) open_sooner left ∙ so_far

-- the faults of so many nets are of these nets
pub faults_within : (nets : ℕ) → All (λ fault. fault.net < nets) (gather net_faults nets)
faults_within zero = All-nil (λ (fault : Open). fault.net < 0)
faults_within (suc nets) =
    let fits = λ (fault : Open). fault.net < suc nets in
    let here : nets < suc nets = omega arith in
    let before = All-weaker (λ (fault : Open). fault.net < nets) fits (λ fault low. omega (arith, low)) (gather net_faults nets) (faults_within nets) in
    let own = All-cons fits (record { net = nets; bit = false }) (record { net = nets; bit = true } ∷ []) here (All-cons fits (record { net = nets; bit = true }) [] here (All-nil fits)) in
    All-append fits (gather net_faults nets) (net_faults nets) before own

-- one clock more of the plain outputs
pub plain_further : (flat : Flat) (find : ℕ → Bool → Bool) (state after row bits : List Bool) (value : ℕ → Bool) (rows made new whole : List (List Bool)) (place : ℕ)
    → place < length rows → row ≡ get_or rows place row → find ≡ as_it_is
    → ((net : ℕ) → net < flat.inputs + length flat.cells → value net ≡ found_value find flat row state net) → bits ≡ map value flat.outputs
    → after ≡ found_next_state find flat row state → new ≡ made ++ bits ∷ []
    → made ++ found_outputs as_it_is flat state (drop place rows) ≡ whole → new ++ found_outputs as_it_is flat after (drop (place + 1) rows) ≡ whole
plain_further flat find state after row bits value rows made new whole place within is plain have are step more so_far =
    let cut = drop_more rows place row within ∙ ap (λ (r : List Bool). r ∷ drop (place + 1) rows) (sym is) in
    let later = λ (s : List Bool). found_outputs as_it_is flat s (drop (place + 1) rows) in
    let here = are ∙ outputs-from_found find flat row state value have ∙ ap (λ (f : ℕ → Bool → Bool). found_outputs_at f flat row state) plain in
    let next = step ∙ ap (λ (f : ℕ → Bool → Bool). found_next_state f flat row state) plain in
    ap₂ (λ (front : List (List Bool)) (s : List Bool). front ++ later s) more next
    ∙ append_assoc made (bits ∷ []) (later (found_next_state as_it_is flat row state))
    ∙ ap (λ (one : List Bool). made ++ (one ∷ later (found_next_state as_it_is flat row state))) here
    ∙ ap (λ (left : List (List Bool)). made ++ found_outputs as_it_is flat state left) (sym cut)
    ∙ so_far

-- a fault of a net that reaches no output isn't seen, so it need not be looked for
pub unreached_listed : (grading : Grading) (marks : List Bool) → IsClosedByReading grading.ordered.now.flat (is_marked marks)
    → (faults : List Open)
    → filter (λ fault. not (is_marked marks fault.net) || not (is_seen grading fault)) faults ≡ open_of grading faults
unreached_listed grading marks closed faults = ap (λ (test : Open → Bool). filter test faults) (fun_ext (λ fault. by fault (is_marked marks fault.net) refl)) where
  by : (fault : Open) (marked : Bool) → is_marked marks fault.net ≡ marked
      → (not (is_marked marks fault.net) || not (is_seen grading fault)) ≡ not (is_seen grading fault)
  by fault true is = rw is refl
  by fault false is = rw is (sym (ap not (unreached grading.ordered.now.flat grading.start.now (rows_of grading) fault (is_marked marks) closed is)))
