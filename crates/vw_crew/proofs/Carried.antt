-- What a fabric has carried, as links are lifted one after the other.
use Rattle.std.proofs.Common.{◌≡◌, ◌<◌, ◌≤◌, ◌+◌, ◌++◌, ℕ, Bool, List, [], length, take, eqb, nat_lt, if◌then◌else◌, ap, refl, sym, ◌∙◌, ◌⊎◌, inl, inr, eq-eqb, lt-ltb, le-ltb, Some, None, arith}
use Rattle.std.specs.Prelude.{option_map}
use Rattle.std.specs.Option.{is_some}
use Rattle.std.proofs.Math.Path.{fun_ext}
use Rattle.std.proofs.lemmas.Bool.{cases_eq, cases_lt, ne_eqb}
use Rattle.std.proofs.lemmas.List.{append-nil, take_all}
use Rattle.vw_prog.specs.declared.job.Job.{Job}
use Rattle.vw_prog.specs.declared.word.Word.{Word}
use Rattle.vw_prog.specs.Fabric.{Carried, SeenTakeEnd, lifted}
use Rattle.vw_prog.specs.Scripts.{script}
use Rattle.vw_crew.specs.Laying.{carried_on}

module _ (job : Job) (taken : ℕ → ℕ) where
  -- the words of a link, once so many links are lifted
  words_on : ℕ → (ℕ → List Word) → ℕ → List Word
  words_on count words number = if nat_lt number count then words number ++ take (taken number) (script job number) else words number

  pub carried_none : (carried : Carried) → carried ≡ carried_on job 0 taken carried
  carried_none None = refl
  carried_none (Some words) = ap Some (fun_ext (λ number. sym (ap (λ (before : Bool). if before then words number ++ take (taken number) (script job number) else words number) (le-ltb number 0 (omega arith)))))

  pub carried_told : (count : ℕ) (carried : Carried) → is_some (carried_on job count taken carried) ≡ is_some carried
  carried_told count None = refl
  carried_told count (Some words) = refl

  -- one link more
  pub carried_more : (count : ℕ) (end : SeenTakeEnd) (carried : Carried) → end.words ≡ script job count → end.taken ≡ taken count → lifted count end (carried_on job count taken carried) ≡ carried_on job (count + 1) taken carried
  carried_more count end None script_is taken_is = refl
  carried_more count end (Some words) script_is taken_is = ap Some (fun_ext (λ number. by number (cases_eq number count))) where
    if_before : Bool → ℕ → List Word
    if_before before number = if before then words number ++ take (taken number) (script job number) else words number

    by : (number : ℕ) → (number ≡ count) ⊎ (number ≡ count → ⊥) → (if eqb number count then if_before (nat_lt number count) number ++ take end.taken end.words else if_before (nat_lt number count) number) ≡ if_before (nat_lt number (count + 1)) number
    by number (inl same) =
        ap (λ (own : Bool). if own then if_before (nat_lt number count) number ++ take end.taken end.words else if_before (nat_lt number count) number) (eq-eqb number count same)
        ∙ ap (λ (before : Bool). if_before before number ++ take end.taken end.words) (le-ltb number count (omega (arith, same)))
        ∙ ap (λ (many : ℕ). words number ++ take many end.words) (taken_is ∙ ap taken (sym same))
        ∙ ap (λ (list : List Word). words number ++ take (taken number) list) (script_is ∙ ap (script job) (sym same))
        ∙ sym (ap (λ (before : Bool). if_before before number) (lt-ltb number (count + 1) (omega (arith, same))))
    by number (inr apart) =
        ap (λ (own : Bool). if own then if_before (nat_lt number count) number ++ take end.taken end.words else if_before (nat_lt number count) number) (ne_eqb number count apart)
        ∙ ap (λ (before : Bool). if_before before number) (later (cases_lt number count)) where
          later : (number < count) ⊎ (count ≤ number) → nat_lt number count ≡ nat_lt number (count + 1)
          later (inl below) = lt-ltb number count below ∙ sym (lt-ltb number (count + 1) (omega (arith, below)))
          later (inr past) = le-ltb number count past ∙ sym (le-ltb number (count + 1) (omega (arith, past, apart)))

  -- where nothing was taken, all is as before
  pub carried_same : (count : ℕ) (carried : Carried) → ((number : ℕ) → number < count → taken number ≡ 0) → carried_on job count taken carried ≡ carried
  carried_same count None none = refl
  carried_same count (Some words) none = ap Some (fun_ext (λ number. by number (cases_lt number count))) where
    by : (number : ℕ) → (number < count) ⊎ (count ≤ number) → (if nat_lt number count then words number ++ take (taken number) (script job number) else words number) ≡ words number
    by number (inl below) =
        ap (λ (before : Bool). if before then words number ++ take (taken number) (script job number) else words number) (lt-ltb number count below)
        ∙ ap (λ (many : ℕ). words number ++ take many (script job number)) (none number below) ∙ append-nil (words number)
    by number (inr past) = ap (λ (before : Bool). if before then words number ++ take (taken number) (script job number) else words number) (le-ltb number count past)

  -- where all was taken, the whole scripts have come
  pub carried_all : (count : ℕ) (carried : Carried) → ((number : ℕ) → number < count → taken number ≡ length (script job number)) → ((number : ℕ) → count ≤ number → script job number ≡ [])
      → carried_on job count taken carried ≡ option_map (λ words. λ link. words link ++ script job link) carried
  carried_all count None all none = refl
  carried_all count (Some words) all none = ap Some (fun_ext (λ number. by number (cases_lt number count))) where
    by : (number : ℕ) → (number < count) ⊎ (count ≤ number) → (if nat_lt number count then words number ++ take (taken number) (script job number) else words number) ≡ words number ++ script job number
    by number (inl below) =
        ap (λ (before : Bool). if before then words number ++ take (taken number) (script job number) else words number) (lt-ltb number count below)
        ∙ ap (λ (list : List Word). words number ++ list) (take_all (taken number) (script job number) (omega (arith, all number below)))
    by number (inr past) =
        ap (λ (before : Bool). if before then words number ++ take (taken number) (script job number) else words number) (le-ltb number count past)
        ∙ sym (append-nil (words number)) ∙ ap (λ (list : List Word). words number ++ list) (sym (none number past))
