-- The first text of a name among texts, and a fault that is counted at it.
use Rattle.std.proofs.Common.{◌≡◌, ◌≢◌, ◌≤◌, ◌^◌, ◌⊎◌, inl, inr, ⊎_elim, ℕ, zero, suc, ◌+◌, ◌<◌, Bool, true, false, cond, List, [], ◌∷◌, length, get_or, set, Option, Some, None, refl, sym, ◌∙◌, ap, arith, add-one}
use Rattle.std.specs.Prelude.{option_map}
use Rattle.std.specs.Str.{bytes_eq}
use Rattle.std.proofs.Math.Path.{fun_ext}
use Rattle.std.proofs.lemmas.Slice.Eq.{bytes_eq-Decides}
use Rattle.vw_outside.specs.Told.{absent, held}
use Rattle.vw_outside.specs.Faults.{one_more}
use Rattle.vw_outside.specs.Reads.{CountsFault}
use Rattle.vw_outside.specs.HeldTexts.{told_in, faults_in, seen_files}
use Rattle.vw_outside.specs.Steps.TextPlaces.{text_place}
use Rattle.vw_outside.specs.declared.held.Held.{Held}

-- which way a test went
chosen : {A : Type 0} (b : Bool) (x y z : A) → cond b x y ≡ z → ((b ≡ true) × (x ≡ z)) ⊎ ((b ≡ false) × (y ≡ z))
chosen true x y z e = inl (refl, e)
chosen false x y z e = inr (refl, e)

-- the place after the first, where there is one
later_place : (o : Option ℕ) (place : ℕ) → option_map (λ p. p + 1) o ≡ Some place → (earlier : ℕ) × (o ≡ Some earlier) × (place ≡ suc earlier)
later_place None place e = absurd (cc)
later_place (Some p) place e = (p, refl, (let same : place ≡ p + 1 = cc in same ∙ add-one p))

no_later_place : (o : Option ℕ) → option_map (λ p. p + 1) o ≡ None → o ≡ None
no_later_place None e = refl
no_later_place (Some p) e = absurd (cc)

pub further_place : (o : Option ℕ) (place : ℕ) → option_map (λ p. p + place) (option_map (λ p. p + 1) o) ≡ option_map (λ p. p + (place + 1)) o
further_place None place = refl
further_place (Some p) place = ap Some (omega arith)

-- the text that stands at the place
pub record IsTextAt (files : List Held) (name : List ℕ) (place : ℕ) (d : Held) : Type 0 where
  pub within : place < length files
  pub same : (get_or files place d).name ≡ name
  pub text : told_in files name ≡ held (get_or files place d).bytes.items
  pub faults : (others : ℕ) → faults_in files others name ≡ (get_or files place d).faults

stands_first : (file : Held) (files : List Held) (name : List ℕ) (place : ℕ) (d : Held) → bytes_eq file.name name ≡ true → place ≡ 0 → IsTextAt (file ∷ files) name place d
stands_first file files name place d passes first = rw first (record {
  within = omega arith;
  same = (bytes_eq-Decides file.name name).0 passes;
  text = rw passes refl;
  faults = λ others. rw passes refl;
})

stands_later : (file : Held) (files : List Held) (name : List ℕ) (place earlier : ℕ) (d : Held) → bytes_eq file.name name ≡ false → place ≡ suc earlier → IsTextAt files name earlier d → IsTextAt (file ∷ files) name place d
stands_later file files name place earlier d fails later rest = rw later (record {
  within = omega (arith, rest.within);
  same = rest.same;
  text = rw fails rest.text;
  faults = λ others. rw fails (rest.faults others);
})

pub stands_at : (files : List Held) (name : List ℕ) (place : ℕ) (d : Held) → text_place files name ≡ Some place → IsTextAt files name place d
stands_at [] name place d e = absurd (cc)
stands_at (file ∷ files) name place d e =
    ⊎_elim
    (λ (h : (bytes_eq file.name name ≡ true) × (◌≡◌ {A = Option ℕ} (Some 0) (Some place))). stands_first file files name place d h.0 (let at = h.1 in cc))
    (λ (h : (bytes_eq file.name name ≡ false) × (option_map (λ p. p + 1) (text_place files name) ≡ Some place)).
    let earlier = later_place (text_place files name) place h.1 in
    stands_later file files name place earlier.0 d h.0 earlier.2 (stands_at files name earlier.0 d earlier.1))
    (chosen (bytes_eq file.name name) _ _ _ e)

-- a name without a text
pub no_text : (files : List Held) (name : List ℕ) → text_place files name ≡ None → told_in files name ≡ absent
no_text [] name e = refl
no_text (file ∷ files) name e =
    ⊎_elim
    (λ (h : (bytes_eq file.name name ≡ true) × (◌≡◌ {A = Option ℕ} (Some 0) None)). absurd (let f = h.1 in cc))
    (λ (h : (bytes_eq file.name name ≡ false) × (option_map (λ p. p + 1) (text_place files name) ≡ None)). rw (h.0) (no_text files name (no_later_place _ h.1)))
    (chosen (bytes_eq file.name name) _ _ _ e)

pub no_text_faults : (files : List Held) (others : ℕ) (name : List ℕ) → text_place files name ≡ None → faults_in files others name ≡ others
no_text_faults [] others name e = refl
no_text_faults (file ∷ files) others name e =
    ⊎_elim
    (λ (h : (bytes_eq file.name name ≡ true) × (◌≡◌ {A = Option ℕ} (Some 0) None)). absurd (let f = h.1 in cc))
    (λ (h : (bytes_eq file.name name ≡ false) × (option_map (λ p. p + 1) (text_place files name) ≡ None)). rw (h.0) (no_text_faults files others name (no_later_place _ h.1)))
    (chosen (bytes_eq file.name name) _ _ _ e)

-- a text with the same name and the same bytes in the place of one changes no text
pub told_in-set : (files : List Held) (place : ℕ) (new d : Held) (other : List ℕ) → place < length files → new.name ≡ (get_or files place d).name → new.bytes.items ≡ (get_or files place d).bytes.items → told_in (set files place new) other ≡ told_in files other
told_in-set [] place new d other within name bytes = absurd (omega arith)
told_in-set (file ∷ files) zero new d other within name bytes = rw (name, bytes) refl
told_in-set (file ∷ files) (suc place) new d other within name bytes =
    ap (cond (bytes_eq file.name other) (held file.bytes.items)) (told_in-set files place new d other (omega arith) name bytes)

once : {A : Type 0} (b : Bool) (x y z : A) → cond b x y ≡ cond b x (cond b z y)
once true x y z = refl
once false x y z = refl

-- two tests that don't both pass may be made in either order
either_order : {A : Type 0} (b c : Bool) (x y z : A) → (b ≡ true → c ≡ false) → cond c y (cond b x z) ≡ cond b x (cond c y z)
either_order true c x y z apart = rw (apart refl) refl
either_order false c x y z apart = refl

apart_from : (a b c : List ℕ) → bytes_eq a b ≡ false → bytes_eq b c ≡ true → bytes_eq a c ≡ false
apart_from a b c fails passes = rw (← (bytes_eq-Decides b c).0 passes) fails

-- the faults once the text at a name's place has other ones
pub faults_in-set : (files : List Held) (others : ℕ) (name : List ℕ) (place : ℕ) (new : Held) (other : List ℕ) → text_place files name ≡ Some place → new.name ≡ name → faults_in (set files place new) others other ≡ cond (bytes_eq name other) new.faults (faults_in files others other)
faults_in-set [] others name place new other e same = absurd (cc)
faults_in-set (file ∷ files) others name place new other e same =
    ⊎_elim
    (λ (h : (bytes_eq file.name name ≡ true) × (◌≡◌ {A = Option ℕ} (Some 0) (Some place))).
    let first : place ≡ 0 = (let at = h.1 in cc) in
    rw (first, same, (bytes_eq-Decides file.name name).0 h.0) (once (bytes_eq name other) new.faults (faults_in files others other) file.faults))
    (λ (h : (bytes_eq file.name name ≡ false) × (option_map (λ p. p + 1) (text_place files name) ≡ Some place)).
    let earlier = later_place (text_place files name) place h.1 in
    rw (earlier.2) (ap (cond (bytes_eq file.name other) file.faults) (faults_in-set files others name earlier.0 new other earlier.1 same)
    ∙ either_order (bytes_eq name other) (bytes_eq file.name other) new.faults file.faults (faults_in files others other) (apart_from file.name name other h.0)))
    (chosen (bytes_eq file.name name) _ _ _ e)

test_apart : (a b : List ℕ) → b ≢ a → bytes_eq a b ≡ false
test_apart a b differs = elim_bool (bytes_eq a b) refl
  where
    elim_bool : (t : Bool) → bytes_eq a b ≡ t → t ≡ false
    elim_bool true same = absurd (differs (sym ((bytes_eq-Decides a b).0 same)))
    elim_bool false same = refl

no_less : (b : Bool) (more n : ℕ) → (b ≡ true → n ≤ more) → n ≤ cond b more n
no_less true more n h = h refl
no_less false more n h = omega arith

-- one more fault at the text of a name
pub counts_at : (files : List Held) (others : ℕ) (name : List ℕ) (place : ℕ) (old new : Held) → text_place files name ≡ Some place → old ≡ get_or files place old → new.name ≡ old.name → new.bytes.items ≡ old.bytes.items → new.faults ≡ one_more old.faults → old.faults < 2 ^ 64
    → CountsFault name (seen_files files others) (seen_files (set files place new) others)
counts_at files others name place old new at read name_is bytes_are raised fits =
    let stands = stands_at files name place old at in
    let here : (get_or files place old).faults ≡ old.faults = ap (λ (file : Held). file.faults) (sym read) in
    let count : (other : List ℕ) → faults_in (set files place new) others other ≡ cond (bytes_eq name other) new.faults (faults_in files others other) =
    λ other. faults_in-set files others name place new other at (name_is ∙ ap (λ (file : Held). file.name) read ∙ stands.same) in
    let was : faults_in files others name ≡ old.faults = stands.faults others ∙ here in
    record {
      told = fun_ext (λ other. told_in-set files place new old other stands.within (name_is ∙ ap (λ (file : Held). file.name) read) (bytes_are ∙ ap (λ (file : Held). file.bytes.items) read));
      here = rw (count name, (bytes_eq-Decides name name).1 refl) (raised ∙ ap one_more (sym was));
      kept = λ other. rw (count other) (no_less (bytes_eq name other) new.faults (faults_in files others other)
          (λ same. let one : name ≡ other = (bytes_eq-Decides name other).0 same in rw (← one) (omega (arith, was, raised))));
      others = λ other bytes differs told. rw (count other, test_apart name other differs) refl;
    }

kept_elsewhere : (files : List Held) (before after : ℕ) (other : List ℕ) → before ≤ after → faults_in files before other ≤ faults_in files after other
kept_elsewhere [] before after other le = le
kept_elsewhere (file ∷ files) before after other le = by_test (bytes_eq file.name other) (kept_elsewhere files before after other le)
  where
    by_test : (b : Bool) → faults_in files before other ≤ faults_in files after other → cond b file.faults (faults_in files before other) ≤ cond b file.faults (faults_in files after other)
    by_test true h = omega arith
    by_test false h = h

held_apart : (files : List Held) (before after : ℕ) (other bytes : List ℕ) → told_in files other ≡ held bytes → faults_in files after other ≡ faults_in files before other
held_apart [] before after other bytes told = absurd (cc)
held_apart (file ∷ files) before after other bytes told =
    ⊎_elim
    (λ (h : (bytes_eq file.name other ≡ true) × (held file.bytes.items ≡ held bytes)). rw (h.0) refl)
    (λ (h : (bytes_eq file.name other ≡ false) × (told_in files other ≡ held bytes)). rw (h.0) (held_apart files before after other bytes h.1))
    (chosen (bytes_eq file.name other) _ _ _ told)

-- one more fault at a name without a text
pub counts_elsewhere : (files : List Held) (name : List ℕ) (before after : ℕ) → text_place files name ≡ None → after ≡ one_more before → before < 2 ^ 64
    → CountsFault name (seen_files files before) (seen_files files after)
counts_elsewhere files name before after at raised fits = record {
  told = refl;
  here = rw (no_text_faults files before name at, no_text_faults files after name at) raised;
  kept = λ other. kept_elsewhere files before after other (omega arith);
  others = λ other bytes differs told. held_apart files before after other bytes told;
}

same_bytes : (a b : List ℕ) → held a ≡ held b → a ≡ b
same_bytes a b e = cc

-- what is held under the name are the bytes of the text at its place
pub held_at : (files : List Held) (name : List ℕ) (place : ℕ) (file : Held) (bytes : List ℕ) → text_place files name ≡ Some place → file ≡ get_or files place file → told_in files name ≡ held bytes → file.bytes.items ≡ bytes
held_at files name place file bytes at read told =
    ap (λ (f : Held). f.bytes.items) read ∙ same_bytes _ _ (sym (stands_at files name place file at).text ∙ told)

pub not_absent : (files : List Held) (name : List ℕ) (place : ℕ) (d : Held) → text_place files name ≡ Some place → told_in files name ≡ absent → ⊥
not_absent files name place d at told = let text = (stands_at files name place d at).text in let e : held (get_or files place d).bytes.items ≡ absent = sym text ∙ told in cc

pub place_below : (files : List Held) (name : List ℕ) (place : ℕ) → text_place files name ≡ Some place → place < length files
place_below [] name place e = absurd (cc)
place_below (file ∷ files) name place e =
    ⊎_elim
    (λ (h : (bytes_eq file.name name ≡ true) × (◌≡◌ {A = Option ℕ} (Some 0) (Some place))). let first : place ≡ 0 = (let at = h.1 in cc) in rw first (omega arith))
    (λ (h : (bytes_eq file.name name ≡ false) × (option_map (λ p. p + 1) (text_place files name) ≡ Some place)).
    let earlier = later_place (text_place files name) place h.1 in
    rw (earlier.2) (omega (arith, place_below files name earlier.0 earlier.1)))
    (chosen (bytes_eq file.name name) _ _ _ e)

-- a name with a text is held
pub not_held : (files : List Held) (name : List ℕ) (bytes : List ℕ) → text_place files name ≡ None → told_in files name ≡ held bytes → ⊥
not_held files name bytes at told = let e : absent ≡ held bytes = sym (no_text files name at) ∙ told in cc
