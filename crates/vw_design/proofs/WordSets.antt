-- Sets of words that grow word by word.
use Rattle.std.proofs.Common.{◌≡◌, ◌||◌, ◌<◌, ◌+◌, ℕ, Bool, true, false, cond, List, ◌∷◌, drop, length, map, get_or, Option, Some, is_some, refl, sym, ◌∙◌, ap}
use Rattle.std.specs.Str.{bytes_eq}
use Rattle.std.proofs.lemmas.List.{drop_more}
use Rattle.vw_design.specs.declared.item.Bind.{Bind}
use Rattle.vw_design.specs.Distinct.{has_name}
use Rattle.vw_design.specs.Paths.{Word}

or_moves : (a b c : Bool) → b || (a || c) ≡ (a || b) || c
or_moves true true c = refl
or_moves true false c = refl
or_moves false b c = refl

-- a word among the rest goes into the set
pub name_added : (names : List Word) (i : ℕ) (name other : Word) → i < length names → name ≡ get_or names i name
    → (word : Word) → word ≡ name → (old new : Bool) → new ≡ bytes_eq word other || old
    → has_name (drop (i + 1) names) other || new ≡ has_name (drop i names) other || old
name_added names i name other within at word is old new adds =
    let rest = has_name (drop (i + 1) names) other in
    ap (λ (b : Bool). rest || b) (adds ∙ ap (λ (w : Word). bytes_eq w other || old) is)
    ∙ or_moves (bytes_eq name other) rest old
    ∙ ap (λ (l : List Word). has_name l other || old) (sym (drop_more names i name within ∙ ap (λ (w : Word). w ∷ drop (i + 1) names) (sym at)))

pub formal_added : (binds : List Bind) (i : ℕ) (bind : Bind) (other : Word) → i < length binds → bind ≡ get_or binds i bind
    → (word : Word) → word ≡ bind.formal → (old new : Bool) → new ≡ bytes_eq word other || old
    → has_name (map (λ b. b.formal) (drop (i + 1) binds)) other || new ≡ has_name (map (λ b. b.formal) (drop i binds)) other || old
formal_added binds i bind other within at word is old new adds =
    let rest = has_name (map (λ (b : Bind). b.formal) (drop (i + 1) binds)) other in
    ap (λ (b : Bool). rest || b) (adds ∙ ap (λ (w : Word). bytes_eq w other || old) is)
    ∙ or_moves (bytes_eq bind.formal other) rest old
    ∙ ap (λ (l : List Bind). has_name (map (λ (b : Bind). b.formal) l) other || old) (sym (drop_more binds i bind within ∙ ap (λ (b : Bind). b ∷ drop (i + 1) binds) (sym at)))

-- a word that was added is there, and so is what was there before
pub some_or : {X : Type 0} (b : Bool) (x : X) (found : Option X) → is_some (cond b (Some x) found) ≡ b || is_some found
some_or true x found = refl
some_or false x found = refl
