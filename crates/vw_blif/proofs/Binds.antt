-- Bindings, one after the other.
use Rattle.std.proofs.Common.{◌≡◌, Bool, true, false, ◌||◌, List, [], ◌∷◌, ◌++◌, map, sym, ◌∙◌, ap, ap₂}
use Rattle.std.proofs.lemmas.List.{map-append}
use Rattle.std.proofs.lemmas.List.Folds.{list_any-append}
use Rattle.vw_design.specs.declared.item.Bind.{Bind}
use Rattle.vw_design.specs.Distinct.{has_name, are_distinct}
use Rattle.vw_design.specs.Paths.{Word}
use Rattle.vw_design.proofs.DistinctNames.{distinct_push}
use Rattle.vw_blif.specs.Spelled.{Binding, spelled_bind}
use Rattle.vw_blif.specs.Bindings.{formal_of, actual_part, is_no_bind, bind_of, repeats}
use Rattle.vw_blif.specs.Steps.FaultAnswers.{AreBinds}
use Rattle.vw_blif.proofs.Repeats.{repeats-append}

-- one binding more
pub binds_more : (words : List Word) (word : Word) (binds : List Bind) (bind : Bind) → AreBinds words binds → is_no_bind word ≡ false
    → bind.formal ≡ formal_of word → bind.actual ≡ actual_part word → has_name (map formal_of words) (formal_of word) ≡ false → AreBinds (words ++ word ∷ []) (binds ++ bind ∷ [])
binds_more words word binds bind are sides formal actual new =
    let one : spelled_bind bind ≡ bind_of word = ap₂ (λ (f a : Word). record { formal = f; actual = a }) formal actual in
    let formals = map-append (λ (b : Bind). b.formal) binds (bind ∷ []) ∙ ap₂ (λ (fs : List Word) (f : Word). fs ++ f ∷ []) are.formals formal in
    record {
      spelled = map-append spelled_bind binds (bind ∷ []) ∙ ap₂ (λ (bs : List Binding) (b : Binding). bs ++ b ∷ []) are.spelled one ∙ sym (map-append bind_of words (word ∷ []));
      formals = formals ∙ sym (map-append formal_of words (word ∷ []));
      sides = list_any-append is_no_bind words (word ∷ []) ∙ ap₂ (λ (a b : Bool). a || (b || false)) are.sides sides;
      once = ap (repeats []) (map-append formal_of words (word ∷ [])) ∙ repeats-append [] (map formal_of words) (formal_of word ∷ []) ∙ ap₂ (λ (a b : Bool). a || (b || false)) are.once new;
      distinct = ap are_distinct formals ∙ distinct_push (map formal_of words) (formal_of word) (ap are_distinct (sym are.formals) ∙ are.distinct) new;
    }

-- a formal that stands before
pub formal_again : (words : List Word) (word : Word) (others : List Word) → repeats [] (map formal_of words) ≡ false → has_name (map formal_of words) (formal_of word) ≡ true
    → repeats [] (map formal_of (words ++ word ∷ others)) ≡ true
formal_again words word others once old =
    ap (repeats []) (map-append formal_of words (word ∷ others)) ∙ repeats-append [] (map formal_of words) (map formal_of (word ∷ others))
    ∙ ap₂ (λ (a b : Bool). a || (b || repeats (map formal_of words ++ formal_of word ∷ []) (map formal_of others))) once old
