-- What holds of the first part of a slice and of the rest holds of both.
use Rattle.std.proofs.Common.{◌≡◌, ◌<◌, ◌+◌, ◌-◌, ◌≤◌, ◌++◌, List, length, slice_get, ap, refl, sym, subst, ◌∙◌, ⊎_elim, arith}
use denote.Ref.{MutBor}
use denote.Param.Members.{Shared}
use Rattle.std.proofs.lemmas.Bool.{cases_lt}
use Rattle.std.proofs.lemmas.List.{get_or_append_left, get_or-append_right, length-append}
use Rattle.vw_node.proofs.Words.{get_append_left, get_append_right}
use Rattle.vw_crew.specs.Parts.{AcceptsParts, ChangesParts, IsInPart}

module _ {F X : Type 0} (g : Shared F (MutBor (List X) × Unit {0}) (Unit {0} × (MutBor (List X) × Unit {0}))) (f : F) where
  -- the parts of a slice are accepted where the slice's are
  pub accepts_first : (whole first rest : List X) → whole ≡ first ++ rest → AcceptsParts g f whole → AcceptsParts g f first
  accepts_first whole first rest is accepts = λ part among. accepts part (λ place x found.
      let there = among place x found in
      (there.0, ap (λ (list : List X). slice_get list there.0) is ∙ get_append_left first rest there.0 x there.1))

  pub accepts_rest : (whole first rest : List X) → whole ≡ first ++ rest → AcceptsParts g f whole → AcceptsParts g f rest
  accepts_rest whole first rest is accepts = λ part among. accepts part (λ place x found.
      let there = among place x found in
      (length first + there.0, ap (λ (list : List X). slice_get list (length first + there.0)) is ∙ get_append_right first rest there.0 ∙ there.1))

  -- it is accepted itself
  pub accepts_whole : (part : MutBor (List X)) → AcceptsParts g f part.now → g.pre f (part, tt)
  accepts_whole part accepts = accepts part (λ place x found. (place, found))

  -- what one call has left
  pub changes_one : (part left : MutBor (List X)) → g.post f (part, tt) (tt, (left, tt)) → ChangesParts g f part.now left.now
  changes_one part left call = λ place inside. record {
    part = part;
    left = left;
    call = call;
    offset = place;
    inside = inside;
    old = λ default. refl;
    new = λ default. refl;
  }

  -- what was left of both is left of the whole
  pub changes_both : (whole first rest first_left rest_left : List X) → whole ≡ first ++ rest → length first_left ≡ length first
      → ChangesParts g f first first_left → ChangesParts g f rest rest_left → ChangesParts g f whole (first_left ++ rest_left)
  changes_both whole first rest first_left rest_left is long changed others = λ place inside.
      subst (λ (list : List X). IsInPart g f list (first_left ++ rest_left) place) (sym is) (⊎_elim
      (λ (sooner : place < length first).
      let its = changed place sooner in
      record {
        part = its.part;
        left = its.left;
        call = its.call;
        offset = its.offset;
        inside = its.inside;
        old = λ default. its.old default ∙ sym (get_or_append_left first rest default place sooner);
        new = λ default. its.new default ∙ sym (get_or_append_left first_left rest_left default place (omega (arith, sooner, long)));
      })
      (λ (later : length first ≤ place).
      let its = others (place - length first) (omega (arith, later, inside, ap (λ (list : List X). length list) is, length-append first rest)) in
      record {
        part = its.part;
        left = its.left;
        call = its.call;
        offset = its.offset;
        inside = its.inside;
        old = λ default. its.old default ∙ sym (get_or-append_right first rest (length first) place default refl later);
        new = λ default. its.new default ∙ sym (get_or-append_right first_left rest_left (length first) place default long later);
      })
      (cases_lt place (length first)))
