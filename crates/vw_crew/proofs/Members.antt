-- A group in which one node has gone on.
use Rattle.std.proofs.Common.{◌≡◌, ◌<◌, ◌∷◌, ℕ, zero, suc, List, [], length, get_or, set, slice_get, ap, refl, sym, subst, ◌∙◌, ◌⊎◌, ⊎_elim, inl, inr, Option, Some, arith}
use Rattle.std.specs.Prelude.{unwrap_or}
use Rattle.std.proofs.Math.Seq.{map-set_same}
use Rattle.std.proofs.lemmas.Bool.{cases_eq}
use Rattle.std.proofs.lemmas.List.{get_or-set_other, get_or-set_same, length-set}
use Rattle.std.proofs.lemmas.Option.{get_or_from_slice_get, slice_get-get_or, slice_get_within}
use Rattle.vw_node.specs.declared.node.Node.{Node}
use Rattle.vw_crew.specs.Ends.{SeenOwn}
use Rattle.vw_crew.specs.Groups.{AreAtWork, IsAtWork, SeenGroup, Stays, own_marks, share_of}

-- what is at a place after one was set
pub got_set : {A : Type 0} (list : List A) (place : ℕ) (new : A) (other : ℕ) (one : A) → slice_get (set list place new) other ≡ Some one → ((other ≡ place) × (one ≡ new)) ⊎ (slice_get list other ≡ Some one)
got_set list place new other one is =
    let within : other < length list = omega (arith, slice_get_within (set list place new) other one is, length-set list place new) in
    let here : get_or (set list place new) other one ≡ one = get_or_from_slice_get (set list place new) other one one is in
    let if_same = λ (same : other ≡ place).
    let its : one ≡ new = sym here ∙ ap (λ (at : ℕ). get_or (set list place new) at one) same ∙ get_or-set_same list place new one (omega (arith, within, same)) in
    let whole : ((other ≡ place) × (one ≡ new)) ⊎ (slice_get list other ≡ Some one) = inl (same, its) in whole in
    let if_other = λ (apart : other ≡ place → ⊥).
    let its : get_or list other one ≡ one = sym (get_or-set_other list place other new one apart) ∙ here in
    let whole : ((other ≡ place) × (one ≡ new)) ⊎ (slice_get list other ≡ Some one) = inr (slice_get-get_or list other one within ∙ ap Some its) in whole in
    ⊎_elim if_same if_other (cases_eq other place)

-- at the place itself, and at another
pub got_here : {A : Type 0} (list : List A) (place : ℕ) (new : A) → place < length list → slice_get (set list place new) place ≡ Some new
got_here list place new within = slice_get-get_or (set list place new) place new (omega (arith, within, length-set list place new)) ∙ ap Some (get_or-set_same list place new new within)

pub got_other : {A : Type 0} (list : List A) (place : ℕ) (new : A) (other : ℕ) → (other ≡ place → ⊥) → slice_get (set list place new) other ≡ slice_get list other
got_other [] place new other apart = refl
got_other (first ∷ list) zero new zero apart = absurd (apart refl)
got_other (first ∷ list) zero new (suc other) apart = refl
got_other (first ∷ list) (suc place) new zero apart = refl
got_other (first ∷ list) (suc place) new (suc other) apart = got_other list place new other (λ same. apart (ap suc same))

module _ (group : SeenGroup) (work : AreAtWork group) (place : ℕ) (node new : Node) (own after : SeenOwn) (node_is : slice_get group.nodes place ≡ Some node) (own_is : slice_get group.ends place ≡ Some own) where
  abbrev then_group : SeenGroup
  then_group = record group { nodes = set group.nodes place new; ends = set group.ends place after }

  pub gone_work : IsAtWork new after → AreAtWork then_group
  gone_work gone other there its there_is its_is =
      let nodes = got_set group.nodes place new other there there_is in
      let ends = got_set group.ends place after other its its_is in
      ⊎_elim
      (λ (here : (other ≡ place) × (there ≡ new)). ⊎_elim
      (λ (ours : (other ≡ place) × (its ≡ after)). subst (λ (one : Node). IsAtWork one its) (sym here.1) (subst (IsAtWork new) (sym ours.1) gone))
      (λ (old : slice_get group.ends other ≡ Some its).
      let same : its ≡ after = ap (λ (found : Option SeenOwn). unwrap_or found its) (sym its_is ∙ ap (slice_get (set group.ends place after)) here.0 ∙ got_here group.ends place after (slice_get_within group.ends place own own_is)) in
      subst (λ (one : Node). IsAtWork one its) (sym here.1) (subst (IsAtWork new) (sym same) gone)) ends)
      (λ (before : slice_get group.nodes other ≡ Some there). ⊎_elim
      (λ (ours : (other ≡ place) × (its ≡ after)).
      let same : there ≡ new = ap (λ (found : Option Node). unwrap_or found there) (sym there_is ∙ ap (slice_get (set group.nodes place new)) ours.0 ∙ got_here group.nodes place new (slice_get_within group.nodes place node node_is)) in
      subst (λ (one : Node). IsAtWork one its) (sym same) (subst (IsAtWork new) (sym ours.1) gone))
      (λ (old : slice_get group.ends other ≡ Some its). work other there its before old) ends) nodes

  pub gone_stays : new.share ≡ node.share → own_marks after ≡ own_marks own → Stays group then_group
  gone_stays share marks = record {
    number = refl;
    shares = map-set_same share_of group.nodes place new node (share ∙ ap share_of (sym (get_or_from_slice_get group.nodes place node node node_is)));
    marks = map-set_same own_marks group.ends place after own (marks ∙ ap own_marks (sym (get_or_from_slice_get group.ends place own own own_is)));
  }

pub stays_same : (group : SeenGroup) → Stays group group
stays_same group = record { number = refl; shares = refl; marks = refl }

pub stays_on : (first second third : SeenGroup) → Stays first second → Stays second third → Stays first third
stays_on first second third one two = record { number = two.number ∙ one.number; shares = two.shares ∙ one.shares; marks = two.marks ∙ one.marks }
