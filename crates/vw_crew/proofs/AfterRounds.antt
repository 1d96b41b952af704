-- Groups after a round, of each of which it is known what it did.
use Rattle.std.proofs.Common.{◌≡◌, ◌<◌, ◌∷◌, ℕ, suc, List, [], length, map, get_or, set, ap, ap₂, refl, sym, subst, ◌∙◌, ⊎_elim, arith}
use Rattle.std.proofs.Math.Seq.{map-set_same}
use Rattle.std.proofs.Math.ListN.{get_or-map}
use Rattle.std.proofs.lemmas.List.{length-map}
use Rattle.std.proofs.lemmas.Option.{get_or_from_slice_get, slice_get-get_or, slice_get_within}
use Rattle.vw_crew.specs.Groups.{AllAtWork, AllStay, AreAtWork, SeenGroup, Stays, own_marks, share_of}
use Rattle.vw_crew.proofs.Members.{got_set}

map_each : {X : Type 0} (part : SeenGroup → X) (old new : List SeenGroup) → length new ≡ length old → ((number : ℕ) (default : SeenGroup) → number < length old → part (get_or new number default) ≡ part (get_or old number default)) → map part new ≡ map part old
map_each part [] [] long each = refl
map_each part [] (group ∷ new) long each = absurd (omega (arith, long))
map_each part (group ∷ old) [] long each = absurd (omega (arith, long))
map_each part (group ∷ old) (other ∷ new) long each = ap₂ (λ (first : _) (rest : List _). first ∷ rest) (each 0 group (omega arith)) (map_each part old new (omega (arith, long)) (λ number default below. each (suc number) default (omega (arith, below))))

module _ (old new : List SeenGroup) (long : length new ≡ length old) (each : (number : ℕ) (default : SeenGroup) → number < length old → AreAtWork (get_or new number default) × Stays (get_or old number default) (get_or new number default)) where
  pub round_works : AllAtWork new
  round_works number group is =
      let within : number < length old = omega (arith, slice_get_within new number group is, long) in
      subst AreAtWork (get_or_from_slice_get new number group group is) (each number group within).0

  pub round_stays : AllStay old new
  round_stays = record {
    numbers = map_each (λ (group : SeenGroup). group.number) old new long (λ number default below. (each number default below).1.number);
    shares = map_each (λ (group : SeenGroup). map share_of group.nodes) old new long (λ number default below. (each number default below).1.shares);
    marks = map_each (λ (group : SeenGroup). map own_marks group.ends) old new long (λ number default below. (each number default below).1.marks);
  }

-- groups that have gone on are as many, and each of them has gone on
module _ (old new : List SeenGroup) (stay : AllStay old new) where
  stays_long : length new ≡ length old
  stays_long = sym (length-map new (λ (group : SeenGroup). group.number)) ∙ ap (λ (list : List ℕ). length list) stay.numbers ∙ length-map old (λ (group : SeenGroup). group.number)

  part_at : {X : Type 0} (part : SeenGroup → X) → map part new ≡ map part old → (number : ℕ) (default : SeenGroup) → part (get_or new number default) ≡ part (get_or old number default)
  part_at part same number default = sym (get_or-map part new number default) ∙ ap (λ (list : List _). get_or list number (part default)) same ∙ get_or-map part old number default

  stays_at : (number : ℕ) (default : SeenGroup) → Stays (get_or old number default) (get_or new number default)
  stays_at number default = record {
    number = part_at (λ (group : SeenGroup). group.number) stay.numbers number default;
    shares = part_at (λ (group : SeenGroup). map share_of group.nodes) stay.shares number default;
    marks = part_at (λ (group : SeenGroup). map own_marks group.ends) stay.marks number default;
  }

-- so has a group in a part of the groups
pub in_part : (part left : List SeenGroup) → AllAtWork left × AllStay part left → (offset : ℕ) → offset < length part
    → (default old new : SeenGroup) → get_or part offset default ≡ old → get_or left offset default ≡ new → AreAtWork new × Stays old new
in_part part left kept offset inside default old new old_is new_is = (
  subst AreAtWork new_is (kept.0 offset (get_or left offset default) (slice_get-get_or left offset default (omega (arith, inside, stays_long part left kept.1)))),
  subst (λ (one : SeenGroup). Stays one new) old_is (subst (λ (one : SeenGroup). Stays (get_or part offset default) one) new_is (stays_at part left kept.1 offset default)),
)

-- one group has gone on
module _ (groups : List SeenGroup) (number : ℕ) (new : SeenGroup) where
  pub turned_works : AllAtWork groups → AreAtWork new → AllAtWork (set groups number new)
  turned_works work gone other group is = ⊎_elim (λ here. subst AreAtWork (sym here.1) gone) (λ old. work other group old) (got_set groups number new other group is)

  pub turned_stay : (default : SeenGroup) → Stays (get_or groups number default) new → AllStay groups (set groups number new)
  turned_stay default stays = record {
    numbers = map-set_same (λ (group : SeenGroup). group.number) groups number new default stays.number;
    shares = map-set_same (λ (group : SeenGroup). map share_of group.nodes) groups number new default stays.shares;
    marks = map-set_same (λ (group : SeenGroup). map own_marks group.ends) groups number new default stays.marks;
  }
