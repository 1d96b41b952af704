-- The hops that use a pin: where each user comes from, and that a pin has one in each microcycle at most.
use Rattle.std.proofs.Common.{◌≡◌, ◌<◌, ◌+◌, ◌&&◌, ◌==◌, ◌∙◌, ℕ, zero, suc, Bool, true, false, List, [], ◌∷◌, length, slice_get, Some, if◌then◌else◌, ap, ap₂, refl, sym, ⊎_elim, true≢false, eqb-true, eq-eqb, arith}
use Rattle.std.specs.List.{list_any}
use Rattle.std.proofs.lemmas.Bool.{and_from, and_parts, cases_Bool}
use Rattle.std.proofs.lemmas.Option.{none-some, same_Some, slice_get_within}
use Rattle.vw_net.proofs.ListedLists.{StandsIn, any_stands, from_any, from_gather, from_listed, from_when, has_gather, has_listed, has_when}
use Rattle.vw_plan.specs.Lead.{carries}
use Rattle.vw_plan.specs.PlannedBoard.{PlannedBoard}
use Rattle.vw_plan.specs.Sound.{IsSound, share_pin}
use Rattle.vw_plan.specs.declared.link.Link.{Link}
use Rattle.vw_plan.specs.declared.wire.Hop.{Hop}
use Rattle.vw_plan.specs.declared.wire.Wire.{Wire}
use Rattle.vw_plan.proofs.OneHopAPin.{only_user}
use Rattle.vw_emit_hardware.specs.Items.{User, leaves_by, users, users_at, wire_users}
use Rattle.vw_emit_hardware.specs.Names.{sent_name}

-- ---- tests that one element decides

-- where an element has a bit, and no element passes a test unless the bit is 1, the bit is whether any passes
pub decided : {X : Type 0} (test : X → Bool) (xs : List X) (x : X) (bit : Bool) → StandsIn x xs → test x ≡ bit
    → ((y : X) → StandsIn y xs → test y ≡ true → bit ≡ true) → list_any test xs ≡ bit
decided test xs x true stands is others = any_stands test x xs stands is
decided test xs x false stands is others =
    ⊎_elim (λ any. let found = from_any test xs any in absurd (true≢false (sym (others found.0 found.1 found.2)))) (λ none. none) (cases_Bool (list_any test xs))

-- ---- users

module _ (planned : PlannedBoard) (link : Link) (pin : ℕ) where
  -- the user that a hop is
  abbrev pub user_of : ℕ → Wire → ℕ → ℕ → Hop → User
  user_of wire is place at hop = record { at = at; name = sent_name planned wire is place hop }

  -- a hop that is a user
  pub record UserHop (user : User) : Type 0 where
    pub wire : ℕ
    pub place : ℕ
    pub is : Wire
    pub hop : Hop
    pub there : slice_get planned.plan.wires wire ≡ Some is
    pub stands : slice_get is.hops place ≡ Some hop
    pub leaves : leaves_by link pin user.at hop ≡ true
    pub named : user.name ≡ sent_name planned wire is place hop

  -- each user is a hop
  pub user_hop : (user : User) → StandsIn user (users planned link pin) → UserHop user
  user_hop user stands =
      let given = from_gather user (users_at planned link pin) planned.plan.period stands in
      let of_wire = from_listed user (wire_users planned link pin given.number) 0 planned.plan.wires given.stands in
      let number = 0 + of_wire.place in
      let each = λ (place : ℕ) (hop : Hop). if leaves_by link pin given.number hop then user_of number of_wire.item place given.number hop ∷ [] else [] in
      let of_hop = from_listed user each 0 of_wire.item.hops of_wire.stands in
      let own = from_when (leaves_by link pin given.number of_hop.item) user (user_of number of_wire.item (0 + of_hop.place) given.number of_hop.item ∷ []) of_hop.stands in
      let none_wire : 0 + of_wire.place ≡ of_wire.place = omega arith in
      let none_place : 0 + of_hop.place ≡ of_hop.place = omega arith in
      let same = only (user_of number of_wire.item (0 + of_hop.place) given.number of_hop.item) user own.1 in
      record {
        wire = of_wire.place;
        place = of_hop.place;
        is = of_wire.item;
        hop = of_hop.item;
        there = of_wire.at;
        stands = of_hop.at;
        leaves = ap (λ (one : User). leaves_by link pin one.at of_hop.item) (sym same) ∙ own.0;
        named = ap (λ (one : User). one.name) (sym same) ∙ ap₂ (λ (w k : ℕ). sent_name planned w of_wire.item k of_hop.item) none_wire none_place;
      } where
        only : (one other : User) → StandsIn other (one ∷ []) → one ≡ other
        only one other found = first one other found.0 found.1 where
          first : (x y : User) (place : ℕ) → slice_get (x ∷ []) place ≡ Some y → x ≡ y
          first x y zero is = same_Some x y is
          first x y (suc place) is = absurd (none-some y is)

  -- each hop that leaves by the pin is a user
  pub is_user : (wire place : ℕ) (is : Wire) (hop : Hop) → slice_get planned.plan.wires wire ≡ Some is → slice_get is.hops place ≡ Some hop
      → hop.at < planned.plan.period → leaves_by link pin hop.at hop ≡ true
      → StandsIn (user_of wire is place hop.at hop) (users planned link pin)
  is_user wire place is hop there stands below leaves =
      let user = user_of wire is place hop.at hop in
      let none_wire : 0 + wire ≡ wire = omega arith in
      let none_place : 0 + place ≡ place = omega arith in
      let each = λ (number : ℕ) (one : Hop). if leaves_by link pin hop.at one then user_of wire is number hop.at one ∷ [] else [] in
      let own : StandsIn user (each (0 + place) hop) = rw none_place (has_when (leaves_by link pin hop.at hop) user (user ∷ []) leaves (0, refl)) in
      let of_wire : StandsIn user (wire_users planned link pin hop.at (0 + wire) is) = rw none_wire (has_listed user each 0 is.hops place hop stands own) in
      has_gather user (users_at planned link pin) planned.plan.period hop.at below (has_listed user (wire_users planned link pin hop.at) 0 planned.plan.wires wire is there of_wire)

  -- hops that leave by the pin in one microcycle share it
  pub shares : (one other : Hop) (at : ℕ) → leaves_by link pin at one ≡ true → leaves_by link pin at other ≡ true → share_pin one other ≡ true
  shares one other at first second =
      let p = and_parts (carries one link) (one.pin == pin && one.at == at) first in
      let q = and_parts (carries other link) (other.pin == pin && other.at == at) second in
      let p_ends = and_parts (link.from == one.from) (link.to == one.to) p.0 in
      let q_ends = and_parts (link.from == other.from) (link.to == other.to) q.0 in
      let p_slot = and_parts (one.pin == pin) (one.at == at) p.1 in
      let q_slot = and_parts (other.pin == pin) (other.at == at) q.1 in
      let from = sym (eqb-true link.from one.from p_ends.0) ∙ eqb-true link.from other.from q_ends.0 in
      let to = sym (eqb-true link.to one.to p_ends.1) ∙ eqb-true link.to other.to q_ends.1 in
      let slot = eqb-true one.pin pin p_slot.0 ∙ sym (eqb-true other.pin pin q_slot.0) in
      let time = eqb-true one.at at p_slot.1 ∙ sym (eqb-true other.at at q_slot.1) in
      and_from (one.from == other.from && one.to == other.to) (one.pin == other.pin && one.at == other.at)
      (and_from (one.from == other.from) (one.to == other.to) (eq-eqb one.from other.from from) (eq-eqb one.to other.to to))
      (and_from (one.pin == other.pin) (one.at == other.at) (eq-eqb one.pin other.pin slot) (eq-eqb one.at other.at time))

  -- so a user in the microcycle of a hop sends what the hop sends
  pub one_sends : IsSound planned → (wire place : ℕ) (is : Wire) (hop : Hop) → slice_get planned.plan.wires wire ≡ Some is
      → slice_get is.hops place ≡ Some hop → leaves_by link pin hop.at hop ≡ true
      → (user : User) → StandsIn user (users planned link pin) → user.at ≡ hop.at → user.name ≡ sent_name planned wire is place hop
  one_sends sound wire place is hop there stands leaves user standing same =
      let own = user_hop user standing in
      let its : leaves_by link pin hop.at own.hop ≡ true = ap (λ (at : ℕ). leaves_by link pin at own.hop) (sym same) ∙ own.leaves in
      let equal = only_user planned sound own.wire own.place wire place own.is is own.hop hop own.there own.stands there stands (shares own.hop hop hop.at its leaves) in
      let wires : own.is ≡ is = same_Some own.is is (sym own.there ∙ ap (slice_get planned.plan.wires) equal.0 ∙ there) in
      let hops : own.hop ≡ hop = same_Some own.hop hop (sym own.stands ∙ ap₂ (λ (w : Wire) (k : ℕ). slice_get w.hops k) wires equal.1 ∙ stands) in
      own.named ∙ together own.wire wire own.place place own.is is own.hop hop equal.0 equal.1 wires hops where
        together : (w w' k k' : ℕ) (x x' : Wire) (h h' : Hop) → w ≡ w' → k ≡ k' → x ≡ x' → h ≡ h' → sent_name planned w x k h ≡ sent_name planned w' x' k' h'
        together w w' k k' x x' h h' a b c d = λ i. sent_name planned (a i) (c i) (b i) (d i)

  -- a pin that a hop leaves by is used
  pub has_users : (wire place : ℕ) (is : Wire) (hop : Hop) → slice_get planned.plan.wires wire ≡ Some is
      → slice_get is.hops place ≡ Some hop → hop.at < planned.plan.period → leaves_by link pin hop.at hop ≡ true
      → 0 < length (users planned link pin)
  has_users wire place is hop there stands below leaves =
      let standing = is_user wire place is hop there stands below leaves in
      let inside = slice_get_within (users planned link pin) standing.0 (user_of wire is place hop.at hop) standing.1 in
      omega (arith, inside)
