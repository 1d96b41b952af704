-- The node with a number in its group.
use Rattle.std.proofs.Common.{◌≡◌, ◌<◌, ◌+◌, ◌*◌, ◌/◌, ◌%◌, ℕ, Bool, List, length, set, eq-eqb, slice_get, get_or, ap, refl, sym, ◌∙◌, ◌⊎◌, inl, inr, Option, Some, None}
use Rattle.std.specs.Prelude.{option_map, unwrap_or}
use Rattle.std.specs.Option.{option_and_then}
use Rattle.std.proofs.Math.Nat.{div-add-mod}
use Rattle.std.proofs.Math.Seq.{map-set_same}
use Rattle.std.proofs.lemmas.Bool.{cases_eq, ne_eqb}
use Rattle.std.proofs.lemmas.List.{length-set}
use Rattle.std.proofs.lemmas.Option.{get_or_from_slice_get, none-some, slice_get_within}
use Rattle.vw_prog.specs.Fabric.{SeenPutEnd, SeenTakeEnd}
use Rattle.vw_crew.specs.Ends.{SeenOwn}
use Rattle.vw_crew.specs.Groups.{Changes, SeenGroup, own_at, placed, relaid}
use Rattle.vw_crew.proofs.Members.{got_here, got_other}

-- what is found by two look-ups is found by the first, and then by the second
pub both_found : {A B : Type 0} (next : A → Option B) (first : Option A) (last : B) → option_and_then next first ≡ Some last → (one : A) × ((first ≡ Some one) × (next one ≡ Some last))
both_found next None last is = absurd (none-some last is)
both_found next (Some one) last is = (one, (refl, is))

-- two numbers with one rest and one quotient are the same
pub same_number : (node other count : ℕ) → other % count ≡ node % count → other / count ≡ node / count → other ≡ node
same_number node other count rest quotient = sym (div-add-mod other count) ∙ ap (λ (whole : ℕ). count * whole + other % count) quotient ∙ ap (λ (part : ℕ). count * (node / count) + part) rest ∙ div-add-mod node count

-- what changes nothing leaves what is found
same_mapped : {A : Type 0} (change : A → A) (found : Option A) → ((one : A) → change one ≡ one) → option_map change found ≡ found
same_mapped change None same = refl
same_mapped change (Some one) same = ap Some (same one)

-- a node has ends
module _ (groups : List SeenGroup) (node : ℕ) (own : SeenOwn) (there : own_at groups node ≡ Some own) where
  abbrev count : ℕ
  count = length groups

  own_found : (group : SeenGroup) × ((slice_get groups (node % count) ≡ Some group) × (slice_get group.ends (node / count) ≡ Some own))
  own_found = both_found (λ group. slice_get group.ends (node / count)) (slice_get groups (node % count)) own there

  -- code reads a group, with any other where there is none
  module _ (any : SeenGroup) where
    abbrev read : SeenGroup
    read = get_or groups (node % count) any

    read_is : read ≡ own_found.0
    read_is = get_or_from_slice_get groups (node % count) own_found.0 any own_found.1.0

    group_is : slice_get groups (node % count) ≡ Some read
    group_is = own_found.1.0 ∙ ap Some (sym read_is)

    -- the group that is read has the ends of the node
    read_has : slice_get read.ends (node / count) ≡ Some own
    read_has = ap (λ (group : SeenGroup). slice_get group.ends (node / count)) read_is ∙ own_found.1.1

    pub place_inside : node / count < length read.ends
    place_inside = slice_get_within read.ends (node / count) own read_has

    -- those that it lends at the place are these
    pub same_own : (lent : SeenOwn) → slice_get read.ends (node / count) ≡ Some lent → lent ≡ own
    same_own lent is = ap (λ (found : Option SeenOwn). unwrap_or found lent) (sym is ∙ read_has)

    -- once it is written with other ends of a link in their place, the node has these
    module _ (link : ℕ) (put : Option SeenPutEnd) (take : Option SeenTakeEnd) (after : SeenOwn) (after_is : after ≡ record own { puts = set own.puts link put; takes = set own.takes link take }) where
      abbrev new_group : SeenGroup
      new_group = record read { ends = set read.ends (node / count) after }

      abbrev new : List SeenGroup
      new = set groups (node % count) new_group

      same_count : length new ≡ count
      same_count = length-set groups (node % count) new_group

      group_here : slice_get new (node % count) ≡ Some new_group
      group_here = got_here groups (node % count) new_group (slice_get_within groups (node % count) read group_is)

      abbrev look : {A : Type 0} → (SeenGroup → List A) → List SeenGroup → ℕ → Option A
      look part list other = option_and_then (λ group. slice_get (part group) (other / count)) (slice_get list (other % count))

      -- what stands in a part of the groups that is as it was
      kept : {A : Type 0} (part : SeenGroup → List A) (other : ℕ) → (other % count ≡ node % count → slice_get (part new_group) (other / count) ≡ slice_get (part read) (other / count)) → look part new other ≡ look part groups other
      kept part other same = by (cases_eq (other % count) (node % count)) where
        by : (other % count ≡ node % count) ⊎ (other % count ≡ node % count → ⊥) → look part new other ≡ look part groups other
        by (inl here) =
            ap (λ (place : ℕ). option_and_then (λ group. slice_get (part group) (other / count)) (slice_get new place)) here
            ∙ ap (option_and_then (λ group. slice_get (part group) (other / count))) group_here
            ∙ same here
            ∙ sym (ap (option_and_then (λ group. slice_get (part group) (other / count))) group_is)
            ∙ sym (ap (λ (place : ℕ). option_and_then (λ group. slice_get (part group) (other / count)) (slice_get groups place)) here)
        by (inr apart) = ap (option_and_then (λ group. slice_get (part group) (other / count))) (got_other groups (node % count) new_group (other % count) apart)

      pub written : Changes node link put take groups new
      written = record {
        count = same_count;
        numbers = map-set_same (λ group. group.number) groups (node % count) new_group any refl;
        nodes = λ other. ap (λ (many : ℕ). option_and_then (λ group. slice_get group.nodes (other / many)) (slice_get new (other % many))) same_count ∙ kept (λ group. group.nodes) other (λ same. refl);
        ends = λ other. ap (λ (many : ℕ). option_and_then (λ group. slice_get group.ends (other / many)) (slice_get new (other % many))) same_count ∙ by other (cases_eq other node);
      } where
        by : (other : ℕ) → (other ≡ node) ⊎ (other ≡ node → ⊥) → look (λ group. group.ends) new other ≡ option_map (relaid node link put take other) (own_at groups other)
        by other (inl same) =
            ap (look (λ group. group.ends) new) same
            ∙ ap (option_and_then (λ group. slice_get group.ends (node / count))) group_here
            ∙ got_here read.ends (node / count) after place_inside
            ∙ ap Some (after_is ∙ sym (ap (λ (here : Bool). record own { puts = placed here link put own.puts; takes = placed here link take own.takes }) (eq-eqb node node refl)))
            ∙ sym (ap (option_map (relaid node link put take node)) there)
            ∙ sym (ap (λ (at : ℕ). option_map (relaid node link put take at) (own_at groups at)) same)
        by other (inr apart) =
            kept (λ group. group.ends) other (λ same. got_other read.ends (node / count) after (other / count) (λ quotient. apart (same_number node other count same quotient)))
            ∙ sym (same_mapped (relaid node link put take other) (own_at groups other) (λ one. ap (λ (here : Bool). record one { puts = placed here link put one.puts; takes = placed here link take one.takes }) (ne_eqb other node apart)))
