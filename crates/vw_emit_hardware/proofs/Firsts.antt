-- The first wire that brings a net to a node: it gives the net's name there, and its lead.
use Rattle.std.proofs.Common.{◌≡◌, ◌+◌, ◌-◌, ◌∙◌, ℕ, zero, suc, Bool, true, false, List, [], ◌∷◌, length, slice_get, Option, Some, None, cond, ap, refl, sym, true≢false, arith}
use Rattle.std.specs.List.{find}
use Rattle.std.specs.Option.{option_map_or, option_or, unwrap_or}
use Rattle.std.proofs.lemmas.Option.{none-some, same_Some}
use Rattle.vw_net.specs.FirstFound.{first_at}
use Rattle.vw_plan.specs.Lead.{after_last, brings, brought_at}
use Rattle.vw_plan.specs.PlannedBoard.{PlannedBoard}
use Rattle.vw_plan.specs.declared.wire.Wire.{Wire}
use Rattle.vw_emit_hardware.specs.Locals.{Local, held}
use Rattle.vw_emit_hardware.specs.Names.{brought_by, brought_name}

-- the first of some wires that brings a net to a node, where they are numbered from a number on
record IsFirst (net node from : ℕ) (wires : List Wire) : Type 0 where
  place : ℕ
  wire : Wire
  there : slice_get wires place ≡ Some wire
  brought : brings net node wire ≡ true
  named : first_at (brought_by net node) from wires ≡ Some (held (from + place) (length wire.hops - 1))
  found : find (brings net node) wires ≡ Some wire

-- there is one, if there is any
the_first : (net node from : ℕ) (wires : List Wire) (place : ℕ) (wire : Wire) → slice_get wires place ≡ Some wire
    → brings net node wire ≡ true → IsFirst net node from wires
the_first net node from [] place wire at is = absurd (none-some wire at)
the_first net node from (first ∷ wires) place wire at is = by (brings net node first) refl place at (λ k there. the_first net node (suc from) wires k wire there is) where
  here : Bool → Option Local
  here test = option_or (cond test (Some (held from (length first.hops - 1))) None) (first_at (brought_by net node) (suc from) wires)

  later : brings net node first ≡ false → (k : ℕ) → slice_get (first ∷ wires) k ≡ Some wire
      → ((j : ℕ) → slice_get wires j ≡ Some wire → IsFirst net node (suc from) wires) → IsFirst net node (suc from) wires
  later own zero there rest = absurd (true≢false (sym (ap (brings net node) (same_Some first wire there) ∙ is) ∙ own))
  later own (suc k) there rest = rest k there

  by : (passes : Bool) → brings net node first ≡ passes → (k : ℕ) → slice_get (first ∷ wires) k ≡ Some wire
      → ((j : ℕ) → slice_get wires j ≡ Some wire → IsFirst net node (suc from) wires) → IsFirst net node from (first ∷ wires)
  by true own k there rest =
      let none : from ≡ from + 0 = omega arith in
      record {
        place = 0;
        wire = first;
        there = refl;
        brought = own;
        named = ap here own ∙ ap (λ (number : ℕ). Some (held number (length first.hops - 1))) none;
        found = ap (λ (test : Bool). cond test (Some first) (find (brings net node) wires)) own;
      }
  by false own k there rest =
      let next = later own k there rest in
      let one : suc from + next.place ≡ from + suc next.place = omega arith in
      record {
        place = suc next.place;
        wire = next.wire;
        there = next.there;
        brought = next.brought;
        named = ap here own ∙ next.named ∙ ap (λ (number : ℕ). Some (held number (length next.wire.hops - 1))) one;
        found = ap (λ (test : Bool). cond test (Some first) (find (brings net node) wires)) own ∙ next.found;
      }

-- the wire by which a net has its name at a node, and its lead there
pub record BroughtBy (planned : PlannedBoard) (net node : ℕ) : Type 0 where
  pub number : ℕ
  pub wire : Wire
  pub there : slice_get planned.plan.wires number ≡ Some wire
  pub brought : brings net node wire ≡ true
  pub named : brought_name planned node net ≡ held number (length wire.hops - 1)
  pub lead : brought_at planned node net ≡ after_last planned.board.links wire.hops

-- there is one wherever a wire brings the net
pub brought_by_first : (planned : PlannedBoard) (net node place : ℕ) (wire : Wire) → slice_get planned.plan.wires place ≡ Some wire
    → brings net node wire ≡ true → BroughtBy planned net node
brought_by_first planned net node place wire at is =
    let first = the_first net node 0 planned.plan.wires place wire at is in
    let none : 0 + first.place ≡ first.place = omega arith in
    record {
      number = first.place;
      wire = first.wire;
      there = first.there;
      brought = first.brought;
      named = ap (λ (name : Option Local). unwrap_or name (held 0 0)) first.named ∙ ap (λ (number : ℕ). held number (length first.wire.hops - 1)) none;
      lead = ap (λ (found : Option Wire). option_map_or (λ one. after_last planned.board.links one.hops) found 0) first.found;
    }
