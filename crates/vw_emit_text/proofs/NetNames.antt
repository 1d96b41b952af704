-- The register that brings a net to a node: of the first wire that does.
use Rattle.std.proofs.Common.{◌≡◌, ◌∙◌, ◌+◌, ◌-◌, ◌&&◌, ℕ, suc, Bool, true, false, cond, List, [], ◌∷◌, length, slice_get, Option, Some, None, ap, ap₂, refl, sym, true≢false, arith}
use Rattle.std.specs.Prelude.{unwrap_or}
use Rattle.std.specs.Option.{option_map_or, option_or}
use Rattle.vw_net.proofs.Orders.{eqb_comm}
use Rattle.vw_net.specs.FirstFound.{first_at}
use Rattle.vw_plan.specs.Lead.{brings}
use Rattle.vw_plan.specs.PlannedBoard.{PlannedBoard}
use Rattle.vw_plan.specs.declared.wire.Wire.{Wire}
use Rattle.vw_ready.specs.Pairs.{first_pair, is_number_pair}
use Rattle.vw_ready.specs.Wires.{wire_pairs}
use Rattle.vw_emit_hardware.specs.Locals.{held}
use Rattle.vw_emit_hardware.specs.Names.{brought_by, brought_name}
use Rattle.vw_emit_text.specs.Steps.{last_held, last_hop}

-- both tests of a wire
same_pair : (net node : ℕ) (wire : Wire) → brings net node wire ≡ is_number_pair net node (wire.net, wire.to)
same_pair net node wire = ap₂ (λ (one other : Bool). one && other) (eqb_comm wire.net net) (eqb_comm wire.to node)

-- the register of the first of some wires that brings a net, where they stand among all wires from a number on
found_name : (net node from : ℕ) (all wires : List Wire)
    → ((place : ℕ) (wire : Wire) → slice_get wires place ≡ Some wire → slice_get all (from + place) ≡ Some wire)
    → unwrap_or (first_at (brought_by net node) from wires) (held 0 0) ≡ last_held (first_pair from (wire_pairs wires) net node) all
found_name net node from all [] at = refl
found_name net node from all (wire ∷ wires) at = by (brings net node wire) (is_number_pair net node (wire.net, wire.to)) (same_pair net node wire)
    (found_name net node (suc from) all wires (λ place next is. let one : suc from + place ≡ from + suc place = omega arith in ap (slice_get all) one ∙ at (suc place) next is)) where
      last : last_hop all from ≡ length wire.hops - 1
      last =
          let none : from ≡ from + 0 = omega arith in
          ap (λ (found : Option Wire). option_map_or (λ one. length one.hops - 1) found 0) (ap (slice_get all) none ∙ at 0 wire refl)

      by : (one other : Bool) → one ≡ other
          → unwrap_or (first_at (brought_by net node) (suc from) wires) (held 0 0) ≡ last_held (first_pair (suc from) (wire_pairs wires) net node) all
          → unwrap_or (option_or (cond one (Some (held from (length wire.hops - 1))) None) (first_at (brought_by net node) (suc from) wires)) (held 0 0)
          ≡ last_held (option_or (cond other (Some from) None) (first_pair (suc from) (wire_pairs wires) net node)) all
      by true true same rest = ap (held from) (sym last)
      by false false same rest = rest
      by true false same rest = absurd (true≢false same)
      by false true same rest = absurd (true≢false (sym same))

pub brought_is : (planned : PlannedBoard) (node net : ℕ)
    → last_held (first_pair 0 (wire_pairs planned.plan.wires) net node) planned.plan.wires ≡ brought_name planned node net
brought_is planned node net =
    sym (found_name net node 0 planned.plan.wires planned.plan.wires (λ place wire is. let none : 0 + place ≡ place = omega arith in ap (slice_get planned.plan.wires) none ∙ is))
