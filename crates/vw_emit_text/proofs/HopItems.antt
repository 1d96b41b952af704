-- The items of the hops that reach a node, in the order of the hops.
use Rattle.std.proofs.Common.{◌≡◌, ◌∙◌, ◌+◌, ◌==◌, ℕ, Bool, true, false, cond, List, [], ◌∷◌, slice_get, Some, ap, ap₂, sym, ⊎_elim, arith}
use Rattle.std.proofs.lemmas.Bool.{cases_Bool}
use Rattle.vw_net.specs.declared.cell.Init.TheVariants.{Zero as StartsAtZero}
use Rattle.vw_plan.specs.Lead.{arrival, carries}
use Rattle.vw_plan.specs.PlannedBoard.{PlannedBoard}
use Rattle.vw_plan.specs.Sound.{IsSound}
use Rattle.vw_plan.specs.declared.link.Link.{Link}
use Rattle.vw_plan.specs.declared.wire.Hop.{Hop}
use Rattle.vw_plan.specs.declared.wire.Wire.{Wire}
use Rattle.vw_plan.proofs.HopLinks.{HopLink, hop_facts, one_link}
use Rattle.vw_prog.proofs.HopPlaces.{hop_place}
use Rattle.vw_emit_hardware.specs.Items.{catch_items, hop_items, hops_to}
use Rattle.vw_emit_hardware.specs.Locals.{LocalItem, caught, held, moment, pin_in, register, table}
use Rattle.vw_emit_hardware.specs.Tables.{choice}
use Rattle.vw_emit_text.specs.Outlets.{numbered_hop, numbered_hops}
use Rattle.vw_emit_text.specs.Steps.{caught_items, registers}
use Rattle.vw_emit_text.proofs.Lists.{listed_one}
use Rattle.vw_emit_text.proofs.PinUsers.{each_hop}

module _ (planned : PlannedBoard) where
  -- the two items of a hop, which goes over a link of this number
  abbrev pub caught_over : ℕ → ℕ → Hop → ℕ → List LocalItem
  caught_over wire number hop at =
      table (moment (arrival planned.board.links hop) ∷ pin_in at hop.pin ∷ held wire number ∷ []) (caught wire number) true choice
      ∷ register (caught wire number) (held wire number) StartsAtZero ∷ []

  module _ (sound : IsSound planned) where
    -- its items stand for its one link
    pub hop_items_are : (wire number : ℕ) (hop : Hop) (own : HopLink planned.board hop)
        → hop_items planned wire number hop ≡ caught_over wire number hop own.number
    hop_items_are wire number hop own =
        let none : 0 + own.number ≡ own.number = omega arith in
        listed_one (catch_items planned wire number hop) 0 planned.board.links own.number own.link own.there others
        ∙ ap₂ (λ (test : Bool) (at : ℕ). cond test (caught_over wire number hop at) []) own.carried none where
          others : (other : ℕ) (link : Link) → slice_get planned.board.links other ≡ Some link → ¬ (other ≡ own.number) → (k : ℕ)
              → catch_items planned wire number hop k link ≡ []
          others other link there apart k =
              ⊎_elim (λ (is : carries hop link ≡ true). absurd (apart (one_link planned.board hop own other link there is)))
              (λ (is : carries hop link ≡ false). ap (λ (test : Bool). cond test (caught_over wire number hop k) []) is) (cases_Bool (carries hop link))

    pub registers_are : (node : ℕ) → registers node (numbered_hops planned) ≡ hops_to planned node
    registers_are node =
        each_hop planned (λ hop. cond (hop.to == node) (caught_items hop) []) (λ w wire k hop. cond (hop.to == node) (hop_items planned w k hop) []) same where
          same : (number place : ℕ) (wire : Wire) (hop : Hop) → slice_get planned.plan.wires number ≡ Some wire → slice_get wire.hops place ≡ Some hop
              → (w k : ℕ)
              → cond (hop.to == node) (caught_items (numbered_hop planned.board.links wire.net w k hop)) [] ≡ cond (hop.to == node) (hop_items planned w k hop) []
          same number place wire hop there is w k =
              let own = (hop_facts planned sound number place wire hop there is).over in
              ap (λ (items : List LocalItem). cond (hop.to == node) items [])
              (ap (caught_over w k hop) (hop_place planned.board hop own) ∙ sym (hop_items_are w k hop own))
