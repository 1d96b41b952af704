-- The names that a node's model claims are all different.
use Rattle.std.proofs.Common.{◌≡◌, ◌++◌, ◌∙◌, ℕ, true, List, [], map, ap, ap₂, sym, subst, ⊎_elim, append-nil}
use Rattle.std.proofs.lemmas.List.{map-append}
use Rattle.vw_plan.specs.PlannedBoard.{PlannedBoard}
use Rattle.vw_plan.specs.Sound.{IsSound}
use Rattle.vw_design.specs.Distinct.{are_distinct}
use Rattle.vw_design.specs.NetReads.{driven_name}
use Rattle.vw_design.specs.Paths.{Word}
use Rattle.vw_design.specs.declared.design.Design.{Design}
use Rattle.vw_design.specs.declared.model.Model.{Model}
use Rattle.vw_design.proofs.DistinctNames.{distinct_map}
use Rattle.vw_design.proofs.ListElements.{Has, Has-append, at-Has}
use Rattle.vw_design.proofs.ListedClaims.{IsLeaf, leaf_distinct}
use Rattle.vw_design.proofs.OneDriver.{claimed_names}
use Rattle.vw_emit_hardware.specs.Items.{node_items}
use Rattle.vw_emit_hardware.specs.Locals.{Local, drives}
use Rattle.vw_emit_hardware.specs.Ports.{node_inputs}
use Rattle.vw_emit_hardware.proofs.Origins.{origin}
use Rattle.vw_emit_names.specs.Boards.{IsBoardOf, PlainModel}
use Rattle.vw_emit_names.specs.Spelled.{spelled}
use Rattle.vw_emit_names.proofs.Codes.{IsSmallNet, spelled_once}
use Rattle.vw_emit_names.proofs.Models.{IsNodeModel, all_cells, driven_names}
use Rattle.vw_emit_names.proofs.NodeOnce.{claims, claims_once}
use Rattle.vw_emit_names.proofs.OnceListed.{from_values}
use Rattle.vw_emit_names.proofs.SmallNets.{small_input, small_item}

module _ (planned : PlannedBoard) (sound : IsSound planned) (node : ℕ) where
  -- the numbers of what a node claims are small
  pub claim_small : (net : Local) → Has net (claims planned sound node) → IsSmallNet net
  claim_small net has =
      ⊎_elim (λ input. small_input planned sound node net (at-Has net (node_inputs planned node) input))
      (λ item. let from = from_values drives net (node_items planned node) item in subst IsSmallNet from.2 (small_item planned sound node from.0 (origin planned node from.0 from.1)))
      (Has-append net (node_inputs planned node) (map drives (node_items planned node)) has)

  -- so they are spelled differently
  pub names_distinct : are_distinct (map spelled (claims planned sound node)) ≡ true
  names_distinct = distinct_map spelled (claims planned sound node) (claims_once planned sound node) (λ one other has has_too same. spelled_once one other (claim_small one has) (claim_small other has_too) same)

  module _ (board : Design) (is_board : IsBoardOf planned board) (model : Model) (is : IsNodeModel planned board is_board node model) where
    inputs_are : model.inputs ≡ map spelled (node_inputs planned node)
    inputs_are = ap (λ (m : PlainModel). m.inputs) is.same

    clocks_are : model.clocks ≡ []
    clocks_are = ap (λ (m : PlainModel). m.clocks) is.same

    -- a node places none
    pub node_leaf : IsLeaf model
    node_leaf = all_cells model.items (node_items planned node) (ap (λ (m : PlainModel). m.items) is.same)

    pub node_names : (model.inputs ++ model.clocks) ++ map driven_name model.items ≡ map spelled (claims planned sound node)
    node_names =
        let ports : model.inputs ++ model.clocks ≡ map spelled (node_inputs planned node) = ap₂ (λ (a b : List Word). a ++ b) inputs_are clocks_are ∙ append-nil (map spelled (node_inputs planned node)) in
        let driven = driven_names model.items (node_items planned node) (ap (λ (m : PlainModel). m.items) is.same) in
        ap₂ (λ (a b : List Word). a ++ b) ports driven ∙ sym (map-append spelled (node_inputs planned node) (map drives (node_items planned node)))

    pub node_alone : are_distinct ((model.inputs ++ model.clocks) ++ map driven_name model.items) ≡ true
    node_alone = ap are_distinct node_names ∙ names_distinct

    pub node_distinct : are_distinct (claimed_names board model) ≡ true
    node_distinct = leaf_distinct board model node_leaf node_alone
