-- A worked example: the model of the toggle's board, and a node of it, as they stand in its emitted text.
use Rattle.std.proofs.Common.{◌≡◌, codes, true, None, [], ◌∷◌, refl}
use Rattle.std.specs.Fmt.{digits}
use Rattle.vw_net.specs.declared.cell.Init.TheVariants.{One as StartsAtOne, Zero as StartsAtZero}
use Rattle.vw_net.specs.declared.cover.Mark.TheVariants.{Any, One, Zero}
use Rattle.vw_design.specs.declared.item.Edge.TheVariants.{Unsaid}
use Rattle.vw_plan.proofs.Toggle.{planned_with, quick}
use Rattle.vw_emit_names.specs.Boards.{board_model, latch, node_model, place, table}

pub toggle_board : board_model (planned_with 0 quick) ≡ record {
  name = codes "board";
  inputs = codes "x0" ∷ [];
  outputs = codes "y0" ∷ codes "s0" ∷ [];
  clocks = [];
  items =
      place (codes "node0") (
      record { formal = codes "x0"; actual = codes "x0" } ∷ record { formal = codes "i4_0"; actual = codes "p4_0" }
      ∷ record { formal = codes "o0_0"; actual = codes "p0_0" } ∷ record { formal = codes "y0"; actual = codes "y0" } ∷ [])
      ∷ place (codes "node1") (
      record { formal = codes "i0_0"; actual = codes "p0_0" } ∷ record { formal = codes "i5_0"; actual = codes "p5_0" }
      ∷ record { formal = codes "o3_0"; actual = codes "p3_0" } ∷ [])
      ∷ place (codes "node2") (
      record { formal = codes "i3_0"; actual = codes "p3_0" } ∷ record { formal = codes "o4_0"; actual = codes "p4_0" }
      ∷ record { formal = codes "o5_0"; actual = codes "p5_0" } ∷ record { formal = codes "q1"; actual = codes "s0" } ∷ [])
      ∷ [];
}
unfolding digits
toggle_board = refl

pub toggle_host : node_model (planned_with 0 quick) 0 ≡ record {
  name = codes "node0";
  inputs = codes "x0" ∷ codes "i4_0" ∷ [];
  outputs = codes "o0_0" ∷ codes "y0" ∷ [];
  clocks = [];
  items =
      latch (codes "t2") (codes "t0") Unsaid None StartsAtOne
      ∷ latch (codes "t0") (codes "t1") Unsaid None StartsAtZero
      ∷ latch (codes "t1") (codes "t2") Unsaid None StartsAtZero
      ∷ table (codes "t0" ∷ codes "i4_0" ∷ codes "r2_0" ∷ []) (codes "n2_0") true
      ((One ∷ One ∷ Any ∷ []) ∷ (Zero ∷ Any ∷ One ∷ []) ∷ [])
      ∷ latch (codes "n2_0") (codes "r2_0") Unsaid None StartsAtZero
      ∷ table (codes "t0" ∷ codes "x0" ∷ []) (codes "e0_0_0") true ((One ∷ One ∷ []) ∷ [])
      ∷ table (codes "e0_0_0" ∷ []) (codes "o0_0") true ((One ∷ []) ∷ [])
      ∷ table (codes "r2_0" ∷ []) (codes "y0") true ((One ∷ []) ∷ [])
      ∷ [];
}
unfolding digits
toggle_host = refl
