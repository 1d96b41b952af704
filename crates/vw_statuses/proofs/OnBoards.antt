-- Netlists and boards of texts are one, up to the order of the gates.
use Rattle.std.proofs.Common.{◌≡◌, ◌<◌, ◌≤◌, ◌*◌, ℕ, List, length, ap, ap₂, subst}
use Rattle.vw_net.specs.declared.flat.Flat.{Flat}
use Rattle.vw_net.specs.declared.ordered.Ordered.{Ordered}
use Rattle.vw_design.specs.declared.design.Design.{Design}
use Rattle.vw_design.specs.Flattened.{IsFlatOf}
use Rattle.vw_design.proofs.FlatOnce.{flat_once}
use Rattle.vw_design.specs.Paths.{Word, Net}
use Rattle.vw_design.specs.Probes.{FindAll}
use Rattle.vw_flat.proofs.FirstProbes.{all_once}
use Rattle.vw_front.specs.Designs.{WatchedDesign, IsWatchedDesignOf, IsNetlistOf, spells_once}
use Rattle.vw_plan.specs.declared.board.Board.{Board}
use Rattle.vw_board.proofs.OneBoard.{accepted_once}
use Rattle.vw_courses.specs.Kinds.{ChipsHaveRoom}
use Rattle.vw_courses.specs.OnBoards.{AreSpelledOn}

-- a text has one design with the nets that probes find
pub watched_once : (probes : List Word) (d : List ℕ) (one other : WatchedDesign) → IsWatchedDesignOf probes d one
    → IsWatchedDesignOf probes d other → one ≡ other
watched_once probes d one other is its =
    let same : one.design ≡ other.design = spells_once d one.design other.design is.design_of.spelled its.design_of.spelled in
    let found : FindAll other.design probes one.nets = subst (λ (design : Design). FindAll design probes one.nets) same is.found in
    ap₂ (λ (design : Design) (nets : List Net). record { design = design; nets = nets }) same (all_once other.design its.design_of.accepted probes one.nets other.nets found its.found)

-- each netlist of it is one of the design
pub design_of_netlist : (probes : List Word) (d : List ℕ) (watched : WatchedDesign) (ordered : Ordered) → IsWatchedDesignOf probes d watched
    → IsNetlistOf probes d ordered
    → IsFlatOf watched.design watched.nets ordered.flat
design_of_netlist probes d watched ordered is netlist =
    subst (λ (one : WatchedDesign). IsFlatOf one.design one.nets ordered.flat) (watched_once probes d netlist.watched watched netlist.is is) netlist.flat

-- and these netlists are one
pub netlist_same : (probes : List Word) (d : List ℕ) (one other : Ordered) → IsNetlistOf probes d one → IsNetlistOf probes d other → one.flat ≡ other.flat
netlist_same probes d one other is its =
    flat_once its.watched.design its.watched.nets one.flat other.flat (design_of_netlist probes d its.watched one its.is is) its.flat

-- the numbers of cells and of room are those of the texts
module _ (probes : List Word) (d b : List ℕ) (ordered other : Ordered) (board its_board : Board) (are : AreSpelledOn probes d b ordered board) (its : AreSpelledOn probes d b other its_board) where
  cells_same : length ordered.flat.cells ≡ length other.flat.cells
  cells_same = ap (λ (flat : Flat). length flat.cells) (netlist_same probes d ordered other are.netlist its.netlist)

  abbrev room_of : Board → ℕ
  room_of one = one.chips * one.cells

  room_same : board.chips * board.cells ≡ its_board.chips * its_board.cells
  room_same = ap room_of (accepted_once b board its_board are.board_is its.board_is)

  pub no_room_same : board.chips * board.cells < length ordered.flat.cells → its_board.chips * its_board.cells < length other.flat.cells
  no_room_same none = subst (λ (cells : ℕ). its_board.chips * its_board.cells < cells) cells_same (subst (λ (room : ℕ). room < length ordered.flat.cells) room_same none)

  pub has_room_same : ChipsHaveRoom ordered board → ChipsHaveRoom other its_board
  has_room_same room = subst (λ (cells : ℕ). cells ≤ its_board.chips * its_board.cells) cells_same (subst (λ (all : ℕ). length ordered.flat.cells ≤ all) room_same room)
