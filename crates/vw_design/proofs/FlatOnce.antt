-- A design has one flat netlist.
use Rattle.std.proofs.Common.{◌≡◌, ◌<◌, ◌≤◌, ◌+◌, ℕ, List, [], ◌∷◌, length, map, Some, refl, sym, ◌∙◌, All}
use Rattle.std.specs.List.{AllZip}
use Rattle.std.proofs.Math.Bridge.{le_prop}
use Rattle.std.proofs.Math.Nat.{ℕ_set}
use Rattle.std.proofs.lemmas.Option.{same_Some}
use mathlib.Core.HLevel.{is_prop→PathP}
use Rattle.vw_net.specs.declared.cell.Cell.{Cell}
use Rattle.vw_net.specs.declared.cell.Cell.TheVariants.{Gate, Latch}
use Rattle.vw_net.specs.declared.flat.Flat.{Flat}
use Rattle.vw_net.specs.Cells.{IsWellFormed}
use Rattle.vw_net.proofs.SameCovers.{cover_same}
use Rattle.vw_design.specs.declared.item.Item.{Item}
use Rattle.vw_design.specs.declared.item.Item.TheVariants.{Names, Latch as LatchItem, Sub}
use Rattle.vw_design.specs.declared.design.Design.{Design}
use Rattle.vw_design.specs.Paths.{Path, Net}
use Rattle.vw_design.specs.Preorder.{Site, cells}
use Rattle.vw_design.specs.Flattened.{IsCellOf, IsFlatOf}

nets_same : (nets others : List ℕ) → map (λ net. Some net) nets ≡ map (λ net. Some net) others → nets ≡ others
nets_same [] [] is = refl
nets_same [] (other ∷ others) is = cc
nets_same (net ∷ nets) [] is = cc
nets_same (net ∷ nets) (other ∷ others) is =
    let first : net ≡ other = cc in
    let rest : map (λ (n : ℕ). Some n) nets ≡ map (λ (n : ℕ). Some n) others = cc in
    let all = nets_same nets others rest in
    λ i. first i ∷ all i

cell_same : (design : Design) (path : Path) (item : Item) (one other : Cell) → IsCellOf design path item one → IsCellOf design path item other → one ≡ other
cell_same design path (Names line ins out cover) (Gate nets table) (Gate others other_table) is its =
    let same : nets ≡ others = nets_same nets others (sym is.0 ∙ its.0) in
    let tables : table ≡ other_table = cover_same table other_table (is.1.inputs ∙ sym its.1.inputs) (is.1.on ∙ sym its.1.on) (is.1.rows ∙ sym its.1.rows) in
    λ i. Gate (same i) (tables i)
cell_same design path (Names line ins out cover) (Gate nets table) (Latch net start) is its = absurd its
cell_same design path (Names line ins out cover) (Latch net start) other is its = absurd is
cell_same design path (LatchItem line d q edge control init) (Gate nets table) other is its = absurd is
cell_same design path (LatchItem line d q edge control init) (Latch net start) (Gate nets table) is its = absurd its
cell_same design path (LatchItem line d q edge control init) (Latch net start) (Latch other_net other_start) is its =
    let same : net ≡ other_net = same_Some net other_net (sym is.0 ∙ its.0) in
    let starts : start ≡ other_start = is.1 ∙ sym its.1 in
    λ i. Latch (same i) (starts i)
cell_same design path (Sub line model binds) (Gate nets table) other is its = absurd is
cell_same design path (Sub line model binds) (Latch net start) other is its = absurd is

cells_same : (design : Design) (sites : List Site) (one other : List Cell)
    → AllZip (λ site cell. IsCellOf design site.path site.item cell) sites one
    → AllZip (λ site cell. IsCellOf design site.path site.item cell) sites other → one ≡ other
cells_same design [] [] [] is its = refl
cells_same design [] (cell ∷ one) other is its = absurd is
cells_same design [] [] (cell ∷ other) is its = absurd its
cells_same design (site ∷ sites) [] other is its = absurd is
cells_same design (site ∷ sites) (cell ∷ one) [] is its = absurd its
cells_same design (site ∷ sites) (cell ∷ one) (next ∷ other) is its =
    let first : cell ≡ next = cell_same design site.path site.item cell next is.0 its.0 in
    let rest : one ≡ other = cells_same design sites one other is.1 its.1 in
    λ i. first i ∷ rest i

flat_same : (one other : Flat) → one.inputs ≡ other.inputs → one.cells ≡ other.cells → one.outputs ≡ other.outputs → one ≡ other
flat_same one other inputs cells outputs = λ i. record {
  inputs = inputs i;
  cells = cells i;
  outputs = outputs i;
  few_inputs = is_prop→PathP (λ j. inputs j ≤ 4096) (λ j. le_prop) one.few_inputs other.few_inputs i;
  few_cells = is_prop→PathP (λ j. length (cells j) ≤ 65536) (λ j. le_prop) one.few_cells other.few_cells i;
  few_outputs = is_prop→PathP (λ j. length (outputs j) ≤ 4161) (λ j. le_prop) one.few_outputs other.few_outputs i;
  cells_fit = is_prop→PathP (λ j. All (IsWellFormed (inputs j + length (cells j))) (cells j)) (λ j. hlevel (le_prop, ℕ_set)) one.cells_fit other.cells_fit i;
  outputs_fit = is_prop→PathP (λ j. All (λ net. net < inputs j + length (cells j)) (outputs j)) (λ j. hlevel le_prop) one.outputs_fit other.outputs_fit i;
}

pub flat_once : (design : Design) (watched : List Net) (one other : Flat) → IsFlatOf design watched one → IsFlatOf design watched other → one ≡ other
flat_once design watched one other is its =
    flat_same one other (is.inputs ∙ sym its.inputs) (cells_same design (cells design) one.cells other.cells is.cells its.cells) (nets_same one.outputs other.outputs (sym is.outputs ∙ its.outputs))
