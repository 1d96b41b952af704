-- Where all cells are settled, no move lowers the number of needed pairs.
use Rattle.std.proofs.Common.{◌≡◌, ◌<◌, ◌≤◌, ◌+◌, ℕ, List, length, get_or, set, ap, subst, ⊎_elim, All, arith}
use Rattle.std.specs.Prelude.{sum_by}
use Rattle.std.specs.List.{range_with_len}
use Rattle.std.proofs.lemmas.Bool.{cases_eq, cases_lt}
use Rattle.std.proofs.lemmas.List.{length-set, set-get_or}
use Rattle.std.proofs.lemmas.List.Elements.{All-set}
use Rattle.vw_net.specs.declared.flat.Flat.{Flat}
use Rattle.vw_plan.specs.declared.board.Board.{Board}
use Rattle.vw_plan.specs.Chips.{IsChip}
use Rattle.vw_plan.specs.Good.{NoMoveHelps, pair_count}
use Rattle.vw_part.specs.declared.cell_nets.CellNets.{CellNets}
use Rattle.vw_part.specs.Steps.Deals.{HasNoGain, freed, holders, met, cell_nets_at, spread}
use Rattle.vw_part.specs.Steps.CellNets.{AreCellNets}
use Rattle.vw_net.specs.Steps.Bits.{one_if}
use Rattle.vw_part.proofs.Gains.{spread_moved}
use Rattle.vw_part.proofs.CellNets.{nets_long}
use Rattle.vw_part.proofs.PairsAndSpread.{at_host, count_is}

module _ (flat : Flat) (board : Board) (cell_nets : CellNets) (nets : cell_nets.nets ≡ flat.inputs + length flat.cells) (are : AreCellNets flat.inputs flat.cells cell_nets.of_cells.items) where
  abbrev hosted : ℕ
  hosted = sum_by (λ net. one_if (at_host flat net)) (range_with_len 0 (flat.inputs + length flat.cells))

  pairs_and_spread : (chips : List ℕ) → length chips ≡ length flat.cells → All (IsChip board) chips → pair_count flat chips + (flat.inputs + length flat.cells) ≡ hosted + spread board cell_nets chips
  unfolding spread
  pairs_and_spread chips each real =
      let own = count_is flat cell_nets.of_cells.items board.chips are chips each real in
      let same = ap (λ (many : ℕ). sum_by (holders board.chips chips cell_nets.of_cells.items) (range_with_len 0 many)) nets in
      omega (arith, own, same)

  pub least : (chips : List ℕ) → length chips ≡ length flat.cells → All (IsChip board) chips → ((cell : ℕ) → cell < length chips → HasNoGain board cell_nets chips cell) → NoMoveHelps flat board chips
  least chips each real settled cell chip within is_chip room =
      let moved = set chips cell chip in
      let before = pairs_and_spread chips each real in
      let after = pairs_and_spread moved (omega (arith, length-set chips cell chip, each)) (All-set (IsChip board) chips cell chip is_chip real) in
      let if_same = λ (same : get_or chips cell 0 ≡ chip).
      let unmoved : moved ≡ chips = subst (λ (x : ℕ). set chips cell x ≡ chips) same (set-get_or chips cell 0) in
      let goes : pair_count flat chips ≤ pair_count flat moved = omega (arith, ap (λ (l : List ℕ). pair_count flat l) unmoved) in goes in
      let if_away = λ (apart : get_or chips cell 0 ≡ chip → ⊥).
      let change = spread_moved board cell_nets chips cell chip within (omega (arith, each, nets_long flat.inputs flat.cells cell_nets.of_cells.items are)) real is_chip apart in
      let no_help : freed cell_nets chips cell + met cell_nets chips cell chip ≤ length (cell_nets_at cell_nets cell) = ⊎_elim (λ help. absurd (settled cell within chip (record { real = is_chip; away = apart; room = room }) help)) (λ low. low) (cases_lt (length (cell_nets_at cell_nets cell)) (freed cell_nets chips cell + met cell_nets chips cell chip)) in
      let goes : pair_count flat chips ≤ pair_count flat moved = omega (arith, before, after, change, no_help) in goes in
      ⊎_elim if_same if_away (cases_eq (get_or chips cell 0) chip)
