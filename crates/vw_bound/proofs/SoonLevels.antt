-- Least microcycles at levels: how many drivers have to be followed until one stays.
use Rattle.std.proofs.Common.{◌≡◌, ◌≤◌, ◌+◌, ◌*◌, ◌^◌, ℕ, zero, suc, true, false, length, get_or, eqb, cond, ap, sym, ◌∙◌, All, arith}
use Rattle.std.proofs.Math.Path.{fun_ext}
use Rattle.vw_net.proofs.Orders.{length-order}
use Rattle.vw_net.specs.Order.{gate_inputs, is_gate}
use Rattle.vw_plan.specs.Nets.{driving_cell, greatest_read}
use Rattle.vw_plan.proofs.AlongOrder.{every_net}
use Rattle.vw_plan.proofs.GreatestReads.{greatest_read-agree, greatest_read-small}
use Rattle.vw_plan.proofs.SettledLevels.{IsSettledFrom, settled_later}
use Rattle.vw_delays.specs.Delays.{least_delay}
use Rattle.vw_delays.proofs.LevelDelays.{least_low}
use Rattle.vw_bound.specs.PlacedDesigns.{PlacedDesign, flat_of, home_in}
use Rattle.vw_bound.specs.Times.{level_soon, read_by, settling, soon, there_by}

module _ (placed : PlacedDesign) where
  -- what is read depends on the number of its net alone
  pub read_agree : (one other : ℕ → ℕ) (node net : ℕ) → one net ≡ other net → read_by placed one node net ≡ read_by placed other node net
  read_agree one other node net same =
      ap (λ (number : ℕ). cond (eqb (home_in placed net) node) number (number + settling placed net + least_delay placed.board (home_in placed net) node)) same

  pub settling_low : (net : ℕ) → settling placed net ≤ 15
  settling_low net = elim (is_gate (driving_cell (flat_of placed) net)) as (λ gate. cond gate placed.board.settle 0 ≤ 15) [ true ↦ omega (arith, placed.board.quick) | false ↦ omega arith ]

  delay_low : (from to : ℕ) → least_delay placed.board from to ≤ 513
  delay_low from to = omega (arith, least_low placed.board from to, placed.board.few_chips)

  -- a net is there at most 528 microcycles later than at its own node
  pub there_low : (soon_of : ℕ → ℕ) (net node : ℕ) → there_by placed soon_of net node ≤ soon_of net + 528
  there_low soon_of net node = omega (arith, settling_low net, delay_low (home_in placed net) node)

  read_low : (soon_of : ℕ → ℕ) (node net : ℕ) → read_by placed soon_of node net ≤ soon_of net + 528
  read_low soon_of node net =
      elim (eqb (home_in placed net) node) as (λ own. cond own (soon_of net) (there_by placed soon_of net node) ≤ soon_of net + 528) [ true ↦ omega arith | false ↦ there_low soon_of net node ]

  level_low : (level net : ℕ) → level_soon level placed net ≤ level * 528
  level_low zero net = omega arith
  level_low (suc level) net = greatest_read-small (read_by placed (level_soon level placed) (home_in placed net)) (suc level * 528) (λ read. omega (arith, level_low level read, read_low (level_soon level placed) (home_in placed net) read)) (driving_cell (flat_of placed) net)

  pub soon_low : (net : ℕ) → soon placed net ≤ 2 ^ 62
  unfolding soon
  soon_low net = omega (arith, level_low (length placed.ordered.flat.cells + 1) net, placed.ordered.flat.few_cells)

  -- from a level on, a net has one least microcycle
  abbrev HasOneTime : ℕ → ℕ → Type 0
  HasOneTime from net = IsSettledFrom (λ level. level_soon level placed net) from

  -- a net is settled one level up if the nets that its gate reads are settled
  reads_settled : (from net : ℕ) → All (HasOneTime from) (gate_inputs (driving_cell placed.ordered.flat net)) → HasOneTime (suc from) net
  reads_settled from net settled = record { same = same_above } where
    same_above : (one other : ℕ) → suc from ≤ one → suc from ≤ other → level_soon one placed net ≡ level_soon other placed net
    same_above zero other one_late other_late = absurd (omega arith)
    same_above (suc one) zero one_late other_late = absurd (omega arith)
    same_above (suc one) (suc other) one_late other_late =
        let reads = gate_inputs (driving_cell placed.ordered.flat net) in
        greatest_read-agree (read_by placed (level_soon one placed) (home_in placed net)) (read_by placed (level_soon other placed) (home_in placed net)) (driving_cell placed.ordered.flat net)
        (λ place default within. read_agree (level_soon one placed) (level_soon other placed) (home_in placed net) (get_or reads place default) ((settled place default within).same one other (omega arith) (omega arith)))

  -- following more drivers in a row than there are cells changes nothing
  past_cells : (level net : ℕ) → length placed.ordered.flat.cells + 1 ≤ level → level_soon level placed net ≡ soon placed net
  unfolding soon
  past_cells level net past =
      let few_gates : length placed.ordered.order ≤ length placed.ordered.flat.cells = length-order placed.ordered.flat.inputs placed.ordered.flat.cells placed.ordered.order placed.ordered.is_order in
      (every_net placed.ordered HasOneTime (λ from to net. settled_later (λ level. level_soon level placed net) from to) reads_settled net).same level (length placed.ordered.flat.cells + 1) (omega arith) (omega arith)

  -- the least microcycle of a net is that of what drives it
  pub soon_by_driver : (net : ℕ) → soon placed net ≡ greatest_read (read_by placed (soon placed) (home_in placed net)) (driving_cell placed.ordered.flat net)
  soon_by_driver net =
      let level = length placed.ordered.flat.cells + 1 in
      let above = past_cells (suc level) net (omega arith) in
      sym above ∙ ap (λ (soon_of : ℕ → ℕ). greatest_read (read_by placed soon_of (home_in placed net)) (driving_cell placed.ordered.flat net)) (fun_ext (λ other. past_cells level other (omega arith)))
