-- A net that is needed is one of the netlist.
use Rattle.std.proofs.Common.{◌≡◌, ◌<◌, ◌+◌, ◌&&◌, ◌||◌, ℕ, true, not, List, [], ◌∷◌, length, eqb, sym, ⊎_elim, true≢false, All}
use Rattle.std.specs.List.{list_any, zip}
use Rattle.std.proofs.lemmas.Bool.{and_parts, or_cases}
use Rattle.std.proofs.lemmas.List.Elements.{All-head, All-tail}
use Rattle.vw_net.proofs.Orders.{among_below}
use Rattle.vw_net.specs.declared.cell.Cell.{Cell}
use Rattle.vw_net.specs.declared.flat.Flat.{Flat}
use Rattle.vw_net.specs.Cells.{IsWellFormed, read_nets}
use Rattle.vw_net.specs.Order.{is_among}
use Rattle.vw_plan.specs.Nets.{is_needed, is_read_at, node_of}

read_net : (chips : List ℕ) (cells : List Cell) (net node past : ℕ) → All (IsWellFormed past) cells
    → list_any (λ (placed : ℕ × Cell). eqb placed.0 node && is_among (read_nets placed.1) net) (zip chips cells) ≡ true → net < past
read_net [] cells net node past fit reads = absurd (true≢false (sym reads))
read_net (chip ∷ chips) [] net node past fit reads = absurd (true≢false (sym reads))
read_net (chip ∷ chips) (cell ∷ cells) net node past fit reads =
    let rest = list_any (λ (placed : ℕ × Cell). eqb placed.0 node && is_among (read_nets placed.1) net) (zip chips cells) in
    let if_here = λ (here : (eqb chip node && is_among (read_nets cell) net) ≡ true). among_below (read_nets cell) net past (All-head (IsWellFormed past) cell cells fit).1 (and_parts (eqb chip node) (is_among (read_nets cell) net) here).1 in
    let if_later = λ (later : rest ≡ true). read_net chips cells net node past (All-tail (IsWellFormed past) cell cells fit) later in
    ⊎_elim if_here if_later (or_cases (eqb chip node && is_among (read_nets cell) net) rest reads)

-- a net that is needed is one of the nets
pub needed_net : (flat : Flat) (chip_of : List ℕ) (net node : ℕ) → is_needed flat chip_of net node ≡ true → net < flat.inputs + length flat.cells
needed_net flat chip_of net node needed =
    let past = flat.inputs + length flat.cells in
    let host = eqb node 0 && is_among flat.outputs net in
    let if_read = λ (reads : is_read_at flat chip_of net node ≡ true). read_net chip_of flat.cells net node past flat.cells_fit reads in
    let if_host = λ (at_host : host ≡ true). among_below flat.outputs net past flat.outputs_fit (and_parts (eqb node 0) (is_among flat.outputs net) at_host).1 in
    ⊎_elim if_read if_host (or_cases (is_read_at flat chip_of net node) host (and_parts (not (eqb (node_of flat chip_of net) node)) (is_read_at flat chip_of net node || host) needed).1)
