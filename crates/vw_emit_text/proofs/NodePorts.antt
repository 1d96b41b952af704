-- The ports of nodes, as they are joined to the nets of the board.
use Rattle.std.proofs.Common.{◌≡◌, ◌∙◌, ◌++◌, ◌+◌, ◌==◌, ℕ, suc, Bool, true, false, cond, List, [], ◌∷◌, length, map, take, slice_index, ap, ap₂, refl, sym, append_assoc, arith}
use Rattle.std.proofs.Math.Seq.{take-append_seam}
use Rattle.std.proofs.lemmas.List.{length-append, map-append}
use Rattle.vw_net.specs.Cells.{latch_count}
use Rattle.vw_net.specs.Gathered.{gather, listed}
use Rattle.vw_net.specs.declared.cell.Cell.{Cell}
use Rattle.vw_net.specs.declared.cell.Cell.TheVariants.{Gate, Latch}
use Rattle.vw_net.proofs.ListedLists.{map_gather}
use Rattle.vw_plan.specs.PlannedBoard.{PlannedBoard}
use Rattle.vw_plan.specs.Sound.{IsSound}
use Rattle.vw_emit_hardware.specs.Locals.{Local, column, kept, pin_in, pin_out, result}
use Rattle.vw_emit_hardware.specs.Ports as ports
use Rattle.vw_emit_hardware.specs.Ports.{pin_ports}
use Rattle.vw_emit_names.specs.Boards.{Joined, port_joined}
use Rattle.vw_emit_text.specs.Steps.{inputs_of, latch_port, latch_ports, numbered_net, numbered_ports, outputs_of}
use Rattle.vw_emit_text.specs.declared.ports.Kind.{Kind}
use Rattle.vw_emit_text.specs.declared.ports.Kind.TheVariants.{Columns, Results}
use Rattle.vw_emit_text.proofs.Lists.{gathered_lines}
use Rattle.vw_emit_text.proofs.PinPorts.{ports_in_same, ports_out_same}

-- by numbers, each of which has its own name on the board
abbrev same_name : Kind → ℕ → Joined
same_name kind number = record { formal = numbered_net kind number; actual = numbered_net kind number }

numbered_same : (planned : PlannedBoard) (local : ℕ → Local) (kind : Kind) → ((number : ℕ) → port_joined planned (local number) ≡ same_name kind number) → (count : ℕ)
    → numbered_ports kind 0 count ≡ map (port_joined planned) (gather (λ number. local number ∷ []) count)
numbered_same planned local kind same count =
    sym (map_gather (port_joined planned) (λ number. local number ∷ []) count
    ∙ gathered_lines (λ number. map (port_joined planned) (local number ∷ [])) (same_name kind) count
    (λ number. ap (λ (port : Joined). port ∷ []) (same number)))

one_more : (cells : List Cell) (cell : Cell) → latch_count (cells ++ cell ∷ []) ≡ latch_count (cell ∷ []) + latch_count cells
one_more [] cell = omega arith
one_more (Gate ins cover ∷ cells) cell = one_more cells cell
one_more (Latch d init ∷ cells) cell = omega (arith, one_more cells cell)

module _ (planned : PlannedBoard) (node : ℕ) where
  -- the latches among further cells, behind these
  latches_same : (before cells : List Cell) → before ++ cells ≡ planned.ordered.flat.cells
      → latch_ports planned.plan.chip_of node (length before) (latch_count before) cells
      ≡ map (port_joined planned) (listed (λ cell is. cond (slice_index planned.plan.chip_of cell == node) (ports.latch_port cell is) []) (length before) cells)
  latches_same before [] all = refl
  latches_same before (cell ∷ cells) all = step cell all (latches_same (before ++ cell ∷ []) cells (append_assoc before (cell ∷ []) cells ∙ all)) where
    wanted : ℕ → List Joined
    wanted from = map (port_joined planned) (listed (λ cell one. cond (slice_index planned.plan.chip_of cell == node) (ports.latch_port cell one) []) from cells)

    long : (is : Cell) → length (before ++ is ∷ []) ≡ suc (length before)
    long is = let one : length before + 1 ≡ suc (length before) = omega arith in length-append before (is ∷ []) ∙ one

    none : (own : Bool) (behind : List Joined) → behind ≡ map (port_joined planned) (cond own [] []) ++ behind
    none true behind = refl
    none false behind = refl

    front : (own : Bool) (port : Local) → cond own (port_joined planned port ∷ []) [] ≡ map (port_joined planned) (cond own (port ∷ []) [])
    front true port = refl
    front false port = refl

    step : (is : Cell) → before ++ is ∷ cells ≡ planned.ordered.flat.cells
        → latch_ports planned.plan.chip_of node (length (before ++ is ∷ [])) (latch_count (before ++ is ∷ [])) cells
        ≡ map (port_joined planned) (listed (λ cell one. cond (slice_index planned.plan.chip_of cell == node) (ports.latch_port cell one) []) (length (before ++ is ∷ [])) cells)
        → latch_ports planned.plan.chip_of node (length before) (latch_count before) (is ∷ cells)
        ≡ map (port_joined planned) (listed (λ cell one. cond (slice_index planned.plan.chip_of cell == node) (ports.latch_port cell one) []) (length before) (is ∷ cells))
    step (Gate ins cover) whole rest =
        let is : Cell = Gate ins cover in
        let more : latch_count (before ++ is ∷ []) ≡ 0 + latch_count before = one_more before is in
        let same : latch_count (before ++ is ∷ []) ≡ latch_count before = omega (arith, more) in
        sym (ap₂ (λ (cell latch : ℕ). latch_ports planned.plan.chip_of node cell latch cells) (long is) same) ∙ rest ∙ ap wanted (long is)
        ∙ none (slice_index planned.plan.chip_of (length before) == node) (wanted (suc (length before)))
        ∙ sym (map-append (port_joined planned) (cond (slice_index planned.plan.chip_of (length before) == node) [] []) (listed (λ cell one. cond (slice_index planned.plan.chip_of cell == node) (ports.latch_port cell one) []) (suc (length before)) cells))
    step (Latch d init) whole rest =
        let is : Cell = Latch d init in
        let own = slice_index planned.plan.chip_of (length before) == node in
        let more : latch_count (before ++ is ∷ []) ≡ 1 + latch_count before = one_more before is in
        let same : latch_count (before ++ is ∷ []) ≡ suc (latch_count before) = omega (arith, more) in
        let number : latch_count before ≡ latch_count (take (length before) planned.ordered.flat.cells) = ap latch_count (sym (take-append_seam before (is ∷ cells)) ∙ ap (take (length before)) whole) in
        let port : latch_port (length before) (latch_count before) ≡ port_joined planned (kept (length before)) = ap (latch_port (length before)) number in
        ap₂ (λ (one other : List Joined). one ++ other)
        (ap (λ (name : Joined). cond own (name ∷ []) []) port ∙ front own (kept (length before)))
        (sym (ap₂ (λ (cell latch : ℕ). latch_ports planned.plan.chip_of node cell latch cells) (long is) same) ∙ rest ∙ ap wanted (long is))
        ∙ sym (map-append (port_joined planned) (cond own (kept (length before) ∷ []) []) (listed (λ cell one. cond (slice_index planned.plan.chip_of cell == node) (ports.latch_port cell one) []) (suc (length before)) cells))

  pub inputs_same : IsSound planned → inputs_of planned node ≡ map (port_joined planned) (ports.node_inputs planned node)
  inputs_same sound =
      let pins = listed (λ at link. cond (link.to == node) (pin_ports (pin_in at) planned link) []) 0 planned.board.links in
      ap₂ (λ (one other : List Joined). one ++ other) (columns (node == 0)) (ports_in_same planned sound node)
      ∙ sym (map-append (port_joined planned) (cond (node == 0) (gather (λ number. column number ∷ []) planned.ordered.flat.inputs) []) pins) where
        columns : (host : Bool)
            → cond host (numbered_ports Columns 0 planned.ordered.flat.inputs) [] ≡ map (port_joined planned) (cond host (gather (λ number. column number ∷ []) planned.ordered.flat.inputs) [])
        columns true = numbered_same planned column Columns (λ number. refl) planned.ordered.flat.inputs
        columns false = refl

  pub outputs_same : IsSound planned → outputs_of planned node ≡ map (port_joined planned) (ports.node_outputs planned node)
  outputs_same sound =
      let pins = listed (λ at link. cond (link.from == node) (pin_ports (pin_out at) planned link) []) 0 planned.board.links in
      let shown = cond (node == 0) (gather (λ output. result output ∷ []) (length planned.ordered.flat.outputs)) (listed (λ cell is. cond (slice_index planned.plan.chip_of cell == node) (ports.latch_port cell is) []) 0 planned.ordered.flat.cells) in
      ap₂ (λ (one other : List Joined). one ++ other) (ports_out_same planned sound node) (last (node == 0))
      ∙ sym (map-append (port_joined planned) pins shown) where
        last : (host : Bool)
            → cond host (numbered_ports Results 0 (length planned.ordered.flat.outputs)) (latch_ports planned.plan.chip_of node 0 0 planned.ordered.flat.cells)
            ≡ map (port_joined planned) (cond host (gather (λ output. result output ∷ []) (length planned.ordered.flat.outputs)) (listed (λ cell is. cond (slice_index planned.plan.chip_of cell == node) (ports.latch_port cell is) []) 0 planned.ordered.flat.cells))
        last true = numbered_same planned result Results (λ number. refl) (length planned.ordered.flat.outputs)
        last false = latches_same [] planned.ordered.flat.cells refl
