use Rattle.std.proofs.Common.{◌++◌, ◌∷◌, [], ◌∙◌, ℕ, List, ap}
use Rattle.std.specs.Prelude.{codes}
use Rattle.vw_text.specs.Physical.{lines_text}
use Rattle.vw_emit_hardware.specs.Locals.{gate}
use Rattle.vw_emit_names.specs.Spelled.{spelled}
use Rattle.vw_emit_text.specs.Steps.{cover_lines, names_text, planned_by}
use Rattle.vw_text.proofs.WrittenPieces.{grown}
use Rattle.vw_emit_text.proofs.PrintedItems.{gate_pieces}
use Rattle.vw_emit_text.proofs.cells.push_gate_table.Goals as goal

pub returns : goal.returns
returns c =
    let planned = planned_by c.args.emitter.now in
    let node = c.args.node in
    let cell = c.args.number in
    let nets = c.args.ins.now in
    let cover = c.args.cover.now in
    let old = c.args.text.now.items in
    grown old (codes ".names") (names_text planned node nets ∷ (32 ∷ spelled (gate cell)) ∷ (10 ∷ []) ∷ lines_text (cover_lines cover) ∷ []) c.push_cover.new.text.items
    (_, c.in_ok-extend_from_slice.ensures.items, (_, c.in_ok-push_locals.ensures, (_, c.in_ok-push_name.ensures, (_, c.in_ok-push.ensures.items, c.in_ok-push_cover.ensures))))
    ∙ ap (λ (written : List ℕ). old ++ written) (gate_pieces planned node cell nets cover)
