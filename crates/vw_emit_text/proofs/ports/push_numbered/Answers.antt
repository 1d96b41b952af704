use Rattle.std.proofs.Common.{◌++◌, ◌∙◌, ℕ, List, ap}
use Rattle.vw_emit_names.specs.Boards.{Joined}
use Rattle.vw_emit_text.specs.Steps.{numbered_net, port_text}
use Rattle.vw_text.proofs.WrittenPieces.{mapped_more}
use Rattle.vw_emit_text.proofs.ports.push_numbered.Goals as goal

pub loop-number-preserved : goal.loop-number-preserved
loop-number-preserved c =
    let same : List ℕ → Joined = λ (word : List ℕ). record { formal = word; actual = word } in
    let written = c.loop-number.text.items in
    mapped_more (port_text c.args.listing) (λ (number : ℕ). same (numbered_net c.args.kind number)) c.loop-number.number c.args.count written
    c.push_same.new.text.items _ c.loop-number-test.true
    (c.in_ok-push_same.ensures ∙ ap (λ (word : List ℕ). written ++ port_text c.args.listing (same word)) (c.numbered_net.ensures ∙ ap (numbered_net c.args.kind) c.from.ensures)) c.loop-number.invariant
