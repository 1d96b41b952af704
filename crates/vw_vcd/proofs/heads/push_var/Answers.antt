use Rattle.std.proofs.Common.{[], ◌∷◌, ◌++◌, ◌∙◌, ℕ, List, ap}
use Rattle.std.specs.Prelude.{codes}
use Rattle.vw_text.proofs.WrittenPieces.{grown}
use Rattle.vw_vcd.specs.Identifiers.{identifier}
use Rattle.vw_vcd.specs.Lines.{signal_name}
use Rattle.vw_vcd.proofs.WaveParts.{var_pieces}
use Rattle.vw_vcd.proofs.heads.push_var.Goals as goal

pub returns : goal.returns
returns c =
    let start = codes "$var wire 1 " in
    let id = identifier c.args.number in
    let name = signal_name c.args.net.now in
    grown c.args.text.now.items start (id ∷ (32 ∷ []) ∷ name ∷ codes " $end\n" ∷ []) c.extend_from_slice-2.new.self.items (
      c.extend_from_slice.new.self.items,
      c.in_ok-extend_from_slice.ensures.items,
      (
        c.push_identifier.new.text.items,
        c.in_ok-push_identifier.ensures,
        (c.push.new.self.items, c.in_ok-push.ensures.items, (c.push_name.new.text.items, c.in_ok-push_name.ensures, c.in_ok-extend_from_slice-2.ensures.items)),
      ),
    )
    ∙ ap (λ (written : List ℕ). c.args.text.now.items ++ written) (var_pieces start id name (codes " $end"))
