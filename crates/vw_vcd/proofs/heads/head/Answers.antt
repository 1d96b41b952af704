use Rattle.std.proofs.Common.{[], ◌∷◌, ◌++◌, ◌∙◌, ℕ, List, ap}
use Rattle.std.specs.Prelude.{codes}
use Rattle.vw_text.specs.Physical.{lines_text}
use Rattle.vw_text.proofs.WrittenPieces.{grown}
use Rattle.vw_vcd.specs.Lines.{var_lines}
use Rattle.vw_vcd.proofs.WaveParts.{head_pieces}
use Rattle.vw_vcd.proofs.heads.head.Goals as goal

pub returns : goal.returns
returns c =
    let vars = var_lines 0 c.args.names.now in
    let start = codes "$timescale 1 s $end\n$scope module design $end\n" in
    grown [] start (lines_text vars ∷ codes "$upscope $end\n$enddefinitions $end\n" ∷ []) c.extend_from_slice-2.new.self.items (
      c.extend_from_slice.new.self.items,
      c.in_ok-extend_from_slice.ensures.items ∙ ap (λ (text : List ℕ). text ++ start) c.new-text.ensures.items,
      (c.push_vars.new.text.items, c.in_ok-push_vars.ensures, c.in_ok-extend_from_slice-2.ensures.items),
    )
    ∙ head_pieces vars
