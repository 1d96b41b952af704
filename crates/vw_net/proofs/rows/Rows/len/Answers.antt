use Rattle.std.proofs.Common.{sym, ◌∙◌, ap, length, List, Bool}
use Rattle.vw_net.proofs.Cuts.{cut_length}
use Rattle.vw_net.proofs.rows.Rows.len.Goals as goal

pub returns : goal.returns
returns c =
    let ends = c.self.inside.ends in
    c.len.ensures ∙ ends.ok.0 ∙ sym (cut_length 0 ends.items c.self.inside.bits.items) ∙ ap (λ (xs : List (List Bool)). length xs) c.self.view_is
