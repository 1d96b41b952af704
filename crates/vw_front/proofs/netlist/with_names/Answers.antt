use Rattle.std.proofs.Common.{◌∙◌, List, length, ap}
use Rattle.vw_design.specs.Paths.{Word}
use Rattle.vw_front.proofs.NameLists.{all_named}
use Rattle.vw_front.proofs.netlist.with_names.Goals as goal

-- each net has a name
pub make-requires : goal.make-requires
make-requires c =
    ap (λ (names : List Word). length names) (c.of-nets.ensures ∙ c.in_ok-net_names.ensures)
    ∙ all_named c.args.elaborated.now c.requires.0 c.args.ordered.flat c.requires.1
