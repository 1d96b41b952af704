use Rattle.std.proofs.Common.{◌∙◌, false, sym, arith}
use Rattle.vw_node.specs.Fits.{bit_by}
use Rattle.vw_node.specs.Starts.{net_count}
use Rattle.vw_node.proofs.Values.{get_or-tabulate, length-tabulate}
use Rattle.vw_node.proofs.node.Node.bit.Goals as goal

pub returns : goal.returns
returns c =
    let node = c.args.self.now in
    let bits = bit_by node.code.now.nets.items node.slots.items in
    c.known_bit.ensures ∙ sym (get_or-tabulate bits (net_count node.share) c.args.net false (omega (arith, c.requires, length-tabulate bits (net_count node.share))))
