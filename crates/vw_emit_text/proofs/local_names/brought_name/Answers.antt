use Rattle.std.proofs.Common.{rules}
use Rattle.vw_emit_text.specs.Steps.{planned_by}
use Rattle.vw_emit_text.proofs.NetNames.{brought_is}
use Rattle.vw_emit_text.proofs.local_names.brought_name.Goals as goal

pub returns : goal.returns
returns c = search (rules, brought_is (planned_by c.args.emitter.now) c.args.node c.args.net)
