use Rattle.std.proofs.Common.{List, [], ap, length, arith}
use Rattle.vw_prog.specs.declared.action.Action.{Action}
use Rattle.vw_prog.specs.Actions.{SeenPrograms}
use Rattle.vw_prog.proofs.UnfoldedCodes.{code_there, length-from}
use Rattle.vw_prog.proofs.programs.Programs.count.Goals as goal

pub returns : goal.returns
returns c =
    let code = c.index.result.now in
    let there = code_there c.self.inside.inputs c.self.inside.codes.items c.args.self.now.lists c.args.node code (ap (λ (seen : SeenPrograms). seen.lists) c.self.view_is) c.requires c.index.ensures in
    omega (arith, c.len.ensures, code.ops.ok, ap (λ (list : List Action). length list) there.1, length-from c.self.inside.inputs code [] code.ops.items)
