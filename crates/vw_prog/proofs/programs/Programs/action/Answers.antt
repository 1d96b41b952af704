use Rattle.std.proofs.Common.{[], get_or, ap, arith}
use Rattle.vw_prog.specs.Actions.{SeenPrograms}
use Rattle.vw_prog.proofs.UnfoldedCodes.{action_is, code_there, op_there}
use Rattle.vw_prog.proofs.programs.Programs.action.Goals as goal

pub index-requires : goal.index-requires
index-requires c = omega (arith, op_there c.self.inside.inputs c.self.inside.codes.items c.args.self.now.lists c.args.node c.args.number c.index-code.result.now (ap (λ (seen : SeenPrograms). seen.lists) c.self.view_is) c.requires.node c.index-code.ensures c.requires.number, c.index-code.result.now.ops.ok)

pub action_by-requires : goal.action_by-requires
action_by-requires c = omega (arith, op_there c.self.inside.inputs c.self.inside.codes.items c.args.self.now.lists c.args.node c.args.number c.index-code.result.now (ap (λ (seen : SeenPrograms). seen.lists) c.self.view_is) c.requires.node c.index-code.ensures c.requires.number)

pub returns : goal.returns
returns c =
    let lists = ap (λ (seen : SeenPrograms). seen.lists) c.self.view_is in
    let code = c.index-code.result.now in
    action_is c.self.inside.inputs code (get_or c.args.self.now.lists c.args.node []) c.args.number c.index.result.now c.action_by.result
    (code_there c.self.inside.inputs c.self.inside.codes.items c.args.self.now.lists c.args.node code lists c.requires.node c.index-code.ensures).1
    (op_there c.self.inside.inputs c.self.inside.codes.items c.args.self.now.lists c.args.node c.args.number code lists c.requires.node c.index-code.ensures c.requires.number) c.index.ensures c.action_by.ensures
