use Rattle.std.proofs.Common.{◌≡◌, ◌≤◌, length, [], ◌∙◌, ap, sym, subst, drop, List, ℕ, arith}
use Rattle.std.proofs.Math.ListN.{drop_of_length-le}
use Rattle.vw_prog.specs.Coding.{IsTable, cleared}
use Rattle.vw_prog.proofs.NamedNets.{table_cleared}
use Rattle.vw_prog.proofs.naming.clear.Goals as goal

none_left : (nets : List ℕ) (count : ℕ) → length nets ≤ count → drop count nets ≡ []
none_left nets count past = drop_of_length-le nets past

pub returns-clause-is : goal.returns-clause-is
returns-clause-is c =
    let nets = c.args.nets.now in
    let none = none_left nets c.loop-net.net-index (omega (arith, c.loop-net-test.false)) in
    let all = ap (λ (list : List ℕ). cleared list c.loop-net.table) (sym none) ∙ c.loop-net.invariant.1 in
    subst (IsTable []) (sym all) (table_cleared nets c.args.table.now c.requires)
