use Rattle.std.proofs.Common.{◌≡◌, ◌++◌, ◌∷◌, [], ◌∙◌, ℕ, List, length, set, subst, sym, arith}
use Rattle.vw_prog.specs.Coding.{IsTable}
use Rattle.vw_prog.proofs.NamedNets.{named_new, table_more}
use Rattle.vw_prog.proofs.naming.name.Goals as goal

pub returns-in_ok-push-clause-nets : goal.returns-in_ok-push-clause-nets
returns-in_ok-push-clause-nets c = c.in_ok-push.ensures.items ∙ named_new c.args.nets.now.items c.args.table.now c.requires.is c.requires.few c.args.net (sym c.is_free.ensures ∙ c.if-is_free.true)

pub returns-in_ok-push-clause-is : goal.returns-in_ok-push-clause-is
returns-in_ok-push-clause-is c =
    let nets = c.args.nets.now.items in
    let table = c.args.table.now in
    let more = table_more nets table c.requires.is c.requires.few c.args.net (sym c.is_free.ensures ∙ c.if-is_free.true) in
    let slot : length nets ≡ c.len.result = omega (arith, c.len.ensures, c.args.nets.now.ok) in
    subst (λ (list : List ℕ). IsTable list (set table c.args.net c.len.result)) (sym c.in_ok-push.ensures.items) (subst (λ (one : ℕ). IsTable (nets ++ c.args.net ∷ []) (set table c.args.net one)) slot more)
