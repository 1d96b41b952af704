use Rattle.std.proofs.Common.{◌≡◌, ◌++◌, ◌∙◌, List, [], ◌∷◌, ap, subst, ℕ, arith}
use Rattle.std.specs.Global.{Vec}
use Rattle.std.proofs.lemmas.List.{map_push}
use Rattle.vw_prog.specs.declared.entry.Entry.{Entry}
use Rattle.vw_prog.specs.Steps.{AreOwnEntries, lists_of}
use Rattle.vw_prog.proofs.DealtEntries.{one_more_empty}
use Rattle.vw_prog.proofs.build.no_entries.Goals as goal

pub loop-preserved : goal.loop-preserved
loop-preserved c =
    let lists = c.loop.lists.items in
    let pushed = ap lists_of c.in_ok-push.ensures.items ∙ map_push (λ (list : Vec Entry). list.items) lists c.new.result ∙ ap (λ (list : List Entry). lists_of lists ++ list ∷ []) c.new.ensures.items in
    one_more_empty c.loop.counter (lists_of lists) (lists_of c.push.new.self.items) pushed c.loop.invariant

pub returns : goal.returns
returns c = let same : c.loop.counter ≡ c.args.nodes = omega arith in subst (λ (nodes : ℕ). AreOwnEntries nodes [] (lists_of c.loop.lists.items)) same c.loop.invariant
