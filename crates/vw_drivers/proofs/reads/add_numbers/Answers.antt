use Rattle.std.proofs.Common.{[], ◌∷◌, ◌++◌, ℕ, Option, ◌∙◌, ap, refl}
use Rattle.vw_net.proofs.GatheredLists.{mapped_more}
use Rattle.vw_drivers.specs.Firsts.{number_named}
use Rattle.vw_drivers.proofs.reads.add_numbers.Goals as goal

pub loop-name-preserved : goal.loop-name-preserved
loop-name-preserved c =
    let number = number_named c.args.claims.now.firsts in
    mapped_more number c.args.names.now c.loop-name.name-index c.name-item.result c.loop-name.list.items c.push.new.self.items _ _ c.loop-name-test.true refl
    (c.in_ok-push.ensures.items ∙ ap (λ (one : Option ℕ). c.loop-name.list.items ++ one ∷ []) (c.first.ensures.number ∙ ap number (c.as_slice.ensures ∙ c.name-item.is))) c.loop-name.invariant
