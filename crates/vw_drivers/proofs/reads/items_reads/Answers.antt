use Rattle.std.proofs.Common.{◌≡◌, [], ◌∷◌, ◌++◌, ℕ, List, Option, map, ◌∙◌, ap, refl}
use Rattle.vw_net.proofs.GatheredLists.{mapped_more}
use Rattle.vw_design.specs.declared.item.Item.{Item}
use Rattle.vw_drivers.specs.Firsts.{number_named}
use Rattle.vw_drivers.specs.Names.{reads_of}
use Rattle.vw_drivers.proofs.reads.items_reads.Goals as goal

pub loop-item-preserved : goal.loop-item-preserved
loop-item-preserved c =
    let numbers = λ (item : Item). map (number_named c.args.claims.now.firsts) (reads_of item) in
    let made : c.in_ok-item_reads.field-0 ≡ numbers c.item-item.result = c.in_ok-item_reads.ensures in
    mapped_more numbers c.args.items.now c.loop-item.item-index c.item-item.result c.loop-item.reads.items c.push.new.self.items _ _ c.loop-item-test.true refl
    (c.in_ok-push.ensures.items ∙ ap (λ (one : List (Option ℕ)). c.loop-item.reads.items ++ one ∷ []) (made ∙ ap numbers c.item-item.is)) c.loop-item.invariant
