use Rattle.std.proofs.Common.{[], ◌∷◌, ◌++◌, ◌∙◌, ap, refl}
use Rattle.vw_net.proofs.GatheredLists.{mapped_more}
use Rattle.vw_drivers.specs.Names.{firsts_of, way_of}
use Rattle.vw_drivers.specs.declared.model_names.Way.{Way}
use Rattle.vw_drivers.proofs.placed.binds_ways.Goals as goal

pub loop-bind-preserved : goal.loop-bind-preserved
loop-bind-preserved c =
    let way = way_of c.args.own.now.firsts (firsts_of c.args.claims.now c.args.model) in
    mapped_more way c.args.binds.now c.loop-bind.bind-index c.bind-item.result c.loop-bind.ways.items c.push.new.self.items _ _ c.loop-bind-test.true refl
    (c.in_ok-push.ensures.items ∙ ap (λ (one : Way). c.loop-bind.ways.items ++ one ∷ []) (c.bind_way.ensures ∙ ap way c.bind-item.is)) c.loop-bind.invariant
