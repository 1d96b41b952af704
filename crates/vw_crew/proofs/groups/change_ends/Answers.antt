use Rattle.std.proofs.Common.{set, ap, sym, subst, ◌∙◌}
use Rattle.std.specs.Prelude.{option_map}
use Rattle.vw_crew.specs.Ends.{Has, MayHave, SeenOwn}
use Rattle.vw_crew.proofs.Dealt.{place_inside, same_own, written}
use Rattle.vw_crew.proofs.groups.change_ends.Goals as goal

pub ends_at-requires : goal.ends_at-requires
ends_at-requires g c = place_inside c.args.groups.now c.args.node c.requires.0 c.requires.1 c.index-groups-node.result

pub change-requires : goal.change-requires
change-requires g c =
    subst (λ (own : SeenOwn). MayHave own c.args.link (option_map g.T.PutEnd.seen c.args.put) (option_map g.U.TakeEnd.seen c.args.take))
    (sym (same_own c.args.groups.now c.args.node c.requires.0 c.requires.1 c.index-groups-node.result c.ends_at.result.now c.ends_at.ensures.value)) c.requires.2

pub returns-clause-had : goal.returns-clause-had
returns-clause-had g c = λ own is.
    subst (λ (one : SeenOwn). Has one c.args.link (option_map g.T.PutEnd.seen c.change.result.0) (option_map g.U.TakeEnd.seen c.change.result.1))
    (same_own c.args.groups.now c.args.node own is c.index-groups-node.result c.ends_at.result.now c.ends_at.ensures.value) c.change.ensures.had

pub returns-clause-changes : goal.returns-clause-changes
returns-clause-changes g c =
    written c.args.groups.now c.args.node c.requires.0 c.requires.1 c.index-groups-node.result c.args.link (option_map g.T.PutEnd.seen c.args.put) (option_map g.U.TakeEnd.seen c.args.take) c.change.new.self
    (c.change.ensures.now ∙ ap (λ (own : SeenOwn). record own { puts = set own.puts c.args.link (option_map g.T.PutEnd.seen c.args.put); takes = set own.takes c.args.link (option_map g.U.TakeEnd.seen c.args.take) })
    (same_own c.args.groups.now c.args.node c.requires.0 c.requires.1 c.index-groups-node.result c.ends_at.result.now c.ends_at.ensures.value))
