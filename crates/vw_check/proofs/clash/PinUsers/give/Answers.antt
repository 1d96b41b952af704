use Rattle.std.proofs.Common.{Bool, Some, cond, ap, ◌∙◌, sym}
use Rattle.vw_check.specs.Steps.Tables.{user_in}
use Rattle.vw_check.proofs.Clashes.{pins_given, share_pin-parts, used_by}
use Rattle.vw_check.proofs.clash.PinUsers.give.Goals as goal

-- the pin had this user, and where it had none, it has the hop now
pub returns : goal.returns
returns c =
    let hop = c.args.hop.now in
    let old = c.args.self.now.users in
    let before = c.in_ok-insert.ensures.old ∙ used_by old c.from.result c.to.result c.pin.result c.at.result hop c.from.ensures c.to.ensures c.pin.ensures c.at.ensures in (
      before,
      λ free placed has. pins_given placed old c.insert.new.self c.args.wire c.args.number hop has (sym before ∙ free) (λ other.
          c.in_ok-insert.ensures.updates.0 ((other.from, other.to), (other.pin, other.at))
          ∙ ap (λ (shared : Bool). cond shared (Some (c.args.wire, c.args.number)) (user_in old other)) (share_pin-parts c.from.result c.to.result c.pin.result c.at.result hop other c.from.ensures c.to.ensures c.pin.ensures c.at.ensures)),
    )
