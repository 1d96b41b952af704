use Rattle.std.proofs.Common.{◌*◌, ◌%◌, ◌^◌, ◌-◌, ◌∙◌, ℕ, bit_and, bit_or, bit_xor, set, ap, refl}
use Rattle.vw_fault.specs.declared.stuck.Stuck.{Stuck}
use Rattle.vw_fault.proofs.Masks.{one_lane, put_found}
use Rattle.vw_fault.proofs.stuck.Stuck.put.Goals as goal

-- the lane's bit is kept no longer, and forced to the fault's
pub returns-clause-found : goal.returns-clause-found
returns-clause-found c =
    let old = c.args.self.now in
    let net = c.args.fault.net in
    let own = 1 * 2 ^ c.args.lane % 2 ^ 64 in
    let others = bit_xor own (2 ^ 64 - 1) in
    let new : Stuck = record { kept = c.set.new.self; forced = c.set-2.new.self } in
    let kept = c.set.ensures ∙ ap (λ (word : ℕ). set old.kept net (bit_and word others)) c.get.ensures in
    let forced = c.set-2.ensures ∙ ap (λ (word : ℕ). set old.forced net (bit_or (bit_and word others) (bit_and own c.spread.result))) c.get-2.ensures in
    put_found old new c.args.lane own others c.spread.result c.args.fault c.requires.kept c.requires.forced kept forced (one_lane c.args.lane c.requires.lane) refl c.spread.ensures c.requires.lane
