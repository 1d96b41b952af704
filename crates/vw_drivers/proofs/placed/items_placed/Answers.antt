use Rattle.std.proofs.Common.{◌≡◌, ◌++◌, ℕ, Option, length, slice_get, option_and_then, ◌∙◌, ap}
use Rattle.vw_drivers.specs.Steps.GatheredNames.{placed_made}
use Rattle.vw_drivers.proofs.PlacedItems.{placed_further}
use Rattle.vw_drivers.proofs.placed.items_placed.Goals as goal

pub loop-number-preserved : goal.loop-number-preserved
loop-number-preserved c =
    let own = c.args.own.now.firsts in
    let claims = c.args.claims.now in
    let targets = c.args.targets.now in
    let i = c.loop-number.number in
    let item = c.index-items-number.result in
    let list = c.loop-number.placed.items in
    let target : c.target_behind-model.result ≡ option_and_then (λ target. target) (slice_get targets (length list)) =
    c.target_behind-model.ensures ∙ ap (λ (n : ℕ). option_and_then (λ target. target) (slice_get targets n)) (c.len.ensures ∙ c.loop-number.placed.ok.0) in
    placed_further own claims targets c.args.items.now i item list c.add_placed.new.list.items _ c.loop-number-test.true c.index-items-number.is
    (c.in_ok-add_placed.ensures ∙ ap (λ (model : Option ℕ). list ++ placed_made own claims model i item) target) c.loop-number.invariant
