use Rattle.std.proofs.Common.{◌≡◌, ◌∙◌, ◌+◌, ℕ, Some, None, sym, refl, ap, subst}
use Rattle.std.proofs.lemmas.Option.{same_Some, none-some}
use Rattle.std.proofs.Props.{props}
use mathlib.Core.Logic.{∥∥₁_elim}
use Rattle.vw_design.specs.declared.item.Item.{Item}
use Rattle.vw_design.specs.Paths.{Word}
use Rattle.vw_design.specs.PathValue.{item_at, place_of_site}
use Rattle.vw_design.specs.Preorder.{sites}
use Rattle.vw_net_faults.specs.Steps.SecondClaims.{position_by, IsClaimedAt, AreFrom}
use Rattle.vw_net_faults.proofs.InstanceClaimsAgain.{weights, entry, again_is, none_again, position_is, first_claimed, first_least}
use Rattle.vw_net_faults.proofs.nets.Nets.second_in.Goals as goal

pub returns-in_err-position : goal.returns-in_err-position
returns-in_err-position c = λ path listed.
    let design = c.args.self.now.design.now in
    let tables = c.args.self.now.tables.now in
    let k = c.args.instance in
    let again = c.in_ok-again.again.now in
    absurd (∥∥₁_elim c.args.self.now.has_tables (hlevel props) (λ are.
    let is = again_is design tables are k path listed (Some again) c.in_ok-again.ensures in
    none-some _ (c.in_err-position.ensures ∙ ap (position_by tables k) c.item.ensures ∙ position_is design tables are k path listed again.item is.0.0 is.0.1)))

pub returns : goal.returns
returns c = λ path listed.
    let design = c.args.self.now.design.now in
    let tables = c.args.self.now.tables.now in
    let k = c.args.instance in
    let again = c.in_ok-again.again.now in
    ∥∥₁_elim c.args.self.now.has_tables (hlevel props) (λ are.
    let is = again_is design tables are k path listed (Some again) c.in_ok-again.ensures in
    let at = entry design tables are k path listed in
    let base = at.0.cells + k in
    let places : (place : ℕ) (item : Item) → item_at design path place ≡ Some item → place_of_site (sites design) path place ≡ Some (base + weights design path place) =
    λ place item there. c.entries_give_numbers.ensures.sites design tables.instances c.args.self.now.faultless.small are.placed k path at.0 listed at.1 place item there in
    let position : base + weights design path again.item ≡ c.in_ok-position.position =
    same_Some (base + weights design path again.item) c.in_ok-position.position (sym (c.in_ok-position.ensures ∙ ap (position_by tables k) c.item.ensures ∙ position_is design tables are k path listed again.item is.0.0 is.0.1)) in
    let name : again.name ≡ c.name.result.now = sym c.name.ensures in (
      refl,
      ∣ (again.item, subst (λ (n : ℕ). IsClaimedAt design path again.item n c.name.result.now) position (subst (λ (w : Word). IsClaimedAt design path again.item (base + weights design path again.item) w) name (first_claimed design path base places again is))) ∣₁,
      subst (λ (n : ℕ). AreFrom design path n) position (first_least design path base places again is),
    ))

pub returns-in_err-again : goal.returns-in_err-again
returns-in_err-again c = λ path listed.
    let nets = c.args.self.now in
    rw c.from_residual.ensures (∥∥₁_elim nets.has_tables (hlevel props) (λ are.
    none_again nets.design.now path (again_is nets.design.now nets.tables.now are c.args.instance path listed None c.in_err-again.ensures)))
