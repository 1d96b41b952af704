use Rattle.std.proofs.Common.{ℕ, List, get_or, sym, subst, ap, ◌∙◌}
use Rattle.vw_design.specs.Paths.{Word}
use Rattle.vw_design.specs.ModelFaults.{IsModelCircle}
use Rattle.vw_design.specs.ModelNumbers.{IsModelOrder}
use Rattle.vw_order.specs.Circles.{IsNumberCircle, BeginsWithLeast}
use Rattle.vw_order.specs.Orders.{IsNumberOrder}
use Rattle.vw_net.proofs.Orders.{at_among}
use Rattle.vw_models.specs.Steps.ModelGraphs.{graph_of_models}
use Rattle.vw_models.specs.Steps.ModelNames.{numbered_names}
use Rattle.vw_models.proofs.Models.{search_within}
use Rattle.vw_models.proofs.OrderedModels.{model_order}
use Rattle.vw_models.proofs.CircleNames.{circle_within, is_circle_of_names}
use Rattle.vw_models.proofs.order.order_of.Goals as goal
use Rattle.vw_models.proofs.order.order_of.Goals.{In-Circle}

pub search-requires : goal.search-requires
search-requires c = search_within c.args.targets.now.design.now c.args.targets.now.numbers.now c.args.targets.now.are

found : (c : In-Circle) → IsNumberCircle (graph_of_models c.args.targets.now.design.now c.args.targets.now.numbers.now) c.in-Circle.circle.items × BeginsWithLeast c.in-Circle.circle.items
found c = rw c.in-Circle.is at c.in_ok-order.ensures

pub circle_names-requires : goal.circle_names-requires
circle_names-requires c = λ i inside.
    let design = c.args.targets.now.design.now in
    let targets = c.args.targets.now.numbers.now in
    let circle = c.deref.result.now in
    let here : IsNumberCircle (graph_of_models design targets) circle = subst (λ (l : List ℕ). IsNumberCircle (graph_of_models design targets) l) (sym c.deref.ensures.value) (found (goal.at.circle_names-requires c).In-Circle).0 in
    circle_within design targets c.args.targets.now.are circle here (get_or circle i 0) (at_among circle i 0 inside)

pub returns-in-Order : goal.returns-in-Order
returns-in-Order c =
    let design = c.args.targets.now.design.now in
    let targets = c.args.targets.now.numbers.now in
    let found : IsNumberOrder (graph_of_models design targets) c.in-Order.order.items = rw c.in-Order.is at c.in_ok-order.ensures in
    subst (λ (l : List ℕ). IsModelOrder design l) (sym c.of.ensures) (model_order design targets c.args.targets.now.are c.requires.known c.in-Order.order.items found)

pub returns-in_ok-circle_names-in-Circle : goal.returns-in_ok-circle_names-in-Circle
returns-in_ok-circle_names-in-Circle c =
    let design = c.args.targets.now.design.now in
    let circle = c.in-Circle.circle.items in
    let found = found (goal.at.returns-in_ok-circle_names-in-Circle c).In-Circle in
    subst (λ (l : List Word). IsModelCircle design l) (sym (c.in_ok-circle_names-in-Circle.ensures ∙ ap (numbered_names design) c.deref.ensures.value))
    (is_circle_of_names design c.args.targets.now.numbers.now c.args.targets.now.are circle found.0 found.1)
