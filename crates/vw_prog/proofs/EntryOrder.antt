-- The order of the entries of a timetable.
use Rattle.std.proofs.Common.{◌≡◌, ◌<◌, true, false, ◌∙◌}
use Rattle.std.specs.Cmp.{IsStrictWeakOrder, IsTotalOrder}
use Rattle.std.specs.Ordering.{nat_cmp, ordering_then}
use Rattle.std.specs.declared.cmp.Ordering.TheVariants.{Equal}
use Rattle.std.proofs.lemmas.Cmp.{nat_cmp_total, on_total, then_total}
use Rattle.std.proofs.lemmas.List.Sorted.{ranks_by}
use Rattle.vw_net.proofs.NumberOrders.{less_first, nat_cmp-equal, neither_before, same_first, then_equal}
use Rattle.vw_prog.specs.declared.entry.Entry.{Entry}
use Rattle.vw_prog.specs.Timetable.{comes_before, entry_cmp}

pub entry_cmp_total : IsTotalOrder entry_cmp
entry_cmp_total =
    then_total (on_total (λ (entry : Entry). entry.moment) nat_cmp_total)
    (then_total (on_total (λ (entry : Entry). entry.link) nat_cmp_total)
    (then_total (on_total (λ (entry : Entry). entry.place) nat_cmp_total)
    (then_total (on_total (λ (entry : Entry). entry.node) nat_cmp_total) (on_total (λ (entry : Entry). entry.net) nat_cmp_total))))

pub is_order : IsStrictWeakOrder comes_before
is_order = ranks_by entry_cmp_total (λ (entry : Entry). entry)

-- ---- entries of which none is before the other are the same

pub same_entry : (one other : Entry) → comes_before one other ≡ false → comes_before other one ≡ false → one ≡ other
same_entry one other one_not other_not =
    let equal : entry_cmp one other ≡ Equal = neither_before entry_cmp entry_cmp_total one other one_not other_not in
    let moments = then_equal (nat_cmp one.moment other.moment) _ equal in
    let links = then_equal (nat_cmp one.link other.link) _ moments.1 in
    let places = then_equal (nat_cmp one.place other.place) _ links.1 in
    let nodes = then_equal (nat_cmp one.node other.node) _ places.1 in
    let moment : one.moment ≡ other.moment = nat_cmp-equal one.moment other.moment moments.0 in
    let link : one.link ≡ other.link = nat_cmp-equal one.link other.link links.0 in
    let place : one.place ≡ other.place = nat_cmp-equal one.place other.place places.0 in
    let node : one.node ≡ other.node = nat_cmp-equal one.node other.node nodes.0 in
    let net : one.net ≡ other.net = nat_cmp-equal one.net other.net nodes.1 in
    λ i. record { moment = moment i; link = link i; place = place i; node = node i; net = net i }

-- ---- what comes before what

pub by_moment : (one other : Entry) → one.moment < other.moment → comes_before one other ≡ true
by_moment one other less = less_first one.moment other.moment (ordering_then (nat_cmp one.link other.link) (ordering_then (nat_cmp one.place other.place) (ordering_then (nat_cmp one.node other.node) (nat_cmp one.net other.net)))) less

pub by_place : (one other : Entry) → one.moment ≡ other.moment → one.link ≡ other.link → one.place < other.place → comes_before one other ≡ true
by_place one other moment link less =
    let behind = ordering_then (nat_cmp one.node other.node) (nat_cmp one.net other.net) in
    let places = ordering_then (nat_cmp one.place other.place) behind in
    same_first one.moment other.moment (ordering_then (nat_cmp one.link other.link) places) moment
    ∙ same_first one.link other.link places link ∙ less_first one.place other.place behind less
