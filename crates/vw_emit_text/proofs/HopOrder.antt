-- The order of hops by the pins by which they leave.
use Rattle.std.proofs.Common.{◌≡◌, ◌<◌, ◌∙◌, ◌⊎◌, true, false, ⊎_elim}
use Rattle.std.specs.Cmp.{IsStrictWeakOrder, IsTotalOrder}
use Rattle.std.specs.Ordering.{nat_cmp, ordering_then}
use Rattle.std.specs.declared.cmp.Ordering.{Ordering}
use Rattle.std.specs.declared.cmp.Ordering.TheVariants.{Equal}
use Rattle.std.proofs.lemmas.Cmp.{nat_cmp_total, on_total, then_total}
use Rattle.std.proofs.lemmas.List.Sorted.{ranks_by}
use Rattle.vw_net.proofs.NumberOrders.{less_first, nat_cmp-equal, neither_before, same_first, then_equal}
use Rattle.vw_emit_text.specs.declared.numbered_hop.NumberedHop.{NumberedHop}
use Rattle.vw_emit_text.specs.Outlets.{hop_cmp, leaves_before}

pub hop_cmp_total : IsTotalOrder hop_cmp
hop_cmp_total =
    then_total (on_total (λ (hop : NumberedHop). hop.link) nat_cmp_total)
    (then_total (on_total (λ (hop : NumberedHop). hop.pin) nat_cmp_total)
    (then_total (on_total (λ (hop : NumberedHop). hop.at) nat_cmp_total)
    (then_total (on_total (λ (hop : NumberedHop). hop.wire) nat_cmp_total)
    (then_total (on_total (λ (hop : NumberedHop). hop.hop) nat_cmp_total)
    (then_total (on_total (λ (hop : NumberedHop). hop.net) nat_cmp_total)
    (then_total (on_total (λ (hop : NumberedHop). hop.from) nat_cmp_total)
    (then_total (on_total (λ (hop : NumberedHop). hop.to) nat_cmp_total) (on_total (λ (hop : NumberedHop). hop.arrival) nat_cmp_total))))))))

pub is_order : IsStrictWeakOrder leaves_before
is_order = ranks_by hop_cmp_total (λ (hop : NumberedHop). hop)

-- ---- hops of which none is before the other are the same

pub same_hop : (one other : NumberedHop) → leaves_before one other ≡ false → leaves_before other one ≡ false → one ≡ other
same_hop one other one_not other_not =
    let equal : hop_cmp one other ≡ Equal = neither_before hop_cmp hop_cmp_total one other one_not other_not in
    let links = then_equal (nat_cmp one.link other.link) _ equal in
    let pins = then_equal (nat_cmp one.pin other.pin) _ links.1 in
    let times = then_equal (nat_cmp one.at other.at) _ pins.1 in
    let wires = then_equal (nat_cmp one.wire other.wire) _ times.1 in
    let hops = then_equal (nat_cmp one.hop other.hop) _ wires.1 in
    let nets = then_equal (nat_cmp one.net other.net) _ hops.1 in
    let all_nodes = then_equal (nat_cmp one.from other.from) _ nets.1 in
    let ends = then_equal (nat_cmp one.to other.to) _ all_nodes.1 in
    let link : one.link ≡ other.link = nat_cmp-equal one.link other.link links.0 in
    let pin : one.pin ≡ other.pin = nat_cmp-equal one.pin other.pin pins.0 in
    let at : one.at ≡ other.at = nat_cmp-equal one.at other.at times.0 in
    let wire : one.wire ≡ other.wire = nat_cmp-equal one.wire other.wire wires.0 in
    let hop : one.hop ≡ other.hop = nat_cmp-equal one.hop other.hop hops.0 in
    let net : one.net ≡ other.net = nat_cmp-equal one.net other.net nets.0 in
    let from : one.from ≡ other.from = nat_cmp-equal one.from other.from all_nodes.0 in
    let to : one.to ≡ other.to = nat_cmp-equal one.to other.to ends.0 in
    let arrival : one.arrival ≡ other.arrival = nat_cmp-equal one.arrival other.arrival ends.1 in
    λ i. record { link = link i; pin = pin i; at = at i; wire = wire i; hop = hop i; net = net i; from = from i; to = to i; arrival = arrival i }

-- ---- which hop comes first

-- what is compared where the links are the same, then the pins, then the microcycles, then the wires
abbrev by_hop : NumberedHop → NumberedHop → Ordering
by_hop one other =
    ordering_then (nat_cmp one.hop other.hop)
    (ordering_then (nat_cmp one.net other.net)
    (ordering_then (nat_cmp one.from other.from)
    (ordering_then (nat_cmp one.to other.to) (nat_cmp one.arrival other.arrival))))

-- the wires, and then the hops
abbrev by_wire : NumberedHop → NumberedHop → Ordering
by_wire one other = ordering_then (nat_cmp one.wire other.wire) (by_hop one other)

-- the microcycles first
abbrev by_microcycle : NumberedHop → NumberedHop → Ordering
by_microcycle one other = ordering_then (nat_cmp one.at other.at) (by_wire one other)

-- the pins first
abbrev by_pin : NumberedHop → NumberedHop → Ordering
by_pin one other = ordering_then (nat_cmp one.pin other.pin) (by_microcycle one other)

-- a lower link comes first
pub lower_link : (one other : NumberedHop) → one.link < other.link → leaves_before one other ≡ true
lower_link one other less = less_first one.link other.link (by_pin one other) less

-- then a lower pin
pub lower_pin : (one other : NumberedHop) → one.link ≡ other.link → one.pin < other.pin → leaves_before one other ≡ true
lower_pin one other link less = same_first one.link other.link (by_pin one other) link ∙ less_first one.pin other.pin (by_microcycle one other) less

-- then an earlier microcycle
pub earlier_hop : (one other : NumberedHop) → one.link ≡ other.link → one.pin ≡ other.pin → one.at < other.at → leaves_before one other ≡ true
earlier_hop one other link pin less =
    same_first one.link other.link (by_pin one other) link ∙ same_first one.pin other.pin (by_microcycle one other) pin ∙ less_first one.at other.at (by_wire one other) less

-- and then an earlier wire, or an earlier hop of one wire
pub earlier_wire : (one other : NumberedHop) → one.link ≡ other.link → one.pin ≡ other.pin → one.at ≡ other.at → (one.wire < other.wire) ⊎ ((one.wire ≡ other.wire) × (one.hop < other.hop)) → leaves_before one other ≡ true
earlier_wire one other link pin at first =
    let behind = ordering_then (nat_cmp one.net other.net) (ordering_then (nat_cmp one.from other.from) (ordering_then (nat_cmp one.to other.to) (nat_cmp one.arrival other.arrival))) in
    same_first one.link other.link (by_pin one other) link ∙ same_first one.pin other.pin (by_microcycle one other) pin ∙ same_first one.at other.at (by_wire one other) at
    ∙ ⊎_elim (λ less. less_first one.wire other.wire (by_hop one other) less) (λ both. same_first one.wire other.wire (by_hop one other) both.0 ∙ less_first one.hop other.hop behind both.1) first
