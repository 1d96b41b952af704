use Rattle.std.proofs.Common.{◌≡◌, ◌<◌, ◌&&◌, ◌||◌, ℕ, suc, Bool, true, false, not, List, length, eqb, nat_lt, refl, sym, ap, ap₂, ◌∙◌, eq-eqb, ne_eqb, lt-ltb, le-ltb, arith}
use Rattle.std.proofs.lemmas.Bool.{and_left, and_right, or_left}
use Rattle.vw_plan.specs.declared.link.Link.{Link}
use Rattle.vw_plan.specs.Walks.{has_link}
use Rattle.vw_check.specs.HopFaults.{begins_at}
use Rattle.vw_check.specs.Steps.Rules.{width_between}
use Rattle.vw_check.proofs.LinkWidths.{has_link-width}
use Rattle.vw_check.proofs.hops.fits_route.Goals as goal

all_hold : (begins link more ends : Bool) → begins ≡ true → link ≡ true → (more || ends) ≡ true → ((begins && link) && (more || ends)) ≡ true
all_hold begins link more ends begin_is link_is more_is = rw (begin_is, link_is) more_is

ends_or : (begins link more ends : Bool) → begins ≡ true → link ≡ true → more ≡ false → ((begins && link) && (more || ends)) ≡ ends
ends_or begins link more ends begin_is link_is more_is = rw (begin_is, link_is, more_is) refl

-- no link leads where the hop goes
pub returns-then-width_between-eq0 : goal.returns-then-width_between-eq0
returns-then-width_between-eq0 c =
    let board = c.args.wired.now.board.now in
    let hop = c.args.hop.now in
    let width : width_between board.links hop.from hop.to ≡ 0 = cc in
    let none : has_link board.links hop.from hop.to ≡ false = has_link-width board.links board.linked.separate.wide hop.from hop.to ∙ ap (λ (number : ℕ). not (eqb number 0)) width in
    sym (and_left (eqb hop.from (begins_at c.args.from c.args.wire.now.hops c.args.number) && has_link board.links hop.from hop.to) _ (and_right _ _ none))

-- the hop begins where it has to, a link leads where it goes, and it isn't the last
pub returns-then-number-hops : goal.returns-then-number-hops
returns-then-number-hops c =
    let board = c.args.wired.now.board.now in
    let hop = c.args.hop.now in
    let hops = c.args.wire.now.hops in
    let begins : eqb hop.from (begins_at c.args.from hops c.args.number) ≡ true = eq-eqb _ _ (cc) in
    let width : eqb (width_between board.links hop.from hop.to) 0 ≡ false = ne_eqb _ _ (λ none. c.if-width_between-eq0.false (c.width_between.ensures ∙ ap (λ (links : List Link). width_between links c.from-2.result c.to.result) c.args.wired.now.has_links ∙ ap₂ (width_between board.links) c.from-2.ensures c.to.ensures ∙ none)) in
    let link : has_link board.links hop.from hop.to ≡ true = has_link-width board.links board.linked.separate.wide hop.from hop.to ∙ ap not width in
    let within : suc c.args.number < length hops = omega (arith, ap length c.hops-hops.ensures) in
    lt-ltb _ _ c.if-number-hops.true ∙ sym (all_hold (eqb hop.from (begins_at c.args.from hops c.args.number)) (has_link board.links hop.from hop.to) (nat_lt (suc c.args.number) (length hops)) _ begins link (or_left _ _ (lt-ltb _ _ within)))

-- it is the last, and ends where the wire does or not
pub returns-else-number-hops : goal.returns-else-number-hops
returns-else-number-hops c =
    let board = c.args.wired.now.board.now in
    let hop = c.args.hop.now in
    let hops = c.args.wire.now.hops in
    let begins : eqb hop.from (begins_at c.args.from hops c.args.number) ≡ true = eq-eqb _ _ (cc) in
    let width : eqb (width_between board.links hop.from hop.to) 0 ≡ false = ne_eqb _ _ (λ none. c.if-width_between-eq0.false (c.width_between.ensures ∙ ap (λ (links : List Link). width_between links c.from-2.result c.to.result) c.args.wired.now.has_links ∙ ap₂ (width_between board.links) c.from-2.ensures c.to.ensures ∙ none)) in
    let link : has_link board.links hop.from hop.to ≡ true = has_link-width board.links board.linked.separate.wide hop.from hop.to ∙ ap not width in
    let past : nat_lt (suc c.args.number) (length hops) ≡ false = le-ltb _ _ (omega (arith, ap length c.hops-hops.ensures)) in
    let ends : eqb c.to-else-number-hops.result c.to-else-number-hops-2.result ≡ eqb hop.to c.args.wire.now.to = ap₂ eqb c.to-else-number-hops.ensures c.to-else-number-hops-2.ensures in
    ends ∙ sym (ends_or (eqb hop.from (begins_at c.args.from hops c.args.number)) (has_link board.links hop.from hop.to) (nat_lt (suc c.args.number) (length hops)) (eqb hop.to c.args.wire.now.to) begins link past)
