-- Links by their widths: where there is none, there are 0 pins.
use Rattle.std.proofs.Common.{◌≡◌, ◌≤◌, ◌&&◌, ℕ, suc, true, false, not, List, [], ◌∷◌, get_or, nat_lt, eqb, refl, sym, ◌∙◌, ⊎_elim, All, ne_eqb, eqb-true, arith}
use Rattle.std.specs.List.{AllPairs}
use Rattle.std.proofs.Math.Bool.{or-false}
use Rattle.std.proofs.lemmas.Bool.{cases_Bool, and_left, and_parts, false_from_ne_true, le-ltb}
use Rattle.std.proofs.lemmas.List.Elements.{All-head, All-tail}
use Rattle.std.proofs.lemmas.List.Folds.{list_any_none}
use Rattle.vw_plan.specs.declared.link.Link.{Link}
use Rattle.vw_plan.specs.declared.wire.Hop.{Hop}
use Rattle.vw_plan.specs.Links.{HaveSameEnds}
use Rattle.vw_plan.specs.Sound.{has_pin}
use Rattle.vw_plan.specs.Walks.{has_link}
use Rattle.vw_check.specs.Steps.Rules.{width_between}

-- there is a link where there are pins
pub has_link-width : (links : List Link) → All (λ link. (1 ≤ link.width) × (link.width ≤ 64)) links → (from to : ℕ)
    → has_link links from to ≡ not (eqb (width_between links from to) 0)
has_link-width [] wide from to = refl
has_link-width (link ∷ links) wide from to =
    let wide_at = λ (one : Link). (1 ≤ one.width) × (one.width ≤ 64) in
    let here = eqb link.from from && eqb link.to to in
    let if_here = λ (is : here ≡ true).
    let some : eqb link.width 0 ≡ false = ne_eqb link.width 0 (λ none. omega (arith, (All-head (λ (one : Link). (1 ≤ one.width) × (one.width ≤ 64)) link links wide).0)) in
    let whole : has_link (link ∷ links) from to ≡ not (eqb (width_between (link ∷ links) from to) 0) = rw (is, some) refl in whole in
    let if_later = λ (is : here ≡ false).
    let whole : has_link (link ∷ links) from to ≡ not (eqb (width_between (link ∷ links) from to) 0) = rw is (has_link-width links (All-tail (λ (one : Link). (1 ≤ one.width) × (one.width ≤ 64)) link links wide) from to) in whole in
    ⊎_elim if_here if_later (cases_Bool here)

-- no later link has the ends of this one, so none has its pin
no_later : (link : Link) (links : List Link) (hop : Hop) → All (λ other. ¬ (HaveSameEnds link other)) links
    → eqb link.from hop.from && eqb link.to hop.to ≡ true → has_pin links hop ≡ false
no_later link links hop once is =
    let ends = and_parts (eqb link.from hop.from) (eqb link.to hop.to) is in
    let from_is = eqb-true link.from hop.from ends.0 in
    let to_is = eqb-true link.to hop.to ends.1 in
    list_any_none (λ other. (eqb other.from hop.from && eqb other.to hop.to) && nat_lt hop.pin other.width) links (λ place default within.
    let other = get_or links place default in
    and_left (eqb other.from hop.from && eqb other.to hop.to) (nat_lt hop.pin other.width) (false_from_ne_true _ (λ same.
    let others = and_parts (eqb other.from hop.from) (eqb other.to hop.to) same in
    once place default within (from_is ∙ sym (eqb-true other.from hop.from others.0), to_is ∙ sym (eqb-true other.to hop.to others.1)))))

-- a hop has a pin of its link where its number is below the link's
pub has_pin-width : (links : List Link) → AllPairs (λ link other. ¬ (HaveSameEnds link other)) links → (hop : Hop)
    → has_pin links hop ≡ nat_lt hop.pin (width_between links hop.from hop.to)
has_pin-width [] once hop = sym (le-ltb hop.pin 0 (omega arith))
has_pin-width (link ∷ links) once hop =
    let here = eqb link.from hop.from && eqb link.to hop.to in
    let fits = nat_lt hop.pin link.width in
    let if_here = λ (is : here ≡ true).
    let others : has_pin links hop ≡ false = no_later link links hop (λ place default within. once 0 (suc place) default (omega arith) (omega arith)) is in
    let whole : has_pin (link ∷ links) hop ≡ nat_lt hop.pin (width_between (link ∷ links) hop.from hop.to) = rw (is, others) (or-false fits) in whole in
    let if_later = λ (is : here ≡ false).
    let rest = has_pin-width links (λ i j default before within. once (suc i) (suc j) default (omega arith) (omega arith)) hop in
    let whole : has_pin (link ∷ links) hop ≡ nat_lt hop.pin (width_between (link ∷ links) hop.from hop.to) = rw is rest in whole in
    ⊎_elim if_here if_later (cases_Bool here)
