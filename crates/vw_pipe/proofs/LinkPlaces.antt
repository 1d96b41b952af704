-- The number of a link, where there is one.
use Rattle.std.proofs.Common.{◌≡◌, ◌+◌, ◌∙◌, ◌∷◌, ◌&&◌, ◌||◌, ℕ, suc, Bool, true, false, List, [], eqb, Some, ap, ap₂, sym, ⊎_elim, true≢false, arith}
use Rattle.std.specs.Option.{option_or}
use Rattle.std.proofs.lemmas.Bool.{cases_Bool}
use Rattle.vw_net.proofs.Orders.{eqb_comm}
use Rattle.vw_plan.specs.declared.link.Link.{Link}
use Rattle.vw_plan.specs.Walks.{has_link}
use Rattle.vw_ready.specs.Links.{link_number, link_pairs}
use Rattle.vw_net.specs.FirstFound.{found_if}
use Rattle.vw_ready.specs.Pairs.{first_pair, is_number_pair}
use Rattle.vw_pipe.specs.Steps.SentHops.{link_place}

number_from : (links : List Link) (number from to : ℕ) → has_link links from to ≡ true
    → first_pair number (link_pairs links) from to ≡ Some (number + link_place links from to)
number_from [] number from to there = absurd (true≢false (sym there))
number_from (link ∷ links) number from to there =
    let here = eqb link.from from && eqb link.to to in
    let turned : is_number_pair from to (link.from, link.to) ≡ here =
    ap₂ (λ (first second : Bool). first && second) (eqb_comm from link.from) (eqb_comm to link.to) in
    let rest = first_pair (suc number) (link_pairs links) from to in
    let IsFound = first_pair number (link_pairs (link ∷ links)) from to ≡ Some (number + link_place (link ∷ links) from to) in
    let found_in = λ (bit : Bool). option_or (found_if bit number) rest in
    let if_here = λ (is : here ≡ true).
    let none : number ≡ number + link_place (link ∷ links) from to = rw is (omega arith) in
    let whole : IsFound = ap found_in (turned ∙ is) ∙ ap Some none in whole in
    let if_later = λ (is : here ≡ false).
    let later : has_link links from to ≡ true = sym (ap (λ (bit : Bool). bit || has_link links from to) is) ∙ there in
    let sum : suc number + link_place links from to ≡ number + link_place (link ∷ links) from to = rw is (omega arith) in
    let whole : IsFound = ap found_in (turned ∙ is) ∙ number_from links (suc number) from to later ∙ ap Some sum in whole in
    ⊎_elim if_here if_later (cases_Bool here)

pub number_there : (links : List Link) (from to : ℕ) → has_link links from to ≡ true → link_number links from to ≡ Some (link_place links from to)
number_there links from to there =
    let none : 0 + link_place links from to ≡ link_place links from to = omega arith in
    number_from links 0 from to there ∙ ap Some none
