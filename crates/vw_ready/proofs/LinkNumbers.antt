-- A table of the numbers of links, filled from the last link to the first.
use Rattle.std.proofs.Common.{◌≡◌, ◌<◌, ◌≤◌, ◌-◌, ◌+◌, ◌*◌, ◌&&◌, ◌∙◌, ◌∷◌, ℕ, suc, Bool, true, false, List, [], length, drop, get_or, set, eqb, eqb-true, eq-eqb, Option, Some, None, cond, inl, inr, ◌⊎◌, ap, refl, sym, subst, ⊎_elim, true≢false, arith}
use Rattle.std.specs.List.{All}
use Rattle.std.specs.Option.{option_or}
use Rattle.std.specs.Prelude.{replicate}
use Rattle.std.proofs.lemmas.Bool.{and_from, and_left, and_parts, and_right, cases_Bool, ne_eqb}
use Rattle.std.proofs.lemmas.Grind.{get_or-set_at}
use Rattle.std.proofs.lemmas.List.{drop-map, drop_all, get_or-map, get_or-replicate, get_or-set_other, length-map, length-set}
use Rattle.std.proofs.lemmas.List.Elements.{All-head, All-tail}
use Rattle.vw_plan.specs.declared.board.Board.{Board}
use Rattle.vw_plan.specs.declared.link.Link.{Link}
use Rattle.vw_ready.specs.Links.{link_pairs}
use Rattle.vw_net.specs.FirstFound.{found_if}
use Rattle.vw_ready.specs.Pairs.{first_pair, is_number_pair}
use Rattle.vw_ready.specs.Steps.{HasFrom, HasNumbers}
use Rattle.vw_ready.proofs.FirstPairs.{pair_put}

-- past the last link no number is in
pub none_from : (links : List Link) (left : ℕ) (numbers : List (Option ℕ)) → length links ≤ left → numbers ≡ replicate 1089 None → length numbers ≡ 1089 → HasFrom links left numbers
none_from links left numbers whole empty long = record {
  long = long;
  there = λ from to from_low to_low. ap (λ (list : List (Option ℕ)). get_or list (from * 33 + to) None) empty ∙ get_or-replicate 1089 (from * 33 + to) None None (omega (arith, from_low, to_low)) ∙ sym (ap (λ (rest : List Link). first_pair left (link_pairs rest) from to) (drop_all left links whole));
}

-- the ends of a link of a board are below 33
pub ends_low : (board : Board) (place : ℕ) (default : Link) → place < length board.links → ((get_or board.links place default).from < 33) × ((get_or board.links place default).to < 33)
ends_low board place default within =
    let ends = board.linked.separate.ends place default within in
    (omega (arith, ends.0, board.few_chips), omega (arith, ends.1, board.few_chips))

abbrev ends_of : Link → ℕ × ℕ
ends_of link = (link.from, link.to)

-- the link before the place
pub one_more_link : (links : List Link) (left : ℕ) (numbers : List (Option ℕ)) (default : Link) (at : ℕ) (value : Option ℕ) → 0 < left → left ≤ length links
    → (get_or links (left - 1) default).from < 33 → (get_or links (left - 1) default).to < 33 → at ≡ (get_or links (left - 1) default).from * 33 + (get_or links (left - 1) default).to
    → value ≡ Some (left - 1) → HasFrom links left numbers → HasFrom links (left - 1) (set numbers at value)
one_more_link links left numbers default at value some within from_low to_low is_at is_value has = record {
  long = length-set numbers at value ∙ has.long;
  there = λ from to low low_to.
      let pairs = link_pairs links in
      let place = left - 1 in
      let link = get_or links (left - 1) default in
      let old = get_or numbers (from * 33 + to) None in
      let new = get_or (set numbers at value) (from * 33 + to) None in
      let here = eqb link.from from && eqb link.to to in
      let fits : left ≤ length pairs = omega (arith, length-map links ends_of) in
      let own : get_or pairs place (0, 0) ≡ ends_of link = get_or-map ends_of links place default (0, 0) (omega (arith, some, within)) in
      let before : old ≡ first_pair left (drop left pairs) from to = has.there from to low low_to ∙ ap (λ (rest : List (ℕ × ℕ)). first_pair left rest from to) (sym (drop-map ends_of left links)) in
      let if_here = λ (yes : here ≡ true).
      let parts = and_parts (eqb link.from from) (eqb link.to to) yes in
      let from_is : link.from ≡ from = eqb-true link.from from parts.0 in
      let to_is : link.to ≡ to = eqb-true link.to to parts.1 in
      let same : from * 33 + to ≡ at = omega (arith, from_is, to_is, is_at) in
      let put : new ≡ value = get_or-set_at numbers at (from * 33 + to) value None same (omega (arith, has.long, from_low, to_low, is_at)) in
      let whole : new ≡ cond here (Some place) old = put ∙ is_value ∙ sym (ap (λ (bit : Bool). cond bit (Some place) old) yes) in whole in
      let if_later = λ (no : here ≡ false).
      let apart : from * 33 + to ≡ at → ⊥ = λ same.
      let from_is : link.from ≡ from = omega (arith, same, is_at, from_low, to_low, low, low_to) in
      let to_is : link.to ≡ to = omega (arith, same, is_at, from_low, to_low, low, low_to) in
      true≢false (sym (and_from (eqb link.from from) (eqb link.to to) (eq-eqb link.from from from_is) (eq-eqb link.to to to_is)) ∙ no) in
      let kept : new ≡ old = get_or-set_other numbers at (from * 33 + to) value None apart in
      let whole : new ≡ cond here (Some place) old = kept ∙ sym (ap (λ (bit : Bool). cond bit (Some place) old) no) in whole in
      let put : new ≡ cond here (Some place) old = ⊎_elim if_here if_later (cases_Bool here) in
      pair_put pairs left some fits from to old new before (put ∙ ap (λ (pair : ℕ × ℕ). cond (eqb pair.0 from && eqb pair.1 to) (Some place) old) (sym own))
      ∙ ap (λ (rest : List (ℕ × ℕ)). first_pair place rest from to) (drop-map ends_of place links);
}

-- no link has an end that is past the nodes
none_with : (from to number : ℕ) (links : List Link) → All (λ link. (link.from < 33) × (link.to < 33)) links → (33 ≤ from) ⊎ (33 ≤ to) → first_pair number (link_pairs links) from to ≡ None
none_with from to number [] low far = refl
none_with from to number (link ∷ links) low far =
    let own = All-head (λ (one : Link). (one.from < 33) × (one.to < 33)) link links low in
    let not_from = λ (past : 33 ≤ from). and_left (eqb from link.from) (eqb to link.to) (ne_eqb from link.from (λ same. omega (arith, same, past, own.0))) in
    let not_to = λ (past : 33 ≤ to). and_right (eqb from link.from) (eqb to link.to) (ne_eqb to link.to (λ same. omega (arith, same, past, own.1))) in
    let not : is_number_pair from to (link.from, link.to) ≡ false = ⊎_elim not_from not_to far in
    ap (λ (bit : Bool). option_or (found_if bit number) (first_pair (suc number) (link_pairs links) from to)) not
    ∙ none_with from to (suc number) links (All-tail (λ (one : Link). (one.from < 33) × (one.to < 33)) link links low) far

-- at the front all links are in
pub all_numbers : (board : Board) (left : ℕ) (numbers : List (Option ℕ)) → left ≡ 0 → HasFrom board.links left numbers → HasNumbers board.links numbers
all_numbers board left numbers none has =
    let from_first : HasFrom board.links 0 numbers = subst (λ (place : ℕ). HasFrom board.links place numbers) none has in
    let low : All (λ link. (link.from < 33) × (link.to < 33)) board.links = λ place default within. ends_low board place default within in
    record {
      long = from_first.long;
      there = from_first.there;
      from_far = λ from to past. none_with from to 0 board.links low (inl past);
      to_far = λ from to past. none_with from to 0 board.links low (inr past);
    }
