-- Lines of links that are read one after the other.
use Rattle.std.proofs.Common.{◌≡◌, ◌≢◌, ◌<◌, ◌≤◌, ◌+◌, ◌&&◌, ℕ, suc, Bool, true, false, List, [], ◌∷◌, ◌++◌, length, map, take, drop, get_or, Option, Some, None, if◌then◌else◌, eqb, leb, ap, refl, sym, ◌∙◌, ne_eqb, eq-eqb, add-one, arith}
use Rattle.std.specs.Prelude.{codes, unwrap_or}
use Rattle.std.specs.Option.{option_or}
use Rattle.std.proofs.Math.Seq.{drop-cons, take-suc}
use Rattle.std.proofs.lemmas.Bool.{and_parts, and_from, both_ways, leb-true}
use Rattle.std.proofs.lemmas.List.{map_push}
use Rattle.std.proofs.lemmas.List.Elements.{All-push}
use Rattle.std.proofs.lemmas.List.Folds.{list_any_at}
use Rattle.std.proofs.lemmas.List.Quantifiers.{all_pairs_push}
use Rattle.vw_text.specs.declared.line.Line.{Line}
use Rattle.vw_text.specs.Number.{spelled_number}
use Rattle.vw_plan.specs.declared.link.Link.{Link}
use Rattle.vw_plan.specs.Walks.{has_link}
use Rattle.vw_board.specs.declared.fault.BoardFault.{BoardFault}
use Rattle.vw_board.specs.declared.fault.BoardFault.TheVariants.{DuplicateLink}
use Rattle.vw_board.specs.Words.{line_word, within, number_within, is_line_of}
use Rattle.vw_board.specs.LinkLines.{delay_in, first_link_fault, link_fault, link_of, link_words}
use Rattle.vw_plan.specs.Links.{AreSeparate, HaveSameEnds}
use Rattle.vw_board.specs.Steps.Links.{ReadsLink, ReadsSoFar}

-- a number that was found in a range
record IsFoundInRange (least greatest value : ℕ) (found : Option ℕ) : Type 0 where
  is : unwrap_or found 0 ≡ value
  above : least ≤ value
  below : value ≤ greatest

in_range : (least greatest value number : ℕ) → (in_it : Bool) → in_it ≡ (leb least number && leb number greatest) → (if in_it then Some number else None) ≡ Some value → IsFoundInRange least greatest value (Some number)
in_range least greatest value number true is found =
    let parts : (leb least number ≡ true) × (leb number greatest ≡ true) = and_parts (leb least number) (leb number greatest) (sym is) in
    let same : number ≡ value = ap (λ (o : Option ℕ). unwrap_or o 0) found in
    record { is = same; above = let low : least ≤ number = leb-true least number parts.0 in omega arith; below = let high : number ≤ greatest = leb-true number greatest parts.1 in omega arith }
in_range least greatest value number false is found = cc

was_within : (least greatest value : ℕ) (found : Option ℕ) → within least greatest found ≡ Some value → IsFoundInRange least greatest value found
was_within least greatest value None found = cc
was_within least greatest value (Some number) found = in_range least greatest value number (leb least number && leb number greatest) refl found

delay_within : (version : ℕ) (line : Line) (value : ℕ) → delay_in version line ≡ Some value → IsFoundInRange 1 16 value (delay_in version line)
delay_within version line value found = by (eqb version 1) refl found where
  by : (unwritten : Bool) → eqb version 1 ≡ unwritten → (if unwritten then Some 1 else number_within 1 16 4 line) ≡ Some value → IsFoundInRange 1 16 value (if unwritten then Some 1 else number_within 1 16 4 line)
  by true is found_ = let same : 1 ≡ value = ap (λ (o : Option ℕ). unwrap_or o 0) found_ in record { is = same; above = omega (arith, same); below = omega (arith, same) }
  by false is found_ = again (was_within 1 16 value (spelled_number (line_word 4 line)) found_) found_ where
    again : IsFoundInRange 1 16 value (spelled_number (line_word 4 line)) → number_within 1 16 4 line ≡ Some value → IsFoundInRange 1 16 value (number_within 1 16 4 line)
    again its there = rw there (record { is = refl; above = its.above; below = its.below })

-- a line with its form and with its numbers in their ranges is the line of a link that isn't at fault
pub link_fine : (version chips : ℕ) (links : List Link) (line : Line) (link : Link) → is_line_of (codes "link") (link_words version) line ≡ true → number_within 0 chips 1 line ≡ Some link.from → number_within 0 chips 2 line ≡ Some link.to → number_within 1 64 3 line ≡ Some link.width → delay_in version line ≡ Some link.delay → link.from ≢ link.to → has_link links link.from link.to ≡ false → ReadsLink version chips links line link
link_fine version chips links line link form is_from is_to is_width is_delay apart new =
    let at_from : IsFoundInRange 0 chips link.from (spelled_number (line_word 1 line)) = was_within 0 chips link.from (spelled_number (line_word 1 line)) is_from in
    let at_to : IsFoundInRange 0 chips link.to (spelled_number (line_word 2 line)) = was_within 0 chips link.to (spelled_number (line_word 2 line)) is_to in
    let at_width : IsFoundInRange 1 64 link.width (spelled_number (line_word 3 line)) = was_within 1 64 link.width (spelled_number (line_word 3 line)) is_width in
    let at_delay : IsFoundInRange 1 16 link.delay (delay_in version line) = delay_within version line link.delay is_delay in
    let differ : eqb link.from link.to ≡ false = ne_eqb link.from link.to apart in
    record {
      fine = rw (form, is_from, is_to, is_width, is_delay, at_from.is, at_to.is, differ, new) refl;
      is = rw (at_from.is, at_to.is, at_width.is, at_delay.is) refl;
      from_node = at_from.below;
      to_node = at_to.below;
      apart = apart;
      new = new;
      some_pins = at_width.above;
      few_pins = at_width.below;
      some_time = at_delay.above;
      short_time = at_delay.below;
    }

-- such a line whose link has the ends of an earlier one
pub repeated_ends : (version chips : ℕ) (links : List Link) (line : Line) (link : Link) → is_line_of (codes "link") (link_words version) line ≡ true → number_within 0 chips 1 line ≡ Some link.from → number_within 0 chips 2 line ≡ Some link.to → number_within 1 64 3 line ≡ Some link.width → delay_in version line ≡ Some link.delay → link.from ≢ link.to → has_link links link.from link.to ≡ true → link_fault version chips links line ≡ Some (DuplicateLink link.from link.to)
repeated_ends version chips links line link form is_from is_to is_width is_delay apart repeated =
    let at_from : IsFoundInRange 0 chips link.from (spelled_number (line_word 1 line)) = was_within 0 chips link.from (spelled_number (line_word 1 line)) is_from in
    let at_to : IsFoundInRange 0 chips link.to (spelled_number (line_word 2 line)) = was_within 0 chips link.to (spelled_number (line_word 2 line)) is_to in
    let differ : eqb link.from link.to ≡ false = ne_eqb link.from link.to apart in
    rw (form, is_from, is_to, is_width, is_delay, at_from.is, at_to.is, differ, repeated) refl

-- a link with ends that no other link has
new_ends : (links : List Link) (link : Link) → has_link links link.from link.to ≡ false → (place : ℕ) (default : Link) → place < length links → ¬ (HaveSameEnds (get_or links place default) link)
new_ends links link new place default within_ same =
    let test = λ (other : Link). eqb other.from link.from && eqb other.to link.to in
    let other : Link = get_or links place default in
    both_ways (has_link links link.from link.to) new (list_any_at test links place default within_ (and_from (eqb other.from link.from) (eqb other.to link.to) (eq-eqb other.from link.from same.0) (eq-eqb other.to link.to same.1)))

-- one more link
separate_push : (version chips : ℕ) (links : List Link) (line : Line) (link : Link) → AreSeparate chips links → ReadsLink version chips links line link → AreSeparate chips (links ++ link ∷ [])
separate_push version chips links line link separate reads = record {
  ends = All-push (λ other. (other.from ≤ chips) × (other.to ≤ chips)) links link separate.ends (reads.from_node, reads.to_node);
  apart = All-push (λ other. other.from ≢ other.to) links link separate.apart reads.apart;
  once = all_pairs_push (λ one other. ¬ (HaveSameEnds one other)) links link separate.once (new_ends links link reads.new);
  wide = All-push (λ other. (1 ≤ other.width) × (other.width ≤ 64)) links link separate.wide (reads.some_pins, reads.few_pins);
  timely = All-push (λ other. (1 ≤ other.delay) × (other.delay ≤ 16)) links link separate.timely (reads.some_time, reads.short_time);
}

pub reads_more : (version chips : ℕ) (lines : List Line) (place : ℕ) (links : List Link) (line : Line) (link : Link) → place < length lines → get_or lines place line ≡ line → ReadsSoFar version chips lines place links → ReadsLink version chips links line link → ReadsSoFar version chips lines (place + 1) (links ++ link ∷ [])
reads_more version chips lines place links line link within_ here so_far reads =
    let next : drop place lines ≡ line ∷ drop (suc place) lines = drop-cons lines place line within_ ∙ ap (λ (first : Line). first ∷ drop (suc place) lines) here in
    let front : take (suc place) lines ≡ take place lines ++ line ∷ [] = take-suc lines place line within_ ∙ ap (λ (last : Line). take place lines ++ last ∷ []) here in
    let first : first_link_fault version chips links (drop place lines) ≡ option_or (link_fault version chips links line) (first_link_fault version chips (links ++ link_of version line ∷ []) (drop (suc place) lines)) = ap (first_link_fault version chips links) next in
    let rest : first_link_fault version chips links (drop place lines) ≡ first_link_fault version chips (links ++ link ∷ []) (drop (suc place) lines) = first ∙ ap (λ (fault : Option BoardFault). option_or fault (first_link_fault version chips (links ++ link_of version line ∷ []) (drop (suc place) lines))) reads.fine ∙ ap (λ (last : Link). first_link_fault version chips (links ++ last ∷ []) (drop (suc place) lines)) (sym reads.is) in
    let are : links ++ link ∷ [] ≡ map (link_of version) (take (suc place) lines) = ap (λ (front_ : List Link). front_ ++ link ∷ []) so_far.are ∙ ap (λ (last : Link). map (link_of version) (take place lines) ++ last ∷ []) reads.is ∙ sym (map_push (link_of version) (take place lines) line) ∙ ap (map (link_of version)) (sym front) in
    record { rest = rw add-one (so_far.rest ∙ rest); are = rw add-one are; separate = separate_push version chips links line link so_far.separate reads }
