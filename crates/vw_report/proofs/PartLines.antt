-- The lines of chips and links, one after the other.
use Rattle.std.proofs.Common.{◌≡◌, ◌<◌, ◌+◌, ◌-◌, ◌++◌, ◌∙◌, ℕ, suc, List, [], ◌∷◌, length, map, drop, get_or, ap, sym, arith}
use Rattle.std.specs.List.{range_with_len}
use Rattle.std.proofs.lemmas.List.{drop_more}
use Rattle.vw_net.specs.Gathered.{listed}
use Rattle.vw_text.specs.Physical.{lines_text}
use Rattle.vw_text.proofs.WrittenPieces.{next_written}
use Rattle.vw_plan.specs.declared.link.Link.{Link}
use Rattle.vw_plan.specs.PlannedBoard.{PlannedBoard}
use Rattle.vw_report.specs.Counts.{hops_over}
use Rattle.vw_report.specs.Report.{chip_line, link_line, link_words}

module _ (planned : PlannedBoard) where
  abbrev chips_from : ℕ → ℕ → List ℕ
  chips_from chip end = lines_text (map (chip_line planned) (range_with_len chip (end - chip)))

  pub next_chip : (chip end : ℕ) (text more all : List ℕ) → chip < end → more ≡ text ++ (chip_line planned chip ++ 10 ∷ []) → text ++ chips_from chip end ≡ all
      → more ++ chips_from (chip + 1) end ≡ all
  next_chip chip end text more all within is so =
      let left : end - chip ≡ suc (end - (chip + 1)) = omega (arith, within) in
      let line = chip_line planned chip ++ 10 ∷ [] in
      next_written text more all line (chips_from (chip + 1) end) (chips_from chip end) is (ap (λ (count : ℕ). lines_text (map (chip_line planned) (range_with_len chip count))) left) so

  abbrev links_from : ℕ → List Link → List ℕ
  links_from number links = lines_text (listed (λ place link. link_line planned place link ∷ []) number links)

  pub next_link : (number hops : ℕ) (link : Link) (text more all : List ℕ) → number < length planned.board.links → link ≡ get_or planned.board.links number link → hops ≡ hops_over planned number
      → more ≡ text ++ (link_words number link hops ++ 10 ∷ []) → text ++ links_from number (drop number planned.board.links) ≡ all
      → more ++ links_from (number + 1) (drop (number + 1) planned.board.links) ≡ all
  next_link number hops link text more all within link_is hops_are is so =
      let links = planned.board.links in
      let line = link_line planned number link ++ 10 ∷ [] in
      let later : suc number ≡ number + 1 = omega arith in
      next_written text more all line (links_from (number + 1) (drop (number + 1) links)) (links_from number (drop number links))
      (is ∙ ap (λ (count : ℕ). text ++ (link_words number link count ++ 10 ∷ [])) hops_are)
      (ap (links_from number) (drop_more links number link within ∙ ap (λ (first : Link). first ∷ drop (number + 1) links) (sym link_is))
      ∙ ap (λ (next : ℕ). line ++ links_from next (drop (number + 1) links)) later) so
