-- A link of a board, found by its number.
use Rattle.std.proofs.Common.{◌≡◌, ◌<◌, ◌≤◌, ℕ, List, length, get_or, slice_get, ap, sym, subst, ◌∙◌, Some}
use Rattle.std.proofs.lemmas.Option.{get_or_from_slice_get, slice_get-get_or, slice_get_within}
use Rattle.vw_plan.specs.declared.link.Link.{Link}
use Rattle.vw_prog.specs.declared.job.Job.{Job}

-- the link with a number, and any where there is none
abbrev pub link_at : List Link → ℕ → Link
link_at links number = get_or links number (record { from = 0; to = 0; width = 0; delay = 0 })

-- a link of a list is one of each list that is the same
pub board_link : (links same : List Link) → links ≡ same → (number : ℕ) → number < length links → (number < length same) × (slice_get same number ≡ Some (link_at links number))
board_link links same is number inside = (
  subst (λ (list : List Link). number < length list) is inside,
  ap (λ (list : List Link). slice_get list number) (sym is) ∙ slice_get-get_or links number (record { from = 0; to = 0; width = 0; delay = 0 }) inside,
)

-- the ends of a link are two nodes
pub record AreTwo (job : Job) (from to : ℕ) : Type 0 where
  pub from_inside : from ≤ job.checked.board.chips
  pub to_inside : to ≤ job.checked.board.chips
  pub apart : from ≡ to → ⊥

pub are_two : (job : Job) (number : ℕ) (link : Link) → slice_get job.checked.board.links number ≡ Some link → AreTwo job link.from link.to
are_two job number link is =
    let inside = slice_get_within job.checked.board.links number link is in
    let separate = job.checked.board.linked.separate in
    let ends = separate.ends number link inside in
    subst (λ (one : Link). AreTwo job one.from one.to) (get_or_from_slice_get job.checked.board.links number link link is) (record { from_inside = ends.0; to_inside = ends.1; apart = separate.apart number link inside })
