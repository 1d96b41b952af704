-- A table of the numbers of links, place by place. No public clause cites it.
use Rattle.std.specs.Prelude.{◌≡◌, ◌<◌, ◌≤◌, ◌+◌, ◌*◌, ℕ, List, length, drop, slice_index_or, Option, None}
use Rattle.vw_plan.specs.declared.link.Link.{Link}
use Rattle.vw_ready.specs.Links.{link_number, link_pairs}
use Rattle.vw_ready.specs.Pairs.{first_pair}

-- the table has the numbers of the links from a number on
pub record HasFrom (links : List Link) (left : ℕ) (numbers : List (Option ℕ)) : Type 0 where
  pub long : length numbers ≡ 1089
  pub there : (from to : ℕ) → from < 33 → to < 33 → slice_index_or numbers (from * 33 + to) None ≡ first_pair left (link_pairs (drop left links)) from to

-- the table has the number of each link, whose ends are below 33
pub record HasNumbers (links : List Link) (numbers : List (Option ℕ)) : Type 0 where
  pub long : length numbers ≡ 1089
  pub there : (from to : ℕ) → from < 33 → to < 33 → slice_index_or numbers (from * 33 + to) None ≡ link_number links from to
  pub from_far : (from to : ℕ) → 33 ≤ from → link_number links from to ≡ None
  pub to_far : (from to : ℕ) → 33 ≤ to → link_number links from to ≡ None
