-- Links by the nodes that they join.
use Rattle.std.specs.Prelude.{◌==◌, ℕ, Bool, ◌&&◌, List, map, Option}
use Rattle.vw_plan.specs.declared.link.Link.{Link}
use Rattle.vw_ready.specs.Pairs.{first_pair}

-- whether a link leads from a node to another
abbrev pub joins : ℕ → ℕ → Link → Bool
joins from to link = link.from == from && link.to == to

-- the ends of links
abbrev pub link_pairs : List Link → List (ℕ × ℕ)
link_pairs links = map (λ link. (link.from, link.to)) links

-- the number of the first link from a node to another
abbrev pub link_number : List Link → ℕ → ℕ → Option ℕ
link_number links from to = first_pair 0 (link_pairs links) from to
