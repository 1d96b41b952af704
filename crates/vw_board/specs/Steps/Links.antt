-- Links that are read line by line.
use Rattle.std.specs.Prelude.{◌≡◌, ◌≢◌, ◌≤◌, ℕ, false, List, [], map, take, drop, None}
use Rattle.vw_text.specs.declared.line.Line.{Line}
use Rattle.vw_plan.specs.declared.link.Link.{Link}
use Rattle.vw_plan.specs.Walks.{has_link}
use Rattle.vw_board.specs.LinkLines.{link_of, link_fault, first_link_fault}
use Rattle.vw_plan.specs.Links.{AreSeparate}

-- the link of a line that isn't at fault, behind these links
pub record ReadsLink (version chips : ℕ) (links : List Link) (line : Line) (link : Link) : Type 0 where
  pub fine : link_fault version chips links line ≡ None
  pub is : link ≡ link_of version line
  pub from_node : link.from ≤ chips
  pub to_node : link.to ≤ chips
  pub apart : link.from ≢ link.to
  pub new : has_link links link.from link.to ≡ false
  pub some_pins : 1 ≤ link.width
  pub few_pins : link.width ≤ 64
  pub some_time : 1 ≤ link.delay
  pub short_time : link.delay ≤ 16

-- the links of lines that aren't at fault
pub record ReadsLinks (version chips : ℕ) (lines : List Line) (links : List Link) : Type 0 where
  pub fine : first_link_fault version chips [] lines ≡ None
  pub are : links ≡ map (link_of version) lines
  pub separate : AreSeparate chips links

-- the same for the lines before a place
pub record ReadsSoFar (version chips : ℕ) (lines : List Line) (place : ℕ) (links : List Link) : Type 0 where
  pub rest : first_link_fault version chips [] lines ≡ first_link_fault version chips links (drop place lines)
  pub are : links ≡ map (link_of version) (take place lines)
  pub separate : AreSeparate chips links
