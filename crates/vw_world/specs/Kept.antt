-- What a world keeps over every list of events. Source: this project.
use Rattle.std.specs.Prelude.{◌≡◌, ◌<◌, ◌≤◌, ℕ, suc, List, length, take, drop}
use Rattle.vw_prog.specs.declared.job.Job.{Job}
use Rattle.vw_prog.specs.declared.word.Word.{Word}
use Rattle.vw_prog.specs.Scripts.{script}
use Rattle.vw_node.specs.Holding.{HoldsValues}
use Rattle.vw_node.specs.Positions.{sent_by, taken_by}
use Rattle.vw_world.specs.Worlds.{WorldState, capacity, link_at, node_at, words_at}

-- how many words of a link were sent, by the position of the node at its one end, and taken, by that of the node at its other
abbrev pub sent_at : Job → WorldState → ℕ → ℕ
sent_at job world link = sent_by job link (link_at job link).from (node_at world (link_at job link).from)

abbrev pub taken_at : Job → WorldState → ℕ → ℕ
taken_at job world link = taken_by job link (link_at job link).to (node_at world (link_at job link).to)

-- a link has the words of its script from those taken to those sent, and no more than it holds
pub record CarriesScript (job : Job) (link sent taken : ℕ) (words : List Word) : Type 0 where
  pub order : taken ≤ sent
  pub content : words ≡ drop taken (take sent (script job link))
  pub narrow : length words ≤ capacity (link_at job link)

pub record IsKept (job : Job) (world : WorldState) : Type 0 where
  pub count : length world.nodes ≡ suc job.checked.board.chips
  pub lines : length world.links ≡ length job.checked.board.links
  pub nodes : (node : ℕ) → node < length world.nodes → HoldsValues job node (node_at world node)
  pub links : (link : ℕ) → link < length world.links → CarriesScript job link (sent_at job world link) (taken_at job world link) (words_at world link)
