-- The links of a world as they lie in memory. No public clause cites it.
use Rattle.std.specs.Prelude.{◌≡◌, ◌<◌, ◌≤◌, ℕ, true, false, List, [], length, map, take, drop, slice_index_or}
use Rattle.vw_plan.specs.declared.link.Link.{Link}
use Rattle.vw_prog.specs.declared.job.Job.{Job}
use Rattle.vw_prog.specs.declared.word.Word.{Word}
use Rattle.vw_prog.specs.Ends.{SeenEnds}
use Rattle.vw_prog.specs.Scripts.{script}
use Rattle.vw_world.specs.Worlds.{capacity, link_at}

-- one link: its words, how many were sent and taken, how many puts and takes were refused, and how many words it holds at most
pub record SeenLane : Type 0 where
  pub words : List Word
  pub sent : ℕ
  pub taken : ℕ
  pub full : ℕ
  pub empty : ℕ
  pub room : ℕ

-- all links of a job, and the node whose ends they are at present
pub record SeenLanes : Type 0 where
  pub job : Job
  pub node : ℕ
  pub lanes : List SeenLane

abbrev pub lane_at : List SeenLane → ℕ → SeenLane
lane_at lanes link = slice_index_or lanes link (record { words = []; sent = 0; taken = 0; full = 0; empty = 0; room = 0 })

-- they tell the counts of both ends
abbrev pub ends_of : SeenLanes → SeenEnds
ends_of all = record {
  job = all.job;
  node = all.node;
  sent = λ link. (lane_at all.lanes link).sent;
  taken = λ link. (lane_at all.lanes link).taken;
  full = λ link. (lane_at all.lanes link).full;
  empty = λ link. (lane_at all.lanes link).empty;
  room = λ link. (lane_at all.lanes link).room;
  keeps = λ link. false;
  told = true;
}

-- the words on each link
abbrev pub lane_words : List SeenLane → List (List Word)
lane_words lanes = map (λ lane. lane.words) lanes

-- a link has the words of its script from those taken to those sent
pub record IsLane (job : Job) (link : ℕ) (lane : SeenLane) : Type 0 where
  pub order : lane.taken ≤ lane.sent
  pub within : lane.sent ≤ length (script job link)
  pub content : lane.words ≡ drop lane.taken (take lane.sent (script job link))
  pub room : lane.room ≡ capacity (link_at job link)

pub record AreLanes (all : SeenLanes) : Type 0 where
  pub count : length all.lanes ≡ length all.job.checked.board.links
  pub each : (link : ℕ) → link < length all.lanes → IsLane all.job link (lane_at all.lanes link)

-- at the start no words are on them
abbrev pub fresh_lane : Link → SeenLane
fresh_lane link = record { words = []; sent = 0; taken = 0; full = 0; empty = 0; room = capacity link }

abbrev pub fresh_lanes : Job → SeenLanes
fresh_lanes job = record { job = job; node = 0; lanes = map fresh_lane job.checked.board.links }
