-- The world of a job: the states of its nodes and the words on its links, and what an event makes of it. Its bits come from slots
-- and words, and never from the values that the netlist has. Source: this project.
use Rattle.std.specs.Prelude.{◌+◌, ◌*◌, ℕ, suc, List, [], ◌∷◌, ◌++◌, length, slice_get, slice_index_or, slice_set, nat_lt, Option, Some, None, unwrap_or, if◌then◌else◌}
use Rattle.vw_plan.specs.declared.link.Link.{Link}
use Rattle.vw_prog.specs.declared.action.Action.{Action}
use Rattle.vw_prog.specs.declared.action.Action.TheVariants.{Evaluate, Send, Step, Take}
use Rattle.vw_prog.specs.declared.job.Job.{Job}
use Rattle.vw_prog.specs.declared.word.Word.{Word}
use Rattle.vw_prog.specs.Scripts.{planned_of}
use Rattle.vw_node.specs.Lists.{tabulate}
use Rattle.vw_node.specs.States.{NodeState, evaluated, moved_on, next_action, slot, start_state, stepped, written}

pub record WorldState : Type 0 where
  pub nodes : List NodeState
  pub links : List (List Word)

-- the state of a node, and the words on a link
abbrev pub node_at : WorldState → ℕ → NodeState
node_at world node = slice_index_or world.nodes node (record { clock = 0; made = 0; slots = []; rows = [] })

abbrev pub words_at : WorldState → ℕ → List Word
words_at world link = slice_index_or world.links link []

-- the link with a number; one without pins past the last
abbrev pub link_at : Job → ℕ → Link
link_at job number = unwrap_or (slice_get job.checked.board.links number) (record { from = 0; to = 0; width = 0; delay = 0 })

-- how many words a link holds at most: one on each pin, for each microcycle that a bit takes
abbrev pub capacity : Link → ℕ
capacity link = link.width * link.delay

abbrev pub with_node : WorldState → ℕ → NodeState → WorldState
with_node world node state = record world { nodes = slice_set world.nodes node state }

abbrev pub with_both : WorldState → ℕ → NodeState → ℕ → List Word → WorldState
with_both world node state link words = record { nodes = slice_set world.nodes node state; links = slice_set world.links link words }

-- the word that a node sends: its present clock, and the bit of its slot
abbrev pub sent_word : Job → NodeState → ℕ → ℕ → Word
sent_word job state pin net = record { clock = job.first + state.clock; net = net; pin = pin; bit = slot state net }

-- the front word of a link goes into a slot; of an empty link nothing is taken
abbrev pub taken_front : WorldState → ℕ → NodeState → ℕ → ℕ → List Word → WorldState
taken_front world node state link net [] = world
taken_front world node state link net (word ∷ words) = with_both world node (written state net word.bit) link words

-- an action of a node; a send over a full link does nothing
abbrev pub acts : Job → WorldState → ℕ → NodeState → Option Action → WorldState
acts job world node state None = world
acts job world node state (Some (Evaluate gate)) = with_node world node (evaluated (planned_of job) gate state)
acts job world node state (Some (Send link pin net)) =
    if nat_lt (length (words_at world link)) (capacity (link_at job link))
    then with_both world node (moved_on state) link (words_at world link ++ sent_word job state pin net ∷ []) else world
acts job world node state (Some (Take link pin net)) = taken_front world node state link net (words_at world link)
acts job world node state (Some Step) = with_node world node (stepped job node state)

-- an event is a number: the node with that number makes its next action
abbrev pub happens : Job → WorldState → ℕ → WorldState
happens job world node = if nat_lt node (length world.nodes) then acts job world node (node_at world node) (next_action job node (node_at world node)) else world

abbrev pub played : Job → WorldState → List ℕ → WorldState
played job world [] = world
played job world (node ∷ events) = played job (happens job world node) events

-- at the start all nodes stand before their first action, and links are empty
abbrev pub start_world : Job → WorldState
start_world job = record {
  nodes = tabulate (start_state job) (suc job.checked.board.chips);
  links = tabulate (λ link. []) (length job.checked.board.links);
}
