-- Nodes that can act. Source: this project.
use Rattle.std.specs.Prelude.{◌<◌, ℕ, length, Option, Some, None}
use Rattle.vw_prog.specs.declared.action.Action.{Action}
use Rattle.vw_prog.specs.declared.action.Action.TheVariants.{Evaluate, Send, Step, Take}
use Rattle.vw_prog.specs.declared.job.Job.{Job}
use Rattle.vw_node.specs.States.{next_action}
use Rattle.vw_world.specs.Worlds.{WorldState, capacity, link_at, node_at, words_at}

-- an action that no link refuses: a send finds room, and a take finds a word
abbrev pub IsOpen : Job → WorldState → Option Action → Type 0
IsOpen job world None = ⊥
IsOpen job world (Some (Evaluate gate)) = Unit {0}
IsOpen job world (Some (Send link pin net)) = length (words_at world link) < capacity (link_at job link)
IsOpen job world (Some (Take link pin net)) = 0 < length (words_at world link)
IsOpen job world (Some Step) = Unit {0}

-- a node whose next action is such a one
abbrev pub IsAble : Job → WorldState → ℕ → Type 0
IsAble job world node = (node < length world.nodes) × IsOpen job world (next_action job node (node_at world node))

-- a node that has clocks to come
abbrev pub IsUnfinished : Job → WorldState → ℕ → Type 0
IsUnfinished job world node = (node < length world.nodes) × ((node_at world node).clock < length job.rows)
