-- How long hops wait for pins. Source: this project.
use Rattle.std.specs.Prelude.{◌+◌, ◌-◌, ℕ, Bool, not, List}
use Rattle.std.specs.List.{find, list_all, range_with_len}
use Rattle.std.specs.Option.{option_map_or}
use Rattle.vw_plan.specs.declared.link.Link.{Link}
use Rattle.vw_plan.specs.declared.wire.Hop.{Hop}
use Rattle.vw_plan.specs.Distance.{least}
use Rattle.vw_plan.specs.Earliest.{is_in_use}
use Rattle.vw_plan.specs.Lead.{carries}
use Rattle.vw_plan.specs.PlannedBoard.{PlannedBoard}

-- how many pins the link has over which a hop goes; 0 where no link leads there
abbrev pub width_of : List Link → Hop → ℕ
width_of links hop = option_map_or (λ link. link.width) (find (carries hop) links) 0

-- the hop over the same link on another pin and in another microcycle
abbrev pub moved : Hop → ℕ → ℕ → Hop
moved hop pin at = record { from = hop.from; to = hop.to; pin = pin; at = at }

-- whether in a microcycle the plan uses every pin of the link of a hop
abbrev pub is_full : PlannedBoard → Hop → ℕ → Bool
is_full planned hop at = list_all (λ pin. is_in_use planned.plan (moved hop pin at)) (range_with_len 0 (width_of planned.board.links hop))

-- for how many microcycles in a row, from that on in which a hop is ready, every pin of its link is in use, counted up to its
-- own microcycle
abbrev pub pin_wait : PlannedBoard → ℕ → Hop → ℕ
pin_wait planned ready hop = least (λ number. not (is_full planned hop (ready + number))) (hop.at - ready)
