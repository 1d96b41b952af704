-- What is asked of each hop, as one test.
use Rattle.std.specs.Prelude.{ℕ, Bool, List, Option, nat_lt, find}
use Rattle.std.specs.Option.{option_map_or}
use Rattle.vw_plan.specs.declared.link.Link.{Link}
use Rattle.vw_plan.specs.declared.board.Board.{Board}
use Rattle.vw_plan.specs.declared.wire.Hop.{Hop}
use Rattle.vw_plan.specs.declared.wire.Wire.{Wire}
use Rattle.vw_plan.specs.PlannedBoard.{PlannedBoard, home}
use Rattle.vw_plan.specs.Lead.{arrival}
use Rattle.vw_plan.specs.Sound.{has_pin}
use Rattle.vw_ready.specs.Links.{joins}
use Rattle.vw_check.specs.declared.fault.PlanFault.{PlanFault}
use Rattle.vw_check.specs.declared.fault.PlanFault.TheVariants.{BrokenRoute, BadPin, OutOfOrder, PastPeriod}
use Rattle.vw_check.specs.declared.hops.Rule.{Rule}
use Rattle.vw_check.specs.declared.hops.Rule.TheVariants.{Route, Pin, Order, Period}
use Rattle.vw_net.specs.FirstFound.{first_at, found_unless}
use Rattle.vw_check.specs.HopFaults.{fits_route, is_later}

-- the number of pins of the link from a node to another; 0 where there is none
abbrev pub width_between : List Link → ℕ → ℕ → ℕ
width_between links from to = option_map_or (λ link. link.width) (find (joins from to) links) 0

abbrev pub rule_fault : Rule → ℕ → ℕ → PlanFault
rule_fault Route wire hop = BrokenRoute wire hop
rule_fault Pin wire hop = BadPin wire hop
rule_fault Order wire hop = OutOfOrder wire hop
rule_fault Period wire hop = PastPeriod wire hop

-- whether a hop keeps a rule, on a board and for a period; its wire begins at a node
abbrev pub keeps : Rule → Board → ℕ → ℕ → Wire → ℕ → Hop → Bool
keeps Route board period from wire number hop = fits_route board.links from wire number hop
keeps Pin board period from wire number hop = has_pin board.links hop
keeps Order board period from wire number hop = is_later board.links wire.hops number hop
keeps Period board period from wire number hop = nat_lt (arrival board.links hop) period

-- the first hop of a wire that breaks a rule
abbrev pub first_in_wire : Rule → Board → ℕ → ℕ → ℕ → Wire → Option PlanFault
first_in_wire rule board period from number wire =
    first_at (λ place hop. found_unless (keeps rule board period from wire place hop) (rule_fault rule number place)) 0 wire.hops

-- the first hop of all
abbrev pub first_breaking : Rule → PlannedBoard → Option PlanFault
first_breaking rule planned = first_at (λ number wire. first_in_wire rule planned.board planned.plan.period (home planned wire.net) number wire) 0 planned.plan.wires
