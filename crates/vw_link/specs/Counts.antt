-- How many hops go over a link. Source: this project.
use Rattle.std.specs.Prelude.{ℕ, Bool, List, length, sum_by}
use Rattle.std.specs.List.{filter}
use Rattle.vw_plan.specs.declared.link.Link.{Link}
use Rattle.vw_plan.specs.declared.wire.Hop.{Hop}
use Rattle.vw_plan.specs.declared.wire.Wire.{Wire}
use Rattle.vw_plan.specs.Lead.{carries}

-- whether a hop goes over a link
abbrev pub over : Link → Hop → Bool
over link hop = carries hop link

-- how many of the hops of some wires do
abbrev pub hops_over : Link → List Wire → ℕ
hops_over link wires = sum_by (λ wire. length (filter (over link) wire.hops)) wires
