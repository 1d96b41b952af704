-- What a plan text spells, and the ranges of its numbers. Source: this project.
use Rattle.std.specs.Prelude.{◌<◌, ◌≤◌, ◌^◌, ℕ, List, length}
use Rattle.std.specs.List.{All}
use Rattle.vw_plan.specs.declared.wire.Hop.{Hop}
use Rattle.vw_plan.specs.declared.wire.Wire.{Wire}
use Rattle.vw_plan.specs.declared.plan.Plan.{Plan}
use Rattle.vw_plan.specs.HopCounts.{hop_count}

-- the chip of each cell, the wires, and the period
pub record Content : Type 0 where
  pub chip_of : List ℕ
  pub wires : List Wire
  pub period : ℕ

abbrev pub content_of : Plan → Content
content_of plan = record { chip_of = plan.chip_of; wires = plan.wires; period = plan.period }

-- nodes and pins are below 2 ^ 32, and a microcycle is at most 2 ^ 62
pub record IsHopInRange (hop : Hop) : Type 0 where
  pub from : hop.from < 2 ^ 32
  pub to : hop.to < 2 ^ 32
  pub pin : hop.pin < 2 ^ 32
  pub at : hop.at ≤ 2 ^ 62

-- so are nets
pub record IsWireInRange (wire : Wire) : Type 0 where
  pub net : wire.net < 2 ^ 32
  pub to : wire.to < 2 ^ 32
  pub hops : All IsHopInRange wire.hops

-- there are fewer than 2 ^ 32 cells and wires, and fewer than 2 ^ 30 hops in all
pub record IsInRange (content : Content) : Type 0 where
  pub few_cells : length content.chip_of < 2 ^ 32
  pub few_wires : length content.wires < 2 ^ 32
  pub few_hops : hop_count content.wires < 2 ^ 30
  pub chips : All (λ chip. chip < 2 ^ 32) content.chip_of
  pub wires : All IsWireInRange content.wires
  pub short : content.period ≤ 2 ^ 62
