-- A plan whose first lines were read, and what is left of it.
use Rattle.std.specs.Prelude.{◌≡◌, ◌<◌, ◌≤◌, ◌+◌, ◌-◌, ◌^◌, ◌==◌, ℕ, Bool, false, List, [], ◌∷◌, ◌++◌, length, map, Option, Some, None, option_map}
use Rattle.std.specs.List.{All}
use Rattle.vw_plan.specs.declared.wire.Hop.{Hop}
use Rattle.vw_plan.specs.declared.wire.Wire.{Wire}
use Rattle.vw_plantext.specs.declared.body.OpenWire.{OpenWire}
use Rattle.vw_plantext.specs.declared.body.Body.{Body}
use Rattle.vw_plan.specs.HopCounts.{hop_count}
use Rattle.vw_plantext.specs.Content.{Content, IsHopInRange, IsWireInRange, IsInRange}
use Rattle.vw_plantext.specs.Grammar.{hop_line, body_lines, plan_lines}

-- a wire whose hops are being read: the hops so far, and how many are left
pub record UnfinishedWire : Type 0 where
  pub net : ℕ
  pub to : ℕ
  pub hops : List Hop
  pub left : ℕ

-- a plan whose wires are being read: those that have all their hops, the one whose hops are being read, how many further
-- ones are left, and how many hops these may have in all
pub record BodyState : Type 0 where
  pub chip_of : List ℕ
  pub period : ℕ
  pub wires : List Wire
  pub part : Option UnfinishedWire
  pub left : ℕ
  pub room : ℕ

abbrev pub part_of : OpenWire → UnfinishedWire
part_of wire = record { net = wire.net; to = wire.to; hops = wire.hops.items; left = wire.left }

abbrev pub body_state : Body → BodyState
body_state body = record { chip_of = body.chip_of.items; period = body.period; wires = body.wires.items; part = option_map part_of body.wire; left = body.left; room = body.room }

-- one more hop
abbrev pub part_with_hop : UnfinishedWire → Hop → UnfinishedWire
part_with_hop part hop = record { net = part.net; to = part.to; hops = part.hops ++ hop ∷ []; left = part.left - 1 }

-- between two wires: these wires follow, and these lines are theirs
pub record FollowsWires (left : ℕ) (done all : List Wire) (lines : List (List ℕ)) : Type 0 where
  pub rest : List Wire
  pub count : length rest ≡ left
  pub are : all ≡ done ++ rest
  pub lines_are : lines ≡ body_lines rest

-- within a wire: these hops follow, and then these wires
pub record FollowsHops (part : UnfinishedWire) (left : ℕ) (done all : List Wire) (lines : List (List ℕ)) : Type 0 where
  pub hops : List Hop
  pub hops_left : length hops ≡ part.left
  pub rest : List Wire
  pub count : length rest ≡ left
  pub are : all ≡ done ++ record { net = part.net; to = part.to; hops = part.hops ++ hops } ∷ rest
  pub lines_are : lines ≡ map hop_line hops ++ body_lines rest

-- the wires of a plan, and the lines that are left of it
abbrev pub FollowsPart : Option UnfinishedWire → ℕ → List Wire → List Wire → List (List ℕ) → Type 0
FollowsPart None left done all lines = FollowsWires left done all lines
FollowsPart (Some part) left done all lines = FollowsHops part left done all lines

-- a plan that was read up to here, and the lines that are left of it
pub record IsRestOfPlan (state : BodyState) (content : Content) (lines : List (List ℕ)) : Type 0 where
  pub chip_of : content.chip_of ≡ state.chip_of
  pub period : content.period ≡ state.period
  pub wires : FollowsPart state.part state.left state.wires content.wires lines

-- the hops of a wire that are read and left, and whether there is such a wire
abbrev pub part_hops : Option UnfinishedWire → ℕ
part_hops None = 0
part_hops (Some part) = length part.hops + part.left

abbrev pub part_count : Option UnfinishedWire → ℕ
part_count None = 0
part_count (Some part) = 1

pub record IsPartInRange (part : UnfinishedWire) : Type 0 where
  pub net : part.net < 2 ^ 32
  pub to : part.to < 2 ^ 32
  pub hops : All IsHopInRange part.hops

abbrev pub FitsPart : Option UnfinishedWire → Type 0
FitsPart None = Unit {0}
FitsPart (Some part) = IsPartInRange part

-- what was read is in range, and so is what is left
pub record IsBodyInRange (state : BodyState) : Type 0 where
  pub few_cells : length state.chip_of < 2 ^ 32
  pub chips : All (λ chip. chip < 2 ^ 32) state.chip_of
  pub short : state.period ≤ 2 ^ 62
  pub wires : All IsWireInRange state.wires
  pub part : FitsPart state.part
  pub few_wires : length state.wires + (part_count state.part + state.left) < 2 ^ 32
  pub hops : hop_count state.wires + (part_hops state.part + (state.room + 1)) ≡ 2 ^ 30

-- a wire whose hops are being read has some left
abbrev pub HasSomeLeft : Option UnfinishedWire → Type 0
HasSomeLeft None = Unit {0}
HasSomeLeft (Some part) = 1 ≤ part.left

-- whether all wires are there, with their hops
abbrev pub is_complete_but : Option UnfinishedWire → ℕ → Bool
is_complete_but None left = left == 0
is_complete_but (Some part) left = false

abbrev pub is_complete : BodyState → Bool
is_complete state = is_complete_but state.part state.left

-- these lines were read
pub record HasRead (lines : List (List ℕ)) (state : BodyState) : Type 0 where
  pub fits : IsBodyInRange state
  pub some_left : HasSomeLeft state.part
  pub stays : (content : Content) (more : List (List ℕ)) → IsInRange content → lines ++ more ≡ plan_lines content → IsRestOfPlan state content more
  pub makes : (content : Content) (more : List (List ℕ)) → IsRestOfPlan state content more → lines ++ more ≡ plan_lines content

-- a line was taken
pub record TakesPlanLine (old : BodyState) (line : List ℕ) (new : BodyState) : Type 0 where
  pub fits : IsBodyInRange new
  pub stays : (content : Content) (more : List (List ℕ)) → IsInRange content → IsRestOfPlan old content (line ∷ more) → IsRestOfPlan new content more
  pub makes : (content : Content) (more : List (List ℕ)) → IsRestOfPlan new content more → IsRestOfPlan old content (line ∷ more)

-- a line can't stand there
abbrev pub RefusesLine : BodyState → List ℕ → Type 0
RefusesLine old line = (content : Content) (more : List (List ℕ)) → IsInRange content → ¬ (IsRestOfPlan old content (line ∷ more))

-- a wire that has all its hops is put to the others
pub record ClosesWire (old new : BodyState) : Type 0 where
  pub fits : IsBodyInRange new
  pub some_left : HasSomeLeft new.part
  pub stays : (content : Content) (more : List (List ℕ)) → IsRestOfPlan old content more → IsRestOfPlan new content more
  pub makes : (content : Content) (more : List (List ℕ)) → IsRestOfPlan new content more → IsRestOfPlan old content more
