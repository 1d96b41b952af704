-- The report of a plan, as a text. Source: this project.
use Rattle.std.specs.Prelude.{◌≡◌, ◌+◌, ◌-◌, ℕ, List, [], ◌∷◌, ◌++◌, length, map, codes, slice_get, slice_index, slice_index_or, Option, None, Some}
use Rattle.std.specs.List.{flat_map, range_with_len}
use Rattle.vw_net.specs.Gathered.{listed}
use Rattle.vw_text.specs.Physical.{lines_text}
use Rattle.vw_listing.specs.Netlist.{number_words}
use Rattle.vw_plan.specs.declared.link.Link.{Link}
use Rattle.vw_plan.specs.declared.wire.Hop.{Hop}
use Rattle.vw_plan.specs.declared.wire.Wire.{Wire}
use Rattle.vw_plan.specs.HopCounts.{hop_count}
use Rattle.vw_plan.specs.Lead.{arrival, usable}
use Rattle.vw_plan.specs.PlannedBoard.{PlannedBoard, home}
use Rattle.vw_chain.specs.declared.chain.Chain.{Chain}
use Rattle.vw_chain.specs.declared.chain.Critical.{Critical}
use Rattle.vw_chain.specs.declared.chain.End.{End}
use Rattle.vw_chain.specs.declared.chain.End.TheVariants as end
use Rattle.vw_chain.specs.declared.chain.Step.{Step}
use Rattle.vw_chain.specs.declared.chain.Step.TheVariants as step
use Rattle.vw_report.specs.declared.findings.Findings.{Findings}
use Rattle.vw_report.specs.Counts.{gates_on, hops_over, latches_on, link_of, wires_from, wires_to}
use Rattle.vw_report.specs.Findings.{AreFindings}
use Rattle.vw_report.specs.Waits.{pin_wait}

-- ---- lines

-- a word and numbers
abbrev pub number_line : List ℕ → List ℕ → List ℕ
number_line kind numbers = kind ++ number_words numbers

-- a word, the name of a net, and numbers
abbrev pub net_line : List ℕ → List ℕ → List ℕ → List ℕ
net_line kind name numbers = kind ++ (32 ∷ (name ++ number_words numbers))

-- the name of a net
abbrev pub name_of : List (List ℕ) → ℕ → List ℕ
name_of names net = slice_index_or names net []

-- ---- the plan as a whole

-- the bound for plans with shortest wires, or a line where the plan isn't one
abbrev pub short_word : Option ℕ → List ℕ
short_word None = codes " -"
short_word (Some bound) = number_words (bound ∷ [])

abbrev pub head_line : PlannedBoard → Findings → List ℕ
head_line planned found =
    number_line (codes "report 1") (length planned.ordered.flat.cells ∷ length planned.plan.wires ∷ hop_count planned.plan.wires ∷ planned.plan.period ∷ found.bound ∷ [])
    ++ short_word found.short

-- ---- nodes and links

abbrev pub host_line : PlannedBoard → List ℕ
host_line planned =
    number_line (codes "host") (planned.ordered.flat.inputs ∷ length planned.ordered.flat.outputs ∷ wires_to planned 0 ∷ wires_from planned 0 ∷ [])

abbrev pub chip_line : PlannedBoard → ℕ → List ℕ
chip_line planned chip =
    number_line (codes "chip") (chip ∷ gates_on planned chip ∷ latches_on planned chip ∷ planned.board.cells ∷ wires_to planned chip ∷ wires_from planned chip ∷ [])

abbrev pub chip_lines : PlannedBoard → List (List ℕ)
chip_lines planned = map (chip_line planned) (range_with_len 1 planned.board.chips)

abbrev pub link_words : ℕ → Link → ℕ → List ℕ
link_words number link hops = number_line (codes "link") (number ∷ link.from ∷ link.to ∷ link.width ∷ link.delay ∷ hops ∷ [])

abbrev pub link_line : PlannedBoard → ℕ → Link → List ℕ
link_line planned number link = link_words number link (hops_over planned number)

abbrev pub link_lines : PlannedBoard → List (List ℕ)
link_lines planned = listed (λ number link. link_line planned number link ∷ []) 0 planned.board.links

-- ---- the chain

-- a net at its own node, and from which microcycle on it is usable there
abbrev pub home_line : PlannedBoard → List (List ℕ) → List ℕ → ℕ → List ℕ
home_line planned names kind net = net_line kind (name_of names net) (home planned net ∷ usable planned (home planned net) net ∷ [])

-- a hop: its link with the ends, its pin and microcycle; for how many microcycles it was ready before, and how many of these
-- it waited for pins; and from which microcycle on its bit is usable
abbrev pub hop_line : PlannedBoard → List ℕ → ℕ → Hop → List ℕ
hop_line planned name ready hop =
    net_line (codes "hop") name
    (link_of planned.board.links hop ∷ hop.from ∷ hop.to ∷ hop.pin ∷ hop.at ∷ (hop.at - ready) ∷ pin_wait planned ready hop ∷ (arrival planned.board.links hop + 1) ∷ [])

-- the hops of a wire, of which the first is ready in a microcycle, and each later one when the one before has arrived
abbrev pub hop_lines : PlannedBoard → List ℕ → ℕ → List Hop → List (List ℕ)
hop_lines planned name ready [] = []
hop_lines planned name ready (hop ∷ hops) = hop_line planned name ready hop ∷ hop_lines planned name (arrival planned.board.links hop + 1) hops

abbrev pub wire_lines : PlannedBoard → List (List ℕ) → Option Wire → List (List ℕ)
wire_lines planned names None = []
wire_lines planned names (Some wire) = hop_lines planned (name_of names wire.net) (usable planned (home planned wire.net) wire.net) wire.hops

abbrev pub step_lines : PlannedBoard → List (List ℕ) → Step → List (List ℕ)
step_lines planned names (step.Gate net) = home_line planned names (codes "gate") net ∷ []
step_lines planned names (step.Wire number) = wire_lines planned names (slice_get planned.plan.wires number)

-- the latch that waits, by the net that it drives, with its chip, and the microcycle in which it has what it reads
abbrev pub end_lines : PlannedBoard → List (List ℕ) → ℕ → End → List (List ℕ)
end_lines planned names last (end.Wire number) = []
end_lines planned names last (end.Latch number reads) =
    net_line (codes "latch") (name_of names (planned.ordered.flat.inputs + number)) (slice_index planned.plan.chip_of number ∷ last ∷ []) ∷ []

abbrev pub chain_lines : PlannedBoard → List (List ℕ) → ℕ → Option Chain → List (List ℕ)
chain_lines planned names last None = []
chain_lines planned names last (Some chain) =
    home_line planned names (codes "net") chain.first ∷ (flat_map (step_lines planned names) chain.steps ++ end_lines planned names last chain.end)

abbrev pub critical_lines : PlannedBoard → List (List ℕ) → Critical → List (List ℕ)
critical_lines planned names critical = number_line (codes "chain") (critical.last ∷ []) ∷ chain_lines planned names critical.last critical.chain

-- ---- the text

abbrev pub report_lines : PlannedBoard → List (List ℕ) → Findings → List (List ℕ)
report_lines planned names found =
    head_line planned found
    ∷ (host_line planned
    ∷ (chip_lines planned ++ (link_lines planned ++ (critical_lines planned names found.critical ++ codes "end" ∷ []))))

abbrev pub report_of : PlannedBoard → List (List ℕ) → Findings → List ℕ
report_of planned names found = lines_text (report_lines planned names found)

-- a text is the report of what is found out of a plan whose nets have these names
pub record IsReport (planned : PlannedBoard) (names : List (List ℕ)) (text : List ℕ) : Type 0 where
  pub found : Findings
  pub are : AreFindings planned found
  pub is : text ≡ report_of planned names found
