-- The one spelling of a plan: words are separated by one space, numbers have no zeros in front, and each line ends with
-- byte 10. Source: this project.
use Rattle.std.specs.Prelude.{ℕ, List, [], ◌∷◌, ◌++◌, length, map, codes}
use Rattle.std.specs.Fmt.{decimal}
use Rattle.std.specs.List.{flat_map}
use Rattle.vw_text.specs.Physical.{lines_text}
use Rattle.vw_plan.specs.declared.wire.Hop.{Hop}
use Rattle.vw_plan.specs.declared.wire.Wire.{Wire}
use Rattle.vw_plantext.specs.Content.{Content}

-- numbers, each behind a space
abbrev pub numbers_text : List ℕ → List ℕ
numbers_text numbers = flat_map (λ number. 32 ∷ decimal number) numbers

-- a line of a word and numbers
abbrev pub number_line : List ℕ → List ℕ → List ℕ
number_line word numbers = word ++ numbers_text numbers

-- the format, the numbers of cells and wires, and the period
abbrev pub head_line : Content → List ℕ
head_line content = number_line (codes "plan") (1 ∷ length content.chip_of ∷ length content.wires ∷ content.period ∷ [])

-- the chip of each cell
abbrev pub chips_line : List ℕ → List ℕ
chips_line chip_of = number_line (codes "chips") chip_of

abbrev pub hop_line : Hop → List ℕ
hop_line hop = number_line (codes "hop") (hop.from ∷ hop.to ∷ hop.pin ∷ hop.at ∷ [])

abbrev pub wire_line : Wire → List ℕ
wire_line wire = number_line (codes "wire") (wire.net ∷ wire.to ∷ length wire.hops ∷ [])

-- a wire, and its hops
abbrev pub wire_lines : Wire → List (List ℕ)
wire_lines wire = wire_line wire ∷ map hop_line wire.hops

-- the lines behind the first two
abbrev pub body_lines : List Wire → List (List ℕ)
body_lines wires = flat_map wire_lines wires ++ codes "end" ∷ []

abbrev pub plan_lines : Content → List (List ℕ)
plan_lines content = head_line content ∷ chips_line content.chip_of ∷ body_lines content.wires

-- the text, each line with its end
abbrev pub spelling : Content → List ℕ
spelling content = lines_text (plan_lines content)
