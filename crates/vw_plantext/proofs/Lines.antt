-- No line of a plan's text has the end of a line within it.
use Rattle.std.proofs.Common.{◌≡◌, ◌<◌, ◌≤◌, ◌^◌, ◌==◌, ℕ, List, [], ◌∷◌, ◌++◌, length, map, refl, sym, subst, ◌∙◌, ◌+◌, All, arith}
use Rattle.std.specs.Prelude.{codes}
use Rattle.std.specs.Fmt.{decimal}
use Rattle.std.specs.List.{list_any, flat_map}
use Rattle.std.proofs.lemmas.Bool.{or_from}
use Rattle.std.proofs.lemmas.List.Elements.{All-head, All-tail, All-nil, All-cons, All-weaker}
use Rattle.std.proofs.lemmas.List.{append_assoc}
use Rattle.std.proofs.lemmas.List.Sums.{sum_by-cons}
use Rattle.std.proofs.lemmas.List.Folds.{list_any-append, list_any_none}
use Rattle.vw_plan.specs.declared.wire.Hop.{Hop}
use Rattle.vw_plan.specs.declared.wire.Wire.{Wire}
use Rattle.vw_plan.specs.HopCounts.{hop_count}
use Rattle.vw_plantext.specs.Content.{Content, IsHopInRange, IsWireInRange, IsInRange}
use Rattle.vw_plantext.specs.Grammar.{numbers_text, number_line, hop_line, wire_line, wire_lines, body_lines, plan_lines}
use Rattle.vw_net.proofs.ListParts.{all_append}
use Rattle.vw_text.proofs.DecimalDigits.{decimal_without}
use Rattle.vw_plantext.proofs.NumberLines.{AreSmall}
use Rattle.vw_plantext.specs.Steps.Cuts.{IsOneLine}
use Rattle.vw_plantext.proofs.LineEnds.{AreLines}

-- at most 64 bits
abbrev pub Fits64Bits : ℕ → Type 0
Fits64Bits number = number < 2 ^ 64

no_end : (number : ℕ) → IsOneLine (decimal number)
no_end number = list_any_none (λ b. b == 10) (decimal number) (decimal_without 10 (omega arith) number)

append_one_line : (one other : List ℕ) → IsOneLine one → IsOneLine other → IsOneLine (one ++ other)
append_one_line one other line other_line = list_any-append (λ b. b == 10) one other ∙ or_from (list_any (λ b. b == 10) one) (list_any (λ b. b == 10) other) line other_line

numbers_one_line : (numbers : List ℕ) → AreSmall numbers → IsOneLine (numbers_text numbers)
numbers_one_line [] small = refl
numbers_one_line (number ∷ numbers) small = append_one_line (decimal number) (numbers_text numbers) (no_end number) (numbers_one_line numbers (All-tail (λ n. n < 2 ^ 64) number numbers small))

pub one_line : (word numbers : List ℕ) → IsOneLine word → AreSmall numbers → IsOneLine (number_line word numbers)
one_line word numbers line small = append_one_line word (numbers_text numbers) line (numbers_one_line numbers small)

-- the numbers of each line have no more than 64 bits
pub small_hop : (hop : Hop) → IsHopInRange hop → AreSmall (hop.from ∷ hop.to ∷ hop.pin ∷ hop.at ∷ [])
small_hop hop fits = All-cons Fits64Bits hop.from (hop.to ∷ hop.pin ∷ hop.at ∷ []) (omega (arith, fits.from)) (All-cons Fits64Bits hop.to (hop.pin ∷ hop.at ∷ []) (omega (arith, fits.to)) (All-cons Fits64Bits hop.pin (hop.at ∷ []) (omega (arith, fits.pin)) (All-cons Fits64Bits hop.at [] (omega (arith, fits.at)) (All-nil Fits64Bits))))

pub small_wire : (wire : Wire) → IsWireInRange wire → length wire.hops < 2 ^ 30 → AreSmall (wire.net ∷ wire.to ∷ length wire.hops ∷ [])
small_wire wire fits few = All-cons Fits64Bits wire.net (wire.to ∷ length wire.hops ∷ []) (omega (arith, fits.net)) (All-cons Fits64Bits wire.to (length wire.hops ∷ []) (omega (arith, fits.to)) (All-cons Fits64Bits (length wire.hops) [] (omega arith) (All-nil Fits64Bits)))

pub small_head : (cells wires period : ℕ) → cells < 2 ^ 32 → wires < 2 ^ 32 → period ≤ 2 ^ 62 → AreSmall (1 ∷ cells ∷ wires ∷ period ∷ [])
small_head cells wires period few_cells few_wires short = All-cons Fits64Bits 1 (cells ∷ wires ∷ period ∷ []) (omega arith) (All-cons Fits64Bits cells (wires ∷ period ∷ []) (omega arith) (All-cons Fits64Bits wires (period ∷ []) (omega arith) (All-cons Fits64Bits period [] (omega arith) (All-nil Fits64Bits))))

pub small_chips : (chips : List ℕ) → All (λ chip. chip < 2 ^ 32) chips → AreSmall chips
small_chips chips fit = All-weaker (λ chip. chip < 2 ^ 32) (λ chip. chip < 2 ^ 64) (λ chip small. omega arith) chips fit

-- no wire has more hops than all of them
pub hop_count-cons : (wire : Wire) (wires : List Wire) → hop_count (wire ∷ wires) ≡ length wire.hops + hop_count wires
hop_count-cons wire wires = sum_by-cons (λ (one : Wire). length one.hops) wire wires

hop_lines : (hops : List Hop) → All IsHopInRange hops → AreLines (map hop_line hops)
hop_lines [] fit = tt
hop_lines (hop ∷ hops) fit = (one_line (codes "hop") (hop.from ∷ hop.to ∷ hop.pin ∷ hop.at ∷ []) refl (small_hop hop (All-head IsHopInRange hop hops fit)), hop_lines hops (All-tail IsHopInRange hop hops fit))

wires_lines : (wires : List Wire) → All IsWireInRange wires → hop_count wires < 2 ^ 30 → AreLines (body_lines wires)
wires_lines [] fit few = (refl, tt)
wires_lines (wire ∷ wires) fit few =
    let here : IsWireInRange wire = All-head IsWireInRange wire wires fit in
    let count = hop_count-cons wire wires in
    let line : IsOneLine (wire_line wire) = one_line (codes "wire") (wire.net ∷ wire.to ∷ length wire.hops ∷ []) refl (small_wire wire here (omega arith)) in
    let rest : AreLines (body_lines wires) = wires_lines wires (All-tail IsWireInRange wire wires fit) (omega arith) in
    let all : AreLines (map hop_line wire.hops ++ body_lines wires) = all_append IsOneLine (map hop_line wire.hops) (body_lines wires) (hop_lines wire.hops here.hops) rest in
    subst AreLines (sym (append_assoc (wire_line wire ∷ map hop_line wire.hops) (flat_map wire_lines wires) (codes "end" ∷ []))) (line, all)

pub plan_lines_are : (content : Content) → IsInRange content → AreLines (plan_lines content)
plan_lines_are content fits = (one_line (codes "plan") (1 ∷ length content.chip_of ∷ length content.wires ∷ content.period ∷ []) refl (small_head (length content.chip_of) (length content.wires) content.period fits.few_cells fits.few_wires fits.short), (one_line (codes "chips") content.chip_of refl (small_chips content.chip_of fits.chips), wires_lines content.wires fits.wires fits.few_hops))
