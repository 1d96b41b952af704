-- A text is the spelling of one plan, and then it isn't refused.
use Rattle.std.proofs.Common.{◌≡◌, ◌<◌, ◌≤◌, ◌^◌, ◌++◌, ℕ, List, [], length, IsTrue, refl, sym, ◌∙◌, ap, All, append-nil, true≢false, arith}
use Rattle.std.specs.List.{sum_by}
use Rattle.std.proofs.Math.Bridge.{le_prop}
use mathlib.Core.HLevel.{is_prop→PathP}
use Rattle.vw_plan.specs.declared.plan.Plan.{Plan}
use Rattle.vw_plantext.specs.declared.fault.PlanTextFault.{PlanTextFault}
use Rattle.vw_plantext.specs.declared.fault.PlanTextFault.TheVariants.{TooLarge, BadLine, NoMemory}
use Rattle.vw_plantext.specs.Content.{Content, content_of}
use Rattle.vw_plantext.specs.Grammar.{spelling}
use Rattle.vw_plantext.specs.PlanText.{Spells, Refuses, is_text_fault}
use Rattle.vw_plantext.proofs.OneLine.{one_first}
use Rattle.vw_plantext.proofs.Spellings.{spelling_same}

pub spelled_unrefused : (text : List ℕ) (plan : Plan) (fault : PlanTextFault) → Spells text plan → IsTrue (is_text_fault fault) → Refuses text fault → ⊥
spelled_unrefused text plan TooLarge is content refused = let small = is.small in omega (arith, small, refused)
spelled_unrefused text plan (BadLine line) is content refused = refused.1.refused (content_of plan) is.in_range is.spelled
spelled_unrefused text plan NoMemory is content refused = true≢false (sym content)

-- ---- faults of one text

pub fault_once : (text : List ℕ) (one other : PlanTextFault) → IsTrue (is_text_fault one) → IsTrue (is_text_fault other) → Refuses text one → Refuses text other → one ≡ other
fault_once text TooLarge TooLarge one other large again = refl
fault_once text TooLarge (BadLine line) one other large bad = absurd (let small = bad.0 in omega (arith, large, small))
fault_once text (BadLine line) TooLarge one other bad large = absurd (let small = bad.0 in omega (arith, large, small))
fault_once text (BadLine line) (BadLine next) one other bad again = ap (λ (number : ℕ). BadLine number) (one_first text line next bad.1 again.1)
fault_once text NoMemory fault one other refused again = absurd (true≢false (sym one))
fault_once text TooLarge NoMemory one other refused again = absurd (true≢false (sym other))
fault_once text (BadLine line) NoMemory one other refused again = absurd (true≢false (sym other))

-- ---- plans of one text

plan_same : (one other : Plan) → one.chip_of ≡ other.chip_of → one.wires ≡ other.wires → one.period ≡ other.period → one ≡ other
plan_same one other chips wires period = λ i. record {
  chip_of = chips i;
  wires = wires i;
  period = period i;
  few_cells = is_prop→PathP (λ j. length (chips j) < 2 ^ 32) (λ j. le_prop) one.few_cells other.few_cells i;
  few_wires = is_prop→PathP (λ j. length (wires j) < 2 ^ 32) (λ j. le_prop) one.few_wires other.few_wires i;
  few_hops = is_prop→PathP (λ j. sum_by (λ wire. length wire.hops) (wires j) < 2 ^ 30) (λ j. le_prop) one.few_hops other.few_hops i;
  early = is_prop→PathP (λ j. All (λ wire. All (λ hop. hop.at ≤ 2 ^ 62) wire.hops) (wires j)) (λ j. hlevel le_prop) one.early other.early i;
  short = is_prop→PathP (λ j. period j ≤ 2 ^ 62) (λ j. le_prop) one.short other.short i;
}

pub spelled_once : (text : List ℕ) (one other : Plan) → Spells text one → Spells text other → one ≡ other
spelled_once text one other is its =
    let nothing : spelling (content_of one) ++ [] ≡ spelling (content_of one) = append-nil (spelling (content_of one)) in
    let same = (spelling_same (content_of one) (content_of other) [] is.in_range its.in_range (nothing ∙ is.spelled ∙ sym its.spelled)).0 in
    plan_same one other (ap (λ (c : Content). c.chip_of) same) (ap (λ (c : Content). c.wires) same) (ap (λ (c : Content). c.period) same)
