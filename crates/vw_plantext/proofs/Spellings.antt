-- Two plans have two spellings, and neither begins with the other.
use Rattle.std.proofs.Common.{◌≡◌, ◌<◌, ◌^◌, ℕ, true, List, [], ◌∷◌, ◌++◌, length, map, slice_index, ap, ap₂, refl, sym, ◌∙◌, get_or, ne_eqb, All, arith}
use Rattle.std.specs.Prelude.{codes, nat_lt}
use Rattle.std.specs.List.{flat_map, list_all}
use Rattle.std.proofs.lemmas.Bool.{ltb-true}
use Rattle.std.proofs.lemmas.List.Sums.{AllPass-from_list_all}
use Rattle.std.proofs.lemmas.List.{append_assoc}
use Rattle.std.proofs.lemmas.List.Elements.{All-head, All-tail}
use Rattle.vw_text.specs.Physical.{lines_text}
use Rattle.vw_plan.specs.declared.wire.Hop.{Hop}
use Rattle.vw_plan.specs.declared.wire.Wire.{Wire}
use Rattle.vw_plan.specs.HopCounts.{hop_count}
use Rattle.vw_plantext.specs.Content.{Content, IsHopInRange, IsWireInRange, IsInRange}
use Rattle.vw_plantext.specs.Grammar.{number_line, hop_line, wire_line, wire_lines, body_lines, plan_lines, spelling}
use Rattle.vw_plantext.proofs.NumberLines.{HasNoSpace, number_line_injective}
use Rattle.vw_plantext.proofs.LineEnds.{IsMore, lines_within}
use Rattle.vw_plantext.proofs.Lines.{small_hop, small_wire, small_head, small_chips, hop_count-cons, plan_lines_are}

-- the words with which lines begin have no space
no_space : (word : List ℕ) → list_all (λ b. nat_lt 32 b) word ≡ true → HasNoSpace word
no_space word is place default within = let above : 32 < get_or word place default = ltb-true 32 (get_or word place default) (AllPass-from_list_all (λ b. nat_lt 32 b) word is place default within) in ne_eqb (get_or word place default) 32 (λ same. omega arith)

pub plain_hop : HasNoSpace (codes "hop")
plain_hop = no_space (codes "hop") refl

pub plain_wire : HasNoSpace (codes "wire")
plain_wire = no_space (codes "wire") refl

pub plain_chips : HasNoSpace (codes "chips")
plain_chips = no_space (codes "chips") refl

pub plain_plan : HasNoSpace (codes "plan")
plain_plan = no_space (codes "plan") refl

-- the hop of four numbers
abbrev hop_of : List ℕ → Hop
hop_of numbers = record { from = slice_index numbers 0; to = slice_index numbers 1; pin = slice_index numbers 2; at = slice_index numbers 3 }

pub hop_line_injective : (one other : Hop) → IsHopInRange one → IsHopInRange other → hop_line one ≡ hop_line other → one ≡ other
hop_line_injective one other fits other_fits same = ap hop_of (number_line_injective (codes "hop") (one.from ∷ one.to ∷ one.pin ∷ one.at ∷ []) (other.from ∷ other.to ∷ other.pin ∷ other.at ∷ []) plain_hop refl (small_hop one fits) (small_hop other other_fits) same)

-- two lists that begin with the hops of two wires
record SameHops (one other : List Hop) (behind other_behind : List (List ℕ)) : Type 0 where
  hops : one ≡ other
  rest : behind ≡ other_behind

hops_same : (one other : List Hop) (behind other_behind : List (List ℕ)) → length one ≡ length other → All IsHopInRange one → All IsHopInRange other → map hop_line one ++ behind ≡ map hop_line other ++ other_behind → SameHops one other behind other_behind
hops_same [] [] behind other_behind size fit other_fit same = record { hops = refl; rest = same }
hops_same [] (hop ∷ hops) behind other_behind size fit other_fit same = absurd (omega arith)
hops_same (hop ∷ hops) [] behind other_behind size fit other_fit same = absurd (omega arith)
hops_same (hop ∷ hops) (next ∷ others) behind other_behind size fit other_fit same =
    let line : hop_line hop ≡ hop_line next = cc in
    let lines : map hop_line hops ++ behind ≡ map hop_line others ++ other_behind = cc in
    let first : hop ≡ next = hop_line_injective hop next (All-head IsHopInRange hop hops fit) (All-head IsHopInRange next others other_fit) line in
    let rest : SameHops hops others behind other_behind = hops_same hops others behind other_behind (omega arith) (All-tail IsHopInRange hop hops fit) (All-tail IsHopInRange next others other_fit) lines in
    record { hops = ap₂ (λ (x : Hop) (xs : List Hop). x ∷ xs) first rest.hops; rest = rest.rest }

-- a wire before others
pub body_lines-cons : (wire : Wire) (wires : List Wire) → body_lines (wire ∷ wires) ≡ wire_line wire ∷ (map hop_line wire.hops ++ body_lines wires)
body_lines-cons wire wires = append_assoc (wire_lines wire) (flat_map wire_lines wires) (codes "end" ∷ [])

record SameWires (one other : List Wire) (more : List (List ℕ)) : Type 0 where
  wires : one ≡ other
  none : more ≡ []

wires_same : (one other : List Wire) (more : List (List ℕ)) → length one ≡ length other → All IsWireInRange one → All IsWireInRange other → hop_count one < 2 ^ 30 → hop_count other < 2 ^ 30 → body_lines one ++ more ≡ body_lines other → SameWires one other more
wires_same [] [] more size fit other_fit few other_few same = record { wires = refl; none = cc }
wires_same [] (wire ∷ wires) more size fit other_fit few other_few same = absurd (omega arith)
wires_same (wire ∷ wires) [] more size fit other_fit few other_few same = absurd (omega arith)
wires_same (wire ∷ wires) (next ∷ others) more size fit other_fit few other_few same =
    let here : IsWireInRange wire = All-head IsWireInRange wire wires fit in
    let there : IsWireInRange next = All-head IsWireInRange next others other_fit in
    let count = hop_count-cons wire wires in
    let other_count = hop_count-cons next others in
    let lines : wire_line wire ∷ (map hop_line wire.hops ++ (body_lines wires ++ more)) ≡ wire_line next ∷ (map hop_line next.hops ++ body_lines others) =
    ap (λ (rest : List (List ℕ)). wire_line wire ∷ rest) (sym (append_assoc (map hop_line wire.hops) (body_lines wires) more)) ∙ ap (λ (all : List (List ℕ)). all ++ more) (sym (body_lines-cons wire wires)) ∙ same ∙ body_lines-cons next others in
    let first : wire_line wire ≡ wire_line next = cc in
    let behind : map hop_line wire.hops ++ (body_lines wires ++ more) ≡ map hop_line next.hops ++ body_lines others = cc in
    let numbers : wire.net ∷ wire.to ∷ length wire.hops ∷ [] ≡ next.net ∷ next.to ∷ length next.hops ∷ [] = number_line_injective (codes "wire") (wire.net ∷ wire.to ∷ length wire.hops ∷ []) (next.net ∷ next.to ∷ length next.hops ∷ []) plain_wire refl (small_wire wire here (omega arith)) (small_wire next there (omega arith)) first in
    let long : length wire.hops ≡ length next.hops = ap (λ (list : List ℕ). slice_index list 2) numbers in
    let hops : SameHops wire.hops next.hops (body_lines wires ++ more) (body_lines others) = hops_same wire.hops next.hops (body_lines wires ++ more) (body_lines others) long here.hops there.hops behind in
    let wire_same : wire ≡ next = ap₂ (λ (list : List ℕ) (made : List Hop). record { net = slice_index list 0; to = slice_index list 1; hops = made }) numbers hops.hops in
    let rest : SameWires wires others more = wires_same wires others more (omega arith) (All-tail IsWireInRange wire wires fit) (All-tail IsWireInRange next others other_fit) (omega arith) (omega arith) hops.rest in
    record { wires = ap₂ (λ (x : Wire) (xs : List Wire). x ∷ xs) wire_same rest.wires; none = rest.none }

pub lines_same : (one other : Content) (more : List (List ℕ)) → IsInRange one → IsInRange other → plan_lines one ++ more ≡ plan_lines other → (one ≡ other) × (more ≡ [])
lines_same one other more fits other_fits same =
    let head : number_line (codes "plan") (1 ∷ length one.chip_of ∷ length one.wires ∷ one.period ∷ []) ≡ number_line (codes "plan") (1 ∷ length other.chip_of ∷ length other.wires ∷ other.period ∷ []) = cc in
    let chips : number_line (codes "chips") one.chip_of ≡ number_line (codes "chips") other.chip_of = cc in
    let body : body_lines one.wires ++ more ≡ body_lines other.wires = cc in
    let numbers = number_line_injective (codes "plan") (1 ∷ length one.chip_of ∷ length one.wires ∷ one.period ∷ []) (1 ∷ length other.chip_of ∷ length other.wires ∷ other.period ∷ []) plain_plan refl (small_head (length one.chip_of) (length one.wires) one.period fits.few_cells fits.few_wires fits.short) (small_head (length other.chip_of) (length other.wires) other.period other_fits.few_cells other_fits.few_wires other_fits.short) head in
    let size : length one.wires ≡ length other.wires = ap (λ (list : List ℕ). slice_index list 2) numbers in
    let period : one.period ≡ other.period = ap (λ (list : List ℕ). slice_index list 3) numbers in
    let chip_of : one.chip_of ≡ other.chip_of = number_line_injective (codes "chips") one.chip_of other.chip_of plain_chips refl (small_chips one.chip_of fits.chips) (small_chips other.chip_of other_fits.chips) chips in
    let wires : SameWires one.wires other.wires more = wires_same one.wires other.wires more size fits.wires other_fits.wires fits.few_hops other_fits.few_hops body in
    let first : one ≡ record { chip_of = other.chip_of; wires = other.wires; period = one.period } = ap₂ (λ (chips_ : List ℕ) (all : List Wire). record { chip_of = chips_; wires = all; period = one.period }) chip_of wires.wires in
    (first ∙ ap (λ (n : ℕ). record { chip_of = other.chip_of; wires = other.wires; period = n }) period, wires.none)

pub spelling_same : (one other : Content) (rest : List ℕ) → IsInRange one → IsInRange other → spelling one ++ rest ≡ spelling other → (one ≡ other) × (rest ≡ [])
spelling_same one other rest fits other_fits same =
    let within : IsMore (plan_lines one) (plan_lines other) rest = lines_within (plan_lines one) (plan_lines other) rest (plan_lines_are one fits) (plan_lines_are other other_fits) same in
    let are : (one ≡ other) × (within.more ≡ []) = lines_same one other within.more fits other_fits (sym within.is) in
    (are.0, sym within.text ∙ ap lines_text are.1)
