-- Hops and wires that are read of lines.
use Rattle.std.proofs.Common.{◌≡◌, ◌<◌, ◌≤◌, ◌^◌, ℕ, Bool, List, [], ◌∷◌, length, Vec, Global, Result, Ok, Err, Option, Some, None, if◌then◌else◌, ap, refl, sym, subst, ◌∙◌, All, arith}
use Rattle.std.specs.Prelude.{codes, MatchOption, unwrap_or, IfOk}
use Rattle.std.proofs.lemmas.List.Elements.{All-nil, All-cons}
use Rattle.vw_plan.specs.declared.wire.Hop.{Hop}
use Rattle.vw_plantext.specs.declared.body.OpenWire.{OpenWire}
use Rattle.vw_plantext.specs.Content.{IsHopInRange}
use Rattle.vw_plantext.specs.Grammar.{number_line, hop_line}
use Rattle.vw_plantext.specs.Steps.Words.{line_numbers}
use Rattle.vw_plantext.specs.Steps.Hops.{hop_numbers, IsHop, IsNoHop, IsHopLine, IsNoHopLine, IsWireHead, IsNoWireHead, IsWireHeadLine, IsNoWireHeadLine}
use Rattle.vw_plantext.specs.declared.start.PlanHead.{PlanHead}
use Rattle.vw_plantext.specs.Steps.Starts.{head_numbers, IsPlanHead, IsNoHead, IsHeadLine, IsNoHeadLine, AreChips, AreNoChips, IsChipsLine, IsNoChipsLine}
use Rattle.vw_plantext.proofs.NumberLines.{AreSmall, IsNumberLine, line_numbers-Some, line_numbers-number_line}
use Rattle.vw_plantext.proofs.Lines.{Fits64Bits, small_hop, small_head, small_chips}
use Rattle.vw_plantext.proofs.Spellings.{plain_hop, plain_wire, plain_plan, plain_chips}

-- the answer to a test, and what it says
pub answer_is : (answer : Bool) (numbers : List ℕ) (found : Option (List ℕ)) → found ≡ (if answer then Some numbers else None) → (wanted : Bool) → answer ≡ wanted → found ≡ (if wanted then Some numbers else None)
answer_is answer numbers found is wanted same = is ∙ ap (λ (b : Bool). if b then Some numbers else None) same

hop_back : (hop : Hop) → IsHopInRange hop → line_numbers (codes "hop") (hop_line hop) ≡ Some (hop_numbers hop)
hop_back hop fits = line_numbers-number_line (codes "hop") (hop_numbers hop) plain_hop refl (small_hop hop fits)

pub hop_line_none : (line : List ℕ) → line_numbers (codes "hop") line ≡ None → IsNoHopLine line
hop_line_none line none hop fits is = let some : None ≡ Some (hop_numbers hop) = sym none ∙ ap (line_numbers (codes "hop")) is ∙ hop_back hop fits in cc

pub hop_line_read : (line numbers : List ℕ) → line_numbers (codes "hop") line ≡ Some numbers → (found : Option Hop) → MatchOption found (IsNoHop numbers) (IsHop numbers) → MatchOption found (IsNoHopLine line) (IsHopLine line)
hop_line_read line numbers read None none = λ hop fits is. none hop fits (ap (λ (o : Option (List ℕ)). unwrap_or o []) (sym read ∙ ap (line_numbers (codes "hop")) is ∙ hop_back hop fits))
hop_line_read line numbers read (Some hop) found =
    let is : IsNumberLine (codes "hop") line numbers = line_numbers-Some (codes "hop") line numbers read in
    record { is = is.is ∙ ap (number_line (codes "hop")) found.are; in_range = found.in_range }

wire_small : (room net to hops : ℕ) → room < 2 ^ 64 → net < 2 ^ 32 → to < 2 ^ 32 → hops ≤ room → AreSmall (net ∷ to ∷ hops ∷ [])
wire_small room net to hops fits net_fits to_fits few = All-cons Fits64Bits net (to ∷ hops ∷ []) (omega arith) (All-cons Fits64Bits to (hops ∷ []) (omega arith) (All-cons Fits64Bits hops [] (omega arith) (All-nil Fits64Bits)))

wire_back : (room net to hops : ℕ) → room < 2 ^ 64 → net < 2 ^ 32 → to < 2 ^ 32 → hops ≤ room → line_numbers (codes "wire") (number_line (codes "wire") (net ∷ to ∷ hops ∷ [])) ≡ Some (net ∷ to ∷ hops ∷ [])
wire_back room net to hops fits net_fits to_fits few = line_numbers-number_line (codes "wire") (net ∷ to ∷ hops ∷ []) plain_wire refl (wire_small room net to hops fits net_fits to_fits few)

pub wire_line_none : (room : ℕ) (line : List ℕ) → room < 2 ^ 64 → line_numbers (codes "wire") line ≡ None → IsNoWireHeadLine room line
wire_line_none room line fits none net to hops net_fits to_fits few is = let some : None ≡ Some (net ∷ to ∷ hops ∷ []) = sym none ∙ ap (line_numbers (codes "wire")) is ∙ wire_back room net to hops fits net_fits to_fits few in cc

pub wire_line_read : (room : ℕ) (line numbers : List ℕ) → room < 2 ^ 64 → line_numbers (codes "wire") line ≡ Some numbers → (found : Option OpenWire) → MatchOption found (IsNoWireHead room numbers) (IsWireHead room numbers) → MatchOption found (IsNoWireHeadLine room line) (IsWireHeadLine room line)
wire_line_read room line numbers fits read None none = λ net to hops net_fits to_fits few is. none net to hops net_fits to_fits few (ap (λ (o : Option (List ℕ)). unwrap_or o []) (sym read ∙ ap (line_numbers (codes "wire")) is ∙ wire_back room net to hops fits net_fits to_fits few))
wire_line_read room line numbers fits read (Some wire) found =
    let is : IsNumberLine (codes "wire") line numbers = line_numbers-Some (codes "wire") line numbers read in
    record { is = is.is ∙ ap (number_line (codes "wire")) found.are; none = found.none; net = found.net; to = found.to; few = found.few }

-- ---- the first two lines

head_back : (cells wires period : ℕ) → cells < 2 ^ 32 → wires < 2 ^ 32 → period ≤ 2 ^ 62 → line_numbers (codes "plan") (number_line (codes "plan") (head_numbers cells wires period)) ≡ Some (head_numbers cells wires period)
head_back cells wires period few_cells few_wires short = line_numbers-number_line (codes "plan") (head_numbers cells wires period) plain_plan refl (small_head cells wires period few_cells few_wires short)

pub head_line_none : (line : List ℕ) → line_numbers (codes "plan") line ≡ None → IsNoHeadLine line
head_line_none line none cells wires period few_cells few_wires short is = let some : None ≡ Some (head_numbers cells wires period) = sym none ∙ ap (line_numbers (codes "plan")) is ∙ head_back cells wires period few_cells few_wires short in cc

pub head_line_read : (line numbers : List ℕ) → line_numbers (codes "plan") line ≡ Some numbers → (found : Option PlanHead) → MatchOption found (IsNoHead numbers) (IsPlanHead numbers) → MatchOption found (IsNoHeadLine line) (IsHeadLine line)
head_line_read line numbers read None none = λ cells wires period few_cells few_wires short is. none cells wires period few_cells few_wires short (ap (λ (o : Option (List ℕ)). unwrap_or o []) (sym read ∙ ap (line_numbers (codes "plan")) is ∙ head_back cells wires period few_cells few_wires short))
head_line_read line numbers read (Some head) found =
    let is : IsNumberLine (codes "plan") line numbers = line_numbers-Some (codes "plan") line numbers read in
    record { is = is.is ∙ ap (number_line (codes "plan")) found.are; few_cells = found.few_cells; few_wires = found.few_wires; short = found.short }

pub chips_back : (chips : List ℕ) → All (λ chip. chip < 2 ^ 32) chips → line_numbers (codes "chips") (number_line (codes "chips") chips) ≡ Some chips
chips_back chips fit = line_numbers-number_line (codes "chips") chips plain_chips refl (small_chips chips fit)

pub chips_line_none : (cells : ℕ) (line : List ℕ) → line_numbers (codes "chips") line ≡ None → IsNoChipsLine cells line
chips_line_none cells line none chips each fit is = let some : None ≡ Some chips = sym none ∙ ap (line_numbers (codes "chips")) is ∙ chips_back chips fit in cc

pub chips_line_found : (cells : ℕ) (line numbers : List ℕ) → line_numbers (codes "chips") line ≡ Some numbers → (found : Option (Vec ℕ Global)) → MatchOption found (AreNoChips cells numbers) (λ chips. AreChips cells numbers chips.items) → MatchOption found (IsNoChipsLine cells line) (λ chips. IsChipsLine cells line chips.items)
chips_line_found cells line numbers read None none = λ chips each fit is. let same : numbers ≡ chips = ap (λ (o : Option (List ℕ)). unwrap_or o []) (sym read ∙ ap (line_numbers (codes "chips")) is ∙ chips_back chips fit) in none (ap length same ∙ each) (subst (All (λ chip. chip < 2 ^ 32)) (sym same) fit)
chips_line_found cells line numbers read (Some chips) found =
    let is : IsNumberLine (codes "chips") line numbers = line_numbers-Some (codes "chips") line numbers read in
    record { is = is.is ∙ ap (number_line (codes "chips")) (sym found.are); each = found.each; fit = found.fit }

pub chips_line_read : {E : Type 0} (cells : ℕ) (line numbers : List ℕ) → line_numbers (codes "chips") line ≡ Some numbers → (result : Result (Option (Vec ℕ Global)) E) → IfOk result (λ found. MatchOption found (AreNoChips cells numbers) (λ chips. AreChips cells numbers chips.items)) → IfOk result (λ found. MatchOption found (IsNoChipsLine cells line) (λ chips. IsChipsLine cells line chips.items))
chips_line_read cells line numbers read (Ok found) says = chips_line_found cells line numbers read found says
chips_line_read cells line numbers read (Err error) says = tt
