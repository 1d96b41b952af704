-- Values with the bits of latches at the places of their nets.
use Rattle.std.proofs.Common.{◌≡◌, ◌≤◌, ◌<◌, ◌+◌, ◌-◌, ◌||◌, not, ℕ, zero, suc, Bool, true, false, List, [], ◌∷◌, length, take, get_or, set, slice_get, nat_lt, ap, refl, ◌∙◌, All, arith}
use Rattle.std.proofs.lemmas.Bool.{false≢true, le-ltb}
use Rattle.std.proofs.lemmas.Grind.{get_or-set_at}
use Rattle.std.proofs.lemmas.List.{get_or-set_other, length-set}
use Rattle.std.proofs.lemmas.List.Elements.{All-cons, All-nil}
use Rattle.vw_net.specs.declared.cell.Cell.{Cell}
use Rattle.vw_net.specs.declared.cell.Cell.TheVariants.{Gate, Latch}
use Rattle.vw_net.specs.Cells.{latch_count}
use Rattle.vw_net.specs.Order.{is_latch}
use Rattle.vw_net.specs.Steps.WrittenBits.{with_bits}
use Rattle.vw_sim.specs.Steps.Simulator.{latch_nets}

-- each latch has one net, which is one of the cells' nets
pub length-latch_nets : (first : ℕ) (cells : List Cell) → length (latch_nets first cells) ≡ latch_count cells
length-latch_nets first [] = refl
length-latch_nets first (Gate ins cover ∷ cells) = length-latch_nets (first + 1) cells
length-latch_nets first (Latch d init ∷ cells) = ap suc (length-latch_nets (first + 1) cells)

pub latch_nets-within : (first nets : ℕ) (cells : List Cell) → first + length cells ≤ nets → All (λ net. net < nets) (latch_nets first cells)
latch_nets-within first nets [] fit = All-nil (λ net. net < nets)
latch_nets-within first nets (Gate ins cover ∷ cells) fit = latch_nets-within (first + 1) nets cells (omega arith)
latch_nets-within first nets (Latch d init ∷ cells) fit = All-cons (λ net. net < nets) first (latch_nets (first + 1) cells) (omega arith) (latch_nets-within (first + 1) nets cells (omega arith))

-- a net that is no latch's has what it had
bits_other : (first : ℕ) (cells : List Cell) (state values : List Bool) (net : ℕ) → ((number : ℕ) → net ≡ first + number → is_latch (slice_get cells number) ≡ true → ⊥)
    → get_or (with_bits (latch_nets first cells) state values) net false ≡ get_or values net false
bits_other first [] state values net not_its = refl
bits_other first (Gate ins cover ∷ cells) state values net not_its = bits_other (first + 1) cells state values net (λ number same latch. not_its (suc number) (omega arith) latch)
bits_other first (Latch d init ∷ cells) [] values net not_its = refl
bits_other first (Latch d init ∷ cells) (bit ∷ state) values net not_its =
    let later = bits_other (first + 1) cells state (set values first bit) net (λ number same latch. not_its (suc number) (omega arith) latch) in
    later ∙ get_or-set_other values first net bit false (λ same. not_its zero (omega arith) refl)

-- a latch's net has its bit
pub bits_latch : (first : ℕ) (cells : List Cell) (state values : List Bool) (number : ℕ) → is_latch (slice_get cells number) ≡ true → first + length cells ≤ length values → length state ≡ latch_count cells
    → get_or (with_bits (latch_nets first cells) state values) (first + number) false ≡ get_or state (latch_count (take number cells)) false
bits_latch first [] state values number latch fits even = absurd (false≢true latch)
bits_latch first (Gate ins cover ∷ cells) state values zero latch fits even = absurd (false≢true latch)
bits_latch first (Gate ins cover ∷ cells) state values (suc number) latch fits even =
    let next : first + suc number ≡ first + 1 + number = omega arith in
    ap (λ (net : ℕ). get_or (with_bits (latch_nets (first + 1) cells) state values) net false) next ∙ bits_latch (first + 1) cells state values number latch (omega arith) even
bits_latch first (Latch d init ∷ cells) [] values number latch fits even = absurd (omega arith)
bits_latch first (Latch d init ∷ cells) (bit ∷ state) values zero latch fits even =
    let here : first + zero ≡ first = omega arith in
    let later = bits_other (first + 1) cells state (set values first bit) first (λ number same at. absurd (omega arith)) in
    ap (λ (net : ℕ). get_or (with_bits (latch_nets (first + 1) cells) state (set values first bit)) net false) here ∙ later ∙ get_or-set_at values first first bit false refl (omega arith)
bits_latch first (Latch d init ∷ cells) (bit ∷ state) values (suc number) latch fits even =
    let next : first + suc number ≡ first + 1 + number = omega arith in
    let room : first + 1 + length cells ≤ length (set values first bit) = omega (arith, length-set values first bit) in
    ap (λ (net : ℕ). get_or (with_bits (latch_nets (first + 1) cells) state (set values first bit)) net false) next ∙ bits_latch (first + 1) cells state (set values first bit) number latch room (omega arith)

-- a net that is an input's, or driven by no latch, has what it had
pub bits_rest : (first : ℕ) (cells : List Cell) (state values : List Bool) (net : ℕ) → (nat_lt net first || not (is_latch (slice_get cells (net - first)))) ≡ true
    → get_or (with_bits (latch_nets first cells) state values) net false ≡ get_or values net false
bits_rest first cells state values net other = bits_other first cells state values net not_its where
  not_its : (number : ℕ) → net ≡ first + number → is_latch (slice_get cells number) ≡ true → ⊥
  not_its number same latch =
      let no_input : nat_lt net first ≡ false = le-ltb net first (omega arith) in
      let its_number : net - first ≡ number = omega arith in
      let is_its = ap (λ (at : ℕ). is_latch (slice_get cells at)) its_number ∙ latch in
      false≢true (rw (no_input, is_its) at other)
