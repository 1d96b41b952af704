-- What a cell gives its net, and what that depends on.
use Rattle.std.proofs.Common.{◌≡◌, ℕ, Bool, true, false, List, [], ◌∷◌, map, slice_index_or, Option, Some, None, ap, ap₂, refl, sym, true≢false, All}
use Rattle.std.proofs.lemmas.List.Elements.{All-head, All-tail}
use Rattle.vw_net.specs.declared.cell.Cell.{Cell}
use Rattle.vw_net.specs.declared.cell.Cell.TheVariants.{Gate, Latch}
use Rattle.vw_net.specs.Cover.{cover_value}
use Rattle.vw_net.specs.Order.{is_gate, is_latch, read_nets_at}
use Rattle.vw_net.specs.Value.{driven_value}

-- two ways to give nets values that agree on each of these nets give one list
pub map_agree : {B : Type 0} (value other : ℕ → B) (nets : List ℕ) → All (λ net. value net ≡ other net) nets → map value nets ≡ map other nets
map_agree value other [] agree = refl
map_agree value other (net ∷ nets) agree =
    let here : value net ≡ other net = All-head (λ at. value at ≡ other at) net nets agree in
    let rest : All (λ at. value at ≡ other at) nets = All-tail (λ at. value at ≡ other at) net nets agree in
    ap₂ (λ first more. first ∷ more) here (map_agree value other nets rest)

-- what a cell gives its net depends on the nets that it reads, and on no other
pub driven_value_agree : (value other : ℕ → Bool) (state : List Bool) (number : ℕ) (cell : Option Cell) → All (λ net. value net ≡ other net) (read_nets_at cell) → driven_value value state number cell ≡ driven_value other state number cell
driven_value_agree value other state number None agree = refl
driven_value_agree value other state number (Some (Gate ins cover)) agree = ap (cover_value cover) (map_agree value other ins agree)
driven_value_agree value other state number (Some (Latch d init)) agree = refl

-- where no gate stands, it depends on no net
pub driven_value-no_gate : (value other : ℕ → Bool) (state : List Bool) (number : ℕ) (cell : Option Cell) → is_gate cell ≡ false → driven_value value state number cell ≡ driven_value other state number cell
driven_value-no_gate value other state number None no_gate = refl
driven_value-no_gate value other state number (Some (Gate ins cover)) no_gate = absurd (true≢false no_gate)
driven_value-no_gate value other state number (Some (Latch d init)) no_gate = refl

-- a latch is no gate
pub is_gate-latch : (cell : Option Cell) → is_latch cell ≡ true → is_gate cell ≡ false
is_gate-latch None latch = refl
is_gate-latch (Some (Gate ins cover)) latch = absurd (true≢false (sym latch))
is_gate-latch (Some (Latch d init)) latch = refl

-- a latch gives its net the bit of its number
pub driven_value-latch : (value : ℕ → Bool) (state : List Bool) (number : ℕ) (cell : Option Cell) → is_latch cell ≡ true → driven_value value state number cell ≡ slice_index_or state number false
driven_value-latch value state number None latch = absurd (true≢false (sym latch))
driven_value-latch value state number (Some (Gate ins cover)) latch = absurd (true≢false (sym latch))
driven_value-latch value state number (Some (Latch d init)) latch = refl
