-- Histories where each net is found as it is.
use Rattle.std.proofs.Common.{◌≡◌, ◌∙◌, ℕ, Bool, List, [], ◌∷◌, map, ap, ap₂, refl}
use Rattle.std.proofs.Math.Path.{fun_ext}
use Rattle.vw_net.specs.declared.flat.Flat.{Flat}
use Rattle.vw_net.specs.Cells.{latch_inputs}
use Rattle.vw_net.specs.FoundValue.{found_value, as_it_is}
use Rattle.vw_net.specs.History.{outputs_at, next_state, outputs_of}
use Rattle.vw_net.specs.Value.{net_value}
use Rattle.vw_net.proofs.Levels.{plain_value}
use Rattle.vw_fault.specs.Found.{found_outputs_at, found_next_state, found_outputs}

plain_values : (flat : Flat) (row state : List Bool) → found_value as_it_is flat row state ≡ net_value flat row state
plain_values flat row state = fun_ext (plain_value flat row state)

pub plain_outputs_at : (flat : Flat) (row state : List Bool) → found_outputs_at as_it_is flat row state ≡ outputs_at flat row state
plain_outputs_at flat row state = ap (λ (value : ℕ → Bool). map value flat.outputs) (plain_values flat row state)

pub plain_next_state : (flat : Flat) (row state : List Bool) → found_next_state as_it_is flat row state ≡ next_state flat row state
plain_next_state flat row state = ap (λ (value : ℕ → Bool). map value (latch_inputs flat.cells)) (plain_values flat row state)

-- clock by clock, the outputs are those of the netlist
pub plain_outputs : (flat : Flat) (state : List Bool) (rows : List (List Bool)) → found_outputs as_it_is flat state rows ≡ outputs_of flat state rows
plain_outputs flat state [] = refl
plain_outputs flat state (row ∷ rows) =
    ap₂ (λ (first : List Bool) (more : List (List Bool)). first ∷ more)
    (plain_outputs_at flat row state)
    (ap (λ (after : List Bool). found_outputs as_it_is flat after rows) (plain_next_state flat row state) ∙ plain_outputs flat (next_state flat row state) rows)
