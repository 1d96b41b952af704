-- Histories of two lists of rows, one after the other.
use Rattle.std.proofs.Common.{◌≡◌, Bool, List, [], ◌∷◌, ◌++◌, ap, refl}
use Rattle.vw_net.specs.declared.flat.Flat.{Flat}
use Rattle.vw_net.specs.History.{next_state, outputs_at, outputs_of, states_of, state_after, flat_history, joined}

-- the outputs of the first rows, and then those of the second from the state after the first
pub outputs_of-append : (flat : Flat) (state : List Bool) (first second : List (List Bool)) → outputs_of flat state (first ++ second) ≡ outputs_of flat state first ++ outputs_of flat (state_after flat state first) second
outputs_of-append flat state [] second = refl
outputs_of-append flat state (row ∷ rows) second = ap (λ (outputs : List (List Bool)). outputs_at flat row state ∷ outputs) (outputs_of-append flat (next_state flat row state) rows second)

-- the states of the first rows, and then those of the second from the state after the first
pub states_of-append : (flat : Flat) (state : List Bool) (first second : List (List Bool)) → states_of flat state (first ++ second) ≡ states_of flat state first ++ states_of flat (state_after flat state first) second
states_of-append flat state [] second = refl
states_of-append flat state (row ∷ rows) second = ap (λ (states : List (List Bool)). state ∷ states) (states_of-append flat (next_state flat row state) rows second)

-- the state after the second rows, from the state after the first
pub state_after-append : (flat : Flat) (state : List Bool) (first second : List (List Bool)) → state_after flat state (first ++ second) ≡ state_after flat (state_after flat state first) second
state_after-append flat state [] second = refl
state_after-append flat state (row ∷ rows) second = state_after-append flat (next_state flat row state) rows second

-- the history of the first rows, and then that of the second from the state after the first
pub flat_history-append : (flat : Flat) (state : List Bool) (first second : List (List Bool)) → flat_history flat state (first ++ second) ≡ joined (flat_history flat state first) (flat_history flat (state_after flat state first) second)
flat_history-append flat state first second = cc (outputs_of-append flat state first second, states_of-append flat state first second, state_after-append flat state first second)
