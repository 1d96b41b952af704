-- States of runs, each with one spelling. Source: this project.
use Rattle.std.specs.Prelude.{◌≡◌, ◌≢◌, ◌≤◌, ℕ, Bool, true, false, List, [], ◌∷◌, ◌++◌, length, codes, IsTrue, ⊤}
use Rattle.std.specs.Fmt.{decimal}
use Rattle.vw_net.specs.declared.limits.TheConstants.{MOST_CELLS}
use Rattle.vw_rows.specs.declared.limits.TheConstants.{MOST_CLOCKS}
use Rattle.vw_text.specs.Printed.{bits_text}
use Rattle.vw_resume.specs.declared.fault.StateFault.{StateFault}
use Rattle.vw_resume.specs.declared.fault.StateFault.TheVariants.{BadText, WrongLatches, TooManyClocks, TooFewClocks, NoMemory}
use Rattle.vw_resume.specs.declared.state.State.{State}

-- one line: the number of the next clock, how many latches there are, and the value of each before that clock
abbrev pub state_text : ℕ → List Bool → List ℕ
state_text clock latches =
    codes "state 1 " ++ (decimal clock ++ 32 ∷ (decimal (length latches) ++ 32 ∷ (bits_text latches ++ 10 ∷ [])))

-- a text is the spelling of a state, whose numbers aren't too large
pub record Spells (text : List ℕ) (state : State) : Type 0 where
  pub few_clocks : state.clock ≤ MOST_CLOCKS
  pub few_latches : length state.latches ≤ MOST_CELLS
  pub spelled : text ≡ state_text state.clock state.latches

-- a text is refused for this reason, where a state of so many latches is wanted: it spells no state, or one with another
-- number of latches; want of memory says nothing of it
abbrev pub Refuses : List ℕ → ℕ → StateFault → Type 0
Refuses text wanted BadText = (state : State) → ¬ (Spells text state)
Refuses text wanted (WrongLatches found others) =
    ((state : State) × Spells text state × (length state.latches ≡ found)) × (others ≡ wanted) × (found ≢ wanted)
Refuses text wanted (TooManyClocks clocks) = ⊥
Refuses text wanted (TooFewClocks found others) = ⊥
Refuses text wanted NoMemory = ⊤

-- whether a fault lies in the text; a number of clocks is that of a stimulus, too
abbrev pub is_text_fault : StateFault → Bool
is_text_fault BadText = true
is_text_fault (WrongLatches found wanted) = true
is_text_fault (TooManyClocks clocks) = false
is_text_fault (TooFewClocks found wanted) = false
is_text_fault NoMemory = false

-- why a text spells no state of so many latches
abbrev pub IsBadState : ℕ → List ℕ → StateFault → Type 0
IsBadState wanted text fault = IsTrue (is_text_fault fault) × Refuses text wanted fault
