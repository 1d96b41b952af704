-- The shift loops of a node: for each pin that it sends over the nets that the pin sends in one clock, in order. A send takes the
-- net at which the loop of its pin stands, and turns the loop by one. Source: the Virtual Wires papers.
use Rattle.std.specs.Prelude.{◌≡◌, ◌==◌, ◌&&◌, ℕ, suc, Bool, List, [], ◌∷◌, length, map, take, slice_get, slice_index_or, Some, if◌then◌else◌}
use Rattle.vw_prog.specs.declared.action.Action.{Action}
use Rattle.vw_prog.specs.declared.action.Action.TheVariants.{Evaluate, Send, Step, Take}
use Rattle.vw_prog.specs.declared.shift.ShiftLoop.{ShiftLoop}

-- the nets that actions send over a pin of a link, in order
abbrev pub sent_over : ℕ → ℕ → List Action → List ℕ
sent_over link pin [] = []
sent_over link pin (Evaluate number ∷ actions) = sent_over link pin actions
sent_over link pin (Send its other net ∷ actions) = if its == link && other == pin then net ∷ sent_over link pin actions else sent_over link pin actions
sent_over link pin (Take its other net ∷ actions) = sent_over link pin actions
sent_over link pin (Step ∷ actions) = sent_over link pin actions

-- the nets of a loop
abbrev pub loop_nets : ShiftLoop → List ℕ
loop_nets one = map (λ item. item.net) one.nets

-- one loop for each pin, with the nets that the actions send over it
pub record AreLoops (actions : List Action) (loops : List ShiftLoop) : Type 0 where
  pub nets : (place : ℕ) (one : ShiftLoop) → slice_get loops place ≡ Some one → loop_nets one ≡ sent_over one.link one.pin actions
  pub apart : (place other : ℕ) (one two : ShiftLoop) → slice_get loops place ≡ Some one → slice_get loops other ≡ Some two → one.link ≡ two.link → one.pin ≡ two.pin → place ≡ other

-- whether a loop is that of a pin
abbrev pub is_of : ℕ → ℕ → ShiftLoop → Bool
is_of link pin one = one.link == link && one.pin == pin

-- the place of the loop of a pin, and the number of loops where it has none
abbrev pub loop_place : ℕ → ℕ → List ShiftLoop → ℕ
loop_place link pin [] = 0
loop_place link pin (one ∷ loops) = if is_of link pin one then 0 else suc (loop_place link pin loops)

-- where a loop of so many nets stands after so many turns: at its first net again when each net was sent once
abbrev pub place_after : ℕ → ℕ → ℕ
place_after count turns = if turns == count then 0 else turns

-- the places at which loops stand when so many of the actions are made
pub record Stand (actions : List Action) (loops : List ShiftLoop) (made : ℕ) (places : List ℕ) : Type 0 where
  pub count : length places ≡ length loops
  pub stands : (place : ℕ) (one : ShiftLoop) → slice_get loops place ≡ Some one → slice_index_or places place 0 ≡ place_after (length one.nets) (length (sent_over one.link one.pin (take made actions)))
