-- What a contract sees of a shelf, and what a read does.
use Rattle.std.specs.Prelude.{◌≡◌, ◌≢◌, ◌<◌, ◌≤◌, ◌-◌, ℕ, List, length, take, drop, Result, IfOk, OnOk, OnErr, IsErr}
use Rattle.vw_outside.specs.declared.sink.Failed.{Failed}
use Rattle.vw_outside.specs.Told.{Told, absent, held}
use Rattle.vw_outside.specs.Faults.{one_more}

-- what a shelf tells of each name, and how many faults it has counted there
pub record SeenShelf : Type 0 where
  pub told : List ℕ → Told
  pub faults : List ℕ → ℕ

-- a fault was counted at a name: one more there, none at another name that is held, and what is told stays
pub record CountsFault (name : List ℕ) (before after : SeenShelf) : Type 0 where
  pub told : after.told ≡ before.told
  pub here : after.faults name ≡ one_more (before.faults name)
  pub kept : (other : List ℕ) → before.faults other ≤ after.faults other
  pub others : (other bytes : List ℕ) → other ≢ name → before.told other ≡ held bytes
      → after.faults other ≡ before.faults other

-- the front of a buffer has this many of the bytes from a place on, and at least one where there is room and a byte is left
pub record Fills (bytes : List ℕ) (from : ℕ) (buffer : List ℕ) (count : ℕ) : Type 0 where
  pub front : take count buffer ≡ take count (drop from bytes)
  pub within : count ≤ length bytes - from
  pub progress : 0 < length buffer → from < length bytes → 0 < count

-- what a read from a place on answers, and what it leaves of the buffer and the shelf
pub record ReadEnds (name : List ℕ) (from : ℕ) (buffer : List ℕ) (before after : SeenShelf) (answer : Result ℕ Failed) : Type 0 where
  pub within : IfOk answer (λ count. count ≤ length buffer)
  pub held : (bytes : List ℕ) → before.told name ≡ held bytes → IfOk answer (Fills bytes from buffer)
  pub absent : before.told name ≡ absent → IsErr answer
  pub done : OnOk answer (after ≡ before)
  pub failed : OnErr answer (CountsFault name before after)
