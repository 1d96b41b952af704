-- The front of a text: its first bytes, all, some or none of them.
use Rattle.std.specs.Prelude.{◌≡◌, ◌≤◌, ℕ, List, length, take}

-- bytes are a front of a text
abbrev pub IsFront : List ℕ → List ℕ → Type 0
IsFront bytes text = (bytes ≡ take (length bytes) text) × (length bytes ≤ length text)
