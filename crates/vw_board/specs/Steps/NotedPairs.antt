-- Pairs of nodes, and what is noted for them.
use Rattle.std.specs.Prelude.{◌≡◌, ◌<◌, ℕ, List, [], length, slice_index_or, Option, None, IsSome}

-- what is noted for a node and another, in the list of the other
abbrev pub noted : List (List (Option ℕ)) → ℕ → ℕ → Option ℕ
noted lists from to = slice_index_or (slice_index_or lists to []) from None

-- something is noted for a node and each node before a place
abbrev pub AreAllFrom : List (List (Option ℕ)) → ℕ → ℕ → Type 0
AreAllFrom lists from place = (to : ℕ) → to < place → IsSome (noted lists from to)

-- something is noted for each node before a place and each node
abbrev pub AreAllThere : List (List (Option ℕ)) → ℕ → Type 0
AreAllThere lists place = (from : ℕ) → from < place → AreAllFrom lists from (length lists)

-- nothing is noted for a node and this one, but for all before it
pub record IsFirstTo (lists : List (List (Option ℕ))) (from to : ℕ) : Type 0 where
  pub within : to < length lists
  pub missing : noted lists from to ≡ None
  pub before : AreAllFrom lists from to

-- nothing is noted for this pair, but for all before it
pub record IsFirstPair (lists : List (List (Option ℕ))) (from to : ℕ) : Type 0 where
  pub within : from < length lists
  pub before : AreAllThere lists from
  pub first : IsFirstTo lists from to
