-- Calls of a closure with the parts of a slice. No public clause cites it.
use Rattle.std.specs.Prelude.{◌≡◌, ◌<◌, ℕ, List, length, slice_get, slice_index_or, Some}
use denote.Ref.{MutBor}
use denote.Param.Members.{Shared}

-- each element of the part is one of the whole
abbrev pub IsAmong : {X : Type 0} → List X → List X → Type 0
IsAmong {X} part whole = (place : ℕ) (x : X) → slice_get part place ≡ Some x → (other : ℕ) × (slice_get whole other ≡ Some x)

module _ {F X : Type 0} (g : Shared F (MutBor (List X) × Unit {0}) (Unit {0} × (MutBor (List X) × Unit {0}))) (f : F) where
  -- f may be called with a `&mut` to any elements of xs
  abbrev pub AcceptsParts : List X → Type 0
  AcceptsParts xs = (part : MutBor (List X)) → IsAmong part.now xs → g.pre f (part, tt)

  -- a place lies in a part with which f was called, of xs before and of ys after
  pub record IsInPart (xs ys : List X) (place : ℕ) : Type 0 where
    pub part : MutBor (List X)
    pub left : MutBor (List X)
    pub call : g.post f (part, tt) (tt, (left, tt))
    pub offset : ℕ
    pub inside : offset < length part.now
    pub old : (default : X) → slice_index_or part.now offset default ≡ slice_index_or xs place default
    pub new : (default : X) → slice_index_or left.now offset default ≡ slice_index_or ys place default

  -- each place lies in such a part
  abbrev pub ChangesParts : List X → List X → Type 0
  ChangesParts xs ys = (place : ℕ) → place < length xs → IsInPart xs ys place
