-- Pairs of numbers that are pushed, all of them at the end.
use Rattle.std.proofs.Common.{◌≡◌, ◌≤◌, ◌++◌, ℕ, List, length, drop, map, ap, ap₂, sym, ◌∙◌, append-nil}
use Rattle.std.proofs.lemmas.List.{drop_all}

-- past the last element, all of them are pushed
pub all_pushed : {X Y : Type 0} (f : X → Y) (xs : List X) (number : ℕ) (pushed : List Y) → length xs ≤ number → pushed ++ map f (drop number xs) ≡ map f xs → pushed ≡ map f xs
all_pushed f xs number pushed past is = sym (append-nil pushed) ∙ ap (λ (rest : List _). pushed ++ map f rest) (sym (drop_all number xs past)) ∙ is

abbrev two_numbers : ℕ → ℕ → ℕ × ℕ
two_numbers one other = (one, other)

pub same_pair : (one other first second : ℕ) → one ≡ first → other ≡ second → two_numbers one other ≡ two_numbers first second
same_pair one other first second here there = ap₂ two_numbers here there
