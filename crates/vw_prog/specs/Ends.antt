-- The ends of the links of a node, as contracts see them, and what a put and a take do. Source: this project.
use Rattle.std.specs.Prelude.{◌≡◌, ◌<◌, ◌≤◌, ◌-◌, ◌+◌, ◌^◌, ◌==◌, ℕ, Bool, true, length, min, slice_get, nat_lt, Option, Some, None, if◌then◌else◌, ◌⊎◌}
use Rattle.vw_plan.specs.declared.link.Link.{Link}
use Rattle.vw_prog.specs.declared.job.Job.{Job}
use Rattle.vw_prog.specs.declared.word.Word.{Word}
use Rattle.vw_prog.specs.Scripts.{script}

-- for each link by its number: how many words were sent and taken, how many puts and takes were refused, how many words it
-- holds at most, and whether the words that are taken are kept; and whether all counts are those of both ends
pub record SeenEnds : Type 0 where
  pub job : Job
  pub node : ℕ
  pub sent : ℕ → ℕ
  pub taken : ℕ → ℕ
  pub full : ℕ → ℕ
  pub empty : ℕ → ℕ
  pub room : ℕ → ℕ
  pub keeps : ℕ → Bool
  pub told : Bool

-- one more than a count, which stays at 2 ^ 64 - 1
abbrev pub one_more : ℕ → ℕ
one_more count = min (count + 1) (2 ^ 64 - 1)

-- the counts with one more at a link
abbrev pub counted_at : ℕ → (ℕ → ℕ) → ℕ → ℕ
counted_at link counts other = if other == link then counts other + 1 else counts other

-- the same for a count of refusals
abbrev pub refused : ℕ → (ℕ → ℕ) → ℕ → ℕ
refused link counts other = if other == link then one_more (counts other) else counts other

-- the link with a number, where there is one
abbrev pub IsLink : SeenEnds → ℕ → (Link → Type 0) → Type 0
IsLink ends link P = (there : Link) × (slice_get ends.job.checked.board.links link ≡ Some there) × P there

-- the word is the script's next of a link that leaves the node
pub record IsNextWord (ends : SeenEnds) (link : ℕ) (word : Word) : Type 0 where
  pub leaves : IsLink ends link (λ there. there.from ≡ ends.node)
  pub next : slice_get (script ends.job link) (ends.sent link) ≡ Some word

-- a link that reaches the node has words to come
pub record IsExpected (ends : SeenEnds) (link : ℕ) : Type 0 where
  pub reaches : IsLink ends link (λ there. there.to ≡ ends.node)
  pub more : ends.taken link < length (script ends.job link)

-- a put that is done counts a word, and one that is refused counts a refusal, and then at least as many words were sent as the
-- link holds; where all is told, it is refused exactly where the link is full
pub record Puts (link : ℕ) (before after : SeenEnds) (answer : Bool) : Type 0 where
  pub ends : after ≡ (if answer then record before { sent = counted_at link before.sent } else record before { full = refused link before.full })
  pub refused : (answer ≡ true) ⊎ (before.room link ≤ before.sent link)
  pub room : before.told ≡ true → answer ≡ nat_lt (before.sent link - before.taken link) (before.room link)

-- a take gives the script's next word and counts it; one that is refused counts a refusal, where all is told exactly where
-- the link is empty
abbrev pub Takes : ℕ → SeenEnds → SeenEnds → Option Word → Type 0
Takes link before after (Some word) =
    (after ≡ record before { taken = counted_at link before.taken })
    × (slice_get (script before.job link) (before.taken link) ≡ Some word)
    × (before.told ≡ true → before.taken link < before.sent link)
Takes link before after None =
    (after ≡ record before { empty = refused link before.empty })
    × (before.told ≡ true → before.sent link ≤ before.taken link)
