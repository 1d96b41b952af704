-- The two ends of one link, and what lays links, as contracts see them. Source: this project.
use Rattle.std.specs.Prelude.{◌≡◌, ◌≤◌, ◌*◌, ◌+◌, ◌==◌, ℕ, Bool, true, List, ◌++◌, take, slice_get, Option, Some, None, option_map, if◌then◌else◌, ◌⊎◌}
use Rattle.vw_plan.specs.declared.link.Link.{Link}
use Rattle.vw_prog.specs.declared.job.Job.{Job}
use Rattle.vw_prog.specs.declared.word.Word.{Word}
use Rattle.vw_prog.specs.Ends.{one_more}
use Rattle.vw_prog.specs.Scripts.{script}

-- the end at which words are put in: its link, the script, how many were sent, how many puts were refused, and how many words
-- the link holds at most
pub record SeenPutEnd : Type 0 where
  pub link : ℕ
  pub words : List Word
  pub sent : ℕ
  pub full : ℕ
  pub room : ℕ

-- the end at which words are taken out, and whether it keeps them
pub record SeenTakeEnd : Type 0 where
  pub link : ℕ
  pub words : List Word
  pub taken : ℕ
  pub empty : ℕ
  pub keeps : Bool

-- a put that is refused counts a refusal, and then at least as many words were sent as the link holds
pub record PutsOne (before after : SeenPutEnd) (answer : Bool) : Type 0 where
  pub ends : after ≡ (if answer then record before { sent = before.sent + 1 } else record before { full = one_more before.full })
  pub refused : (answer ≡ true) ⊎ (before.room ≤ before.sent)

abbrev pub TakesOne : SeenTakeEnd → SeenTakeEnd → Option Word → Type 0
TakesOne before after (Some word) = (after ≡ record before { taken = before.taken + 1 }) × (slice_get before.words before.taken ≡ Some word)
TakesOne before after None = after ≡ record before { empty = one_more before.empty }

-- what a fabric tells of the words that its links have carried: nothing, or for each link a list
abbrev pub Carried : Type 0
Carried = Option (ℕ → List Word)

-- the ends of a link that was laid for a job
pub record IsLaid (job : Job) (link : ℕ) (told : Bool) (tx : SeenPutEnd) (rx : SeenTakeEnd) : Type 0 where
  pub put_end : (there : Link) → slice_get job.checked.board.links link ≡ Some there
      → tx ≡ record { link = link; words = script job link; sent = 0; full = tx.full; room = 64 * there.width }
  pub take_end : rx ≡ record { link = link; words = script job link; taken = 0; empty = rx.empty; keeps = told }

-- the words that were taken from a lifted link go to those that it has carried
abbrev pub lifted : ℕ → SeenTakeEnd → Carried → Carried
lifted link rx carried = option_map (λ so_far other. if other == link then so_far other ++ take rx.taken rx.words else so_far other) carried

-- both ends belong to the link and have one script, and words are kept where they are told
pub record AreEndsOf (link : ℕ) (told : Bool) (tx : SeenPutEnd) (rx : SeenTakeEnd) : Type 0 where
  pub put_link : tx.link ≡ link
  pub take_link : rx.link ≡ link
  pub one_script : tx.words ≡ rx.words
  pub kept : told ≡ true → rx.keeps ≡ true
