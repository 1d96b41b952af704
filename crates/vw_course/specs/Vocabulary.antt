-- What the courses of a program speak of.
use Rattle.std.specs.Prelude.{◌<◌, ◌⊎◌, ℕ, List}

-- a status that isn't one of those of a call that the outside stopped: 7, 8 and 9
abbrev pub IsNoStop : ℕ → Type 0
IsNoStop status = (status < 7) ⊎ ((9 < status) × (status < 12))

-- the files that commands read, by their parts in them; the reasons for which commands refuse; and the words that links
-- carry
pub record Vocabulary : Type 1 where
  pub File : Type 0
  pub Reason : Type 0
  pub Word : Type 0
  -- the message line where a read of a file failed
  pub read_line : File → List ℕ
  -- the status of a refusal, which is one of 1 to 6, 10 and 11, and its message line
  pub status : Reason → ℕ
  pub line : Reason → List ℕ
  pub some : (reason : Reason) → 0 < status reason
  pub few : (reason : Reason) → IsNoStop (status reason)

-- the vocabulary of these files, reasons and words
abbrev pub vocabulary_of : (File Reason Word : Type 0) → (File → List ℕ) → (status : Reason → ℕ) → (Reason → List ℕ)
    → ((reason : Reason) → 0 < status reason) → ((reason : Reason) → IsNoStop (status reason)) → Vocabulary
vocabulary_of File Reason Word read_line status line some few = record {
  File = File;
  Reason = Reason;
  Word = Word;
  read_line = read_line;
  status = status;
  line = line;
  some = some;
  few = few;
}
