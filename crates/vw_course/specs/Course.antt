-- What a command does: the files that it reads, one after the other, and for their texts why it refuses, or what work
-- it does.
use Rattle.std.specs.Prelude.{◌≡◌, ℕ, List, [], None}
use Rattle.vw_course.specs.Vocabulary.{Vocabulary}
use Rattle.vw_course.specs.Outside.{Work}

-- whether a file that was read before is read again while the work is done. Where nothing is told of that file, its
-- text may have changed since: then it may be broken off for such a reason, and only what is allowed is known of the
-- work
pub data Again (V : Vocabulary) : Type 1 where
  once : Again V
  again : (file : V.File) (name : List ℕ) (Broken : V.Reason → Type 0) (Allowed : Work V.Word → Type 0) → Again V

pub data Course (V : Vocabulary) : Type 1 where
  -- it does this work
  works : (over : Again V) (work : Work V.Word) → Course V
  -- it refuses for this reason
  refuses : (reason : V.Reason) → Course V
  -- it reads the text of a file of this name, and goes on by it
  reads : (file : V.File) (name : List ℕ) (next : List ℕ → Course V) → Course V
  -- it makes something good and goes on by it, or refuses for a bad reason; where there is the one, there is not the
  -- other, and no reason is bad where something comes to be made
  makes : (A : Type 0) (Good : A → Type 0) (Bad : V.Reason → Type 0) (Comes : Type 0)
      → ((x : A) (reason : V.Reason) → Good x → Bad reason → ⊥)
      → ((reason : V.Reason) → Comes → Bad reason → ⊥)
      → ((x : A) → Good x → Course V) → Course V

-- the writing of a text, which uses no links
abbrev pub writing : {Word : Type 0} → List ℕ → Work Word
writing text = record { text = text; scripts = None }

-- it writes this text
abbrev pub writes : {V : Vocabulary} → List ℕ → Course V
writes text = works once (writing text)

-- ---- what is good and what is bad

-- what is good, and for which reasons something is bad, all with one status; where there is the one, there is not the
-- other
pub record Judged (V : Vocabulary) (A : Type 0) (number : ℕ) : Type 1 where
  pub Good : A → Type 0
  pub Bad : V.Reason → Type 0
  pub apart : (x : A) (reason : V.Reason) → Good x → Bad reason → ⊥
  pub its_status : (reason : V.Reason) → Bad reason → V.status reason ≡ number

-- a kind of file: what is good and bad of its text
pub record Kind (V : Vocabulary) (A : Type 0) : Type 1 where
  pub file : V.File
  pub number : ℕ
  pub judged : List ℕ → Judged V A number

-- what is made, where it comes to be made, and no reason is bad there
pub record Making (V : Vocabulary) (A : Type 0) (number : ℕ) : Type 1 where
  pub judged : Judged V A number
  pub Comes : Type 0
  pub sure : (reason : V.Reason) → Comes → judged.Bad reason → ⊥

-- it goes on by something good wherever there is such a thing, or refuses for a bad reason
abbrev pub judges : {V : Vocabulary} {A : Type 0} {number : ℕ} → Judged V A number → (A → Course V) → Course V
judges {A = A} judged next =
    makes A judged.Good judged.Bad ((x : A) × judged.Good x)
    judged.apart (λ reason some bad. judged.apart some.0 reason some.1 bad)
    (λ x is. next x)

-- it makes something good and goes on by it
abbrev pub made : {V : Vocabulary} {A : Type 0} {number : ℕ} → Making V A number → (A → Course V) → Course V
made {A = A} making next =
    makes A making.judged.Good making.judged.Bad making.Comes making.judged.apart making.sure (λ x is. next x)

-- a file is read and its text judged, and it goes on by what is good for it
abbrev pub stage : {V : Vocabulary} {A : Type 0} → Kind V A → List ℕ → (A → Course V) → Course V
stage kind name next = reads kind.file name (λ text. judges (kind.judged text) next)

-- a course that is cut off here: nothing more is done, read or made
abbrev pub cut : {V : Vocabulary} → Course V
cut = makes (Unit {0}) (λ x. ⊥) (λ reason. ⊥) ⊥ (λ x reason good bad. bad) (λ reason comes bad. bad) (λ x good. writes [])
