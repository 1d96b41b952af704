-- What a function of a command does to the shelf and out that it is handed.
use Rattle.std.specs.Prelude.{◌≡◌, ℕ, Result, Ok, Err}
use Rattle.vw_outside.specs.Reads.{SeenShelf}
use Rattle.vw_outside.specs.Writes.{SeenSink}
use Rattle.vw_course.specs.declared.outside.Outside.{Outside}
use Rattle.vw_course.specs.declared.unfinished.Unfinished.{Unfinished}
use Rattle.vw_course.specs.Vocabulary.{Vocabulary}
use Rattle.vw_course.specs.Outside.{SeenOutside, Carried}
use Rattle.vw_course.specs.Course.{Course}
use Rattle.vw_course.specs.Endings.{SeenCall, IsCallOf}
use Rattle.vw_course.specs.Follows.{Answer, Follows}

-- what is seen of a shelf and out, and of links that these words have carried
abbrev pub seen_outside : {Word : Type 0} → SeenShelf → SeenSink → Carried Word → SeenOutside Word
seen_outside shelf out links = record { shelf = shelf; out = out; links = links }

-- links that have carried these words carried nothing meanwhile
abbrev pub Unmoved : {Word : Type 0} → Carried Word → Carried Word → Type 0
Unmoved before after = after ≡ before

-- links that had carried the first words have carried the others
abbrev pub MovedFrom : {Word : Type 0} → Carried Word → Carried Word → Carried Word → Carried Word → Type 0
MovedFrom first last before after = (before ≡ first) × (after ≡ last)

-- over what is seen: the course was followed, whatever the links had carried before and after, where it may have come to
-- the one from the other
pub record IsFollowed (V : Vocabulary) (Moved : Carried V.Word → Carried V.Word → Type 0) (course : Course V)
    (shelf : SeenShelf) (out : SeenSink) (shelf_after : SeenShelf) (out_after : SeenSink) (answer : Answer V) : Type 0 where
  pub follows : (links links_after : Carried V.Word) → Moved links links_after
      → Follows course (seen_outside shelf out links) (seen_outside shelf_after out_after links_after) answer

module _ {S O : Type 0} (seen_shelf : S → SeenShelf) (seen_out : O → SeenSink) where
  -- the shelf and out are the same ones as before
  pub record IsSame (before after : Outside S O) : Type 0 where
    pub shelf : after.shelf.ghost_name ≡ before.shelf.ghost_name
    pub out : after.out.ghost_name ≡ before.out.ghost_name

  -- from here to there the course was followed, over links that may have come to the one from the other
  pub record GoesOver (V : Vocabulary) (Moved : Carried V.Word → Carried V.Word → Type 0) (course : Course V)
      (before after : Outside S O) (answer : Answer V) : Type 0 where
    pub same : IsSame before after
    pub leads : IsFollowed V Moved course (seen_shelf before.shelf.now) (seen_out before.out.now)
        (seen_shelf after.shelf.now) (seen_out after.out.now) answer

  -- the same, and the links carried nothing
  abbrev pub Goes : (V : Vocabulary) → Course V → Outside S O → Outside S O → Answer V → Type 0
  Goes V course before after answer = GoesOver V Unmoved course before after answer

-- what is seen of a call, by its parts
abbrev pub seen_call : {Word : Type 0} → SeenOutside Word → SeenSink → SeenOutside Word → SeenSink → ℕ → SeenCall Word
seen_call before err after err_after status = record {
  before = before;
  after = after;
  err_before = err;
  err_after = err_after;
  status = status;
}

-- a call of the course, whatever the links have carried, and they carried nothing meanwhile
abbrev pub IsCalled : (V : Vocabulary) → Course V → SeenShelf → SeenSink → SeenSink → SeenShelf → SeenSink → SeenSink → ℕ → Type 0
IsCalled V course shelf out err shelf_after out_after err_after status = (links : Carried V.Word)
    → IsCallOf course (seen_call (seen_outside shelf out links) err (seen_outside shelf_after out_after links) err_after status)

-- the first part of a course, cut off behind its last stage, was followed, and such a thing was made of its files; or the
-- call ended in it, whatever out and the links were
abbrev pub EndsPart : {A : Type 0} (V : Vocabulary) → Course V → (A → Type 0) → SeenShelf → SeenShelf → Result A (Unfinished V.File V.Reason) → Type 0
EndsPart V part Made before after (Ok x) = (after ≡ before) × Made x
EndsPart V part Made before after (Err unfinished) = (out : SeenSink) (links : Carried V.Word)
    → Follows part (seen_outside before out links) (seen_outside after out links) (Err unfinished)
