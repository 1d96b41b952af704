-- Where a course comes to, and what holds at each of its places.
use Rattle.std.specs.Prelude.{◌≡◌, ◌⊎◌, ℕ, List, [], ◌∷◌}
use Rattle.vw_outside.specs.Told.{Told, absent, held}
use Rattle.vw_course.specs.Vocabulary.{Vocabulary}
use Rattle.vw_course.specs.Outside.{Work}
use Rattle.vw_course.specs.Course.{Again, once, again, Course, works, refuses, reads, makes}
use Rattle.vw_course.specs.Follows.{DoesWork, IsAgain, BreaksOff}

-- it is one of these
abbrev pub IsOneOf : {X : Type 0} → List X → X → Type 0
IsOneOf [] x = ⊥
IsOneOf (one ∷ others) x = (x ≡ one) ⊎ IsOneOf others x

-- files with their names
abbrev pub Files : Vocabulary → Type 0
Files V = List (V.File × List ℕ)

-- ---- places that a course may come to

-- it does this work here
abbrev pub WorksHere : {V : Vocabulary} → (List ℕ → Told) → Work V.Word → Course V → Type 0
WorksHere told did (works over work) = DoesWork over work told did
WorksHere told did (refuses reason) = ⊥
WorksHere told did (reads file name next) = ⊥
WorksHere told did (makes A Good Bad Comes apart sure next) = ⊥

-- it breaks this work off here, for this reason
abbrev pub BreaksHere : {V : Vocabulary} → (List ℕ → Told) → V.Reason → Work V.Word → Course V → Type 0
BreaksHere told reason did (works over work) = DoesWork over work told did × BreaksOff over told reason
BreaksHere told reason did (refuses other) = ⊥
BreaksHere told reason did (reads file name next) = ⊥
BreaksHere told reason did (makes A Good Bad Comes apart sure next) = ⊥

-- it does this work here, and reads this file again
abbrev pub ReadsAgainHere : {V : Vocabulary} → (List ℕ → Told) → V.File → List ℕ → Work V.Word → Course V → Type 0
ReadsAgainHere told file name did (works over work) = DoesWork over work told did × IsAgain over file name
ReadsAgainHere told file name did (refuses reason) = ⊥
ReadsAgainHere told file name did (reads its own next) = ⊥
ReadsAgainHere told file name did (makes A Good Bad Comes apart sure next) = ⊥

-- it refuses here for this reason
abbrev pub RefusesHere : {V : Vocabulary} → V.Reason → Course V → Type 0
RefusesHere reason (works over work) = ⊥
RefusesHere reason (refuses other) = reason ≡ other
RefusesHere reason (reads file name next) = ⊥
RefusesHere reason (makes A Good Bad Comes apart sure next) = Bad reason

-- it reads this file here
abbrev pub ReadsHere : {V : Vocabulary} → V.File → List ℕ → Course V → Type 0
ReadsHere file name (works over work) = ⊥
ReadsHere file name (refuses reason) = ⊥
ReadsHere file name (reads its own next) = (file ≡ its) × (name ≡ own)
ReadsHere file name (makes A Good Bad Comes apart sure next) = ⊥

-- ---- the place to which a course comes, whatever good things it goes on by

-- these files are held and good, and behind them the course comes to a place where this holds
abbrev pub StandsAt : {V : Vocabulary} → (List ℕ → Told) → Files V → (Course V → Type 0) → Course V → Type 0
StandsAt told files P (works over work) = P (works over work)
StandsAt told files P (refuses reason) = P (refuses reason)
StandsAt told files P (reads file name next) =
    P (reads file name next)
    ⊎ (IsOneOf files (file, name) × (text : List ℕ) × (told name ≡ held text) × StandsAt told files P (next text))
StandsAt told files P (makes A Good Bad Comes apart sure next) =
    P (makes A Good Bad Comes apart sure next)
    ⊎ (Comes × ((x : A) (good : Good x) → StandsAt told files P (next x good)))

-- a file that is read again is one of these, and held
abbrev pub IsHeldAgain : {V : Vocabulary} → (List ℕ → Told) → Files V → Again V → Type 0
IsHeldAgain told files once = Unit {0}
IsHeldAgain told files (again file name Broken Allowed) = IsOneOf files (file, name) × (text : List ℕ) × (told name ≡ held text)

-- it is to do such work
abbrev pub IsToWork : {V : Vocabulary} → (List ℕ → Told) → Files V → (Work V.Word → Type 0) → Course V → Type 0
IsToWork told files What (works over work) = IsHeldAgain told files over × What work
IsToWork told files What (refuses reason) = ⊥
IsToWork told files What (reads file name next) = ⊥
IsToWork told files What (makes A Good Bad Comes apart sure next) = ⊥

-- it is to refuse, and only for such a reason
abbrev pub IsToRefuse : {V : Vocabulary} → (V.Reason → Type 0) → Course V → Type 0
IsToRefuse Why (works over work) = ⊥
IsToRefuse Why (refuses reason) = Why reason
IsToRefuse Why (reads file name next) = ⊥
IsToRefuse {V = V} Why (makes A Good Bad Comes apart sure next) =
    ((reason : V.Reason) × Bad reason) × ((reason : V.Reason) → Bad reason → Why reason)

-- it is to read one of these files, which is absent
abbrev pub IsToMiss : {V : Vocabulary} → (List ℕ → Told) → Files V → Course V → Type 0
IsToMiss told files (works over work) = ⊥
IsToMiss told files (refuses reason) = ⊥
IsToMiss told files (reads file name next) = IsOneOf files (file, name) × (told name ≡ absent)
IsToMiss told files (makes A Good Bad Comes apart sure next) = ⊥
