-- What is seen of the outside of a call, and what the work of a call adds to it.
use Rattle.std.specs.Prelude.{◌≡◌, ℕ, List, ◌++◌, take, Option, Some, None, option_map}
use Rattle.vw_outside.specs.Reads.{SeenShelf}
use Rattle.vw_outside.specs.Writes.{SeenSink, appended, WrotePart, FailedAfterPart}

-- the words that each link has carried, where the links tell them
abbrev pub Carried : Type 0 → Type 0
Carried Word = Option (ℕ → List Word)

-- what is seen of the outside at one moment
pub record SeenOutside (Word : Type 0) : Type 0 where
  pub shelf : SeenShelf
  pub out : SeenSink
  pub links : Carried Word

-- ---- the work of a call

-- a text that is written, and the words that each link carries meanwhile, where links are used
pub record Work (Word : Type 0) : Type 0 where
  pub text : List ℕ
  pub scripts : Option (ℕ → List Word)

-- what links have carried after further words, where links were used
abbrev pub carried : {Word : Type 0} → Option (ℕ → List Word) → Carried Word → Carried Word
carried None links = links
carried (Some scripts) links = option_map (λ words. λ link. words link ++ scripts link) links

-- a number of words of each link, from the first
abbrev pub fronts : {Word : Type 0} → (ℕ → ℕ) → Option (ℕ → List Word) → Option (ℕ → List Word)
fronts counts scripts = option_map (λ words. λ link. take (counts link) (words link)) scripts

-- each link has carried a part of its further words, from the first
abbrev pub CarriedPart : {Word : Type 0} → Option (ℕ → List Word) → Carried Word → Carried Word → Type 0
CarriedPart scripts before after = (counts : ℕ → ℕ) × (after ≡ carried (fronts counts scripts) before)

-- the whole work was done, and nothing else changed
abbrev pub with_all : {Word : Type 0} → Work Word → SeenOutside Word → SeenOutside Word
with_all work before = record before { out = appended before.out work.text; links = carried work.scripts before.links }

-- a part of the work was done
abbrev pub DidPart : {Word : Type 0} → Work Word → SeenOutside Word → SeenOutside Word → Type 0
DidPart work before after = WrotePart work.text before.out after.out × CarriedPart work.scripts before.links after.links

-- a part of the work was done, and then a write failed
abbrev pub FailedInPart : {Word : Type 0} → Work Word → SeenOutside Word → SeenOutside Word → Type 0
FailedInPart work before after =
    FailedAfterPart work.text before.out after.out × CarriedPart work.scripts before.links after.links

-- nothing but the shelf changed
abbrev pub ShelfAlone : {Word : Type 0} → SeenOutside Word → SeenOutside Word → Type 0
ShelfAlone before after = after ≡ record before { shelf = after.shelf }
