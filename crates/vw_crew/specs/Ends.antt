-- The ends of links that a node has, by the numbers of the links. No public clause cites it.
use Rattle.std.specs.Prelude.{◌≡◌, ◌<◌, ◌+◌, ℕ, Bool, false, List, length, map, slice_index_or, Option, Some, None, option_map}
use Rattle.vw_prog.specs.declared.job.Job.{Job}
use Rattle.vw_prog.specs.declared.word.Word.{Word}
use Rattle.vw_prog.specs.Ends.{SeenEnds}
use Rattle.vw_prog.specs.Fabric.{SeenPutEnd, SeenTakeEnd}
use Rattle.vw_prog.specs.Scripts.{script}

-- a job, a node, and for each link of the job its end at which words are put in, and its end at which they are taken out, where
-- the node has it
pub record SeenOwn : Type 0 where
  pub job : Job
  pub node : ℕ
  pub puts : List (Option SeenPutEnd)
  pub takes : List (Option SeenTakeEnd)

abbrev pub put_at : SeenOwn → ℕ → Option SeenPutEnd
put_at own link = slice_index_or own.puts link None

abbrev pub take_at : SeenOwn → ℕ → Option SeenTakeEnd
take_at own link = slice_index_or own.takes link None

-- the ends as clauses see them, of the ends that code has
abbrev pub own_of : {T U : Type 0} → (T → SeenPutEnd) → (U → SeenTakeEnd) → Job → ℕ → List (Option T) → List (Option U) → SeenOwn
own_of put take job node puts takes = record { job = job; node = node; puts = map (option_map put) puts; takes = map (option_map take) takes }

-- what a place for an end of a link has: nothing, or an end of that link with the job's script
abbrev pub IsPutOf : Job → ℕ → Option SeenPutEnd → Type 0
IsPutOf job link place = (end : SeenPutEnd) → place ≡ Some end → (end.link ≡ link) × (end.words ≡ script job link)

abbrev pub IsTakeOf : Job → ℕ → Option SeenTakeEnd → Type 0
IsTakeOf job link place = (end : SeenTakeEnd) → place ≡ Some end → (end.link ≡ link) × (end.words ≡ script job link)

-- there is a place for each link of the job, with an end of that link or nothing
pub record AreOwn (own : SeenOwn) : Type 0 where
  pub puts_long : length own.puts ≡ length own.job.checked.board.links
  pub takes_long : length own.takes ≡ length own.job.checked.board.links
  pub puts : (link : ℕ) → IsPutOf own.job link (put_at own link)
  pub takes : (link : ℕ) → IsTakeOf own.job link (take_at own link)

-- how many words were sent; behind the script's end where no end is, so that no word is to come there
abbrev pub sent_of : List Word → Option SeenPutEnd → ℕ
sent_of words None = length words + 1
sent_of words (Some end) = end.sent

-- the same for words taken
abbrev pub taken_of : List Word → Option SeenTakeEnd → ℕ
taken_of words None = length words + 1
taken_of words (Some end) = end.taken

-- how many puts were refused, and how many takes
abbrev pub full_of : Option SeenPutEnd → ℕ
full_of None = 0
full_of (Some end) = end.full

abbrev pub empty_of : Option SeenTakeEnd → ℕ
empty_of None = 0
empty_of (Some end) = end.empty

-- how many words a link holds at most, where the node has the end at which they are put in
abbrev pub put_room : Option SeenPutEnd → ℕ
put_room None = 0
put_room (Some end) = end.room

-- whether the words that are taken are kept, where the node takes them
abbrev pub keeps_of : Option SeenTakeEnd → Bool
keeps_of None = false
keeps_of (Some end) = end.keeps

-- what the ends of a node tell: each knows its own counts alone
abbrev pub ends_of : SeenOwn → SeenEnds
ends_of own = record {
  job = own.job;
  node = own.node;
  sent = λ link. sent_of (script own.job link) (put_at own link);
  taken = λ link. taken_of (script own.job link) (take_at own link);
  full = λ link. full_of (put_at own link);
  empty = λ link. empty_of (take_at own link);
  room = λ link. put_room (put_at own link);
  keeps = λ link. keeps_of (take_at own link);
  told = false;
}

-- ---- ends that come and go

-- a node may have these ends of a link, or none
pub record MayHave (own : SeenOwn) (link : ℕ) (put : Option SeenPutEnd) (take : Option SeenTakeEnd) : Type 0 where
  pub inside : link < length own.job.checked.board.links
  pub put_fits : IsPutOf own.job link put
  pub take_fits : IsTakeOf own.job link take

-- it has them
pub record Has (own : SeenOwn) (link : ℕ) (put : Option SeenPutEnd) (take : Option SeenTakeEnd) : Type 0 where
  pub put_is : put_at own link ≡ put
  pub put_fits : IsPutOf own.job link put
  pub take_is : take_at own link ≡ take
  pub take_fits : IsTakeOf own.job link take
