-- The rule of a link's queue, over the words on the link and over what each pass knows. Source: this project.
use Rattle.std.specs.Prelude.{◌≡◌, ◌≤◌, ℕ, true, false, List, [], length, take, drop}
use mathlib.Core.Option.{some}
use lib.ListN.{get_elem?}
use Rattle.vw_prog.specs.declared.word.Word.{Word}
use Rattle.vw_link.specs.declared.rule.View.{View}

-- the one pass of a new link, which has no script yet
abbrev pub whole : View
whole = record { puts = true; takes = true; words = []; sent = 0; taken = 0 }

-- the end at which words are put in, and the end at which they are taken out: the script, and how far it is there
abbrev pub sending : List Word → ℕ → View
sending words sent = record { puts = true; takes = false; words = words; sent = sent; taken = 0 }

abbrev pub taking : List Word → ℕ → View
taking words taken = record { puts = false; takes = true; words = words; sent = 0; taken = taken }

-- a pass that may put words in is the writer and knows how many were sent; one that may take them out is the reader and knows how
-- many were taken; and each knows the script
pub record Fits (writer reader : ℕ) (words : List Word) (sent taken number : ℕ) (pass : View) : Type 0 where
  pub put : pass.puts ≡ true → (number ≡ writer) × (pass.words ≡ words) × (pass.sent ≡ sent)
  pub take : pass.takes ≡ true → (number ≡ reader) × (pass.words ≡ words) × (pass.taken ≡ taken)

-- a link holds the words of its script from those taken to those sent
pub record Carries (items : List Word) (passes : List View) : Type 0 where
  pub writer : ℕ
  pub reader : ℕ
  pub words : List Word
  pub sent : ℕ
  pub taken : ℕ
  pub ordered : taken ≤ sent
  pub inside : sent ≤ length words
  pub held : items ≡ drop taken (take sent words)
  pub fits : (number : ℕ) (pass : View) → get_elem? passes number ≡ some pass → Fits writer reader words sent taken number pass
