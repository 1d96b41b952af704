-- What the ends of a link know. Source: this project.
use Rattle.std.specs.Prelude.{◌≡◌, ◌≤◌, ◌<◌, ℕ, length, take, vec_capacity, vec_len, Box, Option, Some, None}
use Rattle.std.specs.Option.{IfSome}
use Rattle.std.specs.declared.alloc.Global.{Global}
use Rattle.crossbeam_queue.specs.Passes.{Pass, view}
use Rattle.vw_prog.specs.declared.word.Word.{Word}
use Rattle.vw_link.specs.declared.rule.View.{View}
use Rattle.vw_link.specs.declared.chain.Piece.{Piece}

-- what a pass knows
abbrev pub known : Pass Word View → View
known pass = view pass

-- a piece of a link has the words that were taken, and room for all others
pub record HasWordsTaken (link : ℕ) (pass : View) (piece : Piece) : Type 0 where
  pub same : piece.link ≡ link
  pub words : piece.words.items ≡ take pass.taken pass.words
  pub room : length pass.words ≤ vec_capacity piece.words

-- where they are kept
abbrev pub Keeps : ℕ → View → Option (Box Piece Global) → Type 0
Keeps link pass None = Unit {0}
Keeps link pass (Some piece) = HasWordsTaken link pass piece.value

-- and a kept piece has room for a further word
abbrev pub HasPieceRoom : Option (Box Piece Global) → Type 0
HasPieceRoom kept = IfSome kept (λ piece. vec_len piece.value.words < vec_capacity piece.value.words)
