-- Stimuli that are read again.
use Rattle.std.specs.Prelude.{◌≡◌}
use Rattle.vw_outside.specs.declared.shelf.Shelf.{Ghosts}
use Rattle.vw_outside.specs.Reads.{SeenShelf}
use Rattle.vw_rows.specs.declared.rereading.Rereading.{Rereading}

module _ {S : Type 0} {shelf : Ghosts S} where
  -- the shelf is the same one as before
  abbrev pub SameShelf : Rereading S shelf → Rereading S shelf → Type 0
  SameShelf before after = after.shelf.ghost_name ≡ before.shelf.ghost_name

  -- what is seen of the shelf
  abbrev pub seen_shelf : Rereading S shelf → SeenShelf
  seen_shelf rows = shelf.seen rows.shelf.now
