-- what was read is the front of the text, and the shelf is as it was
use Rattle.std.proofs.Common.{◌≡◌, ◌≤◌, ◌+◌, ◌-◌, ℕ, List, length, take, vec_len}
use Rattle.vw_outside.specs.Told.{absent, held}
use Rattle.vw_outside.proofs.text.read_text.Given as goal

abbrev pub invariant-loop-piece : goal.invariant-loop-piece
invariant-loop-piece g l =
    let seen = g.S.Shelf.seen in
    record {
      front : (bytes : List ℕ) → (seen l.fn.shelf).told l.name ≡ held bytes → (l.text.items ≡ take (length l.text.items) bytes) × (length l.text.items ≤ length bytes);
      present : (seen l.fn.shelf).told l.name ≡ absent → length l.text.items ≡ 0;
      within : length l.text.items ≤ l.limit + 1;
      buffer : length l.piece ≡ 65536;
      same : seen l.shelf ≡ seen l.fn.shelf;
    }

abbrev pub decreases-loop-piece : goal.decreases-loop-piece
decreases-loop-piece g l = l.limit + 1 - vec_len l.text
