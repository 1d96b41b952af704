-- One copy more.
use Rattle.std.proofs.Common.{◌≡◌, ◌<◌, ◌++◌, ◌∷◌, [], Bool, List, length, sym, ◌∙◌, ap, arith}
use Rattle.std.proofs.lemmas.List.{length-append}
use Rattle.vw_rows.specs.Stimulus.{last_row}
use Rattle.vw_rows.proofs.LastRows.{copy_given, last_row-append}
use Rattle.vw_rows.proofs.batch.Batch.give_copies.Goals as goal

pub loop-self-preserved : goal.loop-self-preserved
loop-self-preserved c =
    let was = c.loop-self.self in
    let kept = c.loop-self.invariant in
    let row = c.in_ok-row.row.items in
    let some : 0 < was.owed = omega (c.loop-self-test.true, arith) in
    let room : length was.rows < was.wanted = omega (c.if-len-self.true, c.len.ensures, arith) in
    let pushed : c.push.new.self ≡ was.rows ++ row ∷ [] = c.in_ok-push.ensures.pushed ∙ ap (λ (bits : List Bool). was.rows ++ bits ∷ []) c.deref.ensures.value in
    record {
      all = copy_given c.args.before.now row was.rows c.push.new.self was.owed some kept.row pushed ∙ kept.all;
      within = omega (room, ap (λ (rows : List (List Bool)). length rows) pushed, length-append was.rows (row ∷ []), arith);
      row = sym (ap (last_row c.args.before.now) pushed ∙ last_row-append c.args.before.now was.rows (row ∷ []));
      places = record { scan = kept.places.scan; at = kept.places.at; read = kept.places.read; wanted = kept.places.wanted };
    }
