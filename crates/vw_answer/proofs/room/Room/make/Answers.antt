use Rattle.std.proofs.Common.{◌≡◌, ◌∙◌, List, Bool, false, length, replicate, ap, subst, sym, All, arith}
use Rattle.std.proofs.lemmas.List.{length-replicate}
use Rattle.std.proofs.lemmas.List.Elements.{All-replicate}
use Rattle.vw_net.specs.Cells.{latch_count}
use Rattle.vw_answer.proofs.DoneNodes.{no_last, no_latches}
use Rattle.vw_answer.proofs.room.Room.make.Goals as goal

pub returns : goal.returns
returns c =
    let job = c.args.job.now in
    let wide = latch_count job.checked.ordered.flat.cells in
    let row = replicate c.len.result false in
    let long : length row ≡ wide = length-replicate c.len.result false ∙ omega (arith, c.len.ensures, ap (λ (bits : List Bool). length bits) c.share-share.ensures.start, job.all_latches) in
    record {
      latches = no_latches job c.in_ok-latches.latches
          (ap (λ (rows : List (List Bool)). length rows) c.in_ok-latches.ensures ∙ length-replicate c.share-share.result.clocks row ∙ c.share-share.ensures.clocks)
          (subst (All (λ bits. length bits ≡ wide)) (sym c.in_ok-latches.ensures) (All-replicate (λ bits. length bits ≡ wide) c.share-share.result.clocks row long));
      last = no_last job c.of-last.result (omega (arith, ap (λ (bits : List Bool). length bits) c.of-last.ensures, c.in_ok-vec.ensures.len, c.len-2.ensures, ap (λ (bits : List Bool). length bits) c.share-share.ensures.start, job.all_latches, c.in_ok-vec.field-0.ok));
    }
