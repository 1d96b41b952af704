use Rattle.std.proofs.Common.{sym}
use Rattle.vw_board.proofs.LinkReads.{reads_more}
use Rattle.vw_board.proofs.link_lines.read_links.Goals as goal

pub loop-line-preserved : goal.loop-line-preserved
loop-line-preserved c =
    let reads = rw c.deref.ensures.value at c.in_ok-read_link.ensures.fine in
    rw c.in_ok-push.ensures.items (reads_more _ _ _ _ _ c.line-item.result c.in_ok-read_link.field-0 c.loop-line-test.true (sym c.line-item.is) c.loop-line.invariant reads)
