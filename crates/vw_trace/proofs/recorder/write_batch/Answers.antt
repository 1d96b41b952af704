use Rattle.std.proofs.Common.{refl}
use Rattle.std.proofs.lemmas.Result.{err_from_is_err_and}
use Rattle.vw_trace.proofs.RecordedBatches.{lines_written, no_lines}
use Rattle.vw_trace.proofs.recorder.write_batch.Goals as goal

pub returns-in_err-lines : goal.returns-in_err-lines
returns-in_err-lines g c =
    let p = err_from_is_err_and c.from_residual.result c.from_residual.ensures.1 in
    rw (p.1, p.2) no_lines

pub returns : goal.returns
returns g c = lines_written c.put_text.result c.in_ok-lines.lines.items c.in_ok-lines.ensures.text c.in_ok-lines.ensures.silent c.in_ok-lines.ensures.stands (c.put_text.ensures c.in_ok-lines.lines.items refl)
