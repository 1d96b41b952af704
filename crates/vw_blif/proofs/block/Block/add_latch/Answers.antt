use Rattle.std.proofs.Common.{ℕ, Some, sym, ◌∙◌, ap}
use Rattle.std.proofs.lemmas.Result.{err_from_is_err_and}
use Rattle.vw_blif.specs.declared.fault.TextFault.TheVariants.{BadWords}
use Rattle.vw_blif.proofs.ItemSteps.{latch_miscounted, latch_refused, items_more, latch_taken}
use Rattle.vw_blif.proofs.block.Block.add_latch.Goals as goal

pub returns-then-words-lt2-clause-refuses : goal.returns-then-words-lt2-clause-refuses
returns-then-words-lt2-clause-refuses c = λ before told is.
    latch_miscounted c.args.line.now _ c.further-words.ensures before told.open_ c.requires c.then-words-lt2.either
    ∙ ap (λ (n : ℕ). Some (BadWords n)) (sym c.number.ensures)

pub latch_of-requires-clause-few : goal.latch_of-requires-clause-few
latch_of-requires-clause-few c = c.if-words-gt5.false

pub latch_of-requires-clause-some : goal.latch_of-requires-clause-some
latch_of-requires-clause-some c = c.if-words-lt2.false

pub returns-in_err-latch-clause-refuses : goal.returns-in_err-latch-clause-refuses
returns-in_err-latch-clause-refuses c =
    let says = rw c.number-2.ensures at c.in_err-latch.ensures.fault in
    let p = err_from_is_err_and c.from_residual-in_err-latch.result c.from_residual-in_err-latch.ensures.1 in
    rw (p.1, p.2) (λ before told. latch_refused c.args.line.now _ c.further-words.ensures before told.open_ c.requires c.if-words-lt2.false c.if-words-gt5.false c.in_err-latch.field-0.0 says)

pub returns-clause-takes : goal.returns-clause-takes
returns-clause-takes c =
    let closes = c.in_ok-close.ensures in
    let ports = closes.ports in
    let more = items_more c.args.self.now c.close.new.self c.push.new.self.items c.in_ok-latch.latch closes c.in_ok-push.ensures.items in
    let fine = rw c.further-words.ensures at c.in_ok-latch.ensures in
    let some = rw c.further-words.ensures at c.if-words-lt2.false in
    let few = rw c.further-words.ensures at c.if-words-gt5.false in
    latch_taken c.args.self.now _ c.in_ok-latch.latch c.args.line.now (record { ports = record { name = ports.name; inputs = ports.inputs; outputs = ports.outputs; clocks = ports.clocks }; items = more; table_ = closes.table_ }) c.requires some few
    (rw c.number-2.ensures at fine.item) fine.fine.0 fine.fine.1
