use Rattle.std.proofs.Common.{ℕ, Some, sym, ◌∙◌, ap}
use Rattle.std.proofs.lemmas.Result.{err_from_is_err_and}
use Rattle.vw_blif.specs.declared.fault.TextFault.TheVariants.{BadWords}
use Rattle.vw_blif.proofs.ItemSteps.{place_miscounted, place_refused, items_more, place_taken}
use Rattle.vw_blif.proofs.block.Block.add_place.Goals as goal

pub returns-then-is_empty-clause-refuses : goal.returns-then-is_empty-clause-refuses
returns-then-is_empty-clause-refuses c = λ before told is.
    place_miscounted c.args.line.now _ c.further-words.ensures before told.open_ c.requires c.if-is_empty.ensures
    ∙ ap (λ (n : ℕ). Some (BadWords n)) (sym c.number.ensures)

pub returns-in_err-place-clause-refuses : goal.returns-in_err-place-clause-refuses
returns-in_err-place-clause-refuses c =
    let says = rw c.number-2.ensures at c.in_err-place.ensures.fault in
    let p = err_from_is_err_and c.from_residual-in_err-place.result c.from_residual-in_err-place.ensures.1 in
    rw (p.1, p.2) (λ before told. place_refused c.args.line.now _ c.further-words.ensures before told.open_ c.requires c.if-is_empty.ensures c.in_err-place.field-0.0 says)

pub returns-clause-takes : goal.returns-clause-takes
returns-clause-takes c =
    let closes = c.in_ok-close.ensures in
    let ports = closes.ports in
    let more = items_more c.args.self.now c.close.new.self c.push.new.self.items c.in_ok-place.place closes c.in_ok-push.ensures.items in
    let fine = rw c.further-words.ensures at c.in_ok-place.ensures in
    place_taken c.args.self.now _ c.in_ok-place.place c.args.line.now (record { ports = record { name = ports.name; inputs = ports.inputs; outputs = ports.outputs; clocks = ports.clocks }; items = more; table_ = closes.table_ }) c.requires
    (rw c.further-words.ensures at c.if-is_empty.ensures) (rw c.number-2.ensures at fine.item) fine.fine
