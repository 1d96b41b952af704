use Rattle.std.proofs.Common.{◌≡◌, ◌∙◌, List, Bool, length, map, true, ap, arith}
use Rattle.std.proofs.lemmas.List.{length-map, take_all}
use Rattle.std.proofs.lemmas.Result.{err_from_is_err_and}
use Rattle.vw_trace.specs.Triggers.{but_last}
use Rattle.vw_trace.proofs.RecordedBatches.{fits_front}
use Rattle.vw_trace.proofs.TriggeredBatches.{no_clocks, wrote_end, wrote_end_part, wrote_open, wrote_open_part}
use Rattle.vw_trace.proofs.trigger.write_until.Given.{Over}
use Rattle.vw_trace.proofs.trigger.write_until.Goals as goal
use Rattle.vw_trace.proofs.trigger.write_until.Goals.{In_ok-shown-in-None}

pub returns-in_err-write_last-in-Some : goal.returns-in_err-write_last-in-Some
returns-in_err-write_last-in-Some g c =
    let p = err_from_is_err_and c.from_residual.result c.from_residual.ensures.1 in
    rw (p.1, p.2) (wrote_end_part c.in-Some.ensures.fires c.in_err-write_last-in-Some.ensures)

pub returns-in_ok-write_last-in-Some : goal.returns-in_ok-write_last-in-Some
returns-in_ok-write_last-in-Some g c = wrote_end c.in-Some.ensures.fires c.in_ok-write_last-in-Some.ensures

pub returns-in_err-shown-in-None : goal.returns-in_err-shown-in-None
returns-in_err-shown-in-None g c =
    let p = err_from_is_err_and c.from_residual-in_err-shown-in-None.result c.from_residual-in_err-shown-in-None.ensures.1 in
    rw (p.1, p.2) (no_clocks true)

pub write_batch-requires : goal.write_batch-requires
write_batch-requires g c =
    fits_front c.len.result c.requires (omega (arith, c.len.ensures)) c.in_ok-shown-in-None.ensures.outputs c.in_ok-shown-in-None.ensures.states

-- all clocks are shown
all_outputs : (g : Over) (c : In_ok-shown-in-None g) → c.in_ok-shown-in-None.shown.outputs ≡ map but_last c.args.batch.now.outputs
all_outputs g c = c.in_ok-shown-in-None.ensures.outputs ∙ ap (map but_last) (take_all c.len.result c.args.batch.now.outputs (omega (arith, c.len.ensures)))

all_states : (g : Over) (c : In_ok-shown-in-None g) → c.in_ok-shown-in-None.shown.states ≡ c.args.batch.now.states
all_states g c = c.in_ok-shown-in-None.ensures.states ∙ take_all c.len.result c.args.batch.now.states (omega (arith, c.len.ensures, c.requires.count))

pub returns-in_err-write_batch-in-None : goal.returns-in_err-write_batch-in-None
returns-in_err-write_batch-in-None g c =
    let p = err_from_is_err_and c.from_residual-in_err-write_batch-in-None.result c.from_residual-in_err-write_batch-in-None.ensures.1 in
    let at = (goal.at.returns-in_err-write_batch-in-None g c).In_ok-shown-in-None in
    rw (p.1, p.2) (wrote_open_part c.in-None.ensures.fires c.in_ok-shown-in-None.shown (all_outputs g at) (all_states g at) c.in_err-write_batch-in-None.ensures)

pub returns-in_ok-write_batch-in-None : goal.returns-in_ok-write_batch-in-None
returns-in_ok-write_batch-in-None g c =
    let at = (goal.at.returns-in_ok-write_batch-in-None g c).In_ok-shown-in-None in
    let outputs = all_outputs g at in
    wrote_open c.in-None.ensures.fires c.in_ok-shown-in-None.shown outputs (all_states g at) (ap (λ (list : List (List Bool)). length list) outputs ∙ length-map c.args.batch.now.outputs but_last) c.in_ok-write_batch-in-None.ensures
