use Rattle.std.proofs.lemmas.Result.{err_from_is_err_and}
use Rattle.vw_elab.proofs.elaboration.parts_of.Goals as goal

pub returns-in_err-targets : goal.returns-in_err-targets
returns-in_err-targets c =
    let p = err_from_is_err_and c.from_residual.result c.from_residual.ensures.1 in
    rw (p.1, p.2) (record { parts = tt; refused = c.in_err-targets.ensures })

pub returns-in_err-parts : goal.returns-in_err-parts
returns-in_err-parts c =
    let p = err_from_is_err_and c.from_residual-in_err-parts.result c.from_residual-in_err-parts.ensures.1 in
    rw (p.1, p.2) (record { parts = tt; refused = tt })

pub returns : goal.returns
returns c = record { parts = c.in_ok-parts.ensures; refused = tt }
