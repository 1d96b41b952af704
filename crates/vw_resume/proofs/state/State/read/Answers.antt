use Rattle.std.proofs.Common.{◌≤◌, ◌∙◌, length, sym, subst, true≢false, arith}
use Rattle.vw_resume.specs.States.{Spells}
use Rattle.vw_resume.proofs.ReadBack.{read_is, spelled_is_short}
use Rattle.vw_resume.proofs.state.State.read.Goals as goal

-- no spelling is so long
pub returns-then-bytes-gt-LONGEST_STATE-clause-refuses : goal.returns-then-bytes-gt-LONGEST_STATE-clause-refuses
returns-then-bytes-gt-LONGEST_STATE-clause-refuses c = λ state is.
    let short : length c.args.bytes.now ≤ 70000 = spelled_is_short c.args.bytes.now state is in
    let long = c.if-bytes-gt-LONGEST_STATE.true in
    omega (arith, short, long)

-- what a text spells would have been read of it
pub returns-then-not-branch-clause-refuses : goal.returns-then-not-branch-clause-refuses
returns-then-not-branch-clause-refuses c = λ state is.
    let bytes = c.args.bytes.now in
    let read = c.in_ok-state.state in
    let same = read_is bytes state read is c.in_ok-state.ensures.clock c.in_ok-state.ensures.latches in
    true≢false (sym (c.in_ok-is_spelled_by.ensures.1 (subst (Spells bytes) (sym same) is)) ∙ c.if-not-branch.true)
