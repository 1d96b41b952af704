use Rattle.std.proofs.Common.{◌+◌, ◌-◌, ◌∙◌, ℕ, length, not, ap}
use Rattle.vw_net.specs.Gathered.{gather}
use Rattle.vw_fault.specs.declared.open.Open.{Open}
use Rattle.vw_fault.specs.Stuck.{is_detected, net_faults, open_faults}
use Rattle.vw_fault.proofs.ShareCuts.{counts_add, detected_add, lines_of_shares, shares_are_all}
use Rattle.vw_fault.proofs.Texts.{two_each}
use Rattle.vw_fault.proofs.laws.shares_join.Goals as goal

pub returns-clause-faults : goal.returns-clause-faults
returns-clause-faults c = λ last flat. shares_are_all last (gather net_faults (flat.inputs + length flat.cells))

pub returns-clause-lines : goal.returns-clause-lines
returns-clause-lines c = λ last names flat start rows.
    lines_of_shares names (λ (fault : Open). not (is_detected flat start rows fault)) last (gather net_faults (flat.inputs + length flat.cells))

pub returns-clause-counts : goal.returns-clause-counts
returns-clause-counts c = λ last flat.
    let nets = flat.inputs + length flat.cells in
    counts_add last (gather net_faults nets) ∙ two_each nets

pub returns-clause-detected : goal.returns-clause-detected
returns-clause-detected c = λ last flat start rows.
    let nets = flat.inputs + length flat.cells in
    detected_add (λ (fault : Open). not (is_detected flat start rows fault)) last (gather net_faults nets)
    ∙ ap (λ (n : ℕ). n - length (open_faults flat start rows)) (two_each nets)
