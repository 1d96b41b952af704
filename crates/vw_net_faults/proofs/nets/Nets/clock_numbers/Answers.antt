use Rattle.std.proofs.Common.{◌∙◌, ◌++◌, ℕ, List, ap₂, filter_map}
use Rattle.vw_design.specs.Paths.{Word}
use Rattle.vw_drivers.specs.Firsts.{First, number_named}
use Rattle.vw_drivers.specs.Tables.{root_firsts}
use Rattle.vw_net_faults.proofs.ClockFlags.{clock_numbers}
use Rattle.vw_net_faults.proofs.nets.Nets.clock_numbers.Goals as goal

pub returns : goal.returns
returns c =
    let design = c.args.self.now.design.now in
    let root = root_firsts c.args.self.now.tables.now in
    c.in_ok-extend_from_slice.ensures.items
    ∙ ap₂ (λ (one other : List ℕ). one ++ other) (c.in_ok-numbers.ensures ∙ ap₂ (λ (firsts : List First) (names : List Word). filter_map (number_named firsts) names) c.root_claims.ensures c.clocks.ensures) c.as_slice.ensures.value
    ∙ clock_numbers design c.root.result.now c.root.ensures (number_named root) c.in_ok-ports.ports.items c.in_ok-ports.ensures
