use Rattle.std.proofs.Common.{◌∙◌, ◌<◌, ℕ, List, Bool, Some, length, ap, sym, subst}
use Rattle.vw_net.specs.Order.{is_among}
use Rattle.vw_design.specs.Clocks.{clock_ports}
use Rattle.vw_drivers.specs.Firsts.{First}
use Rattle.vw_drivers.specs.Tables.{root_firsts}
use Rattle.vw_net_faults.proofs.ClockFlags.{number_within, among_numbers}
use Rattle.vw_net_faults.proofs.nets.Nets.clock_flags.Goals as goal

pub returns : goal.returns
returns c = λ name number is.
    let design = c.args.self.now.design.now in
    let root = root_firsts c.args.self.now.tables.now in
    let within : number < c.count.result = subst (λ (n : ℕ). number < n) (sym (c.count.ensures ∙ ap (λ (firsts : List First). length firsts) c.root_claims.ensures)) (number_within root name number is) in
    c.in_ok-clock_flags.ensures number within
    ∙ ap (λ (list : List ℕ). Some (is_among list number)) (c.as_slice.ensures.value ∙ c.in_ok-numbers.ensures)
    ∙ ap (λ (b : Bool). Some b) (among_numbers root (clock_ports design) name number is)
