use Rattle.std.proofs.Common.{◌∙◌, ◌≡◌, ◌==◌, ℕ, List, Some, None, not, find, slice_get, ap}
use Rattle.vw_drivers.specs.Tables.{root_firsts}
use Rattle.vw_net_faults.proofs.UnlikePorts.{one_clock, two_clocks}
use Rattle.vw_net_faults.proofs.nets.Nets.several_clocks.Goals as goal

pub returns-in_default-other_port : goal.returns-in_default-other_port
returns-in_default-other_port c =
    let first = c.in-Some.ensures ∙ ap (λ (list : List ℕ). slice_get list 0) c.as_slice.ensures.value in
    let none : None ≡ find (λ (number : ℕ). not (c.in-Some.first == number)) c.in_ok-ports.ports.items =
    c.in_default-other_port.ensures ∙ ap (λ (list : List ℕ). find (λ (number : ℕ). not (c.in-Some.first == number)) list) c.as_slice-2.ensures.value in
    one_clock c.args.self.now.design.now (root_firsts c.args.self.now.tables.now) c.in_ok-ports.ports.items c.in_ok-ports.ensures c.in-Some.first first none

pub returns : goal.returns
returns c =
    let first = c.in-Some.ensures ∙ ap (λ (list : List ℕ). slice_get list 0) c.as_slice.ensures.value in
    let some : Some c.in-Some-other_port.other ≡ find (λ (number : ℕ). not (c.in-Some.first == number)) c.in_ok-ports.ports.items =
    c.in-Some-other_port.ensures ∙ ap (λ (list : List ℕ). find (λ (number : ℕ). not (c.in-Some.first == number)) list) c.as_slice-2.ensures.value in
    two_clocks c.args.self.now.design.now (root_firsts c.args.self.now.tables.now) c.in_ok-ports.ports.items c.in_ok-ports.ensures c.in-Some.first first c.in-Some-other_port.other some
    (λ one two is_one is_two n k is. c.in_ok-pair.ensures one two is_one is_two n k ∙ is)
