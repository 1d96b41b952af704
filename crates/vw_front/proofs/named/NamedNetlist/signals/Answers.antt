use Rattle.std.proofs.Common.{◌≡◌, ◌+◌, ◌++◌, ◌∙◌, List, length, drop, ap, ap₂}
use Rattle.vw_net.specs.declared.cell.Cell.{Cell}
use Rattle.vw_net.specs.declared.flat.Flat.{Flat}
use Rattle.vw_design.specs.Paths.{Word}
use Rattle.vw_front.specs.Steps.LatchNames.{latch_names}
use Rattle.vw_front.proofs.NameLists.{appended_twice}
use Rattle.vw_front.proofs.SignalNames.{signals_are, signals_counted}
use Rattle.vw_front.proofs.named.NamedNetlist.signals.Goals as goal
use Rattle.vw_front.proofs.named.NamedNetlist.signals.Goals.{In_ok-push_latches}

-- the three lists stand behind each other
written : (c : In_ok-push_latches) → let named = c.args.self.now in
    c.push_latches.new.names.items ≡ named.outputs ++ (c.args.probes.now ++ latch_names named.ordered.flat.cells (drop named.ordered.flat.inputs named.nets))
written c =
    let named = c.args.self.now in
    let cells = c.cells.ensures ∙ ap (λ (flat : Flat). flat.cells) c.flat.ensures in
    appended_twice named.outputs c.args.probes.now (latch_names named.ordered.flat.cells (drop named.ordered.flat.inputs named.nets)) c.push_names.new.names.items c.push_names-2.new.names.items c.push_latches.new.names.items
    (c.in_ok-push_names.ensures ∙ ap₂ (λ (front list : List Word). front ++ list) c.new-names.ensures.items c.as_slice.ensures)
    c.in_ok-push_names-2.ensures
    (c.in_ok-push_latches.ensures ∙ ap₂ (λ (made : List Cell) (names : List Word). c.push_names-2.new.names.items ++ latch_names made names) cells c.driven.ensures)

pub returns-clause-names : goal.returns-clause-names
returns-clause-names c = λ watched text is. written (goal.at.returns-clause-names c).In_ok-push_latches ∙ signals_are watched text c.args.self.now is c.args.probes.now

pub returns-clause-count : goal.returns-clause-count
returns-clause-count c = λ watched text is.
    ap (λ (names : List Word). length names + length watched) (written (goal.at.returns-clause-count c).In_ok-push_latches) ∙ signals_counted watched text c.args.self.now is c.args.probes.now
