use Rattle.std.proofs.Common.{◌≡◌, ◌≤◌, ◌+◌, ◌^◌, max, map, min, slice_index, refl, rules, arith}
use Rattle.vw_net.specs.Lists.{greatest}
use Rattle.vw_bound.specs.Given.{design_in}
use Rattle.vw_bound.specs.Times.{read_by}
use Rattle.vw_short_bound.proofs.SoonestNets.{greater_soonest, last_soonest, row_soonest}
use Rattle.vw_short_bound.proofs.soonest.time_of_gate.Goals as goal

-- what it reads is there no sooner
pub returns-then-not-is_counted-clause-soonest : goal.returns-then-not-is_counted-clause-soonest
returns-then-not-is_counted-clause-soonest c =
    let placed = design_in c.args.placed.now in
    let node = slice_index c.args.placed.now.chip_of.now c.args.number in
    let least : c.min-last.result ≡ min c.last_read.result (2 ^ 62) = search rules in
    let low : c.min-last.result ≤ greatest (map (read_by placed (slice_index c.args.soon.now) node) c.args.ins.now) = omega (arith, least, c.last_read.ensures) in
    last_soonest placed c.args.number node c.args.ins.now c.requires.gate refl c.args.soon.now c.min-last.result c.requires.soon low

-- nor before what it waits for has come over the pins
pub returns-clause-soonest : goal.returns-clause-soonest
returns-clause-soonest c =
    let placed = design_in c.args.placed.now in
    let flat = c.args.placed.now.ordered.now.flat in
    let node = slice_index c.args.placed.now.chip_of.now c.args.number in
    let least : c.min-last.result ≡ min c.last_read.result (2 ^ 62) = search rules in
    let low : c.min-last.result ≤ greatest (map (read_by placed (slice_index c.args.soon.now) node) c.args.ins.now) = omega (arith, least, c.last_read.ensures) in
    let last = last_soonest placed c.args.number node c.args.ins.now c.requires.gate refl c.args.soon.now c.min-last.result c.requires.soon low in
    let most = row_soonest placed c.args.number node c.args.ins.now c.requires.gate refl c.args.inlets.now.nets c.args.row.now c.in_ok-most.most c.requires.row c.in_ok-most.ensures in
    let short : c.min.result ≡ min c.in_ok-most.most (2 ^ 62) = search rules in
    let greater : c.max.result ≡ max c.min-last.result c.min.result = search rules in
    greater_soonest placed (flat.inputs + c.args.number) c.min-last.result c.in_ok-most.most c.max.result (omega (arith, short, greater)) last most
