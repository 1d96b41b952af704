-- nothing is found yet
use Rattle.std.proofs.Common.{◌≡◌, [], drop}
use Rattle.vw_net_faults.specs.Steps.Wanted.{wanted_among}
use Rattle.vw_net_faults.proofs.search.Search.output_among.Given as goal

abbrev pub invariant-loop-name : goal.invariant-loop-name
invariant-loop-name l = wanted_among l.self.nets.now.design.now l.self.wanted.now [] (drop l.name-index l.names) ≡ wanted_among l.self.nets.now.design.now l.self.wanted.now [] l.names
