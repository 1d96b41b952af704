-- nothing is found yet
use Rattle.std.proofs.Common.{◌≡◌, Some, slice_get, drop}
use Rattle.vw_design.specs.Paths.{Path}
use Rattle.vw_design.specs.Preorder.{instances}
use Rattle.vw_drivers.specs.Tables.{instance_firsts}
use Rattle.vw_net_faults.specs.Steps.Items.{AreNumbersOf}
use Rattle.vw_net_faults.specs.Steps.Wanted.{wanted_among}
use Rattle.vw_net_faults.proofs.search.Search.first_among.Given as goal

abbrev pub invariant-loop-place : goal.invariant-loop-place
invariant-loop-place l = (path : Path) → slice_get (instances l.self.nets.now.design.now) l.instance ≡ Some path → AreNumbersOf (instance_firsts l.self.nets.now.tables.now l.instance) l.names l.numbers
    → wanted_among l.self.nets.now.design.now l.self.wanted.now path (drop l.place l.names) ≡ wanted_among l.self.nets.now.design.now l.self.wanted.now path l.names
