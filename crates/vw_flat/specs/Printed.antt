-- The net that a cell drives, as it is printed.
use Rattle.vw_design.specs.Paths.{Word, printed}
use Rattle.vw_design.specs.NetReads.{net_at, driven_name}
use Rattle.vw_design.specs.Preorder.{Site}

abbrev pub printed_site : Site → Word
printed_site site = printed (net_at site.path (driven_name site.item))
