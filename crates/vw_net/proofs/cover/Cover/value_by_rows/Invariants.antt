-- what is left of the rows decides
use Rattle.std.proofs.Common.{◌≡◌, drop}
use Rattle.std.specs.List.{list_any}
use Rattle.vw_net.specs.Steps.Masks.{is_matched}
use Rattle.vw_net.proofs.cover.Cover.value_by_rows.Given as goal

abbrev pub invariant-loop-masks : goal.invariant-loop-masks
invariant-loop-masks l = list_any (is_matched l.place) (drop l.masks-index l.masks-items) ≡ list_any (is_matched l.place) l.masks-items
