-- Where the sites of an instance stand, by its entry.
use Rattle.std.proofs.Common.{◌≡◌, ◌<◌, ◌+◌, ◌-◌, ℕ, suc, List, ◌++◌, Some, length, slice_get, ⊎_elim, sym, ◌∙◌, ap, arith}
use Rattle.std.proofs.lemmas.Bool.{cases_lt}
use Rattle.std.proofs.lemmas.Option.{same_Some, none-some}
use Rattle.vw_design.specs.declared.design.Design.{Design}
use Rattle.vw_design.specs.Paths.{Path}
use Rattle.vw_design.specs.Preorder.{Site, sites_below, sites, instances}
use Rattle.vw_design.specs.Limits.{IsSmall, weight_of}
use Rattle.vw_design.specs.Counts.{placed_one, cell_one}
use Rattle.vw_design.proofs.ShallowDesigns.{shallow}
use Rattle.vw_instances.specs.declared.tables.ListedInstance.{ListedInstance}
use Rattle.vw_instances.specs.Tables.{ArePlaced, IsEntryAt}

pub record StandsBehind (design : Design) (path : Path) (cells number : ℕ) : Type 0 where
  pub before : List Site
  pub after : List Site
  pub split : sites design ≡ before ++ (sites_below design (suc (64 + length design.models - length path)) path ++ after)
  pub cells_before : cells ≡ weight_of cell_one before
  pub number_is : number ≡ weight_of placed_one before

module _ (design : Design) (table : List ListedInstance) (small : IsSmall design) (are : ArePlaced design table) (number : ℕ) (path : Path) (listed : slice_get (instances design) number ≡ Some path) where
  pub stands_behind : (entry : ListedInstance) → slice_get table number ≡ Some entry → StandsBehind design path entry.cells number
  stands_behind entry at =
      let found = are.each number path listed in
      let is : IsEntryAt design (instances design) number path found.0 = found.2 in
      let same : found.0 ≡ entry = same_Some found.0 entry (sym found.1 ∙ at) in
      let short : length path < 64 = ⊎_elim (λ low. low) (λ deep. absurd (none-some is.model (sym ((shallow design small.depth).shallow path deep) ∙ is.stands))) (cases_lt (length path) 64) in
      let levels : 65 + length design.models - length path ≡ suc (64 + length design.models - length path) = omega arith in
      record {
        before = is.at.before;
        after = is.at.after;
        split = is.at.split ∙ ap (λ (depth : ℕ). is.at.before ++ (sites_below design depth path ++ is.at.after)) levels;
        cells_before = ap (λ (e : ListedInstance). e.cells) (sym same) ∙ is.at.cells_before;
        number_is = is.at.number_is;
      }

  pub stands_somewhere : (entry : ListedInstance) × StandsBehind design path entry.cells number
  stands_somewhere = let found = are.each number path listed in (found.0, stands_behind found.0 found.1)
