use Rattle.std.proofs.Common.{[], List, refl, sym, ◌∙◌, ap}
use Rattle.vw_design.specs.Distinct.{has_name, are_distinct}
use Rattle.vw_blif.specs.declared.block.Block.{Block}
use Rattle.vw_design.specs.Paths.{Word}
use Rattle.vw_blif.specs.Steps.Blocks.{block_made}
use Rattle.vw_blif.specs.Steps.Names.{opened}
use Rattle.vw_blif.proofs.ReaderSteps.{Ended, closed_made, ended-some, ended-none}
use Rattle.vw_blif.proofs.reader.Reader.end.Goals as goal
use Rattle.vw_blif.proofs.reader.Reader.end.Goals.{Joined-block, in-Some+in_ok-close+in_ok-push, in_default}

block_ended : (c : Joined-block) → Ended c.args.self.models.items (opened c.args.self.block) c.match-block.models.items
block_ended c =
    let old = c.args.self in
    elim c.match-block.branch [
      | in-Some+in_ok-close+in_ok-push w ↦
          let made = λ (b : Block). block_made b [] in
          ended-some old.models.items c.match-block.models.items w.into_model.result w.in-Some.block.value (opened old.block) (ap opened w.in-Some.is)
          (w.into_model.ensures.model ∙ ap made w.into_inner.ensures ∙ closed_made _ _ w.in_ok-close.ensures ∙ ap made w.deref_mut.ensures.value) w.into_model.ensures.well_made
          (ap (λ v. v.items) w.models-is ∙ w.in_ok-push.ensures.items)
      | in_default w ↦ ended-none old.models.items c.match-block.models.items (opened old.block) (ap opened w.in_default.is) (ap (λ v. v.items) w.models-is)
    ]

pub invariant_of-result : goal.invariant_of-result
invariant_of-result c =
    let all = block_ended c in
    record {
      knows = λ word. c.args.self.knows word ∙ ap (λ (names : List Word). has_name names word) (sym all.names);
      distinct = ap are_distinct all.names ∙ c.args.self.distinct;
      well_made = all.well_made c.args.self.well_made;
    }

pub returns : goal.returns
returns c = let all = block_ended ((goal.at.returns c).Joined-block) in record { made = all.made; names = all.names; block = refl }
