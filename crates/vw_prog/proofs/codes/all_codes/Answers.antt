use Rattle.std.proofs.Common.{◌∙◌, ◌+◌, List, ℕ, length, ap, subst, arith}
use Rattle.std.proofs.lemmas.List.{length_push}
use Rattle.vw_prog.specs.declared.code.Code.{Code}
use Rattle.vw_prog.specs.declared.entry.Entry.{Entry}
use Rattle.vw_prog.specs.declared.owners.OwnLatch.{OwnLatch}
use Rattle.vw_prog.specs.Coding.{IsCodeOf}
use Rattle.vw_prog.proofs.MadeCodes.{one_more}
use Rattle.vw_prog.proofs.codes.all_codes.Goals as goal

pub loop-node-preserved : goal.loop-node-preserved
loop-node-preserved c = record {
  long = c.in_ok-code.ensures.long ∙ c.loop-node.invariant.long;
  is = c.in_ok-code.ensures.is;
  count = ap (λ (codes : List Code). length codes) c.in_ok-push.ensures.items ∙ length_push c.loop-node.codes.items c.in_ok-code.code ∙ ap (λ (n : ℕ). n + 1) c.loop-node.invariant.count;
  each =
      let made : IsCodeOf c.args.flat.now c.loop-node.node c.index-owned-node.result.items c.index-lists-node.result.items (length c.args.table.now) c.in_ok-code.code =
      subst (λ (count : ℕ). IsCodeOf c.args.flat.now c.loop-node.node c.index-owned-node.result.items c.index-lists-node.result.items count c.in_ok-code.code) c.loop-node.invariant.long
      (subst (λ (entries : List Entry). IsCodeOf c.args.flat.now c.loop-node.node c.index-owned-node.result.items entries (length c.loop-node.table) c.in_ok-code.code) c.as_slice-entries.ensures.value
      (subst (λ (own : List OwnLatch). IsCodeOf c.args.flat.now c.loop-node.node own c.as_slice-entries.result.now (length c.loop-node.table) c.in_ok-code.code) c.as_slice-own.ensures.value c.in_ok-code.ensures.made)) in
      one_more c.args.flat.now c.args.owned.now c.args.lists.now (length c.args.table.now) c.loop-node.node c.loop-node.codes.items c.push.new.self.items c.in_ok-code.code c.index-owned-node.result c.index-lists-node.result
      c.loop-node.invariant.count c.loop-node.invariant.each c.in_ok-push.ensures.items (omega (arith, c.loop-node-test.true, c.requires.same)) c.loop-node-test.true c.index-owned-node.is c.index-lists-node.is made;
}
