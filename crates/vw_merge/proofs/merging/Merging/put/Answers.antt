use Rattle.std.proofs.Common.{◌≡◌, ◌∙◌, ℕ, List, true, map, Option, Some, ap, refl, subst, sym, arith}
use Rattle.vw_net.specs.declared.cell.Cell.{Cell}
use Rattle.vw_net.specs.declared.cell.Cell.TheVariants.{Gate}
use Rattle.vw_net.specs.Order.{is_gate}
use Rattle.vw_merge.specs.Merging.{SameThere}
use Rattle.vw_merge.proofs.Carried.{gate_carries}
use Rattle.vw_merge.proofs.ListEnds.{all_more}
use Rattle.vw_merge.proofs.merging.Merging.put.Goals as goal

-- what it reads has the values of the nets that lead there, so its table gives it the net's
pub returns : goal.returns
returns c = record {
  first = c.requires.merging.first;
  gates = all_more (λ (cell : Cell). is_gate (Some cell) ≡ true) c.args.self.now.gates.items c.push.new.self.items (Gate c.of.result c.args.cover) c.requires.merging.gates refl c.in_ok-push.ensures.items;
  carries = gate_carries c.args.flat.now c.args.self.now.gates.items c.args.self.now.to.items _ c.args.net c.in-Some-net_behind.new c.of.result c.args.nets.now c.args.cover c.push.new.self.items c.requires.merging.carries
      (λ value other there. ap (λ (nets : List ℕ). map value nets) c.of.ensures ∙ (rw c.in-Some.is at (c.in_ok-ins.ensures value other (subst (λ (to : List (Option ℕ)). SameThere to value other) (sym c.deref.ensures.value) there))))
      c.requires.its (omega (arith, c.in-Some-net_behind.ensures, c.len.ensures, c.requires.merging.first)) c.set_net.ensures c.in_ok-push.ensures.items;
}
