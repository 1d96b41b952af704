use Rattle.std.proofs.Common.{ℕ, List, Option, subst, sym}
use Rattle.vw_merge.specs.Merging.{SameThere}
use Rattle.vw_merge.proofs.Carried.{other_carries}
use Rattle.vw_merge.proofs.merging.Merging.take_over.Goals as goal

-- it has the value of the other, and so of where that leads
pub returns : goal.returns
returns c = record {
  first = c.requires.merging.first;
  gates = c.requires.merging.gates;
  carries = other_carries c.args.flat.now c.args.self.now.gates.items c.args.self.now.to.items _ c.args.net c.args.other c.same_net-same.result c.requires.merging.carries
      (λ value its there new is. rw is at (c.same_net-same.ensures value its (subst (λ (to : List (Option ℕ)). SameThere to value its) (sym c.deref.ensures.value) there)))
      c.requires.same c.set_net.ensures;
}
