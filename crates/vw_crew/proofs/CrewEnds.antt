-- What a crew that is through has told.
use Rattle.std.proofs.Common.{◌≡◌, ◌<◌, ◌++◌, ◌∷◌, ◌/◌, ◌%◌, ℕ, suc, Bool, List, [], length, get_or, slice_get, ap, ap₂, refl, sym, subst, ◌∙◌, Option, Some, rules}
use Rattle.std.specs.Prelude.{option_map, unwrap_or}
use Rattle.std.specs.Option.{option_and_then}
use Rattle.vw_prog.specs.declared.job.Job.{Job}
use Rattle.vw_prog.specs.Fabric.{Carried}
use Rattle.vw_prog.specs.Scripts.{script}
use Rattle.vw_node.specs.declared.node.Node.{Node}
use Rattle.vw_answer.specs.Answers.{IsFinished}
use Rattle.vw_crew.specs.Groups.{SeenGroup, group_node}
use Rattle.vw_crew.specs.Laying.{AreThrough, HasSameNodes, IsCrew, carried_on}
use Rattle.vw_crew.proofs.Carried.{carried_all}
use Rattle.vw_crew.proofs.CrewStays.{finished}
use Rattle.vw_crew.proofs.NoScripts.{no_script}

-- each link's script has come to what it carried
pub all_carried : (job : Job) (carried : Carried) → carried_on job (length job.checked.board.links) (λ link. length (script job link)) carried ≡ option_map (λ words. λ link. words link ++ script job link) carried
all_carried job carried = carried_all job (λ link. length (script job link)) (length job.checked.board.links) carried (λ number below. refl) (λ number past. no_script job number past)

-- node 0 is the first of the first group
pub host_first : (groups : List SeenGroup) (group : SeenGroup) (node : Node) → (there : Node) × (group_node groups 0 ≡ Some there) → group ≡ get_or groups 0 group → slice_get group.nodes 0 ≡ Some node → group_node groups 0 ≡ Some node
host_first [] group node has is here = let none = has.1 in cc
host_first (first ∷ groups) group node has is here =
    let place : 0 / length (first ∷ groups) ≡ 0 = search rules in
    let rest : 0 % length (first ∷ groups) ≡ 0 = search rules in
    ap₂ (λ (at number : ℕ). option_and_then (λ (own : SeenGroup). slice_get own.nodes at) (slice_get (first ∷ groups) number)) place rest
    ∙ ap (λ (own : SeenGroup). slice_get own.nodes 0) (sym is)
    ∙ here

module _ (job : Job) (keeps : Bool) (groups new : List SeenGroup) (crew : IsCrew job keeps groups) (done : AreThrough job groups) (same : HasSameNodes groups new) (number : ℕ) (inside : number < suc job.checked.board.chips) where
  -- the node with a number is still there
  pub node_there : (node : Node) × (group_node new number ≡ Some node)
  node_there = let had = (crew.all number inside).0 in (had.0, same number ∙ had.1)

  module _ (node : Node) (is : group_node new number ≡ Some node) where
    was : group_node groups number ≡ Some node
    was = sym (same number) ∙ is

    pub number_is : node.share.node ≡ number
    number_is = (crew.nodes number node was).1

    pub node_finished : IsFinished job node
    node_finished =
        let had = (crew.all number inside).0 in
        let its : had.0 ≡ node = ap (λ (found : Option Node). unwrap_or found node) (sym had.1 ∙ was) in
        subst (IsFinished job) its (finished job keeps groups crew done number inside)
