-- What a node that goes on makes of the world.
use Rattle.std.proofs.Common.{◌≡◌, ◌<◌, ◌≤◌, ◌+◌, ◌∷◌, ◌++◌, ℕ, zero, suc, List, [], length, get_or, set, ap, refl, sym, subst, ◌∙◌, arith}
use Rattle.std.proofs.lemmas.List.{get_or-set_same, length-set}
use Rattle.vw_prog.specs.declared.job.Job.{Job}
use Rattle.vw_prog.specs.Ends.{SeenEnds}
use Rattle.vw_node.specs.declared.step.Step.{Step}
use Rattle.vw_node.specs.declared.step.Step.TheVariants.{Moved}
use Rattle.vw_node.specs.Holding.{HoldsValues}
use Rattle.vw_node.specs.Left.{left}
use Rattle.vw_node.specs.Moves.{Goes, MakesActions, Steps}
use Rattle.vw_node.specs.States.{NodeState}
use Rattle.vw_node.proofs.MovesOn.{less_left}
use Rattle.vw_world.specs.Able.{IsAble}
use Rattle.vw_world.specs.Boards.{AreEnds}
use Rattle.vw_world.specs.Kept.{IsKept}
use Rattle.vw_world.specs.Worlds.{WorldState, happens, node_at, played}
use Rattle.vw_world.proofs.KeptWorlds.{played_kept}
use Rattle.vw_world.proofs.Turns.{ends_then, nodes_are, refused_same, same_nodes}

pub played_more : (job : Job) (world : WorldState) (events : List ℕ) (node : ℕ)
    → played job world (events ++ node ∷ []) ≡ happens job (played job world events) node
played_more job world [] node = refl
played_more job world (event ∷ events) node = played_more job (happens job world event) events node

pub played_on : (job : Job) (world : WorldState) (events later : List ℕ) → played job world (events ++ later) ≡ played job (played job world events) later
played_on job world [] later = refl
played_on job world (event ∷ events) later = played_on job (happens job world event) events later

set_twice : {A : Type 0} (xs : List A) (place : ℕ) (one two : A) → set (set xs place one) place two ≡ set xs place two
set_twice [] place one two = refl
set_twice (x ∷ xs) zero one two = refl
set_twice (x ∷ xs) (suc place) one two = ap (λ (rest : List _). x ∷ rest) (set_twice xs place one two)

module _ (job : Job) (world : WorldState) (kept : IsKept job world) (node : ℕ) (inside : node < length world.nodes)
    (before : SeenEnds) (are : AreEnds job world node before) where
  abbrev state : NodeState
  state = node_at world node

  abbrev no_state : NodeState
  no_state = record { clock = 0; made = 0; slots = []; rows = [] }

  -- the node made so many actions of its own
  pub record Gone (between : NodeState) (ends : SeenEnds) (count : ℕ) : Type 0 where
    pub events : List ℕ
    pub nodes : (played job world events).nodes ≡ set world.nodes node between
    pub are_ends : AreEnds job (played job world events) node ends
    pub less : left job node between + count ≡ left job node state

  module _ (between : NodeState) (ends : SeenEnds) (count : ℕ) (gone : Gone between ends count) where
    abbrev pub now : WorldState
    now = played job world gone.events

    pub kept_now : IsKept job now
    kept_now = played_kept job world gone.events kept

    pub inside_now : node < length now.nodes
    inside_now = omega (arith, inside, ap (λ (nodes : List NodeState). length nodes) gone.nodes, length-set world.nodes node between)

    pub own_now : node_at now node ≡ between
    own_now = ap (λ (nodes : List NodeState). get_or nodes node no_state) gone.nodes ∙ get_or-set_same world.nodes node between no_state inside

    holds_now : HoldsValues job node between
    holds_now = subst (HoldsValues job node) own_now (kept_now.nodes node inside_now)

    module _ (answer : Step) (new : NodeState) (after : SeenEnds) (steps : Steps job node between new ends after answer) where
      steps_now : Steps job node (node_at now node) new ends after answer
      steps_now = subst (λ (one : NodeState). Steps job node one new ends after answer) (sym own_now) steps

      nodes_then : (happens job now node).nodes ≡ set world.nodes node new
      nodes_then =
          nodes_are job now kept_now node inside_now ends gone.are_ends answer new after steps_now
          ∙ ap (λ (nodes : List NodeState). set nodes node new) gone.nodes
          ∙ set_twice world.nodes node between new

      ends_next : AreEnds job (happens job now node) node after
      ends_next = ends_then job now kept_now node inside_now ends gone.are_ends answer new after steps_now

      more : (happens job now node) ≡ played job world (gone.events ++ node ∷ [])
      more = sym (played_more job world gone.events node)

      pub step_gone : (many : ℕ) → left job node new + many ≡ left job node state → Gone new after many
      step_gone many less = record {
        events = gone.events ++ node ∷ [];
        nodes = sym (ap (λ (one : WorldState). one.nodes) more) ∙ nodes_then;
        are_ends = subst (λ (one : WorldState). AreEnds job one node after) more ends_next;
        less = less;
      }

  goes_gone : (count : ℕ) (between : NodeState) (ends : SeenEnds) → MakesActions job node state between before ends count → Gone between ends count
  goes_gone zero between ends (same, stay) = record {
    events = [];
    nodes = same_nodes job world kept node inside before are between same;
    are_ends = subst (AreEnds job world node) (sym stay) are;
    less = omega (arith, ap (left job node) same);
  }
  goes_gone (suc count) new after (between, ends, moves, steps) =
      let gone = goes_gone count between ends moves in
      let one = less_left job node between new ends after steps (holds_now between ends count gone) in
      step_gone between ends count gone Moved new after steps (suc count) (omega (arith, one, gone.less))

  -- what it comes to: the world after some events; no more actions are to come, and where as many are, nothing has changed and
  -- the node can't act
  pub record Went (new : NodeState) (after : SeenEnds) : Type 0 where
    pub events : List ℕ
    pub nodes : (played job world events).nodes ≡ set world.nodes node new
    pub are_ends : AreEnds job (played job world events) node after
    pub less : left job node new ≤ left job node state
    pub still : left job node new ≡ left job node state → (played job world events ≡ world) × (IsAble job world node → ⊥)

  pub went : (new : NodeState) (after : SeenEnds) (answer : Step) → Goes job node state new before after answer → Went new after
  went new after answer goes = by goes.count goes.moves where
    by : (count : ℕ) → MakesActions job node state goes.between before goes.ends count → Went new after
    by zero (same, stay) =
        let from_before = subst (λ (one : SeenEnds). Steps job node goes.between new one after answer) stay goes.last in
        let steps : Steps job node state new before after answer = subst (λ (one : NodeState). Steps job node one new before after answer) same from_before in
        let refused = refused_same job world kept node inside before are answer new after goes.stops steps in
        record {
          events = node ∷ [];
          nodes = nodes_are job world kept node inside before are answer new after steps;
          are_ends = ends_then job world kept node inside before are answer new after steps;
          less = omega (arith, ap (left job node) refused.0);
          still = λ same_left. refused.1;
        }
    by (suc count) moves =
        let gone = goes_gone (suc count) goes.between goes.ends moves in
        let here = now goes.between goes.ends (suc count) gone in
        let kept_here = kept_now goes.between goes.ends (suc count) gone in
        let inside_here = inside_now goes.between goes.ends (suc count) gone in
        let steps = steps_now goes.between goes.ends (suc count) gone answer new after goes.last in
        let refused = refused_same job here kept_here node inside_here goes.ends gone.are_ends answer new after goes.stops steps in
        let same : left job node new ≡ left job node goes.between = ap (left job node) (refused.0 ∙ own_now goes.between goes.ends (suc count) gone) in
        let all = step_gone goes.between goes.ends (suc count) gone answer new after goes.last (suc count) (omega (arith, same, gone.less)) in
        record {
          events = all.events;
          nodes = all.nodes;
          are_ends = all.are_ends;
          less = omega (arith, all.less);
          still = λ same_left. absurd (omega (arith, same_left, all.less));
        }
