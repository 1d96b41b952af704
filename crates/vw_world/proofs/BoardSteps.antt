-- The nodes and links in memory after a node of them has gone on: they stand for the world after its events.
use Rattle.std.proofs.Common.{◌≡◌, ◌<◌, ◌≤◌, ◌+◌, ◌∷◌, ◌⊎◌, ℕ, zero, suc, List, [], length, map, take, drop, get_or, set, slice_get, ap, ap₂, refl, sym, subst, ◌∙◌, ⊎_elim, inl, inr, Some, arith}
use Rattle.std.proofs.lemmas.Bool.{cases_eq}
use Rattle.std.proofs.lemmas.List.{get_or-map, get_or-set_other, get_or-set_same, length-map, length-set, map-set}
use Rattle.std.proofs.lemmas.Option.{get_or_from_slice_get, slice_get-get_or, slice_get_within}
use Rattle.vw_prog.specs.declared.job.Job.{Job}
use Rattle.vw_prog.specs.declared.job.Share.{Share}
use Rattle.vw_prog.specs.Scripts.{script}
use Rattle.vw_node.specs.declared.node.Node.{Node}
use Rattle.vw_node.specs.declared.step.Step.{Step}
use Rattle.vw_node.specs.Fits.{FitsJob, state_of}
use Rattle.vw_node.specs.Left.{left}
use Rattle.vw_node.specs.Moves.{Goes, Steps}
use Rattle.vw_node.specs.Positions.{Agrees}
use Rattle.vw_node.specs.States.{NodeState}
use Rattle.vw_answer.proofs.SameLists.{same_lists}
use Rattle.vw_world.specs.Able.{IsAble}
use Rattle.vw_world.specs.Boards.{AreEnds, IsBoard, lefts, world_of}
use Rattle.vw_world.specs.Kept.{IsKept, sent_at, taken_at}
use Rattle.vw_world.specs.Lanes.{AreLanes, SeenLane, SeenLanes, ends_of, lane_words}
use Rattle.vw_world.specs.Worlds.{WorldState, happens, node_at, played}
use Rattle.vw_world.proofs.Goings.{Went, went}
use Rattle.vw_world.proofs.KeptWorlds.{event_kept, played_kept}
use Rattle.vw_world.proofs.Turns.{agree, ends_then, nodes_are}

-- how many actions are to come, after the state of one node was set
lefts_set : (job : Job) (first : ℕ) (states : List NodeState) (place : ℕ) (new default : NodeState) → place < length states
    → lefts job first (set states place new) + left job (first + place) (get_or states place default) ≡ lefts job first states + left job (first + place) new
lefts_set job first [] place new default within = absurd (omega (arith, within))
lefts_set job first (state ∷ states) zero new default within =
    let same : first + zero ≡ first = omega arith in
    omega (arith, ap (λ (node : ℕ). left job node state) same, ap (λ (node : ℕ). left job node new) same)
lefts_set job first (state ∷ states) (suc place) new default within =
    let same : first + suc place ≡ suc first + place = omega arith in
    let left_then = ap (λ (node : ℕ). left job node new) same in
    let left_before = ap (λ (node : ℕ). left job node (get_or states place default)) same in
    omega (arith, lefts_set job (suc first) states place new default (omega (arith, within)), left_before, left_then)

module _ (job : Job) (nodes : List Node) (all : SeenLanes) (board : IsBoard job nodes all) (node : ℕ) (inside : node < length nodes)
    (turned : SeenLanes) (turned_is : turned ≡ record all { node = node }) (default : Node) where
  abbrev pub there : Node
  there = get_or nodes node default

  abbrev world : WorldState
  world = world_of nodes all

  abbrev no_state : NodeState
  no_state = record { clock = 0; made = 0; slots = []; rows = [] }

  is_there : slice_get nodes node ≡ Some there
  is_there = slice_get-get_or nodes node default inside

  number : there.share.node ≡ node
  number = board.numbers node there is_there

  inside_world : node < length world.nodes
  inside_world = omega (arith, inside, length-map nodes state_of)

  state_is : node_at world node ≡ state_of there
  state_is = get_or-map state_of nodes node default no_state inside

  turned_job : turned.job ≡ job
  turned_job = ap (λ (one : SeenLanes). one.job) turned_is ∙ board.same

  turned_ends : AreEnds job world node (ends_of turned)
  turned_ends = subst (λ (one : SeenLanes). AreEnds job world node (ends_of one)) (sym turned_is) (record {
    same_job = board.same;
    same_node = refl;
    told = refl;
    sent = board.ends.sent;
    taken = board.ends.taken;
    room = board.ends.room;
  })

  pub fits_there : FitsJob turned.job there
  fits_there = subst (λ (one : Job). FitsJob one there) (sym turned_job) (board.fits node there is_there)

  agrees_here : Agrees job node (state_of there) (ends_of turned)
  agrees_here =
      let by_world = agree job world board.kept node inside_world (ends_of turned) turned_ends in
      subst (λ (state : NodeState). Agrees job node state (ends_of turned)) state_is by_world

  pub agrees_there : Agrees turned.job there.share.node (state_of there) (ends_of turned)
  agrees_there =
      let by_number = subst (λ (own : ℕ). Agrees job own (state_of there) (ends_of turned)) (sym number) agrees_here in
      subst (λ (one : Job). Agrees one there.share.node (state_of there) (ends_of turned)) (sym turned_job) by_number

  -- ---- the node afterwards

  module _ (new : Node) (after : SeenLanes) (lanes_are : AreLanes after) (share : new.share ≡ there.share) (fits : FitsJob after.job new) where
    abbrev new_nodes : List Node
    new_nodes = set nodes node new

    -- a world in which the node has this state, and with which these ends agree, is the one in memory
    module _ (then_world : WorldState) (kept : IsKept job then_world)
        (nodes_so : then_world.nodes ≡ set world.nodes node (state_of new)) (ends : AreEnds job then_world node (ends_of after)) where
      as_many : length after.lanes ≡ length then_world.links
      as_many = lanes_are.count ∙ ap (λ (one : Job). length one.checked.board.links) ends.same_job ∙ sym kept.lines

      each_words : (link : ℕ) → link < length (lane_words after.lanes) → get_or (lane_words after.lanes) link [] ≡ get_or then_world.links link []
      each_words link below =
          let low : link < length after.lanes = omega (arith, below, length-map after.lanes (λ (lane : SeenLane). lane.words)) in
          let high : link < length then_world.links = omega (arith, low, as_many) in
          let lane = lanes_are.each link low in
          let no_lane : SeenLane = record { words = []; sent = 0; taken = 0; full = 0; empty = 0; room = 0 } in
          get_or-map (λ (lane : SeenLane). lane.words) after.lanes link no_lane [] low
          ∙ lane.content
          ∙ ap₂ (λ (sent taken : ℕ). drop taken (take sent (script after.job link))) (ends.sent link high) (ends.taken link high)
          ∙ ap (λ (one : Job). drop (taken_at job then_world link) (take (sent_at job then_world link) (script one link))) ends.same_job
          ∙ sym (kept.links link high).content

      pub world_is : world_of new_nodes after ≡ then_world
      world_is =
          let states : map state_of new_nodes ≡ then_world.nodes = map-set state_of nodes node new ∙ sym nodes_so in
          let count = length-map after.lanes (λ (lane : SeenLane). lane.words) ∙ as_many in
          let links : lane_words after.lanes ≡ then_world.links = same_lists (lane_words after.lanes) then_world.links [] count each_words in
          λ i. record { nodes = states i; links = links i }

      -- a node is the new one, or one of before
      abbrev IsOwnOrOld : ℕ → Node → Type 0
      IsOwnOrOld other one = ((other ≡ node) × (one ≡ new)) ⊎ (slice_get nodes other ≡ Some one)

      set_at : (other : ℕ) (one : Node) → slice_get new_nodes other ≡ Some one → IsOwnOrOld other one
      set_at other one is =
          let within : other < length new_nodes = slice_get_within new_nodes other one is in
          let here : get_or new_nodes other one ≡ one = get_or_from_slice_get new_nodes other one one is in
          let if_same = λ (same : other ≡ node).
          let its : one ≡ new = sym here ∙ ap (λ (place : ℕ). get_or new_nodes place one) same ∙ get_or-set_same nodes node new one inside in
          let whole : IsOwnOrOld other one = inl (same, its) in whole in
          let if_other = λ (apart : other ≡ node → ⊥).
          let its : get_or nodes other one ≡ one = sym (get_or-set_other nodes node other new one apart) ∙ here in
          let old = slice_get-get_or nodes other one (omega (arith, within, length-set nodes node new)) in
          let whole : IsOwnOrOld other one = inr (old ∙ ap Some its) in whole in
          ⊎_elim if_same if_other (cases_eq other node)

      numbers_then : (other : ℕ) (one : Node) → slice_get new_nodes other ≡ Some one → one.share.node ≡ other
      numbers_then other one is = ⊎_elim if_own (board.numbers other one) (set_at other one is) where
        if_own : (other ≡ node) × (one ≡ new) → one.share.node ≡ other
        if_own own = ap (λ (any : Node). any.share.node) own.1 ∙ ap (λ (any : Share). any.node) share ∙ number ∙ sym own.0

      fits_then : (other : ℕ) (one : Node) → slice_get new_nodes other ≡ Some one → FitsJob job one
      fits_then other one is = ⊎_elim if_own (board.fits other one) (set_at other one is) where
        if_own : (other ≡ node) × (one ≡ new) → FitsJob job one
        if_own own = subst (FitsJob job) (sym own.1) (subst (λ (any : Job). FitsJob any new) ends.same_job fits)

      pub board_is : IsBoard job new_nodes after
      board_is = record {
        same = ends.same_job;
        numbers = numbers_then;
        fits = fits_then;
        kept = subst (IsKept job) (sym world_is) kept;
        ends = subst (λ (one : WorldState). AreEnds job one after.node (ends_of after)) (sym world_is) (record {
          same_job = ends.same_job;
          same_node = refl;
          told = refl;
          sent = ends.sent;
          taken = ends.taken;
          room = ends.room;
        });
      }

    -- ---- by one step

    module _ (answer : Step) (steps : Steps turned.job there.share.node (state_of there) (state_of new) (ends_of turned) (ends_of after) answer) where
      steps_here : Steps job node (node_at world node) (state_of new) (ends_of turned) (ends_of after) answer
      steps_here = subst (λ (state : NodeState). Steps job node state (state_of new) (ends_of turned) (ends_of after) answer) (sym state_is)
          (subst (λ (own : ℕ). Steps job own (state_of there) (state_of new) (ends_of turned) (ends_of after) answer) number
          (subst (λ (one : Job). Steps one there.share.node (state_of there) (state_of new) (ends_of turned) (ends_of after) answer) turned_job steps))

      pub stepped_board : IsBoard job new_nodes after × (world_of new_nodes after ≡ happens job world node)
      stepped_board =
          let kept = event_kept job world node board.kept in
          let then_world = happens job world node in
          let nodes_so = nodes_are job world board.kept node inside_world (ends_of turned) turned_ends answer (state_of new) (ends_of after) steps_here in
          let ends = ends_then job world board.kept node inside_world (ends_of turned) turned_ends answer (state_of new) (ends_of after) steps_here in
          let whole : IsBoard job new_nodes after × (world_of new_nodes after ≡ happens job world node) =
          (board_is then_world kept nodes_so ends, world_is then_world kept nodes_so ends) in whole

    -- ---- by many

    module _ (answer : Step) (goes : Goes turned.job there.share.node (state_of there) (state_of new) (ends_of turned) (ends_of after) answer) where
      goes_here : Goes job node (node_at world node) (state_of new) (ends_of turned) (ends_of after) answer
      goes_here = subst (λ (state : NodeState). Goes job node state (state_of new) (ends_of turned) (ends_of after) answer) (sym state_is)
          (subst (λ (own : ℕ). Goes job own (state_of there) (state_of new) (ends_of turned) (ends_of after) answer) number
          (subst (λ (one : Job). Goes one there.share.node (state_of there) (state_of new) (ends_of turned) (ends_of after) answer) turned_job goes))

      all_of_it : Went job world board.kept node inside_world (ends_of turned) turned_ends (state_of new) (ends_of after)
      all_of_it = went job world board.kept node inside_world (ends_of turned) turned_ends (state_of new) (ends_of after) answer goes_here

      then_kept : IsKept job (played job world all_of_it.events)
      then_kept = played_kept job world all_of_it.events board.kept

      -- how many actions are to come, and how many were
      abbrev lefts_then : ℕ
      lefts_then = lefts job 0 (map state_of new_nodes)

      abbrev lefts_before : ℕ
      lefts_before = lefts job 0 (map state_of nodes)

      counts : lefts_then + left job node (node_at world node) ≡ lefts_before + left job node (state_of new)
      counts =
          let states = map state_of nodes in
          let same : 0 + node ≡ node = omega arith in
          let one_set = lefts_set job 0 states node (state_of new) no_state inside_world in
          let left_before = ap (λ (one : ℕ). left job one (node_at world node)) same in
          let left_then = ap (λ (one : ℕ). left job one (state_of new)) same in
          let set_counts : lefts job 0 (set states node (state_of new)) + left job node (node_at world node) ≡ lefts_before + left job node (state_of new) =
          omega (arith, one_set, left_before, left_then) in
          ap (λ (states : List NodeState). lefts job 0 states + left job node (node_at world node)) (map-set state_of nodes node new) ∙ set_counts

      pub went_board : IsBoard job new_nodes after
      went_board = board_is (played job world all_of_it.events) then_kept all_of_it.nodes all_of_it.are_ends

      pub went_leads : (events : List ℕ) × (world_of new_nodes after ≡ played job world events)
      went_leads = (all_of_it.events, world_is (played job world all_of_it.events) then_kept all_of_it.nodes all_of_it.are_ends)

      pub went_less : lefts job 0 (map state_of new_nodes) ≤ lefts job 0 (map state_of nodes)
      went_less = omega (arith, counts, all_of_it.less)

      pub went_still : lefts job 0 (map state_of new_nodes) ≡ lefts job 0 (map state_of nodes)
          → (world_of new_nodes after ≡ world) × (IsAble job world node → ⊥)
      unfolding went_leads all_of_it
      went_still same =
          let both = all_of_it.still (omega (arith, same, counts)) in
          let whole : (world_of new_nodes after ≡ world) × (IsAble job world node → ⊥) = (went_leads.1 ∙ both.0, both.1) in whole
