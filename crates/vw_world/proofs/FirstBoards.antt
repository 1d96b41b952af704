-- A board before any action.
use Rattle.std.proofs.Common.{◌≡◌, ◌<◌, ◌≤◌, ◌+◌, ◌∷◌, ◌++◌, ◌⊎◌, ℕ, zero, suc, List, [], length, map, drop, get_or, slice_get, ap, ap₂, refl, sym, subst, ◌∙◌, ⊎_elim, inl, inr, Some, arith}
use Rattle.std.proofs.lemmas.Bool.{cases_lt}
use Rattle.std.proofs.lemmas.List.{append-nil, drop_all, get_or-map, get_or_append_left, get_or_push, length-map, length_push, map-append}
use Rattle.std.proofs.lemmas.Option.{get_or_from_slice_get, slice_get-get_or, slice_get_within}
use Rattle.vw_plan.specs.declared.link.Link.{Link}
use Rattle.vw_prog.specs.declared.job.Job.{Job}
use Rattle.vw_prog.specs.declared.job.Share.{Share}
use Rattle.vw_prog.specs.declared.word.Word.{Word}
use Rattle.vw_node.specs.declared.node.Node.{Node}
use Rattle.vw_node.specs.Fits.{FitsJob, IsShare, state_of}
use Rattle.vw_node.specs.Lists.{tabulate}
use Rattle.vw_node.specs.Made.{IsMade}
use Rattle.vw_node.specs.States.{NodeState, start_state}
use Rattle.vw_node.proofs.Values.{length-tabulate, tabulate_more}
use Rattle.vw_world.specs.Boards.{AreEnds, AreNodes, IsBoard, world_of}
use Rattle.vw_world.specs.Kept.{IsKept}
use Rattle.vw_world.specs.Lanes.{AreLanes, IsLane, SeenLane, SeenLanes, ends_of, fresh_lane, fresh_lanes, lane_at, lane_words}
use Rattle.vw_world.specs.Worlds.{WorldState, link_at, start_world}
use Rattle.vw_world.proofs.KeptWorlds.{start_kept, start_sent, start_taken, there_is}

module _ (job : Job) where
  -- ---- links

  fresh_at : (link : ℕ) → link < length job.checked.board.links → lane_at (fresh_lanes job).lanes link ≡ fresh_lane (link_at job link)
  fresh_at link below =
      get_or-map fresh_lane job.checked.board.links link (link_at job link) (record { words = []; sent = 0; taken = 0; full = 0; empty = 0; room = 0 }) below
      ∙ ap fresh_lane (get_or_from_slice_get job.checked.board.links link (link_at job link) (link_at job link) (there_is job link below))

  pub fresh_are : AreLanes (fresh_lanes job)
  fresh_are = record {
    count = length-map job.checked.board.links fresh_lane;
    each = λ link within.
        let below : link < length job.checked.board.links = omega (arith, within, length-map job.checked.board.links fresh_lane) in
        subst (IsLane job link) (sym (fresh_at link below)) (record { order = omega arith; within = omega arith; content = refl; room = refl });
  }

  pub fresh_words : lane_words (fresh_lanes job).lanes ≡ tabulate (λ link. []) (length job.checked.board.links)
  fresh_words = by job.checked.board.links where
    first_more : (count : ℕ) → tabulate {A = List Word} (λ link. []) (suc count) ≡ [] ∷ tabulate {A = List Word} (λ link. []) count
    first_more zero = refl
    first_more (suc count) = ap (λ (lists : List (List Word)). lists ++ [] ∷ []) (first_more count)

    by : (links : List Link) → lane_words (map fresh_lane links) ≡ tabulate (λ link. []) (length links)
    by [] = refl
    by (link ∷ links) = ap (λ (lists : List (List Word)). [] ∷ lists) (by links) ∙ sym (first_more (length links))

  pub made_lanes : (links : List Link) (lanes : List SeenLane) (done : ℕ) → links ≡ job.checked.board.links
      → lanes ++ map fresh_lane (drop done links) ≡ map fresh_lane links → length links ≤ done → lanes ≡ (fresh_lanes job).lanes
  made_lanes links lanes done links_are made all =
      sym (append-nil lanes) ∙ ap (λ (rest : List Link). lanes ++ map fresh_lane rest) (sym (drop_all done links all)) ∙ made ∙ ap (map fresh_lane) links_are

  -- ---- nodes

  no_place : (node : ℕ) (there : Node) → slice_get [] node ≡ Some there → node < 0
  no_place node there is = slice_get_within [] node there is

  pub no_nodes : AreNodes job 0 []
  no_nodes = record {
    numbers = λ node there is. absurd (omega (arith, no_place node there is));
    fits = λ node there is. absurd (omega (arith, no_place node there is));
    states = refl;
  }

  -- one node more
  pub node_more : (node : ℕ) (nodes new : List Node) (one : Node) (share : Share)
      → AreNodes job node nodes → length nodes ≡ node → new ≡ nodes ++ one ∷ []
      → share.node ≡ node → IsShare job share → IsMade share one → AreNodes job (node + 1) new
  node_more node nodes new one share are long new_is number its made = subst (AreNodes job (node + 1)) (sym new_is) whole where
    state : state_of one ≡ start_state job node
    state = made.starts job its ∙ ap (start_state job) number

    here : (other : ℕ) (there : Node) → slice_get (nodes ++ one ∷ []) other ≡ Some there
        → (slice_get nodes other ≡ Some there) ⊎ ((other ≡ node) × (there ≡ one))
    here other there is =
        let within = slice_get_within (nodes ++ one ∷ []) other there is in
        let at : get_or (nodes ++ one ∷ []) other there ≡ there = get_or_from_slice_get (nodes ++ one ∷ []) other there there is in
        let if_before = λ (before : other < length nodes).
        let old : get_or nodes other there ≡ there = sym (get_or_append_left nodes (one ∷ []) there other before) ∙ at in
        let listed = slice_get-get_or nodes other there before ∙ ap Some old in
        let answer : (slice_get nodes other ≡ Some there) ⊎ ((other ≡ node) × (there ≡ one)) = inl listed in answer in
        let if_last = λ (past : length nodes ≤ other).
        let same : length nodes ≡ other = omega (arith, past, within, length_push nodes one) in
        let its : there ≡ one = sym at ∙ get_or_push nodes one there other same in
        let answer : (slice_get nodes other ≡ Some there) ⊎ ((other ≡ node) × (there ≡ one)) = inr (sym same ∙ long, its) in answer in
        ⊎_elim if_before if_last (cases_lt other (length nodes))

    own_number : (other : ℕ) (there : Node) → (other ≡ node) × (there ≡ one) → there.share.node ≡ other
    own_number other there own =
        ap (λ (any : Node). any.share.node) own.1 ∙ ap (λ (any : Share). any.node) made.same ∙ number ∙ sym own.0

    own_fits : (other : ℕ) (there : Node) → (other ≡ node) × (there ≡ one) → FitsJob job there
    own_fits other there own = subst (FitsJob job) (sym own.1) (made.fits job its)

    whole : AreNodes job (node + 1) (nodes ++ one ∷ [])
    whole = record {
      numbers = λ other there is. ⊎_elim (are.numbers other there) (own_number other there) (here other there is);
      fits = λ other there is. ⊎_elim (are.fits other there) (own_fits other there) (here other there is);
      states = map-append state_of nodes (one ∷ [])
          ∙ ap₂ (λ (states : List NodeState) (last : NodeState). states ++ last ∷ []) are.states state
          ∙ sym (tabulate_more (start_state job) node);
    }

  -- ---- both

  pub first_board : (nodes : List Node) (all : SeenLanes) → AreNodes job (suc job.checked.board.chips) nodes → all ≡ fresh_lanes job
      → (world_of nodes all ≡ start_world job) × IsBoard job nodes all
  first_board nodes all are is = subst (λ (one : SeenLanes). (world_of nodes one ≡ start_world job) × IsBoard job nodes one) (sym is) whole where
    world_is : world_of nodes (fresh_lanes job) ≡ start_world job
    world_is = λ i. record { nodes = are.states i; links = fresh_words i }

    start_ends : AreEnds job (start_world job) 0 (ends_of (fresh_lanes job))
    start_ends = record {
      same_job = refl;
      same_node = refl;
      told = refl;
      sent = λ link within. let below = low link within in ap (λ (lane : SeenLane). lane.sent) (fresh_at link below) ∙ sym (start_sent job link below);
      taken = λ link within. let below = low link within in ap (λ (lane : SeenLane). lane.taken) (fresh_at link below) ∙ sym (start_taken job link below);
      room = λ link within. ap (λ (lane : SeenLane). lane.room) (fresh_at link (low link within));
    } where
      low : (link : ℕ) → link < length (start_world job).links → link < length job.checked.board.links
      low link within = omega (arith, within, length-tabulate {A = List Word} (λ link. []) (length job.checked.board.links))

    whole : (world_of nodes (fresh_lanes job) ≡ start_world job) × IsBoard job nodes (fresh_lanes job)
    whole = (
      world_is,
      record {
        same = refl;
        numbers = are.numbers;
        fits = are.fits;
        kept = subst (IsKept job) (sym world_is) (start_kept job);
        ends = subst (λ (one : WorldState). AreEnds job one 0 (ends_of (fresh_lanes job))) (sym world_is) start_ends;
      },
    )
