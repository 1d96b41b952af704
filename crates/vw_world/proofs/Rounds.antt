-- A round of all nodes, and rounds up to the end.
use Rattle.std.proofs.Common.{◌≡◌, ◌<◌, ◌≤◌, ◌+◌, ◌∷◌, ◌++◌, ℕ, Bool, false, List, [], length, map, take, drop, get_or, nat_lt, slice_get, if◌then◌else◌, ap, refl, sym, subst, ◌∙◌, ⊎_elim, Some, arith}
use Rattle.std.proofs.lemmas.Bool.{cases_lt, le-ltb}
use Rattle.std.proofs.lemmas.List.{append-nil, drop_all, drop_more, get_or-map, length-map, take_all}
use Rattle.std.proofs.lemmas.Option.{get_or_from_slice_get, slice_get-get_or, slice_get_within}
use Rattle.vw_prog.specs.declared.job.Job.{Job}
use Rattle.vw_node.specs.declared.node.Node.{Node}
use Rattle.vw_node.specs.Fits.{state_of}
use Rattle.vw_node.specs.States.{NodeState, next_action}
use Rattle.vw_world.specs.Able.{IsAble, IsUnfinished}
use Rattle.vw_world.specs.Boards.{IsBoard, lefts, world_of}
use Rattle.vw_world.specs.Lanes.{SeenLanes}
use Rattle.vw_world.specs.Worlds.{WorldState, acts, happens, node_at, played}
use Rattle.vw_world.proofs.Goings.{played_on}
use Rattle.vw_world.proofs.NeverStuck.{some_able}

-- how many actions are to come of some nodes
abbrev pub lefts_of : Job → List Node → ℕ
lefts_of job nodes = lefts job 0 (map state_of nodes)

-- no node with a number below a given one can act
abbrev pub NoneAble : Job → WorldState → ℕ → Type 0
NoneAble job world done = (node : ℕ) → node < done → IsAble job world node → ⊥

-- the nodes with numbers below `done` have gone on, from a world on
pub record IsRound (job : Job) (start : WorldState) (nodes : List Node) (all : SeenLanes) (done : ℕ) : Type 0 where
  pub board : IsBoard job nodes all
  pub leads : (events : List ℕ) × (world_of nodes all ≡ played job start events)
  pub count : length nodes ≡ length start.nodes
  pub less : lefts job 0 (map state_of nodes) ≤ lefts job 0 start.nodes
  pub still : lefts job 0 (map state_of nodes) ≡ lefts job 0 start.nodes → (world_of nodes all ≡ start) × NoneAble job start done

-- a node has gone on
pub record HasGoneOn (job : Job) (nodes : List Node) (all : SeenLanes) (node : ℕ) (new : List Node) (after : SeenLanes) : Type 0 where
  pub board : IsBoard job new after
  pub leads : (events : List ℕ) × (world_of new after ≡ played job (world_of nodes all) events)
  pub count : length new ≡ length nodes
  pub less : lefts job 0 (map state_of new) ≤ lefts job 0 (map state_of nodes)
  pub still : lefts job 0 (map state_of new) ≡ lefts job 0 (map state_of nodes)
      → (world_of new after ≡ world_of nodes all) × (IsAble job (world_of nodes all) node → ⊥)

-- some rounds
pub record IsFinishing (job : Job) (start : WorldState) (nodes : List Node) (all : SeenLanes) : Type 0 where
  pub board : IsBoard job nodes all
  pub leads : (events : List ℕ) × (world_of nodes all ≡ played job start events)
  pub count : length nodes ≡ length start.nodes

module _ (job : Job) where
  pub not_begun : (nodes : List Node) (all : SeenLanes) → IsBoard job nodes all → IsFinishing job (world_of nodes all) nodes all
  not_begun nodes all board = record { board = board; leads = ([], refl); count = sym (length-map nodes state_of) }

  -- a round more
  pub finishing_more : (start : WorldState) (nodes new : List Node) (all after : SeenLanes) → IsFinishing job start nodes all → IsBoard all.job new after
      → (events : List ℕ) × (world_of new after ≡ played all.job (world_of nodes all) events) → length new ≡ length nodes → IsFinishing job start new after
  finishing_more start nodes new all after so_far board leads count =
      let same = so_far.board.same in
      let led : world_of new after ≡ played job (world_of nodes all) leads.0 = leads.1 ∙ ap (λ (one : Job). played one (world_of nodes all) leads.0) same in
      record {
        board = subst (λ (one : Job). IsBoard one new after) same board;
        leads = (
          so_far.leads.0 ++ leads.0,
          led ∙ ap (λ (one : WorldState). played job one leads.0) so_far.leads.1 ∙ sym (played_on job start so_far.leads.0 leads.0),
        );
        count = count ∙ so_far.count;
      }

  pub no_round : (nodes : List Node) (all : SeenLanes) → IsBoard job nodes all → IsRound job (world_of nodes all) nodes all 0
  no_round nodes all board = record {
    board = board;
    leads = ([], refl);
    count = sym (length-map nodes state_of);
    less = omega arith;
    still = λ same.
        let whole : (world_of nodes all ≡ world_of nodes all) × NoneAble job (world_of nodes all) 0 = (refl, λ node below. absurd (omega (arith, below))) in
        whole;
  }

  -- one node more
  pub round_more : (start : WorldState) (nodes new : List Node) (all after : SeenLanes) (node : ℕ) → IsRound job start nodes all node
      → HasGoneOn all.job nodes all node new after → IsRound job start new after (node + 1)
  round_more start nodes new all after node round gone_on =
      let gone : HasGoneOn job nodes all node new after = subst (λ (one : Job). HasGoneOn one nodes all node new after) round.board.same gone_on in
      record {
        board = gone.board;
        leads = (
          round.leads.0 ++ gone.leads.0,
          gone.leads.1 ∙ ap (λ (one : WorldState). played job one gone.leads.0) round.leads.1 ∙ sym (played_on job start round.leads.0 gone.leads.0),
        );
        count = gone.count ∙ round.count;
        less = omega (arith, gone.less, round.less);
        still = λ same.
            let own : lefts job 0 (map state_of new) ≡ lefts job 0 (map state_of nodes) = omega (arith, same, gone.less, round.less) in
            let before : lefts job 0 (map state_of nodes) ≡ lefts job 0 start.nodes = omega (arith, same, own) in
            let one = gone.still own in
            let all_before = round.still before in
            let none : NoneAble job start (node + 1) = λ other below able.
            let if_before = λ (sooner : other < node). all_before.1 other sooner able in
            let if_last = λ (last : node ≤ other).
            let its : other ≡ node = omega (arith, last, below) in
            one.1 (subst (λ (world : WorldState). IsAble job world node) (sym all_before.0) (subst (IsAble job start) its able)) in
            ⊎_elim if_before if_last (cases_lt other node) in
            let whole : (world_of new after ≡ start) × NoneAble job start (node + 1) = (one.0 ∙ all_before.0, none) in whole;
      }

  -- a whole round makes an action, where a node has clocks to come
  pub round_acts : (nodes new : List Node) (all after : SeenLanes) (done : ℕ) → IsBoard job nodes all
      → IsRound job (world_of nodes all) new after done → length new ≤ done
      → (node : ℕ) × IsUnfinished job (world_of nodes all) node → lefts job 0 (map state_of new) < lefts job 0 (map state_of nodes)
  round_acts nodes new all after done board round over some =
      let able = some_able job (world_of nodes all) board.kept some.0 some.1 in
      let if_less = λ (less : lefts job 0 (map state_of new) < lefts job 0 (map state_of nodes)). less in
      let if_same = λ (past : lefts job 0 (map state_of nodes) ≤ lefts job 0 (map state_of new)).
      let same : lefts job 0 (map state_of new) ≡ lefts job 0 (map state_of nodes) = omega (arith, past, round.less) in
      absurd ((round.still same).1 able.0 (omega (arith, able.1.0, round.count, over)) able.1) in
      ⊎_elim if_less if_same (cases_lt (lefts job 0 (map state_of new)) (lefts job 0 (map state_of nodes)))

  -- a node that hasn't finished so many clocks is unfinished
  pub unfinished : (nodes : List Node) (all : SeenLanes) → IsBoard job nodes all → (node : ℕ) (there : Node) → slice_get nodes node ≡ Some there
      → (there.clock ≡ length job.rows → ⊥) → (one : ℕ) × IsUnfinished job (world_of nodes all) one
  unfinished nodes all board node there is differs =
      let within : node < length nodes = slice_get_within nodes node there is in
      let inside : node < length (map state_of nodes) = omega (arith, within, length-map nodes state_of) in
      let here = get_or_from_slice_get nodes node there there is in
      let state : node_at (world_of nodes all) node ≡ state_of there = get_or-map state_of nodes node there _ within ∙ ap state_of here in
      let clock : (node_at (world_of nodes all) node).clock ≡ there.clock = ap (λ (one : NodeState). one.clock) state in
      let upto = (board.kept.nodes node inside).within in
      let whole : (one : ℕ) × IsUnfinished job (world_of nodes all) one = (node, (inside, omega (arith, clock, upto, differs))) in whole

-- ---- events

-- what is left of some events leads to where all of them lead
pub record IsPlaying (job : Job) (goal : WorldState) (many : ℕ) (nodes : List Node) (all : SeenLanes) (events : List ℕ) : Type 0 where
  pub board : IsBoard job nodes all
  pub state : played job (world_of nodes all) events ≡ goal
  pub count : length nodes ≡ many

module _ (job : Job) (goal : WorldState) (many : ℕ) (nodes : List Node) (all : SeenLanes) (events : List ℕ)
    (place node : ℕ) (within : place < length events) (at : node ≡ get_or events place node)
    (playing : IsPlaying job goal many nodes all (drop place events)) where
  next_first : drop place events ≡ node ∷ drop (place + 1) events
  next_first = drop_more events place node within ∙ ap (λ (one : ℕ). one ∷ drop (place + 1) events) (sym at)

  -- a world that this event leads to leads on to the goal by the later ones
  later_state : (world : WorldState) → world ≡ happens job (world_of nodes all) node → played job world (drop (place + 1) events) ≡ goal
  later_state world is =
      ap (λ (one : WorldState). played job one (drop (place + 1) events)) is
      ∙ sym (ap (played job (world_of nodes all)) next_first)
      ∙ playing.state

  pub event_played : (new : List Node) (after : SeenLanes) → IsBoard all.job new after → world_of new after ≡ happens all.job (world_of nodes all) node
      → length new ≡ length nodes → IsPlaying job goal many new after (drop (place + 1) events)
  event_played new after board is count =
      let same = playing.board.same in
      record {
        board = subst (λ (one : Job). IsBoard one new after) same board;
        state = later_state (world_of new after) (is ∙ ap (λ (one : Job). happens one (world_of nodes all) node) same);
        count = count ∙ playing.count;
      }

  pub none_played : length nodes ≤ node → IsPlaying job goal many nodes all (drop (place + 1) events)
  none_played past =
      let world = world_of nodes all in
      let acted = acts job world node (node_at world node) (next_action job node (node_at world node)) in
      let none : nat_lt node (length world.nodes) ≡ false = le-ltb node (length world.nodes) (omega (arith, past, length-map nodes state_of)) in
      let stays : happens job world node ≡ world = ap (λ (there : Bool). if there then acted else world) none in
      record { board = playing.board; state = later_state world (sym stays); count = playing.count }

-- all of a `Vec`, written back from a slice of it
pub whole_slice : {A : Type 0} (new items : List A) (len : ℕ) → length new ≡ length items → len ≡ length items → take len (new ++ drop (length new) items) ≡ new
whole_slice new items len same long =
    let none : drop (length new) items ≡ [] = drop_all (length new) items (omega (arith, same)) in
    ap (λ (rest : List _). take len (new ++ rest)) none ∙ ap (take len) (append-nil new) ∙ take_all len new (omega (arith, same, long))

-- all nodes are done
pub all_done : (job : Job) (nodes : List Node) (all : SeenLanes) (clocks : ℕ) → clocks ≡ length job.rows
    → ((node : ℕ) (there : Node) → slice_get nodes node ≡ Some there → there.clock ≡ clocks)
    → (node : ℕ) → node < length (map state_of nodes) → (node_at (world_of nodes all) node).clock ≡ length job.rows
all_done job [] all clocks is done node within = absurd (omega (arith, within))
all_done job (first ∷ rest) all clocks is done node within =
    let nodes = first ∷ rest in
    let low : node < length nodes = omega (arith, within, length-map nodes state_of) in
    ap (λ (state : NodeState). state.clock) (get_or-map state_of nodes node first _ low)
    ∙ done node (get_or nodes node first) (slice_get-get_or nodes node first low) ∙ is
