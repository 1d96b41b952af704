-- Many actions of a node, and how many it has to come.
use Rattle.std.proofs.Common.{◌≡◌, ◌<◌, ◌+◌, ◌-◌, ◌*◌, ◌∷◌, ℕ, zero, suc, Bool, true, false, List, [], length, map, nat_lt, slice_get, if◌then◌else◌, ap, ap₂, refl, sym, subst, ◌∙◌, ⊎_elim, true≢false, ltb-true, Some, None, arith}
use Rattle.std.proofs.lemmas.Bool.{cases_Bool}
use Rattle.std.proofs.lemmas.List.{length-append, length-map}
use Rattle.std.proofs.lemmas.Option.{slice_get_within}
use Rattle.vw_prog.specs.declared.action.Action.{Action}
use Rattle.vw_prog.specs.declared.action.Action.TheVariants as action
use Rattle.vw_prog.specs.declared.entry.Entry.{Entry}
use Rattle.vw_prog.specs.declared.job.Job.{Job}
use Rattle.vw_prog.specs.declared.job.Share.{Share}
use Rattle.vw_prog.specs.Actions.{action_of, actions}
use Rattle.vw_prog.specs.Ends.{SeenEnds}
use Rattle.vw_prog.specs.Scripts.{planned_of}
use Rattle.vw_prog.specs.Timetable.{entries_at, is_evaluating, is_sending, timetable}
use Rattle.vw_node.specs.declared.node.Node.{Node}
use Rattle.vw_node.specs.declared.step.Step.{Step}
use Rattle.vw_node.specs.declared.step.Step.TheVariants.{Done, Empty, Full, Moved}
use Rattle.vw_node.specs.Fits.{FitsJob, state_of}
use Rattle.vw_node.specs.Holding.{HoldsValues}
use Rattle.vw_node.specs.Left.{left}
use Rattle.vw_node.specs.Moves.{Goes, MakesActions, Makes, MakesSome, Steps, is_moved}
use Rattle.vw_node.specs.Positions.{Agrees}
use Rattle.vw_node.specs.States.{NodeState, next_action}
use Rattle.vw_node.proofs.EntryKinds.{next_entry}

-- the ends are still those of the same job
pub job_stays : (job : Job) (node : ℕ) (old new : NodeState) (before after : SeenEnds) (answer : Step)
    → Steps job node old new before after answer → after.job ≡ before.job
job_stays job node old new before after Moved (next, is, made) = by next made where
  by : (one : Action) → Makes job node old new before after one → after.job ≡ before.job
  by (action.Evaluate gate) does = ap (λ (ends : SeenEnds). ends.job) does.1
  by (action.Send link pin net) does = ap (λ (ends : SeenEnds). ends.job) does.1.ends
  by (action.Take link pin net) (word, is, took) = ap (λ (ends : SeenEnds). ends.job) took.0
  by action.Step does = ap (λ (ends : SeenEnds). ends.job) does.1
job_stays job node old new before after (Full link) (pin, net, is, same, puts) = ap (λ (ends : SeenEnds). ends.job) puts.ends
job_stays job node old new before after (Empty link) (pin, net, is, same, took) = ap (λ (ends : SeenEnds). ends.job) took.0
job_stays job node old new before after Done (is, same, stay) = ap (λ (ends : SeenEnds). ends.job) stay

-- ---- how many are to come

module _ (job : Job) (node : ℕ) (old : NodeState) where
  abbrev own : List Entry
  own = entries_at node (timetable (planned_of job))

  abbrev many : ℕ
  many = length (actions (planned_of job) node)

  many_are : many ≡ length own + 1
  many_are = omega (arith, length-append (map (action_of job.checked.ordered.flat.inputs) own) (action.Step ∷ []), length-map own (action_of job.checked.ordered.flat.inputs))

  -- a clock that isn't over has an action to come
  next_there : (next : Action) → next_action job node old ≡ Some next
      → (old.clock < length job.rows) × (slice_get (actions (planned_of job) node) old.made ≡ Some next)
  next_there next is = by (nat_lt old.clock (length job.rows)) refl is where
    by : (more : Bool) → nat_lt old.clock (length job.rows) ≡ more
        → (if more then slice_get (actions (planned_of job) node) old.made else None) ≡ Some next
        → (old.clock < length job.rows) × (slice_get (actions (planned_of job) node) old.made ≡ Some next)
    by true at there = (ltb-true old.clock (length job.rows) at, there)
    by false at there = cc

  one_less : (clocks count made : ℕ) → made < count → suc (suc clocks * count - (made + 1)) ≡ suc clocks * count - made
  one_less clocks count made within = let opened : suc clocks * count ≡ count + clocks * count = grind arith in omega (arith, opened, within)

  last_less : (clocks count made : ℕ) → count ≡ made + 1 → suc (clocks * count - 0) ≡ suc clocks * count - made
  last_less clocks count made last = let opened : suc clocks * count ≡ count + clocks * count = grind arith in omega (arith, opened, last)

  -- an action that was made is one less to come
  pub less_left : (new : NodeState) (before after : SeenEnds) → Steps job node old new before after Moved → HoldsValues job node old
      → suc (left job node new) ≡ left job node old
  less_left new before after (next, is, made) holds =
      let there = next_there next is in
      let within : old.made < many = slice_get_within (actions (planned_of job) node) old.made next there.1 in
      let clocks : length job.rows - old.clock ≡ suc (length job.rows - (old.clock + 1)) = omega (arith, there.0) in
      let stays = λ (clock : new.clock ≡ old.clock) (count : new.made ≡ old.made + 1).
      ap₂ (λ (one two : ℕ). suc ((length job.rows - one) * many - two)) clock count
      ∙ ap (λ (some : ℕ). suc (some * many - (old.made + 1))) clocks
      ∙ one_less (length job.rows - (old.clock + 1)) many old.made within
      ∙ ap (λ (some : ℕ). some * many - old.made) (sym clocks) in
      let ends = λ (clock : new.clock ≡ old.clock + 1) (count : new.made ≡ 0) (last : many ≡ old.made + 1).
      ap₂ (λ (one two : ℕ). suc ((length job.rows - one) * many - two)) clock count
      ∙ last_less (length job.rows - (old.clock + 1)) many old.made last
      ∙ ap (λ (some : ℕ). some * many - old.made) (sym clocks) in
      by next there.1 made stays ends where
        no_step : (gate net link pin : ℕ) (first second : Bool)
            → action.Step ≡ (if first then action.Evaluate gate else (if second then action.Send link pin net else action.Take link pin net))
            → ⊥
        no_step gate net link pin true second same = cc
        no_step gate net link pin false true same = cc
        no_step gate net link pin false false same = cc

        by : (one : Action) → slice_get (actions (planned_of job) node) old.made ≡ Some one → Makes job node old new before after one
            → ((new.clock ≡ old.clock) → (new.made ≡ old.made + 1) → suc (left job node new) ≡ left job node old)
            → ((new.clock ≡ old.clock + 1) → (new.made ≡ 0) → many ≡ old.made + 1 → suc (left job node new) ≡ left job node old)
            → suc (left job node new) ≡ left job node old
        by (action.Evaluate gate) at does stays ends = stays (ap (λ (state : NodeState). state.clock) does.0) (ap (λ (state : NodeState). state.made) does.0)
        by (action.Send link pin net) at does stays ends = stays (ap (λ (state : NodeState). state.clock) does.0) (ap (λ (state : NodeState). state.made) does.0)
        by (action.Take link pin net) at (word, is, took) stays ends = stays (ap (λ (state : NodeState). state.clock) is) (ap (λ (state : NodeState). state.made) is)
        by action.Step at does stays ends =
            let all : old.made ≡ length own = ⊎_elim (λ found. absurd (no_step (found.0.net - job.checked.ordered.flat.inputs) found.0.net found.0.link found.0.place (is_evaluating found.0) (is_sending found.0) found.1.1)) (λ last. last.0) (next_entry (planned_of job) node old.made holds.under action.Step at) in
            ends (ap (λ (state : NodeState). state.clock) does.0) (ap (λ (state : NodeState). state.made) does.0) (omega (arith, many_are, all))

-- ---- many actions

-- an action before others
pub goes_before : (job : Job) (node : ℕ) (first second last : NodeState) (before between after : SeenEnds) (count : ℕ)
    → Steps job node first second before between Moved → MakesActions job node second last between after count
    → MakesActions job node first last before after (suc count)
goes_before job node first second last before between after zero step (same, stay) =
    (first, before, (refl, refl), subst (λ (state : NodeState). Steps job node first state before after Moved) (sym same) (subst (λ (ends : SeenEnds). Steps job node first second before ends Moved) (sym stay) step))
goes_before job node first second last before between after (suc count) step (state, ends, rest, final) =
    (state, ends, goes_before job node first second state before between ends count step rest, final)

-- actions behind others
pub goes_further : (job : Job) (node : ℕ) (first second last : NodeState) (before between after : SeenEnds) (made count : ℕ)
    → MakesActions job node first second before between made → MakesActions job node second last between after count
    → (all : ℕ) × MakesActions job node first last before after all
goes_further job node first second last before between after made zero start (same, stay) =
    (made, subst (λ (state : NodeState). MakesActions job node first state before after made) (sym same) (subst (λ (ends : SeenEnds). MakesActions job node first second before ends made) (sym stay) start))
goes_further job node first second last before between after made (suc count) start (state, ends, rest, final) =
    let so_far = goes_further job node first second state before between ends made count start rest in
    (suc so_far.0, (state, ends, so_far.1, final))

pub goes_stays : (job : Job) (node : ℕ) (first last : NodeState) (before after : SeenEnds) (count : ℕ)
    → MakesActions job node first last before after count → after.job ≡ before.job
goes_stays job node first last before after zero (same, stay) = ap (λ (ends : SeenEnds). ends.job) stay
goes_stays job node first last before after (suc count) (state, ends, rest, final) = job_stays job node state last ends after Moved final ∙ goes_stays job node first state before ends count rest

-- ---- one action, or none

module _ (job : Job) (node : ℕ) (old new : NodeState) (before after : SeenEnds) (whole : Bool) where
  pub makes_one : Steps job node old new before after Moved → HoldsValues job node old → MakesSome job node old new before after whole Moved
  makes_one steps holds = record {
    one = λ single. steps;
    some = λ moved. (0, (old, before, (refl, refl), steps));
    fewer = λ moved. omega (arith, less_left job node old new before after steps holds);
    none = λ stopped. absurd (true≢false stopped);
  }

  pub makes_none : (answer : Step) → is_moved answer ≡ false → Steps job node old new before after answer → MakesSome job node old new before after whole answer
  makes_none answer is steps = record {
    one = λ single. steps;
    some = λ moved. absurd (true≢false (sym moved ∙ is));
    fewer = λ moved. absurd (true≢false (sym moved ∙ is));
    none = λ stopped. steps;
  }

  -- and some of them, of which there may be one alone
  pub makes_many : (count : ℕ) → 0 < count → (whole ≡ false → count ≡ 1) → MakesActions job node old new before after count
      → left job node new + count ≡ left job node old → MakesSome job node old new before after whole Moved
  makes_many zero some single goes less = absurd (omega (arith, some))
  makes_many (suc count) some single goes less = record {
    one = λ is. only (subst (MakesActions job node old new before after) (single is) goes);
    some = λ moved. (count, goes);
    fewer = λ moved. omega (arith, less);
    none = λ stopped. absurd (true≢false stopped);
  } where
    only : MakesActions job node old new before after 1 → Steps job node old new before after Moved
    only (state, ends, (same, stay), final) = subst (λ (one : NodeState). Steps job node one new before after Moved) same (subst (λ (one : SeenEnds). Steps job node state new one after Moved) stay final)

  pub makes_stays : (answer : Step) → MakesSome job node old new before after whole answer → after.job ≡ before.job
  makes_stays answer makes =
      ⊎_elim (λ (moved : is_moved answer ≡ true). let gone = makes.some moved in goes_stays job node old new before after (suc gone.0) gone.1) (λ (stopped : is_moved answer ≡ false). job_stays job node old new before after answer (makes.none stopped)) (cases_Bool (is_moved answer))

-- ---- until an action is refused

-- a node that made actions, and whose last try came to an answer
pub record IsUnderway (start : Node) (before : SeenEnds) (now : Node) (ends : SeenEnds) (answer : Step) : Type 0 where
  pub fits : FitsJob before.job now
  pub agrees : Agrees before.job start.share.node (state_of now) ends
  pub share : now.share ≡ start.share
  pub moved : is_moved answer ≡ true → (count : ℕ) × MakesActions before.job start.share.node (state_of start) (state_of now) before ends count
  pub stopped : is_moved answer ≡ false → Goes before.job start.share.node (state_of start) (state_of now) before ends answer

-- how many steps are left until one isn't made, and one more
abbrev pub tries_left : Job → ℕ → NodeState → Step → ℕ
tries_left job node state answer = if is_moved answer then suc (left job node state) else 0

module _ (start : Node) (before : SeenEnds) where
  pub first_try : (now : Node) (ends : SeenEnds) (answer : Step) → FitsJob ends.job now → Agrees ends.job now.share.node (state_of now) ends
      → now.share ≡ start.share → MakesSome before.job start.share.node (state_of start) (state_of now) before ends true answer
      → IsUnderway start before now ends answer
  first_try now ends answer fit agree share makes =
      let job : ends.job ≡ before.job = makes_stays before.job start.share.node (state_of start) (state_of now) before ends true answer makes in
      record {
        fits = subst (λ (one : Job). FitsJob one now) job fit;
        agrees = subst (λ (one : Job). Agrees one start.share.node (state_of now) ends) job (subst (λ (own : Share). Agrees ends.job own.node (state_of now) ends) share agree);
        share = share;
        moved = λ is. let gone = makes.some is in (suc gone.0, gone.1);
        stopped = λ is. record { count = 0; between = state_of start; ends = before; moves = (refl, refl); last = makes.none is; stops = is };
      }

  module _ (now : Node) (ends : SeenEnds) (answer : Step) (underway : IsUnderway start before now ends answer) where
    same_job : ends.job ≡ before.job
    same_job = underway.agrees.same_job

    pub fits_now : FitsJob ends.job now
    fits_now = subst (λ (one : Job). FitsJob one now) (sym same_job) underway.fits

    pub agrees_now : Agrees ends.job now.share.node (state_of now) ends
    agrees_now = subst (λ (one : Job). Agrees one now.share.node (state_of now) ends) (sym same_job) (subst (λ (own : Share). Agrees before.job own.node (state_of now) ends) (sym underway.share) underway.agrees)

    module _ (moved : is_moved answer ≡ true) (new : Node) (after : SeenEnds) (next : Step) (fit : FitsJob after.job new) (agree : Agrees after.job new.share.node (state_of new) after) (share : new.share ≡ now.share)
        (makes : MakesSome ends.job now.share.node (state_of now) (state_of new) ends after true next) where
      makes_here : MakesSome before.job start.share.node (state_of now) (state_of new) ends after true next
      makes_here = subst (λ (one : Job). MakesSome one start.share.node (state_of now) (state_of new) ends after true next) same_job (subst (λ (own : Share). MakesSome ends.job own.node (state_of now) (state_of new) ends after true next) underway.share makes)

      pub try_more : IsUnderway start before new after next
      try_more =
          let job : after.job ≡ before.job = makes_stays before.job start.share.node (state_of now) (state_of new) ends after true next makes_here ∙ same_job in
          let shares : new.share ≡ start.share = share ∙ underway.share in
          let so_far = underway.moved moved in
          record {
            fits = subst (λ (one : Job). FitsJob one new) job fit;
            agrees = subst (λ (one : Job). Agrees one start.share.node (state_of new) after) job (subst (λ (own : Share). Agrees after.job own.node (state_of new) after) shares agree);
            share = shares;
            moved = λ is. let gone = makes_here.some is in goes_further before.job start.share.node (state_of start) (state_of now) (state_of new) before ends after so_far.0 (suc gone.0) so_far.1 gone.1;
            stopped = λ is. record { count = so_far.0; between = state_of now; ends = ends; moves = so_far.1; last = makes_here.none is; stops = is };
          }

      pub fewer_tries : tries_left before.job start.share.node (state_of new) next < tries_left before.job start.share.node (state_of now) answer
      fewer_tries =
          let old : tries_left before.job start.share.node (state_of now) answer ≡ suc (left before.job start.share.node (state_of now)) = ap (λ (is : Bool). if is then suc (left before.job start.share.node (state_of now)) else 0) moved in
          let if_moved = λ (is : is_moved next ≡ true).
          let here : tries_left before.job start.share.node (state_of new) next ≡ suc (left before.job start.share.node (state_of new)) = ap (λ (one : Bool). if one then suc (left before.job start.share.node (state_of new)) else 0) is in
          let whole : tries_left before.job start.share.node (state_of new) next < tries_left before.job start.share.node (state_of now) answer = omega (arith, old, here, makes_here.fewer is) in whole in
          let if_stopped = λ (is : is_moved next ≡ false).
          let here : tries_left before.job start.share.node (state_of new) next ≡ 0 = ap (λ (one : Bool). if one then suc (left before.job start.share.node (state_of new)) else 0) is in
          let whole : tries_left before.job start.share.node (state_of new) next < tries_left before.job start.share.node (state_of now) answer = omega (arith, old, here) in whole in
          ⊎_elim if_moved if_stopped (cases_Bool (is_moved next))
