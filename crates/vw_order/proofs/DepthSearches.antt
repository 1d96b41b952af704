-- A search in depth, step by step.
use Rattle.std.proofs.Common.{◌≡◌, ◌≢◌, ◌<◌, ◌≤◌, ◌+◌, ◌==◌, ◌||◌, ℕ, Bool, true, false, cond, List, [], ◌∷◌, ◌++◌, length, length-append, take, get_or, slice_set, replicate, Some, None, ⊎_elim, refl, sym, ◌∙◌, ap, ap₂, subst, eqb, ne_eqb, append_assoc, append-nil, get_or-set_other, get_or-set_same, below_more, true≢false, arith}
use Rattle.std.specs.List.{IsDistinct}
use Rattle.std.proofs.lemmas.Bool.{cases_lt, cases_eq}
use Rattle.std.proofs.Math.Seq.{take-append_seam, get_or-append_seam}
use Rattle.std.proofs.lemmas.List.{get_or_append_left, get_or-replicate, get_or_past, take-append-le, length-set, length-replicate}
use Rattle.std.proofs.lemmas.List.Folds.{list_any-append}
use Rattle.std.proofs.Math.Bool.{or-false}
use Rattle.vw_net.proofs.Lists.{once_none}
use Rattle.vw_net.specs.Order.{is_among}
use Rattle.vw_order.specs.declared.progress.Progress.{Progress}
use Rattle.vw_order.specs.declared.progress.Progress.TheVariants.{Fresh, Open, Done}
use Rattle.vw_order.specs.declared.depth.DepthSearch.{DepthSearch}
use Rattle.vw_order.specs.declared.progress.Ahead.{Ahead}
use Rattle.vw_order.specs.Steps.SearchProgress.{IsAhead}
use Rattle.vw_order.specs.Steps.Rounds.{round_from}
use Rattle.vw_order.specs.Graphs.{Graph, ReadsAt, StaysWithin}
use Rattle.vw_order.specs.Orders.{IsBehind, IsNumberOrder}
use Rattle.vw_order.specs.Circles.{IsNumberCircle}
use Rattle.vw_order.specs.Steps.Searches.{progress_of, IsSearch, IsDepthSearch, KeepsNumbers, IsVisited}
use Rattle.vw_order.proofs.Among.{among_left, among_right, among_either, among_one, among_last, once_push, once_short, once_moved, once_part}
use Rattle.vw_order.proofs.Rounds.{IsReadChain-push, IsReadChain-front, closes}

-- what a progress says
done_progress : (done on : Bool) → cond done Done (cond on Open Fresh) ≡ Done → done ≡ true
done_progress true on is = refl
done_progress false true is = cc
done_progress false false is = cc

open_progress : (done on : Bool) → cond done Done (cond on Open Fresh) ≡ Open → on ≡ true
open_progress true on is = cc
open_progress false true is = refl
open_progress false false is = cc

fresh_progress : (done on : Bool) → cond done Done (cond on Open Fresh) ≢ Done → cond done Done (cond on Open Fresh) ≢ Open → (done ≡ false) × (on ≡ false)
fresh_progress true on not_done not_open = absurd (not_done refl)
fresh_progress false true not_done not_open = absurd (not_open refl)
fresh_progress false false not_done not_open = (refl, refl)

-- one more doesn't change whether another one is there
pub among_other : (numbers : List ℕ) (number other : ℕ) → number ≢ other → is_among (numbers ++ number ∷ []) other ≡ is_among numbers other
among_other numbers number other apart =
    list_any-append (λ (n : ℕ). n == other) numbers (number ∷ []) ∙ ap (λ (b : Bool). is_among numbers other || (b || false)) (ne_eqb number other apart) ∙ or-false (is_among numbers other)

-- one more stands behind those that it reads
pub behind_more : (graph : Graph) (order : List ℕ) (number : ℕ) → IsBehind graph order
    → ((place read : ℕ) → ReadsAt graph number place read → is_among order read ≡ true) → IsBehind graph (order ++ number ∷ [])
behind_more graph order number behind kid = λ i place read before reads.
    ⊎_elim (earlier i place read reads) (λ later. last i place read reads (omega (arith, before, length-append order (number ∷ [])))) (cases_lt i (length order))
  where
    earlier : (i place read : ℕ) → ReadsAt graph (get_or (order ++ number ∷ []) i 0) place read → i < length order
        → is_among (take i (order ++ number ∷ [])) read ≡ true
    earlier i place read reads before =
        ap (λ (front : List ℕ). is_among front read) (take-append-le i order (number ∷ []) (omega arith))
        ∙ behind i place read before (subst (λ (n : ℕ). ReadsAt graph n place read) (get_or_append_left order (number ∷ []) 0 i before) reads)

    last : (i place read : ℕ) → ReadsAt graph (get_or (order ++ number ∷ []) i 0) place read → i ≡ length order
        → is_among (take i (order ++ number ∷ [])) read ≡ true
    last i place read reads is =
        ap (λ (n : ℕ). is_among (take n (order ++ number ∷ [])) read) is ∙ ap (λ (front : List ℕ). is_among front read) (take-append_seam order (number ∷ []))
        ∙ kid place read (subst (λ (n : ℕ). ReadsAt graph n place read) (ap (λ (n : ℕ). get_or (order ++ number ∷ []) n 0) is ∙ get_or-append_seam order number [] 0) reads)

-- the last open number and those that it reads have places in the tables, and there are no more numbers than are counted
pub record IsAtTop (graph : Graph) (progress : List Progress) (cursors order stack : List ℕ) (number : ℕ) : Type 0 where
  pub in_progress : number < length progress
  pub in_cursors : number < length cursors
  pub read_in : (place read : ℕ) → ReadsAt graph number place read → read < length progress
  pub most : length order + length (stack ++ number ∷ []) ≤ graph.count

module _ (graph : Graph) where
  -- the same lists
  pub same_search : (progress others : List Progress) (cursors cursors' order order' stack stack' : List ℕ)
      → IsSearch graph progress cursors order stack → others ≡ progress → cursors' ≡ cursors → order' ≡ order → stack' ≡ stack
      → IsSearch graph others cursors' order' stack'
  same_search progress others cursors cursors' order order' stack stack' far m c o s =
      subst (λ (l : List ℕ). IsSearch graph others cursors' order' l) (sym s)
      (subst (λ (l : List ℕ). IsSearch graph others cursors' l stack) (sym o)
      (subst (λ (l : List ℕ). IsSearch graph others l order stack) (sym c)
      (subst (λ (l : List Progress). IsSearch graph l cursors order stack) (sym m) far)))

  -- nothing is open
  pub begun : IsSearch graph (replicate graph.count Fresh) (replicate graph.count 0) [] []
  begun = record {
    progress_each = length-replicate graph.count Fresh;
    cursors_each = length-replicate {A = ℕ} graph.count 0;
    known = λ other. ⊎_elim (λ inside. get_or-replicate graph.count other Fresh Fresh inside) (λ past. get_or_past (replicate graph.count Fresh) other Fresh (omega (arith, length-replicate graph.count Fresh))) (cases_lt other graph.count);
    done = λ other place read before reads. absurd (omega (arith, zeros other, before));
    behind = λ i place read before. absurd (omega arith);
    once = once_none;
    leads = tt;
    counted = λ other among. absurd (true≢false (sym among));
  } where
    zeros : (other : ℕ) → ◌≡◌ {A = ℕ} (get_or (replicate {A = ℕ} graph.count 0) other 0) 0
    zeros other = ⊎_elim (λ inside. get_or-replicate {A = ℕ} graph.count other 0 0 inside) (λ past. get_or_past (replicate {A = ℕ} graph.count 0) other 0 (omega (arith, length-replicate {A = ℕ} graph.count 0))) (cases_lt other graph.count)

  -- a first one is opened
  pub rooted : (progress : List Progress) (cursors order : List ℕ) (root : ℕ) → IsSearch graph progress cursors order []
      → get_or progress root Fresh ≡ Fresh → root < graph.count → graph.counts root ≡ true
      → IsSearch graph (slice_set progress root Open) cursors order (root ∷ [])
  rooted progress cursors order root far fresh within counts = record {
    progress_each = length-set progress root Open ∙ far.progress_each;
    cursors_each = far.cursors_each;
    known = λ other. ⊎_elim (same other) (apart other) (cases_eq root other);
    done = far.done;
    behind = far.behind;
    once = once_push order root (subst (λ (s : List ℕ). IsDistinct eqb s) (append-nil order) far.once) (not_done root fresh);
    leads = tt;
    counted = λ other among. ⊎_elim (λ done. far.counted other (among_left order [] other done)) (λ top. ap graph.counts (sym (among_one root other top)) ∙ counts) (among_either order (root ∷ []) other among);
  } where
    not_done : (other : ℕ) → get_or progress other Fresh ≡ Fresh → is_among order other ≡ false
    not_done other is = by (is_among order other) (sym (far.known other) ∙ is) where
      by : (done : Bool) → cond done Done (cond false Open Fresh) ≡ Fresh → done ≡ false
      by true e = cc
      by false e = refl

    same : (other : ℕ) → root ≡ other → get_or (slice_set progress root Open) other Fresh ≡ progress_of order (root ∷ []) other
    same other is =
        ap (λ (n : ℕ). get_or (slice_set progress root Open) n Fresh) (sym is) ∙ get_or-set_same progress root Open Fresh (omega (arith, within, far.progress_each))
        ∙ ap₂ (λ (a b : Bool). cond a Done (cond b Open Fresh)) (sym (ap (is_among order) (sym is) ∙ not_done root fresh)) (sym (ap (is_among (root ∷ [])) (sym is) ∙ among_last [] root))

    apart : (other : ℕ) → root ≢ other → get_or (slice_set progress root Open) other Fresh ≡ progress_of order (root ∷ []) other
    apart other differ =
        get_or-set_other progress root other Open Fresh (λ e. differ (sym e)) ∙ far.known other
        ∙ ap (λ (b : Bool). cond (is_among order other) Done (cond b Open Fresh)) (sym (among_other [] root other differ))

  module _ (within : StaysWithin graph) where
    module _ (progress : List Progress) (cursors order stack : List ℕ) (number : ℕ) (far : IsSearch graph progress cursors order (stack ++ number ∷ [])) where
      top_counts : graph.counts number ≡ true
      top_counts = far.counted number (among_right order (stack ++ number ∷ []) number (among_last stack number))

      top_within : number < graph.count
      top_within = within.below number top_counts

      bound : length order + length (stack ++ number ∷ []) ≤ graph.count
      bound = omega (arith, length-append order (stack ++ number ∷ []), once_short (order ++ (stack ++ number ∷ [])) graph.count far.once (λ other among. within.below other (far.counted other among)))

      pub at_top : IsAtTop graph progress cursors order stack number
      at_top = record {
        in_progress = omega (arith, top_within, far.progress_each);
        in_cursors = omega (arith, top_within, far.cursors_each);
        read_in = λ place read reads. omega (arith, within.below read (within.read number place read top_counts reads), far.progress_each);
        most = bound;
      }

      all_done : (read : ℕ) → get_or progress read Fresh ≡ Done → is_among order read ≡ true
      all_done read is = done_progress (is_among order read) (is_among (stack ++ number ∷ []) read) (sym (far.known read) ∙ is)

      -- what is done or open stays so where the last one is done
      pub moved : (other : ℕ) → is_among (order ++ (stack ++ number ∷ [])) other ≡ true → is_among ((order ++ number ∷ []) ++ stack) other ≡ true
      moved other among =
          ⊎_elim
          (λ done. among_left (order ++ number ∷ []) stack other (among_left order (number ∷ []) other done))
          (λ opened. ⊎_elim (λ on. among_right (order ++ number ∷ []) stack other on) (λ top. among_left (order ++ number ∷ []) stack other (among_right order (number ∷ []) other top)) (among_either stack (number ∷ []) other opened))
          (among_either order (stack ++ number ∷ []) other among)

      -- the last one is done
      pub finished : IsAhead progress (get_or cursors number 0) (graph.reads number) None
          → IsSearch graph (slice_set progress number Done) cursors (order ++ number ∷ []) stack
      finished ahead = record {
        progress_each = length-set progress number Done ∙ far.progress_each;
        cursors_each = far.cursors_each;
        known = λ other. ⊎_elim (same other) (apart other) (cases_eq number other);
        done = λ other place read before reads. among_left order (number ∷ []) read (far.done other place read before reads);
        behind = behind_more graph order number far.behind kid;
        once = once_moved order stack number far.once;
        leads = IsReadChain-front graph stack number far.leads;
        counted = λ other among. far.counted other (back other among);
      } where
        same : (other : ℕ) → number ≡ other → get_or (slice_set progress number Done) other Fresh ≡ progress_of (order ++ number ∷ []) stack other
        same other is =
            ap (λ (n : ℕ). get_or (slice_set progress number Done) n Fresh) (sym is) ∙ get_or-set_same progress number Done Fresh (omega (arith, top_within, far.progress_each))
            ∙ ap (λ (b : Bool). cond b Done (cond (is_among stack other) Open Fresh)) (sym (ap (is_among (order ++ number ∷ [])) (sym is) ∙ among_last order number))

        apart : (other : ℕ) → number ≢ other → get_or (slice_set progress number Done) other Fresh ≡ progress_of (order ++ number ∷ []) stack other
        apart other differ =
            get_or-set_other progress number other Done Fresh (λ e. differ (sym e)) ∙ far.known other
            ∙ ap₂ (λ (a b : Bool). cond a Done (cond b Open Fresh)) (sym (among_other order number other differ)) (among_other stack number other differ)

        kid : (place read : ℕ) → ReadsAt graph number place read → is_among order read ≡ true
        kid place read reads = ⊎_elim (λ before. far.done number place read before reads) (λ further. all_done read (ahead place read further reads)) (cases_lt place (get_or cursors number 0))

        back : (other : ℕ) → is_among ((order ++ number ∷ []) ++ stack) other ≡ true → is_among (order ++ (stack ++ number ∷ [])) other ≡ true
        back other among =
            ⊎_elim
            (λ done. ⊎_elim (λ old. among_left order (stack ++ number ∷ []) other old) (λ top. among_right order (stack ++ number ∷ []) other (among_right stack (number ∷ []) other top)) (among_either order (number ∷ []) other done))
            (λ on. among_right order (stack ++ number ∷ []) other (among_left stack (number ∷ []) other on))
            (among_either (order ++ number ∷ []) stack other among)

      module _ (next : Ahead) (ahead : IsAhead progress (get_or cursors number 0) (graph.reads number) (Some next)) where
        next_counts : graph.counts next.number ≡ true
        next_counts = within.read number next.place next.number top_counts ahead.1

        next_within : next.number < graph.count
        next_within = within.below next.number next_counts

        -- what is done or open stays so where one more is opened
        pub joined : (other : ℕ) → is_among (order ++ (stack ++ number ∷ [])) other ≡ true
            → is_among (order ++ (stack ++ number ∷ next.number ∷ [])) other ≡ true
        joined other among =
            ap (λ (s : List ℕ). is_among s other) (ap (λ (s : List ℕ). order ++ s) (sym (append_assoc stack (number ∷ []) (next.number ∷ []))) ∙ sym (append_assoc order (stack ++ number ∷ []) (next.number ∷ [])))
            ∙ among_left (order ++ (stack ++ number ∷ [])) (next.number ∷ []) other among

        -- a fresh one is opened
        pub opened_on : get_or progress next.number Fresh ≢ Open
            → IsSearch graph (slice_set progress next.number Open) (slice_set cursors number next.place) order (stack ++ number ∷ next.number ∷ [])
        opened_on closed_now = subst (λ (s : List ℕ). IsSearch graph (slice_set progress next.number Open) (slice_set cursors number next.place) order s) (append_assoc stack (number ∷ []) (next.number ∷ [])) (record {
          progress_each = length-set progress next.number Open ∙ far.progress_each;
          cursors_each = length-set cursors number next.place ∙ far.cursors_each;
          known = λ other. ⊎_elim (same other) (apart other) (cases_eq next.number other);
          done = λ other place read before reads. ⊎_elim (scanned other place read before reads) (unscanned other place read before reads) (cases_eq number other);
          behind = far.behind;
          once = subst (λ (s : List ℕ). IsDistinct eqb s) (append_assoc order (stack ++ number ∷ []) (next.number ∷ [])) (once_push (order ++ (stack ++ number ∷ [])) next.number far.once new);
          leads = IsReadChain-push graph stack number next.number far.leads (next.place, ahead.1);
          counted = λ other among. counts other among;
        }) where
          fresh : (is_among order next.number ≡ false) × (is_among (stack ++ number ∷ []) next.number ≡ false)
          fresh = fresh_progress (is_among order next.number) (is_among (stack ++ number ∷ []) next.number) (λ is. ahead.2 (far.known next.number ∙ is)) (λ is. closed_now (far.known next.number ∙ is))

          new : is_among (order ++ (stack ++ number ∷ [])) next.number ≡ false
          new = list_any-append (λ (n : ℕ). n == next.number) order (stack ++ number ∷ []) ∙ ap₂ (λ (a b : Bool). a || b) fresh.0 fresh.1

          same : (other : ℕ) → next.number ≡ other
              → get_or (slice_set progress next.number Open) other Fresh ≡ progress_of order ((stack ++ number ∷ []) ++ next.number ∷ []) other
          same other is =
              ap (λ (n : ℕ). get_or (slice_set progress next.number Open) n Fresh) (sym is) ∙ get_or-set_same progress next.number Open Fresh (omega (arith, next_within, far.progress_each))
              ∙ ap₂ (λ (a b : Bool). cond a Done (cond b Open Fresh)) (sym (ap (is_among order) (sym is) ∙ fresh.0))
              (sym (ap (is_among ((stack ++ number ∷ []) ++ next.number ∷ [])) (sym is) ∙ among_last (stack ++ number ∷ []) next.number))

          apart : (other : ℕ) → next.number ≢ other
              → get_or (slice_set progress next.number Open) other Fresh ≡ progress_of order ((stack ++ number ∷ []) ++ next.number ∷ []) other
          apart other differ =
              get_or-set_other progress next.number other Open Fresh (λ e. differ (sym e)) ∙ far.known other
              ∙ ap (λ (b : Bool). cond (is_among order other) Done (cond b Open Fresh)) (sym (among_other (stack ++ number ∷ []) next.number other differ))

          scanned : (other place read : ℕ) → place < get_or (slice_set cursors number next.place) other 0 → ReadsAt graph other place read
              → number ≡ other → is_among order read ≡ true
          scanned other place read before reads is =
              let at : get_or (slice_set cursors number next.place) other 0 ≡ next.place =
              ap (λ (n : ℕ). get_or (slice_set cursors number next.place) n 0) (sym is) ∙ get_or-set_same cursors number next.place 0 (omega (arith, top_within, far.cursors_each)) in
              let here : ReadsAt graph number place read = subst (λ (n : ℕ). ReadsAt graph n place read) (sym is) reads in
              ⊎_elim (λ earlier. far.done number place read earlier here) (λ further. all_done read (ahead.0 place read further (omega (arith, before, at)) here)) (cases_lt place (get_or cursors number 0))

          unscanned : (other place read : ℕ) → place < get_or (slice_set cursors number next.place) other 0 → ReadsAt graph other place read
              → number ≢ other → is_among order read ≡ true
          unscanned other place read before reads differ =
              far.done other place read (subst (λ (n : ℕ). place < n) (get_or-set_other cursors number other next.place 0 (λ e. differ (sym e))) before) reads

          counts : (other : ℕ) → is_among (order ++ ((stack ++ number ∷ []) ++ next.number ∷ [])) other ≡ true → graph.counts other ≡ true
          counts other among =
              ⊎_elim
              (λ done. far.counted other (among_left order (stack ++ number ∷ []) other done))
              (λ opened. ⊎_elim
              (λ on. far.counted other (among_right order (stack ++ number ∷ []) other on))
              (λ top. ap graph.counts (sym (among_one next.number other top)) ∙ next_counts)
              (among_either (stack ++ number ∷ []) (next.number ∷ []) other opened))
              (among_either order ((stack ++ number ∷ []) ++ next.number ∷ []) other among)

        -- one that is open closes a circle
        pub circled : get_or progress next.number Fresh ≡ Open → IsNumberCircle graph (round_from next.number stack ++ number ∷ [])
        circled open_now =
            closes graph stack number next.number (once_part order (stack ++ number ∷ []) far.once) far.leads (next.place, ahead.1)
            (open_progress (is_among order next.number) (is_among (stack ++ number ∷ []) next.number) (sym (far.known next.number) ∙ open_now))
            (λ other among. far.counted other (among_right order (stack ++ number ∷ []) other among))

  -- nothing is open, and all is reached
  pub ended : (progress : List Progress) (cursors order : List ℕ) → IsSearch graph progress cursors order []
      → ((number : ℕ) → graph.starts number ≡ true → is_among order number ≡ true) → IsNumberOrder graph order
  ended progress cursors order far all = record {
    all = all;
    counted = λ number among. far.counted number (ap (λ (s : List ℕ). is_among s number) (append-nil order) ∙ among);
    once = subst (λ (s : List ℕ). IsDistinct eqb s) (append-nil order) far.once;
    behind = far.behind;
  }

-- what was done is done where nothing is open before and after
kept_done : (old new : DepthSearch) → old.stack.items ≡ [] → new.stack.items ≡ [] → KeepsNumbers old new → (number : ℕ)
    → is_among old.order.items number ≡ true → is_among new.order.items number ≡ true
kept_done old new rests rest kept number done =
    let was : is_among (old.order.items ++ old.stack.items) number ≡ true = ap (λ (l : List ℕ). is_among (old.order.items ++ l) number) rests ∙ ap (λ (l : List ℕ). is_among l number) (append-nil old.order.items) ∙ done in
    sym (ap (λ (l : List ℕ). is_among (new.order.items ++ l) number) rest ∙ ap (λ (l : List ℕ). is_among l number) (append-nil new.order.items)) ∙ kept number was

-- one number more was visited
pub visited_further : (graph : Graph) (old new : DepthSearch) (i : ℕ) → old.stack.items ≡ []
    → ((number : ℕ) → number < i → graph.starts number ≡ true → is_among old.order.items number ≡ true)
    → IsVisited graph old new i None
    → IsDepthSearch graph new × (new.stack.items ≡ []) × ((number : ℕ) → number < i + 1 → graph.starts number ≡ true → is_among new.order.items number ≡ true)
visited_further graph old new i rests before visited = (
  visited.0.depth,
  visited.0.rests,
  below_more (λ (number : ℕ). graph.starts number ≡ true → is_among new.order.items number ≡ true) i
      (λ number under starts. kept_done old new rests visited.0.rests visited.0.kept number (before number under starts)) visited.1,
)

-- all numbers were visited
pub all_visited : (graph : Graph) → StaysWithin graph → (depth : DepthSearch) (i : ℕ) → graph.count ≤ i → IsDepthSearch graph depth → depth.stack.items ≡ []
    → ((number : ℕ) → number < i → graph.starts number ≡ true → is_among depth.order.items number ≡ true) → IsNumberOrder graph depth.order.items
all_visited graph within depth i past far rests before =
    ended graph depth.progress.items depth.cursors.items depth.order.items (subst (λ (stack : List ℕ). IsSearch graph depth.progress.items depth.cursors.items depth.order.items stack) rests far)
    (λ number starts. before number (omega (arith, within.below number (within.started number starts))) starts)
