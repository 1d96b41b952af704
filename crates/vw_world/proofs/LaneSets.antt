-- The links of a world after a put or a take at one of them.
use Rattle.std.proofs.Common.{◌≡◌, ◌<◌, ◌+◌, ◌-◌, ◌^◌, ◌∷◌, ◌++◌, ℕ, Bool, true, false, List, [], length, take, drop, set, eqb, nat_lt, slice_get, if◌then◌else◌, ap, refl, sym, subst, ◌∙◌, ⊎_elim, inl, inr, ◌≤◌, eq-eqb, eqb-true, Option, Some, None, arith}
use Rattle.std.specs.Prelude.{MatchOption}
use Rattle.std.proofs.Math.Path.{fun_ext}
use Rattle.std.proofs.lemmas.Bool.{cases_eq, ltb-false, ne_eqb}
use Rattle.std.proofs.lemmas.List.{get_or-set_other, get_or-set_same, length-drop, length-set, length-take-le}
use Rattle.std.proofs.lemmas.Option.{slice_get_within}
use Rattle.vw_prog.specs.declared.job.Job.{Job}
use Rattle.vw_prog.specs.declared.word.Word.{Word}
use Rattle.vw_prog.specs.Ends.{IsExpected, IsNextWord, Puts, Takes, counted_at, one_more, refused}
use Rattle.vw_prog.specs.Scripts.{script}
use Rattle.vw_world.specs.Lanes.{AreLanes, IsLane, SeenLane, SeenLanes, ends_of, lane_at}
use Rattle.vw_world.proofs.KeptWorlds.{between_front, between_more}
use Rattle.vw_world.proofs.ShortScripts.{short_script}

-- a field of each link, after one of them was set
set_field : {A : Type 0} (field : SeenLane → A) (lanes : List SeenLane) (link : ℕ) (lane : SeenLane) (other : ℕ) → link < length lanes
    → field (lane_at (set lanes link lane) other) ≡ (if eqb other link then field lane else field (lane_at lanes other))
set_field field lanes link lane other within =
    let by_test = λ (own : Bool). if own then field lane else field (lane_at lanes other) in
    let if_same = λ (same : other ≡ link).
    let there : lane_at (set lanes link lane) other ≡ lane = ap (lane_at (set lanes link lane)) same ∙ get_or-set_same lanes link lane _ within in
    ap field there ∙ sym (ap by_test (eq-eqb other link same)) in
    let if_other = λ (apart : other ≡ link → ⊥).
    ap field (get_or-set_other lanes link other lane _ apart) ∙ sym (ap by_test (ne_eqb other link apart)) in
    ⊎_elim if_same if_other (cases_eq other link)

-- what a lane is after a put of a word, by whether there was room
abbrev pub after_put : Word → Bool → SeenLane → SeenLane
after_put word answer lane =
    if answer then record lane { words = lane.words ++ word ∷ []; sent = lane.sent + 1 } else record lane { full = one_more lane.full }

-- what a take of a lane gives, and what the lane is then
abbrev pub IsAfterTake : Option Word → SeenLane → SeenLane → Type 0
IsAfterTake answer lane new = MatchOption answer ((lane.words ≡ []) × (new ≡ record lane { empty = one_more lane.empty }))
    (λ word. (lane.words ≡ word ∷ new.words) × (new ≡ record lane { words = new.words; taken = lane.taken + 1 }))

module _ (all : SeenLanes) (are : AreLanes all) (link : ℕ) (within : link < length all.lanes) where
  abbrev job : Job
  job = all.job

  abbrev lane : SeenLane
  lane = lane_at all.lanes link

  -- a field of each link
  abbrev each_field : (SeenLane → ℕ) → List SeenLane → ℕ → ℕ
  each_field field lanes other = field (lane_at lanes other)

  -- the links with another state of this one
  abbrev with_lane : SeenLane → SeenLanes
  with_lane new = record all { lanes = set all.lanes link new }

  -- a count that is another at this link
  abbrev changed_at : (SeenLane → ℕ) → (ℕ → ℕ) → ℕ → ℕ
  changed_at field next other = if eqb other link then next (field (lane_at all.lanes other)) else field (lane_at all.lanes other)

  -- it changes at the link
  changed : (field : SeenLane → ℕ) (next : ℕ → ℕ) (new : SeenLane) → field new ≡ next (field lane)
      → each_field field (set all.lanes link new) ≡ changed_at field next
  changed field next new is = fun_ext (λ other. set_field field all.lanes link new other within ∙ by other (eqb other link) refl) where
    by : (other : ℕ) (own : Bool) → eqb other link ≡ own
        → (if own then field new else field (lane_at all.lanes other))
        ≡ (if own then next (field (lane_at all.lanes other)) else field (lane_at all.lanes other))
    by other true same = is ∙ ap (λ (one : ℕ). next (field (lane_at all.lanes one))) (sym (eqb-true other link same))
    by other false apart = refl

  -- and one that is the same there stays
  stays : (field : SeenLane → ℕ) (new : SeenLane) → field new ≡ field lane → each_field field (set all.lanes link new) ≡ each_field field all.lanes
  stays field new is = fun_ext (λ other. set_field field all.lanes link new other within ∙ by other (eqb other link) refl) where
    by : (other : ℕ) (own : Bool) → eqb other link ≡ own
        → (if own then field new else field (lane_at all.lanes other)) ≡ field (lane_at all.lanes other)
    by other true same = is ∙ sym (ap (λ (one : ℕ). field (lane_at all.lanes one)) (eqb-true other link same))
    by other false apart = refl

  -- as long as each keeps what it has to, all do
  set_are : (new : SeenLane) → IsLane job link new → AreLanes (with_lane new)
  set_are new is = record { count = length-set all.lanes link new ∙ are.count; each = each } where
    each : (other : ℕ) → other < length (set all.lanes link new) → IsLane job other (lane_at (set all.lanes link new) other)
    each other low =
        let if_same = λ (same : other ≡ link).
        let there : lane_at (set all.lanes link new) other ≡ new = ap (lane_at (set all.lanes link new)) same ∙ get_or-set_same all.lanes link new _ within in
        subst (IsLane job other) (sym there) (subst (λ (one : ℕ). IsLane job one new) (sym same) is) in
        let if_other = λ (apart : other ≡ link → ⊥).
        let its = are.each other (omega (arith, low, length-set all.lanes link new)) in
        subst (IsLane job other) (sym (get_or-set_other all.lanes link other new _ apart)) its in
        ⊎_elim if_same if_other (cases_eq other link)

  pub held : length lane.words ≡ lane.sent - lane.taken
  held =
      let its = are.each link within in
      ap (λ (words : List Word). length words) its.content
      ∙ length-drop lane.taken (take lane.sent (script job link))
      ∙ ap (λ (many : ℕ). many - lane.taken) (length-take-le lane.sent (script job link) its.within)

  -- ---- a put

  module _ (word : Word) (next : IsNextWord (ends_of all) link word) where
    below : lane.sent < length (script job link)
    below = slice_get_within (script job link) lane.sent word next.next

    pub put_counts : lane.sent + 1 < 2 ^ 64
    put_counts = omega (arith, below, short_script job link)

    abbrev pub put_lane : SeenLane
    put_lane = record lane { words = lane.words ++ word ∷ []; sent = lane.sent + 1 }

    pub put_are : AreLanes (with_lane put_lane)
    put_are =
        let its = are.each link within in
        set_are put_lane (record {
          order = omega (arith, its.order);
          within = omega (arith, below);
          content = ap (λ (words : List Word). words ++ word ∷ []) its.content
              ∙ sym (between_more (script job link) lane.taken lane.sent word its.order next.next);
          room = its.room;
        })

    pub put_ends : ends_of (with_lane put_lane) ≡ record (ends_of all) { sent = counted_at link (ends_of all).sent }
    put_ends = λ i. record {
      job = job;
      node = all.node;
      sent = changed (λ (one : SeenLane). one.sent) (λ n. n + 1) put_lane refl i;
      taken = stays (λ (one : SeenLane). one.taken) put_lane refl i;
      full = stays (λ (one : SeenLane). one.full) put_lane refl i;
      empty = stays (λ (one : SeenLane). one.empty) put_lane refl i;
      room = stays (λ (one : SeenLane). one.room) put_lane refl i;
      keeps = λ link. false;
      told = true;
    }

    abbrev pub full_lane : SeenLane
    full_lane = record lane { full = one_more lane.full }

    pub full_are : AreLanes (with_lane full_lane)
    full_are =
        let its = are.each link within in
        set_are full_lane (record { order = its.order; within = its.within; content = its.content; room = its.room })

    pub full_ends : ends_of (with_lane full_lane) ≡ record (ends_of all) { full = refused link (ends_of all).full }
    full_ends = λ i. record {
      job = job;
      node = all.node;
      sent = stays (λ (one : SeenLane). one.sent) full_lane refl i;
      taken = stays (λ (one : SeenLane). one.taken) full_lane refl i;
      full = changed (λ (one : SeenLane). one.full) one_more full_lane refl i;
      empty = stays (λ (one : SeenLane). one.empty) full_lane refl i;
      room = stays (λ (one : SeenLane). one.room) full_lane refl i;
      keeps = λ link. false;
      told = true;
    }

    -- all keep what they have to, and the ends say that the put was made, or that it was refused
    abbrev PutDone : Bool → SeenLane → Type 0
    PutDone answer new = AreLanes (with_lane new) × Puts link (ends_of all) (ends_of (with_lane new)) answer

    pub put_done : (answer : Bool) (new : SeenLane) → answer ≡ nat_lt (length lane.words) lane.room → new ≡ (if answer then put_lane else full_lane)
        → PutDone answer new
    put_done answer new room is = subst (PutDone answer) (sym is) (by answer room) where
      told_room : (answer : Bool) → answer ≡ nat_lt (length lane.words) lane.room → answer ≡ nat_lt (lane.sent - lane.taken) lane.room
      told_room answer room = room ∙ ap (λ (many : ℕ). nat_lt many lane.room) held

      by : (answer : Bool) → answer ≡ nat_lt (length lane.words) lane.room → PutDone answer (if answer then put_lane else full_lane)
      by true room = (put_are, record { ends = put_ends; refused = inl refl; room = λ told. told_room true room })
      by false room = (full_are, record { ends = full_ends; refused = inr (is_full room); room = λ told. told_room false room }) where
        is_full : false ≡ nat_lt (length lane.words) lane.room → lane.room ≤ lane.sent
        is_full room = let none = ltb-false (length lane.words) lane.room (sym room) in omega (arith, none, held)

  -- ---- a take

  module _ (expected : IsExpected (ends_of all) link) where
    its : IsLane job link lane
    its = are.each link within

    pub take_counts : lane.taken + 1 < 2 ^ 64
    take_counts = omega (arith, expected.more, short_script job link)

    module _ (word : Word) (rest : List Word) (words_are : lane.words ≡ word ∷ rest) where
      abbrev pub take_lane : SeenLane
      take_lane = record lane { words = rest; taken = lane.taken + 1 }

      front : (lane.taken < lane.sent)
          × ((slice_get (script job link) lane.taken ≡ Some word) × (rest ≡ drop (lane.taken + 1) (take lane.sent (script job link))))
      front = between_front (script job link) lane.taken lane.sent word rest (sym words_are ∙ its.content)

      pub take_are : AreLanes (with_lane take_lane)
      take_are = set_are take_lane (record { order = omega (arith, front.0); within = its.within; content = front.1.1; room = its.room })

      take_ends : ends_of (with_lane take_lane) ≡ record (ends_of all) { taken = counted_at link (ends_of all).taken }
      take_ends = λ i. record {
        job = job;
        node = all.node;
        sent = stays (λ (one : SeenLane). one.sent) take_lane refl i;
        taken = changed (λ (one : SeenLane). one.taken) (λ n. n + 1) take_lane refl i;
        full = stays (λ (one : SeenLane). one.full) take_lane refl i;
        empty = stays (λ (one : SeenLane). one.empty) take_lane refl i;
        room = stays (λ (one : SeenLane). one.room) take_lane refl i;
        keeps = λ link. false;
        told = true;
      }

      pub take_takes : Takes link (ends_of all) (ends_of (with_lane take_lane)) (Some word)
      take_takes = (take_ends, front.1.0, λ told. front.0)

    abbrev pub empty_lane : SeenLane
    empty_lane = record lane { empty = one_more lane.empty }

    pub empty_are : AreLanes (with_lane empty_lane)
    empty_are = set_are empty_lane (record { order = its.order; within = its.within; content = its.content; room = its.room })

    empty_ends : ends_of (with_lane empty_lane) ≡ record (ends_of all) { empty = refused link (ends_of all).empty }
    empty_ends = λ i. record {
      job = job;
      node = all.node;
      sent = stays (λ (one : SeenLane). one.sent) empty_lane refl i;
      taken = stays (λ (one : SeenLane). one.taken) empty_lane refl i;
      full = stays (λ (one : SeenLane). one.full) empty_lane refl i;
      empty = changed (λ (one : SeenLane). one.empty) one_more empty_lane refl i;
      room = stays (λ (one : SeenLane). one.room) empty_lane refl i;
      keeps = λ link. false;
      told = true;
    }

    pub empty_takes : lane.words ≡ [] → Takes link (ends_of all) (ends_of (with_lane empty_lane)) None
    empty_takes none = (empty_ends, λ told. omega (arith, held, ap (λ (words : List Word). length words) none))

    -- all keep what they have to, and the ends say what was taken
    abbrev TakeDone : Option Word → SeenLane → Type 0
    TakeDone answer new = AreLanes (with_lane new) × Takes link (ends_of all) (ends_of (with_lane new)) answer

    -- by what the lane answered
    pub take_done : (answer : Option Word) (new : SeenLane) → IsAfterTake answer lane new → TakeDone answer new
    take_done None new (none, is) = subst (TakeDone None) (sym is) (empty_are, empty_takes none)
    take_done (Some word) new (some, is) = subst (TakeDone (Some word)) (sym is) (take_are word new.words some, take_takes word new.words some)
