-- Ops of actions, with their runs joined.
use Rattle.std.proofs.Common.{◌≡◌, ◌<◌, ◌+◌, ◌∷◌, ◌++◌, ◌-◌, ◌^◌, ℕ, zero, suc, min, Bool, true, false, List, [], length, eqb, nat_le, slice_get, Option, Some, None, if◌then◌else◌, ap, ap₂, refl, sym, subst, ◌∙◌, eqb-true, append_assoc, arith}
use Rattle.std.specs.List.{AllByRecursion}
use Rattle.std.proofs.lemmas.List.{length-append}
use Rattle.vw_net.specs.declared.cell.Cell.{Cell}
use Rattle.vw_net.specs.declared.cell.Cell.TheVariants.{Gate, Latch}
use Rattle.vw_net.specs.declared.flat.Flat.{Flat}
use Rattle.vw_prog.specs.declared.action.Action.{Action}
use Rattle.vw_prog.specs.declared.action.Action.TheVariants as action
use Rattle.vw_prog.specs.declared.code.Op.{Op}
use Rattle.vw_prog.specs.declared.code.Op.TheVariants as op
use Rattle.vw_prog.specs.declared.gates.PaddedGate.{PaddedGate}
use Rattle.vw_prog.specs.declared.code.WideGate.{WideGate}
use Rattle.vw_prog.specs.declared.shift.LoopNet.{LoopNet}
use Rattle.vw_prog.specs.declared.shift.ShiftLoop.{ShiftLoop}
use Rattle.vw_prog.specs.Coding.{action_gates, action_loops, action_op, action_wide, all_gates, all_loops, all_ops, all_wide, cell_op, joined_op, joined_ops, slot_in, with_net}
use Rattle.vw_prog.specs.Loops.{loop_place}
use Rattle.vw_prog.proofs.ShiftLoops.{HasPin, here_with, stays_all}

-- ---- joined runs

-- a run of one gate, or another op
abbrev pub IsOne : Op → Type 0
IsOne (op.Run first end slot) = end ≡ first + 1
IsOne (op.Wide place) = place ≡ place
IsOne (op.Send place) = place ≡ place
IsOne (op.Take link pin slot) = link ≡ link
IsOne op.Step = true ≡ true

-- a run of some gates, or another op
abbrev HasSome : Op → Type 0
HasSome (op.Run first end slot) = first < end
HasSome (op.Wide place) = place ≡ place
HasSome (op.Send place) = place ≡ place
HasSome (op.Take link pin slot) = link ≡ link
HasSome op.Step = true ≡ true

-- what an op becomes: a run begins with its gate
abbrev pub Becomes : Op → Op → Type 0
Becomes (op.Run first end slot) two = (last : ℕ) × (two ≡ op.Run first last slot) × (first < last)
Becomes (op.Wide place) two = two ≡ op.Wide place
Becomes (op.Send place) two = two ≡ op.Send place
Becomes (op.Take link pin slot) two = two ≡ op.Take link pin slot
Becomes op.Step two = two ≡ op.Step

becomes : (one : Op) (next : Option Op) → IsOne one → ((other : Op) → next ≡ Some other → HasSome other) → Becomes one (joined_op one next)
becomes (op.Run first end slot) None is some = (end, refl, omega (arith, is))
becomes (op.Run first end slot) (Some (op.Run next last its)) is some = by (eqb next end) (eqb its (slot + 1)) refl where
  by : (same follows : Bool) → eqb next end ≡ same
      → Becomes (op.Run first end slot) (if same then (if follows then op.Run first last slot else op.Run first end slot) else op.Run first end slot)
  by true true test = let more : next < last = some (op.Run next last its) refl in let at : next ≡ end = eqb-true next end test in (last, refl, omega (arith, is, more, at))
  by true false test = (end, refl, omega (arith, is))
  by false follows test = (end, refl, omega (arith, is))
becomes (op.Run first end slot) (Some (op.Wide place)) is some = (end, refl, omega (arith, is))
becomes (op.Run first end own) (Some (op.Send place)) is some = (end, refl, omega (arith, is))
becomes (op.Run first end own) (Some (op.Take link pin slot)) is some = (end, refl, omega (arith, is))
becomes (op.Run first end slot) (Some op.Step) is some = (end, refl, omega (arith, is))
becomes (op.Wide place) None is some = refl
becomes (op.Wide place) (Some other) is some = refl
becomes (op.Send place) None is some = refl
becomes (op.Send place) (Some other) is some = refl
becomes (op.Take link pin slot) None is some = refl
becomes (op.Take link pin slot) (Some other) is some = refl
becomes op.Step None is some = refl
becomes op.Step (Some other) is some = refl

has_some : (one two : Op) → Becomes one two → HasSome two
has_some (op.Run first end slot) two (last, is, more) = subst HasSome (sym is) more
has_some (op.Wide place) two is = subst HasSome (sym is) refl
has_some (op.Send place) two is = subst HasSome (sym is) refl
has_some (op.Take link pin slot) two is = subst HasSome (sym is) refl
has_some op.Step two is = subst HasSome (sym is) refl

pub length-joined : (ops : List Op) → length (joined_ops ops) ≡ length ops
length-joined [] = refl
length-joined (one ∷ ops) = ap suc (length-joined ops)

pub joined_at : (ops : List Op) → AllByRecursion IsOne ops → (place : ℕ) (one : Op) → slice_get ops place ≡ Some one
    → (two : Op) × (slice_get (joined_ops ops) place ≡ Some two) × Becomes one two
joined_at [] all place one is = cc
joined_at (first ∷ ops) all zero one is =
    let same : first ≡ one = cc in
    (joined_op first (slice_get (joined_ops ops) 0), refl, subst (λ (own : Op). Becomes own (joined_op first (slice_get (joined_ops ops) 0))) same (becomes first (slice_get (joined_ops ops) 0) all.0 (next_some ops all.1 (λ place other at. joined_at ops all.1 place other at)))) where
      next_some : (ops : List Op) → AllByRecursion IsOne ops
          → ((place : ℕ) (one : Op) → slice_get ops place ≡ Some one → (two : Op) × (slice_get (joined_ops ops) place ≡ Some two) × Becomes one two)
          → (other : Op) → slice_get (joined_ops ops) 0 ≡ Some other → HasSome other
      next_some [] all rest other at = cc
      next_some (next ∷ ops) all rest other at = let found = rest 0 next refl in let same : found.0 ≡ other = cc (found.1, at) in subst HasSome same (has_some next found.0 found.2)
joined_at (first ∷ ops) all (suc place) one is = joined_at ops all.1 place one is

pub joined_runs : (ops : List Op) → AllByRecursion IsOne ops → (place first end slot : ℕ)
    → slice_get (joined_ops ops) place ≡ Some (op.Run first end slot) → first + 1 < end
    → slice_get (joined_ops ops) (place + 1) ≡ Some (op.Run (first + 1) end (slot + 1))
joined_runs [] all place first end slot is more = cc
joined_runs (one ∷ ops) all zero first end slot is more = by one (slice_get (joined_ops ops) 0) all.0 refl is where
  other_op : (own last its : ℕ) → last ≡ own + 1 → op.Run own last its ≡ op.Run first end slot → ⊥
  other_op own last its unit same = let one : own ≡ first = cc in let two : last ≡ end = cc in omega (arith, unit, one, two, more)

  joins : (own last its next stop further : ℕ) (same follows : Bool) → eqb next last ≡ same → eqb further (its + 1) ≡ follows
      → last ≡ own + 1 → slice_get (joined_ops ops) 0 ≡ Some (op.Run next stop further)
      → (if same then (if follows then op.Run own stop its else op.Run own last its) else op.Run own last its) ≡ op.Run first end slot
      → slice_get (joined_ops ops) 0 ≡ Some (op.Run (first + 1) end (slot + 1))
  joins own last its next stop further true true test behind unit there at =
      let start : own ≡ first = cc in
      let stops : stop ≡ end = cc in
      let slot_is : its ≡ slot = cc in
      let goes : next ≡ first + 1 = omega (arith, eqb-true next last test, unit, start) in
      let next_slot : further ≡ slot + 1 = omega (arith, eqb-true further (its + 1) behind, slot_is) in
      there ∙ ap₂ (λ (one two : ℕ). Some (op.Run one two further)) goes stops ∙ ap (λ (one : ℕ). Some (op.Run (first + 1) end one)) next_slot
  joins own last its next stop further true false test behind unit there at = absurd (other_op own last its unit at)
  joins own last its next stop further false follows test behind unit there at = absurd (other_op own last its unit at)

  by : (one : Op) (next : Option Op) → IsOne one → slice_get (joined_ops ops) 0 ≡ next
      → Some (joined_op one next) ≡ Some (op.Run first end slot) → slice_get (joined_ops ops) 0 ≡ Some (op.Run (first + 1) end (slot + 1))
  by (op.Run own last its) None unit there at = absurd (other_op own last its unit cc)
  by (op.Run own last its) (Some (op.Run next stop further)) unit there at =
      joins own last its next stop further (eqb next last) (eqb further (its + 1)) refl refl unit there (let inner : (if eqb next last then (if eqb further (its + 1) then op.Run own stop its else op.Run own last its) else op.Run own last its) ≡ op.Run first end slot = cc in inner)
  by (op.Run own last its) (Some (op.Wide place)) unit there at = absurd (other_op own last its unit cc)
  by (op.Run own last its) (Some (op.Send turned)) unit there at = absurd (other_op own last its unit cc)
  by (op.Run own last its) (Some (op.Take link pin turned)) unit there at = absurd (other_op own last its unit cc)
  by (op.Run own last its) (Some op.Step) unit there at = absurd (other_op own last its unit cc)
  by (op.Wide place) None unit there at = cc
  by (op.Wide place) (Some other) unit there at = cc
  by (op.Send turned) None unit there at = cc
  by (op.Send turned) (Some other) unit there at = cc
  by (op.Take link pin turned) None unit there at = cc
  by (op.Take link pin turned) (Some other) unit there at = cc
  by op.Step None unit there at = cc
  by op.Step (Some other) unit there at = cc
joined_runs (one ∷ ops) all (suc place) first end slot is more =
    let next : suc place + 1 ≡ suc (place + 1) = omega arith in
    ap (slice_get (joined_ops (one ∷ ops))) next ∙ joined_runs ops all.1 place first end slot is more

-- ---- the ops of actions

module _ (flat : Flat) (table : List ℕ) where
  pub length-all_ops : (program : List Action) (first place : ℕ) (loops : List ShiftLoop)
      → length (all_ops flat table first place loops program) ≡ length program
  length-all_ops [] first place loops = refl
  length-all_ops (one ∷ program) first place loops = ap suc (length-all_ops program (first + length (action_gates flat table one)) (place + length (action_wide flat table one)) (action_loops table one loops))

  cell_one : (slot first place : ℕ) (cell : Option Cell) → IsOne (cell_op slot first place cell)
  cell_one slot first place None = refl
  cell_one slot first place (Some (Latch d init)) = refl
  cell_one slot first place (Some (Gate ins cover)) = by (nat_le cover.inputs 6) where
    by : (few : Bool) → IsOne (if few then op.Run first (first + 1) slot else op.Wide place)
    by true = refl
    by false = refl

  action_one : (first place : ℕ) (loops : List ShiftLoop) (one : Action) → IsOne (action_op flat table first place loops one)
  action_one first place loops (action.Evaluate number) = cell_one (slot_in table (min (flat.inputs + number) (2 ^ 32 - 1))) first place (slice_get flat.cells number)
  action_one first place loops (action.Send link pin net) = refl
  action_one first place loops (action.Take link pin net) = refl
  action_one first place loops action.Step = refl

  pub all_ones : (program : List Action) (first place : ℕ) (loops : List ShiftLoop) → AllByRecursion IsOne (all_ops flat table first place loops program)
  all_ones [] first place loops = tt
  all_ones (one ∷ program) first place loops = (action_one first place loops one, all_ones program (first + length (action_gates flat table one)) (place + length (action_wide flat table one)) (action_loops table one loops))

  -- the op of an action, and where its gate is kept, or its shift loop
  pub record IsKept (program : List Action) (before : List PaddedGate) (wides : List WideGate) (loops : List ShiftLoop) (ops : List Op) (place : ℕ) (one : Action) : Type 0 where
    pub first : ℕ
    pub wide : ℕ
    pub sooner : List ShiftLoop
    pub op_is : slice_get ops place ≡ Some (action_op flat table first wide sooner one)
    pub pin : (link pin net : ℕ) → one ≡ action.Send link pin net → HasPin (all_loops table loops program) (loop_place link pin sooner) link pin
    pub gate : (gate : PaddedGate) → action_gates flat table one ≡ gate ∷ [] → slice_get (before ++ all_gates flat table program) first ≡ Some gate
    pub wide_gate : (gate : WideGate) → action_wide flat table one ≡ gate ∷ [] → slice_get (wides ++ all_wide flat table program) wide ≡ Some gate

  there : {X : Type 0} (before : List X) (x : X) (rest : List X) → slice_get (before ++ (x ∷ [] ++ rest)) (length before) ≡ Some x
  there [] x rest = refl
  there (first ∷ before) x rest = there before x rest

  pub kept_at : (program : List Action) (place : ℕ) (one : Action) (before : List PaddedGate) (wides : List WideGate) (first wide : ℕ) (loops : List ShiftLoop)
      → length before ≡ first → length wides ≡ wide → slice_get program place ≡ Some one
      → IsKept program before wides loops (all_ops flat table first wide loops program) place one
  kept_at [] place one before wides first wide loops long wide_long is = cc
  kept_at (own ∷ program) zero one before wides first wide loops long wide_long is =
      let same : own ≡ one = cc in
      record {
        first = first;
        wide = wide;
        sooner = loops;
        op_is = ap (λ (act : Action). Some (action_op flat table first wide loops act)) same;
        pin = λ link pin net sends.
            let item : LoopNet = record { net = net; slot = slot_in table net } in
            subst (λ (act : Action). HasPin (all_loops table (action_loops table act loops) program) (loop_place link pin loops) link pin) (sym (same ∙ sends))
            (stays_all table program (with_net link pin item loops) (loop_place link pin loops) link pin (here_with link pin item loops));
        gate = λ gate are. ap₂ (λ (gates : List PaddedGate) (at : ℕ). slice_get (before ++ (gates ++ all_gates flat table program)) at) (ap (action_gates flat table) same ∙ are) (sym long) ∙ there before gate (all_gates flat table program);
        wide_gate = λ gate are. ap₂ (λ (gates : List WideGate) (at : ℕ). slice_get (wides ++ (gates ++ all_wide flat table program)) at) (ap (action_wide flat table) same ∙ are) (sym wide_long) ∙ there wides gate (all_wide flat table program);
      }
  kept_at (own ∷ program) (suc place) one before wides first wide loops long wide_long is =
      let rest = kept_at program place one (before ++ action_gates flat table own) (wides ++ action_wide flat table own) (first + length (action_gates flat table own)) (wide + length (action_wide flat table own)) (action_loops table own loops)
      (omega (arith, long, length-append before (action_gates flat table own))) (omega (arith, wide_long, length-append wides (action_wide flat table own))) is in
      record {
        first = rest.first;
        wide = rest.wide;
        sooner = rest.sooner;
        op_is = rest.op_is;
        pin = rest.pin;
        gate = λ gate are. ap (λ (gates : List PaddedGate). slice_get gates rest.first) (sym (append_assoc before (action_gates flat table own) (all_gates flat table program))) ∙ rest.gate gate are;
        wide_gate = λ gate are. ap (λ (gates : List WideGate). slice_get gates rest.wide) (sym (append_assoc wides (action_wide flat table own) (all_wide flat table program))) ∙ rest.wide_gate gate are;
      }
