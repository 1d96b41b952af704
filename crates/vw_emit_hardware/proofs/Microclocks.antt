-- What each microclock of a run of an emitted board has: the stages, the nets from their leads on, the registers of hops
-- that have arrived, and the bits that are under way.
use Rattle.std.proofs.Common.{◌≡◌, ◌<◌, ◌≤◌, ◌+◌, ◌*◌, ◌∙◌, inl, inr, ℕ, suc, Bool, true, List, slice_get, Some, eqb, ap, ap₂, sym, ⊎_elim, arith}
use Rattle.std.proofs.lemmas.Option.{same_Some}
use Rattle.vw_net.specs.Value.{net_value}
use Rattle.vw_plan.specs.Lead.{arrival, carries, lead}
use Rattle.vw_plan.specs.PlannedBoard.{PlannedBoard}
use Rattle.vw_plan.specs.Sound.{IsSound}
use Rattle.vw_plan.specs.declared.link.Link.{Link}
use Rattle.vw_plan.specs.declared.wire.Hop.{Hop}
use Rattle.vw_plan.specs.declared.wire.Wire.{Wire}
use Rattle.vw_plan.proofs.HopLinks.{one_link}
use Rattle.vw_plan.proofs.NeededWires.{needed_wire}
use Rattle.vw_emit_hardware.specs.Locals.{delayed, held, moment}
use Rattle.vw_emit_hardware.specs.Names.{name_at}
use Rattle.vw_emit_hardware.specs.Run.{IsRun, Values}
use Rattle.vw_emit_hardware.specs.Shown.{IsClockOf, IsThere, held_rows, microclock}
use Rattle.vw_emit_hardware.proofs.AllRows.{clock_of}
use Rattle.vw_emit_hardware.proofs.Clocks.{IsClock, stage_is}
use Rattle.vw_emit_hardware.proofs.Hops.{facts, have_come, under_way}
use Rattle.vw_emit_hardware.proofs.Nets.{net_count, net_is}

module _ (planned : PlannedBoard) (unknown : Bool) (rows : List (List Bool)) (value : Values) (sound : IsSound planned) (run : IsRun planned unknown (held_rows planned rows) value)
    (clock : ℕ) (row state : List Bool) (is_clock : IsClockOf planned unknown rows clock row state) where
  own : IsClock planned (held_rows planned rows) value (clock * (planned.plan.period + 1)) row state
  own = clock_of planned sound unknown rows value run clock row state is_clock

  pub stages : (microcycle node other : ℕ) → microcycle ≤ planned.plan.period → node ≤ planned.board.chips → other ≤ planned.plan.period
      → value (microclock planned clock microcycle) node (moment other) ≡ eqb microcycle other
  stages = stage_is planned sound unknown (held_rows planned rows) value run (clock * (planned.plan.period + 1)) row state own

  pub nets : (microcycle net node : ℕ) → microcycle ≤ planned.plan.period → net < net_count planned → IsThere planned net node
      → lead planned node net ≤ microcycle
      → value (microclock planned clock microcycle) node (name_at planned node net) ≡ net_value planned.ordered.flat row state net
  nets microcycle net node early small there over =
      let come = have_come planned sound unknown (held_rows planned rows) value run (clock * (planned.plan.period + 1)) row state own microcycle early in
      net_is planned sound unknown (held_rows planned rows) value run (clock * (planned.plan.period + 1)) row state own microcycle early come net node small (⊎_elim (λ home. inl home) (λ needed. inr (needed_wire planned sound net node needed)) there) over

  module _ (wire place : ℕ) (is : Wire) (hop : Hop) (there : slice_get planned.plan.wires wire ≡ Some is) (stands : slice_get is.hops place ≡ Some hop) where
    pub registers : (microcycle : ℕ) → microcycle ≤ planned.plan.period → arrival planned.board.links hop < microcycle
        → value (microclock planned clock microcycle) hop.to (held wire place) ≡ net_value planned.ordered.flat row state is.net
    registers microcycle early arrived = have_come planned sound unknown (held_rows planned rows) value run (clock * (planned.plan.period + 1)) row state own microcycle early wire place is hop there stands arrived

    pub delays : (at later : ℕ) (link : Link) → slice_get planned.board.links at ≡ Some link → carries hop link ≡ true → later + 1 < link.delay
        → value (microclock planned clock (hop.at + later + 1)) hop.from (delayed at hop.pin later) ≡ net_value planned.ordered.flat row state is.net
    delays at later link linked carried below =
        let own_facts = facts planned sound unknown (held_rows planned rows) value run (clock * (planned.plan.period + 1)) row state own wire place is hop there stands in
        let sent_in = own_facts.sent in
        let number = one_link planned.board hop own_facts.over at link linked carried in
        let same : link ≡ own_facts.over.link = same_Some link own_facts.over.link (sym linked ∙ ap (slice_get planned.board.links) number ∙ own_facts.over.there) in
        let delay = ap (λ (one : Link). one.delay) same in
        let time : hop.at + later + 1 ≡ hop.at + suc later = omega arith in
        ap₂ (λ (microcycle k : ℕ). value (microclock planned clock microcycle) hop.from (delayed k hop.pin later)) time number
        ∙ ap (λ (node : ℕ). value (microclock planned clock (hop.at + suc later)) node (delayed own_facts.over.number hop.pin later)) (sym own_facts.over.from)
        ∙ under_way planned sound unknown (held_rows planned rows) value run (clock * (planned.plan.period + 1)) row state own wire place is hop there stands
        (have_come planned sound unknown (held_rows planned rows) value run (clock * (planned.plan.period + 1)) row state own hop.at (omega (arith, sent_in))) (suc later) (omega (arith, below, delay))
