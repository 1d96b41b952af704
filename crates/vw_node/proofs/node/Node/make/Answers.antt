use Rattle.std.proofs.Common.{◌≡◌, ◌+◌, ◌∙◌, ℕ, zero, suc, false, Bool, List, [], length, map, replicate, ap, ap₂, subst, refl, sym, All, arith}
use Rattle.std.specs.Prelude.{slice_index_or}
use Rattle.std.proofs.lemmas.List.{length-replicate}
use Rattle.std.proofs.lemmas.List.Elements.{All-replicate}
use Rattle.vw_plan.specs.declared.checked.Checked.{Checked}
use Rattle.vw_plan.specs.PlannedBoard.{PlannedBoard, planned_board}
use Rattle.vw_prog.specs.declared.job.Job.{Job}
use Rattle.vw_prog.specs.declared.job.Share.{Share}
use Rattle.vw_prog.specs.Actions.{actions}
use Rattle.vw_prog.specs.Codes.{IsCode}
use Rattle.vw_prog.specs.Scripts.{planned_of}
use Rattle.vw_prog.proofs.LoopTurns.{stand_first}
use Rattle.vw_node.specs.Fits.{IsShare, bit_by, bit_at_slot}
use Rattle.vw_node.specs.Lists.{tabulate}
use Rattle.vw_node.specs.Starts.{net_count, planned_in}
use Rattle.vw_node.specs.States.{NodeState}
use Rattle.vw_node.proofs.ClockEnds.{length-sourced, names_slots, start_slots_are}
use Rattle.vw_node.proofs.node.Node.make.Goals as goal

same_board : (job : Job) (share : Share) → IsShare job share → planned_in share ≡ planned_of job
same_board job share is = ap (λ (checked : Checked). planned_board checked.ordered checked.board checked.plan) is.checked

same_count : (job : Job) (share : Share) → IsShare job share → net_count share ≡ job.checked.ordered.flat.inputs + length job.checked.ordered.flat.cells
same_count job share is = ap (λ (checked : Checked). checked.ordered.flat.inputs + length checked.ordered.flat.cells) is.checked

same_in : (count place one : ℕ) → slice_index_or (replicate count one) place one ≡ one
same_in zero place one = refl
same_in (suc count) zero one = refl
same_in (suc count) (suc place) one = same_in count place one

pub start_slots-requires : goal.start_slots-requires
start_slots-requires c =
    let share = c.args.share in
    names_slots (planned_in share) share.node (actions (planned_in share) share.node) c.code-code.result.now (c.requires.stand share.node c.code-code.result.now c.code-code.ensures)

pub returns : goal.returns
returns c =
    let share = c.args.share in
    let code = c.code-code.result.now in
    let is_code = c.requires.stand share.node code c.code-code.ensures in
    let zeros = replicate (length code.nets.items) false in
    let long : length zeros ≡ length code.nets.items = length-replicate (length code.nets.items) false in
    let zero_places : c.in_ok-places.places.items ≡ replicate c.len.result 0 = c.in_ok-places.ensures.items_if_clones_equal (λ y same. same) in
    record {
      same = refl;
      fits = λ job is.
          let its_code : IsCode (planned_of job) share.node (actions (planned_of job) share.node) code = subst (λ (planned : PlannedBoard). IsCode planned share.node (actions planned share.node) code) (same_board job share is) is_code in
          record {
            share = is;
            code = its_code;
            loops = stand_first (actions (planned_of job) share.node) code.loops.items c.in_ok-places.places.items (ap (λ (places : List ℕ). length places) zero_places ∙ length-replicate c.len.result 0 ∙ omega (arith, c.len.ensures, code.loops.ok))
                (λ place. ap (λ (places : List ℕ). slice_index_or places place 0) zero_places ∙ same_in c.len.result place 0);
            slots = ap (λ (bits : List Bool). length bits) c.in_ok-slots.ensures ∙ length-sourced job share is code its_code (map (bit_at_slot share.start.now) code.numbers.items) 0 zeros long;
            next = omega (arith, c.in_ok-next.ensures.len, c.in_ok-next.next.ok, c.len-2.ensures, code.latches.ok);
            count = ap (λ (rows : List (List Bool)). length rows) c.in_ok-rows.ensures ∙ length-replicate share.clocks (replicate c.len-3.result false) ∙ is.clocks;
            wide =
                let long : length (replicate c.len-3.result false) ≡ length code.records.items = length-replicate c.len-3.result false ∙ omega (arith, c.len-3.ensures, code.records.ok) in
                subst (All (λ row. length row ≡ length code.records.items)) (sym c.in_ok-rows.ensures) (All-replicate (λ row. length row ≡ length code.records.items) share.clocks (replicate c.len-3.result false) long);
          };
      starts = λ job is.
          let its_code : IsCode (planned_of job) share.node (actions (planned_of job) share.node) code = subst (λ (planned : PlannedBoard). IsCode planned share.node (actions planned share.node) code) (same_board job share is) is_code in
          ap (λ (slots : List Bool). let state : NodeState = record { clock = 0; made = 0; slots = slots; rows = [] } in state)
          (ap₂ (λ (bits : List Bool) (many : ℕ). tabulate (bit_by code.nets.items bits) many) c.in_ok-slots.ensures (same_count job share is) ∙ start_slots_are job share is code its_code zeros refl);
    }
