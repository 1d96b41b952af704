use Rattle.std.proofs.Common.{◌++◌, ◌∙◌, ℕ, List, Option, Some, None, is_some, filter, map, length, slice_get, replicate, sym, ap}
use Rattle.std.proofs.lemmas.List.{length-replicate}
use Rattle.vw_design.specs.Paths.{Word}
use Rattle.vw_net_faults.specs.Steps.FreeNames.{is_free}
use Rattle.vw_net_faults.proofs.FreeColumns.{length-with_column, no_columns, free_number, inputs_more, many_more, ports_more, inputs_kept, many_kept, ports_kept, all_free}
use Rattle.vw_net_faults.proofs.columns.Columns.of_names.Goals as goal
use Rattle.vw_net_faults.proofs.columns.Columns.of_names.Goals.{in-Some+in_ok-add_column, in_default}

pub loop-place-init : goal.loop-place-init
loop-place-init c =
    record {
      inputs = ap (λ (list : List ℕ). map (slice_get c.args.names.now) list ++ map (λ (name : Word). Some name) (filter (is_free c.args.claims.now.firsts c.args.clock_flags.now) c.args.names.now)) c.new-inputs.ensures.items;
      many = ap (λ (list : List ℕ). length list) c.new-inputs.ensures.items;
      count = ap (λ (list : List (Option ℕ)). length list) (c.in_ok-ports.ensures ∙ ap (λ (n : ℕ). replicate n None) c.count.ensures) ∙ length-replicate (length c.args.claims.now.firsts) None;
      ports = no_columns c.args.claims.now.firsts c.in_ok-ports.ports.items (c.in_ok-ports.ensures ∙ ap (λ (n : ℕ). replicate n None) c.count.ensures);
    }

pub loop-place-preserved : goal.loop-place-preserved
loop-place-preserved c =
    let firsts = c.args.claims.now.firsts in
    let clock_flags = c.args.clock_flags.now in
    let names = c.args.names.now in
    let i = c.loop-place.place in
    let x = c.index-names-place.result in
    let inputs = c.loop-place.inputs.items in
    let ports = c.loop-place.ports.items in
    let had = c.loop-place.invariant in
    elim c.match-free_number.branch [
      | in-Some+in_ok-add_column w ↦
          let new = c.match-free_number.inputs.items in
          let free = sym (ap (λ (found : Option ℕ). is_some found) w.in-Some.ensures) in
          let pushed = ap (λ v. v.items) w.inputs-is ∙ w.in_ok-add_column.ensures.inputs in
          let named = free_number firsts clock_flags x w.in-Some.number w.in-Some.ensures in
          record {
            inputs = inputs_more firsts clock_flags names i x c.loop-place-test.true c.index-names-place.is inputs new free pushed had.inputs;
            many = many_more firsts clock_flags names i x c.loop-place-test.true c.index-names-place.is inputs new free pushed had.many;
            count = ap (λ (list : List (Option ℕ)). length list) (ap (λ v. v.items) w.ports-is ∙ w.in_ok-add_column.ensures.ports) ∙ length-with_column ports w.in-Some.number (length inputs) ∙ had.count;
            ports = ports_more firsts clock_flags names i x c.loop-place-test.true c.index-names-place.is inputs new free pushed had.many w.in-Some.number named ports c.match-free_number.ports.items
                (ap (λ v. v.items) w.ports-is ∙ w.in_ok-add_column.ensures.ports) had.ports;
          }
      | in_default w ↦
          let new = c.match-free_number.inputs.items in
          let bound = sym (ap (λ (found : Option ℕ). is_some found) w.in_default.ensures) in
          let kept = ap (λ v. v.items) w.inputs-is in
          record {
            inputs = inputs_kept firsts clock_flags names i x c.loop-place-test.true c.index-names-place.is inputs new bound kept had.inputs;
            many = many_kept firsts clock_flags names i x c.loop-place-test.true c.index-names-place.is inputs new bound kept had.many;
            count = ap (λ v. length v.items) w.ports-is ∙ had.count;
            ports = ports_kept firsts clock_flags names i x c.loop-place-test.true c.index-names-place.is inputs new bound kept ports c.match-free_number.ports.items (ap (λ v. v.items) w.ports-is) had.ports;
          }
    ]

pub returns : goal.returns
returns c =
    all_free c.args.claims.now.firsts c.args.clock_flags.now c.args.names.now c.loop-place.place c.loop-place-test.false _ c.loop-place.inputs.items c.of.ensures c.loop-place.ports.items c.of-2.ensures
    c.loop-place.invariant.inputs c.loop-place.invariant.count c.loop-place.invariant.ports
