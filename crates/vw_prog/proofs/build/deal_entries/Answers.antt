use Rattle.std.proofs.Common.{◌≡◌, ◌≤◌, ◌<◌, ◌+◌, ◌∙◌, List, length, take, get_or, ap, subst, sym, arith}
use Rattle.std.specs.Global.{Vec}
use Rattle.std.proofs.lemmas.List.{get_or_default, length-map, take_all}
use Rattle.vw_prog.specs.declared.entry.Entry.{Entry}
use Rattle.vw_prog.specs.Steps.{AreOwnEntries, lists_of}
use Rattle.vw_prog.proofs.DealtEntries.{dealt_here, dealt_past, pushed}
use Rattle.vw_prog.proofs.build.deal_entries.Goals as goal
use Rattle.vw_prog.proofs.build.deal_entries.Goals.{then-node-len+in_ok-push, else-node-len}

pub returns : goal.returns
returns c nodes start = let all = take_all c.loop-entry.entry-index c.args.entries.now (omega arith) in subst (λ (entries : List Entry). AreOwnEntries nodes entries (lists_of c.loop-entry.lists.items)) all (c.loop-entry.invariant nodes start)

pub loop-entry-preserved : goal.loop-entry-preserved
loop-entry-preserved c nodes start =
    let place = c.loop-entry.entry-index in
    let entries : List Entry = c.args.entries.now in
    let entry : Entry = get_or entries place (record { moment = 0; link = 0; place = 0; node = 0; net = 0 }) in
    let within : place < length entries = c.loop-entry-test.true in
    let is : entry ≡ get_or entries place entry = get_or_default entries place (record { moment = 0; link = 0; place = 0; node = 0; net = 0 }) entry within in
    let lists : List (Vec Entry) = c.loop-entry.lists.items in
    let before = c.loop-entry.invariant nodes start in
    elim c.if-node-len.branch [
      | then-node-len+in_ok-push w ↦
          let inside : entry.node < length lists = omega (arith, w.if-node-len.true, c.len.ensures, c.loop-entry.lists.ok) in
          let new = ap (λ (v : Vec (Vec Entry)). lists_of v.items) w.lists-is ∙ pushed lists entry.node w.index_mut.result.now w.push.new.self entry inside w.index_mut.ensures.value w.in_ok-push.ensures.items in
          dealt_here nodes place entries entry within is (lists_of lists) before (lists_of c.if-node-len.lists.items) (omega (arith, inside, length-map lists (λ (one : Vec Entry). one.items))) new
      | else-node-len w ↦
          let past : length (lists_of lists) ≤ entry.node = omega (arith, length-map lists (λ (one : Vec Entry). one.items), c.len.ensures, w.if-node-len.false, c.loop-entry.lists.ok) in
          subst (λ (list : List (List Entry)). AreOwnEntries nodes (take (place + 1) entries) list) (sym (ap (λ (v : Vec (Vec Entry)). lists_of v.items) w.lists-is)) (dealt_past nodes place entries entry within is (lists_of lists) before past)
    ]
