use Rattle.std.proofs.Common.{◌≡◌, ◌-◌, ◌+◌, ◌++◌, ◌∷◌, [], ◌∙◌, ℕ, suc, List, ap, sym, append_assoc, arith}
use Rattle.std.specs.List.{range_with_len}
use Rattle.vw_prog.proofs.naming.list_inputs.Goals as goal

pub loop-net-preserved : goal.loop-net-preserved
loop-net-preserved c =
    let net = c.loop-net.net in
    let list = c.loop-net.list.items in
    let more = range_with_len (net + 1) (c.args.inputs - (net + 1)) in
    let left : c.args.inputs - net ≡ suc (c.args.inputs - (net + 1)) = omega (arith, c.loop-net-test.true) in
    ap (λ (now : List ℕ). now ++ more) c.in_ok-push.ensures.items ∙ append_assoc list (net ∷ []) more ∙ ap (λ (many : ℕ). list ++ range_with_len net many) (sym left) ∙ c.loop-net.invariant
