use Rattle.std.proofs.Common.{◌≡◌, ◌<◌, ◌∙◌, ℕ, List, length, not, All, ap, subst, sym, arith}
use Rattle.vw_fault.specs.declared.open.Open.{Open}
use Rattle.vw_fault.specs.Shares.{open_shared, shared_faults}
use Rattle.vw_fault.specs.Stuck.{is_detected}
use Rattle.vw_fault.proofs.Shares.{open_shared_within}
use Rattle.vw_fault.proofs.Texts.{fewer}
use Rattle.vw_fault.proofs.text.share_text.Goals as goal

-- each net has a name
pub text_of-requires-clause-named : goal.text_of-requires-clause-named
text_of-requires-clause-named g c =
    let flat = c.args.ordered.now.flat in
    let are : c.deref.result.now ≡ open_shared c.args.share.number c.args.share.shares flat c.args.start.now c.args.rows.now = c.deref.ensures.value ∙ c.in_ok-graded.ensures.left in
    subst (All (λ (fault : Open). fault.net < length c.args.names.now)) (sym are)
    (subst (λ (nets : ℕ). All (λ (fault : Open). fault.net < nets) (open_shared c.args.share.number c.args.share.shares flat c.args.start.now c.args.rows.now)) (sym c.requires.names)
    (open_shared_within c.args.share.number c.args.share.shares flat c.args.start.now c.args.rows.now))

-- those that are left are some of the share
pub text_of-requires-clause-few : goal.text_of-requires-clause-few
text_of-requires-clause-few g c =
    let flat = c.args.ordered.now.flat in
    omega (
      arith,
      ap (λ (list : List Open). length list) (c.deref.ensures.value ∙ c.in_ok-graded.ensures.left),
      c.in_ok-graded.ensures.count,
      fewer (λ (fault : Open). not (is_detected flat c.args.start.now c.args.rows.now fault)) (shared_faults c.args.share.number c.args.share.shares flat),
    )
