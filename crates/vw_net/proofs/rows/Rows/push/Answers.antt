use Rattle.std.proofs.Common.{length, ◌++◌, ◌∷◌, [], ℕ, ◌+◌, Bool, List, subst, sym, ap, ◌∙◌, arith}
use Rattle.std.proofs.lemmas.List.{length-append}
use Rattle.vw_net.specs.Cut.{cut, AreEnds}
use Rattle.vw_net.proofs.Cuts.{AreEnds-more, cut-more}
use Rattle.vw_net.proofs.rows.Rows.push.Goals as goal

pub invariant_of-self-in_default : goal.invariant_of-self-in_default
invariant_of-self-in_default c =
    let bits = c.self.inside.bits.items in
    let ends = c.self.inside.ends.items in
    let row = c.args.row.now in
    let put = c.in_ok-push.ensures.items ∙ ap (λ (n : ℕ). ends ++ ((n + length row) ∷ [])) (c.len.ensures ∙ c.self.inside.bits.ok.0) in
    let size = ap (λ (xs : List Bool). length xs) c.in_default.ensures.items ∙ length-append bits row in
    let grown : AreEnds 0 (ends ++ ((length bits + length row) ∷ [])) (length bits + length row) =
    AreEnds-more 0 (length bits) (length bits + length row) ends c.self.invariant (omega arith) in
    subst (λ (n : ℕ). AreEnds 0 c.push.new.self.items n) (sym size)
    (subst (λ (xs : List ℕ). AreEnds 0 xs (length bits + length row)) (sym put) grown)

pub returns-clause-pushed : goal.returns-clause-pushed
returns-clause-pushed c =
    let bits = c.self.inside.bits.items in
    let ends = c.self.inside.ends.items in
    let row = c.args.row.now in
    let same = ap (λ (n : ℕ). ends ++ ((n + length row) ∷ [])) (c.len.ensures ∙ c.self.inside.bits.ok.0) in
    let put = c.in_ok-push.ensures.items ∙ same in
    ap (λ (xs : List ℕ). cut 0 xs c.extend_from_slice.new.self.items) put
    ∙ ap (λ (xs : List Bool). cut 0 (ends ++ ((length bits + length row) ∷ [])) xs) c.in_default.ensures.items
    ∙ cut-more 0 ends bits row c.self.invariant
    ∙ ap (λ (rows : List (List Bool)). rows ++ (row ∷ [])) c.self.view_is
