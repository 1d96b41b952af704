use Rattle.std.proofs.Common.{◌≡◌, ◌==◌, ℕ, true, List, [], ◌∷◌, length, refl, eqb-true, rules, arith}
use Rattle.std.specs.Prelude.{codes}
use Rattle.vw_plantext.proofs.plan_text.end_of.Goals as goal

-- a list without elements
none_there : (list : List ℕ) → (length list == 0) ≡ true → list ≡ []
none_there [] none = refl
none_there (x ∷ xs) none = let size : length (x ∷ xs) ≡ 0 = eqb-true (length (x ∷ xs)) 0 none in absurd (omega arith)

pub returns-clause-ends : goal.returns-clause-ends
returns-clause-ends c =
    let line : c.args.line.now ≡ codes "end" = search rules in
    let empty : (length c.args.after.now == 0) ≡ true = search rules in
    record { line_ = line; nothing = none_there c.args.after.now empty; is = c.finish.ensures }
