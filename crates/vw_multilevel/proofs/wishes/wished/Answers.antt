-- a further wish is one more number of a chip
use Rattle.std.proofs.Common.{◌≡◌, ℕ, List, [], ◌∷◌, ◌++◌, All, sym, ap, length, subst, arith, length-append}
use Rattle.std.proofs.lemmas.List.Elements.{All-append, All-cons, All-nil}
use Rattle.vw_plan.specs.Chips.{IsChip}
use Rattle.vw_multilevel.proofs.wishes.wished.Goals as goal

all_more : (P : ℕ → Type 0) (xs more : List ℕ) (x : ℕ) → All P xs → P x → more ≡ xs ++ x ∷ [] → All P more
all_more P xs more x all here is = subst (All P) (sym is) (All-append P xs (x ∷ []) all (All-cons P x [] here (All-nil P)))

pub loop-cell-preserved : goal.loop-cell-preserved
loop-cell-preserved c = record {
  each = omega (arith, ap length c.in_ok-push.ensures.items, length-append c.loop-cell.wishes.items (c.wish.result ∷ []));
  chips = all_more (IsChip c.args.board.now) c.loop-cell.wishes.items c.push.new.self.items c.wish.result c.loop-cell.invariant.chips c.wish.ensures c.in_ok-push.ensures.items;
}

pub returns-clause-each : goal.returns-clause-each
returns-clause-each c = omega arith

pub returns-clause-chips : goal.returns-clause-chips
returns-clause-chips c = c.loop-cell.invariant.chips
