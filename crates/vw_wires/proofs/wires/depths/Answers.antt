use Rattle.std.proofs.Common.{◌≡◌, ◌<◌, ◌+◌, ◌++◌, ◌∙◌, ℕ, List, [], ◌∷◌, length, drop, get_or, map, ap, refl, sym, add-one, append-nil, append_assoc, drop-cons, arith}
use Rattle.std.proofs.lemmas.List.{drop_all}
use Rattle.vw_plan.specs.Needs.{depth}
use Rattle.vw_plan.specs.declared.need.Need.{Need}
use Rattle.vw_wires.proofs.wires.depths.Goals as goal
use Rattle.vw_wires.proofs.wires.depths.Goals.{in-Some, in-None}

-- what is pushed for a pair is the first of what is left
module _ (f : Need → ℕ) (needs : List Need) (place : ℕ) where
  abbrev here : Need
  here = get_or needs place (record { net = 0; to = 0 })

  one_more : (pushed more : List ℕ) (depth : ℕ) → place < length needs → depth ≡ f here → more ≡ pushed ++ depth ∷ [] → pushed ++ map f (drop place needs) ≡ map f needs → more ++ map f (drop (place + 1) needs) ≡ map f needs
  one_more pushed more depth within value is so_far =
      let rest = map f (drop (place + 1) needs) in
      let left : map f (drop place needs) ≡ f here ∷ rest = rw (add-one, drop-cons needs place (record { net = 0; to = 0 }) within) refl in
      ap (λ (front : List ℕ). front ++ rest) is
      ∙ append_assoc pushed (depth ∷ []) rest
      ∙ ap (λ (one : ℕ). pushed ++ one ∷ rest) value
      ∙ ap (λ (others : List ℕ). pushed ++ others) (sym left)
      ∙ so_far

pub loop-need-preserved : goal.loop-need-preserved
loop-need-preserved c =
    let table = c.deref.result.now in
    let net = c.net.result in
    let found = c.get.ensures.lookup.4 (omega arith) 0 in
    let read : c.match-get.depth ≡ get_or table net 0 = elim c.match-get.branch [
      | in-Some w ↦ w.depth-is ∙ (rw w.in-Some.is at found)
      | in-None w ↦ w.depth-is ∙ (rw w.in-None.is at found)
    ] in
    let value = read ∙ ap (λ (numbers : List ℕ). get_or numbers net 0) c.deref.ensures.value ∙ c.in_ok-table.ensures.depths net ∙ ap (depth c.args.ordered.now.flat c.args.chip_of.now) c.net.ensures in
    one_more (λ need. depth c.args.ordered.now.flat c.args.chip_of.now need.net) c.args.needs.now c.loop-need.need-index c.loop-need.depths.items c.push.new.self.items c.match-get.depth c.loop-need-test.true value c.in_ok-push.ensures.items c.loop-need.invariant

pub returns : goal.returns
returns c =
    let needs = c.args.needs.now in
    let pushed = c.loop-need.depths.items in
    let f = λ (need : Need). depth c.args.ordered.now.flat c.args.chip_of.now need.net in
    c.of.ensures
    ∙ sym (append-nil pushed)
    ∙ ap (λ (rest : List Need). pushed ++ map f rest) (sym (drop_all c.loop-need.need-index needs (omega arith)))
    ∙ c.loop-need.invariant
