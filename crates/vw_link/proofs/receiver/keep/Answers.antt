use Rattle.std.proofs.Common.{List, ap, subst, sym, ◌∙◌, ◌++◌, ◌∷◌, ◌≤◌, ℕ, length, []}
use Rattle.vw_prog.specs.declared.word.Word.{Word}
use Rattle.vw_link.specs.Ends.{HasWordsTaken, Keeps}
use Rattle.vw_link.proofs.WordParts.{take_more}
use Rattle.vw_link.proofs.receiver.keep.Goals as goal

pub returns-in-Some-clause-kept : goal.returns-in-Some-clause-kept
returns-in-Some-clause-kept c link pass next kept =
    let before : HasWordsTaken link pass c.in-Some.piece.value = subst (Keeps link pass) c.in-Some.is kept in
    let here : HasWordsTaken link pass c.deref_mut.result.now = subst (HasWordsTaken link pass) (sym c.deref_mut.ensures.value) before in
    record {
      same = here.same;
      words = c.push_reserved.ensures.items ∙ ap (λ (words : List Word). words ++ c.args.word ∷ []) here.words ∙ take_more pass.words pass.taken c.args.word next;
      room = subst (λ (room : ℕ). length pass.words ≤ room) (sym c.push_reserved.ensures.capacity) here.room;
    }
