use Rattle.std.proofs.Common.{◌≡◌, ◌∙◌, ◌+◌, ℕ, List, ap, subst, sym}
use Rattle.vw_net.specs.declared.flat.Flat.{Flat}
use Rattle.vw_merge.specs.declared.words.NetWord.{NetWord}
use Rattle.vw_merge.specs.Words.{AreWords, IsWord}
use Rattle.vw_merge.proofs.GatheredWords.{word_more}
use Rattle.vw_merge.proofs.words.worked_out.Goals as goal

-- a gate's word more
pub loop-place-preserved : goal.loop-place-preserved
loop-place-preserved c =
    let flat = c.args.ordered.now.flat in
    let before = subst (λ (words : List NetWord). AreWords flat c.args.leaves.now words) (sym c.deref.ensures.value) c.loop-place.invariant in
    let first : c.inputs.result ≡ flat.inputs = c.inputs.ensures ∙ ap (λ (f : Flat). f.inputs) c.flat.ensures in
    let here : IsWord flat c.args.leaves.now (c.inputs.result + c.in-Some.number) c.in-Some-word_of_gate.word = subst (λ (inputs : ℕ). IsWord flat c.args.leaves.now (inputs + c.in-Some.number) c.in-Some-word_of_gate.word) (sym first) (c.in-Some-word_of_gate.ensures c.args.leaves.now c.requires.few before) in
    word_more flat c.args.leaves.now c.loop-place.words.items c.push.new.self.items _ c.loop-place.invariant here c.in_ok-push.ensures.items

pub returns : goal.returns
returns c = c.word_of.ensures c.args.ordered.now.flat c.args.leaves.now (subst (λ (words : List NetWord). AreWords c.args.ordered.now.flat c.args.leaves.now words) (sym c.deref-2.ensures.value) c.loop-place.invariant)
