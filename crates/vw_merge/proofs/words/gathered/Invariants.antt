-- the nets so far have their words at their places
use Rattle.std.proofs.Common.{◌≡◌, ◌<◌, ℕ, List, length, get_or}
use Rattle.vw_net.specs.declared.flat.Flat.{Flat}
use Rattle.vw_merge.specs.Words.{AreWords, IsWord}
use Rattle.vw_merge.proofs.words.gathered.Given as goal

abbrev pub invariant-loop-i : goal.invariant-loop-i
invariant-loop-i l = record {
  size : length l.found ≡ 6;
  are : (flat : Flat) (leaves : List ℕ) → AreWords flat leaves l.words → (at : ℕ) → at < l.i → IsWord flat leaves (get_or l.ins at 0) (get_or l.found at 0);
}
