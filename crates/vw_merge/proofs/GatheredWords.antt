-- Words of nets that are pushed, found and gathered.
use Rattle.std.proofs.Common.{◌≡◌, ◌≤◌, ◌<◌, ◌+◌, ◌++◌, ◌∙◌, ℕ, suc, Bool, List, [], ◌∷◌, length, map, take, get_or, set, ap, ap₂, sym, refl, subst, ⊎_elim, All, arith}
use Rattle.std.proofs.lemmas.Bool.{cases_eq}
use Rattle.std.proofs.lemmas.Grind.{get_or-set_at}
use Rattle.std.proofs.lemmas.List.{get_or-set_other, length-map}
use Rattle.std.proofs.lemmas.List.Elements.{All-append, All-cons, All-nil}
use Rattle.vw_net.specs.declared.cover.Cover.{Cover}
use Rattle.vw_net.specs.declared.flat.Flat.{Flat}
use Rattle.vw_net.specs.Cover.{cover_value}
use Rattle.vw_net.specs.Steps.MatchedPlaces.{input_tables}
use Rattle.vw_net.specs.TruthTable.{bit_of, place_of}
use Rattle.vw_net.specs.Value.{net_value}
use Rattle.vw_merge.specs.declared.words.NetWord.{NetWord}
use Rattle.vw_merge.specs.Words.{AreGathered, AreWords, IsWord, bits_of}
use Rattle.vw_merge.proofs.LeafWords.{leaf_value, place_below}

module _ (flat : Flat) (leaves : List ℕ) where
  -- one word more
  pub word_more : (words more : List NetWord) (one : NetWord) → AreWords flat leaves words → IsWord flat leaves one.net one.word → more ≡ words ++ one ∷ [] → AreWords flat leaves more
  word_more words more one all here is =
      let Its : NetWord → Type 0 = λ it. IsWord flat leaves it.net it.word in
      subst (All Its) (sym is) (All-append Its words (one ∷ []) all (All-cons Its one [] here (All-nil Its)))

  -- that of a leaf
  pub leaf_more : (words more : List NetWord) (i leaf word : ℕ) → i < length leaves → length leaves ≤ 6 → leaf ≡ get_or leaves i 0 → word ≡ get_or input_tables i 0
      → AreWords flat leaves words → more ≡ words ++ record { net = leaf; word = word } ∷ [] → AreWords flat leaves more
  leaf_more words more i leaf word within few leaf_is word_is all is =
      word_more words more _ all
      (λ row state. ap (λ (w : ℕ). bit_of w (place_of (map (net_value flat row state) leaves))) word_is ∙ leaf_value (net_value flat row state) leaves i within few ∙ ap (net_value flat row state) (sym leaf_is))
      is

  -- one word more that was found for a net
  pub gathered_more : (nets found after : List ℕ) (place net word : ℕ) → place < length found → net ≡ get_or nets place 0 → after ≡ set found place word → IsWord flat leaves net word
      → ((at : ℕ) → at < place → IsWord flat leaves (get_or nets at 0) (get_or found at 0))
      → (at : ℕ) → at < place + 1 → IsWord flat leaves (get_or nets at 0) (get_or after at 0)
  gathered_more nets found after place net word within net_is written here before at low =
      let if_here = λ (same : at ≡ place). subst (IsWord flat leaves (get_or nets at 0)) (sym (get_or-set_at found place at word 0 same within)) (subst (λ (n : ℕ). IsWord flat leaves n word) (net_is ∙ ap (λ (n : ℕ). get_or nets n 0) (sym same)) here) in
      let if_before = λ (other : at ≡ place → ⊥). subst (IsWord flat leaves (get_or nets at 0)) (sym (get_or-set_other found place at word 0 other)) (before at (omega (arith, low, other))) in
      subst (λ (xs : List ℕ). IsWord flat leaves (get_or nets at 0) (get_or xs at 0)) (sym written) (⊎_elim if_here if_before (cases_eq at place))

  -- the bits of gathered words at the place of the leaves' values are the values of the nets
  gathered_from : (row state : List Bool) (nets found : List ℕ)
      → ((at : ℕ) → at < length nets → IsWord flat leaves (get_or nets at 0) (get_or found at 0))
      → length nets ≤ length found
      → bits_of (place_of (map (net_value flat row state) leaves)) (take (length nets) found) ≡ map (net_value flat row state) nets
  gathered_from row state [] found are room = refl
  gathered_from row state (net ∷ nets) [] are room = absurd (omega (arith, room))
  gathered_from row state (net ∷ nets) (word ∷ found) are room =
      ap₂ (λ (first : Bool) (more : List Bool). first ∷ more)
      (are 0 (omega arith) row state)
      (gathered_from row state nets found (λ at low. are (suc at) (omega (arith, low))) (omega (arith, room)))

  -- so the value of a table over gathered words is that of its net
  pub gate_has : (number : ℕ) (nets ins found : List ℕ) (cover : Cover) (words : List ℕ) (result : ℕ)
      → ((row state : List Bool) → net_value flat row state (flat.inputs + number) ≡ cover_value cover (map (net_value flat row state) ins))
      → nets ≡ ins → words ≡ take (length nets) found → length nets ≤ length found → length leaves ≤ 6
      → AreGathered flat leaves nets found
      → ((lane : ℕ) → lane < 64 → bit_of result lane ≡ cover_value cover (bits_of lane words))
      → IsWord flat leaves (flat.inputs + number) result
  gate_has number nets ins found cover words result its nets_are words_are room few are lanes = λ row state.
      let value = net_value flat row state in
      let bits = map value leaves in
      let lane = place_of bits in
      lanes lane (place_below bits (omega (arith, few, length-map leaves value)))
      ∙ ap (cover_value cover) (ap (bits_of lane) words_are ∙ gathered_from row state nets found are room ∙ ap (map value) nets_are)
      ∙ sym (its row state)
