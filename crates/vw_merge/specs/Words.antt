-- The values of nets over all values of some leaves, as words of 64 bits.
use Rattle.std.specs.Prelude.{◌≡◌, ◌<◌, ℕ, Bool, List, length, map, slice_index_or}
use Rattle.std.specs.List.{All}
use Rattle.vw_net.specs.declared.flat.Flat.{Flat}
use Rattle.vw_net.specs.TruthTable.{bit_of, place_of}
use Rattle.vw_net.specs.Value.{net_value}
use Rattle.vw_merge.specs.declared.words.NetWord.{NetWord}

-- in every clock the bit at the place of the values of the leaves is the value of the net
abbrev pub IsWord : Flat → List ℕ → ℕ → ℕ → Type 0
IsWord flat leaves net word = (row state : List Bool) → bit_of word (place_of (map (net_value flat row state) leaves)) ≡ net_value flat row state net

-- words of nets
abbrev pub AreWords : Flat → List ℕ → List NetWord → Type 0
AreWords flat leaves words = All (λ one. IsWord flat leaves one.net one.word) words

-- words that stand at the places of these nets
abbrev pub AreGathered : Flat → List ℕ → List ℕ → List ℕ → Type 0
AreGathered flat leaves nets words = (place : ℕ) → place < length nets → IsWord flat leaves (slice_index_or nets place 0) (slice_index_or words place 0)

-- the bits of words in a lane
abbrev pub bits_of : ℕ → List ℕ → List Bool
bits_of lane words = map (λ word. bit_of word lane) words
