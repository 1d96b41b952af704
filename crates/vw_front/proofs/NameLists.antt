-- Lists of names that are made one after the other.
use Rattle.std.proofs.Common.{◌≡◌, ◌<◌, ◌+◌, ◌++◌, ◌∙◌, ℕ, List, [], ◌∷◌, length, map, drop, Option, Some, None, option_map, slice_get, get_or, refl, sym, ap, ap₂, append_assoc, arith}
use Rattle.std.proofs.lemmas.List.{drop_more, length-map, length-append}
use Rattle.std.proofs.lemmas.Option.{none-some, same_Some, slice_get_within, slice_get-get_or}
use Rattle.vw_net.proofs.GatheredLists.{mapped_more, one_gathered}
use Rattle.vw_net.specs.declared.cell.Cell.{Cell}
use Rattle.vw_net.specs.declared.cell.Cell.TheVariants.{Gate, Latch}
use Rattle.vw_net.specs.declared.cell.Init.{Init}
use Rattle.vw_net.specs.declared.cover.Cover.{Cover}
use Rattle.vw_net.specs.declared.flat.Flat.{Flat}
use Rattle.vw_design.specs.declared.design.Design.{Design}
use Rattle.vw_design.specs.Paths.{Word, Net, printed}
use Rattle.vw_design.specs.NetReads.{net_at}
use Rattle.vw_design.specs.Clocks.{columns}
use Rattle.vw_design.specs.Preorder.{Site, cells}
use Rattle.vw_design.specs.Flattened.{IsFlatOf, IsCellOf}
use Rattle.vw_design.proofs.PairedLists.{AllZip-length}
use Rattle.vw_flat.specs.Printed.{printed_site}
use Rattle.vw_front.specs.Names.{net_names}
use Rattle.vw_front.specs.Steps.LatchNames.{latch_names}

-- what an element of a list gives is the next name
pub name_more : {X : Type 0} (f : X → Word) (xs : List X) (place : ℕ) (made more whole : List Word) (name : Word)
    → option_map f (slice_get xs place) ≡ Some name → more ≡ made ++ name ∷ [] → made ++ map f (drop place xs) ≡ whole → more ++ map f (drop (place + 1) xs) ≡ whole
name_more {X} f xs place made more whole name is written so_far = by (slice_get xs place) refl where
  by : (found : Option X) → slice_get xs place ≡ found → more ++ map f (drop (place + 1) xs) ≡ whole
  by None at = absurd (none-some name (sym (ap (option_map f) at) ∙ is))
  by (Some x) at =
      let within = slice_get_within xs place x at in
      let here : name ≡ f (get_or xs place x) =
      sym (same_Some (f x) name (sym (ap (option_map f) at) ∙ is)) ∙ ap f (same_Some x (get_or xs place x) (sym at ∙ slice_get-get_or xs place x within)) in
      mapped_more f xs place x made more whole name within here written so_far

-- three lists of names, one appended behind the other
pub appended_twice : (first second third one two three : List Word) → one ≡ [] ++ first → two ≡ one ++ second → three ≡ two ++ third → three ≡ first ++ (second ++ third)
appended_twice first second third one two three is_one is_two is_three =
    is_three ∙ ap (λ (front : List Word). front ++ third) (is_two ∙ ap (λ (front : List Word). front ++ second) is_one) ∙ append_assoc first second third

-- an output of the root is printed as its name
pub printed_outputs : (names : List Word) → map printed (map (net_at []) names) ≡ names
printed_outputs [] = refl
printed_outputs (name ∷ names) = ap (λ (rest : List Word). name ∷ rest) (printed_outputs names)

-- each net of a netlist has a name in its design
pub all_named : (design : Design) (nets : List Net) (flat : Flat) → IsFlatOf design nets flat → length (net_names design) ≡ flat.inputs + length flat.cells
all_named design nets flat is =
    let both = length-append (columns design) (map printed_site (cells design)) in
    let names = length-map (cells design) printed_site in
    let made = AllZip-length (λ (site : Site) (cell : Cell). IsCellOf design site.path site.item cell) (cells design) flat.cells is.cells in
    omega (arith, both, names, made, is.inputs)

-- an element of a list of names is the next one
pub element_more : (xs : List Word) (place : ℕ) (made more whole : List Word) (name : Word) → slice_get xs place ≡ Some name → more ≡ made ++ name ∷ [] → made ++ drop place xs ≡ whole → more ++ drop (place + 1) xs ≡ whole
element_more xs place made more whole name at written so_far =
    let within = slice_get_within xs place name at in
    let here : name ≡ get_or xs place name = same_Some name (get_or xs place name) (sym at ∙ slice_get-get_or xs place name within) in
    one_gathered (λ (i : ℕ) (left : List Word). left) xs place name made whole within here so_far more name refl written

module _ (cell : Cell) (cells : List Cell) (nets : List Word) (place : ℕ) (within : place < length nets) where
  -- a latch gives its name
  pub latch_gives : (d : ℕ) (init : Init) → cell ≡ Latch d init → (name : Word) → name ≡ get_or nets place name → latch_names (cell ∷ cells) (drop place nets) ≡ name ∷ latch_names cells (drop (place + 1) nets)
  latch_gives d init is name at =
      ap₂ (λ (one : Cell) (names : List Word). latch_names (one ∷ cells) names) is (drop_more nets place name within ∙ ap (λ (first : Word). first ∷ drop (place + 1) nets) (sym at))

  -- and a gate none
  pub gate_gives : (ins : List ℕ) (cover : Cover) → cell ≡ Gate ins cover → latch_names (cell ∷ cells) (drop place nets) ≡ latch_names cells (drop (place + 1) nets)
  gate_gives ins cover is = ap₂ (λ (one : Cell) (names : List Word). latch_names (one ∷ cells) names) is (drop_more nets place [] within)
