-- What a cell adds to the gates of a code.
use Rattle.std.proofs.Common.{◌≡◌, ◌<◌, ◌≤◌, ◌+◌, ◌++◌, ◌∷◌, ℕ, Bool, true, false, List, [], length, get_or, nat_le, slice_get, Option, Some, None, if◌then◌else◌, ap, refl, sym, ◌∙◌, le-leb}
use Rattle.std.proofs.lemmas.Bool.{lt-leb}
use Rattle.std.proofs.lemmas.List.{append-nil}
use Rattle.std.proofs.lemmas.Option.{slice_get_past, slice_get_read}
use Rattle.vw_net.specs.declared.cell.Cell.{Cell}
use Rattle.vw_net.specs.declared.cell.Cell.TheVariants.{Gate}
use Rattle.vw_net.specs.declared.cover.Cover.{Cover}
use Rattle.vw_net.specs.TruthTable.{truth_table as truth_table_of}
use Rattle.vw_prog.specs.declared.code.Op.TheVariants.{Run, Wide}
use Rattle.vw_prog.specs.declared.gates.PaddedGate.{PaddedGate}
use Rattle.vw_prog.specs.declared.code.WideGate.{WideGate}
use Rattle.vw_prog.specs.Coding.{cell_gates, cell_op, cell_wide, table_gate, wide_gate}

pub nothing_more : {X : Type 0} (xs : List X) → xs ≡ xs ++ []
nothing_more xs = sym (append-nil xs)

pub cell_there : (its cells : List Cell) (number : ℕ) (cell : Cell) → its ≡ cells → number < length its → cell ≡ get_or its number cell → slice_get cells number ≡ Some cell
cell_there its cells number cell are within is = ap (λ (list : List Cell). slice_get list number) (sym are) ∙ slice_get_read its (length its) number cell refl within is

pub none_there : (its cells : List Cell) (number : ℕ) → its ≡ cells → length its ≤ number → slice_get cells number ≡ None
none_there its cells number are past = ap (λ (list : List Cell). slice_get list number) (sym are) ∙ slice_get_past its number past

-- a gate of at most six inputs, and a wider one
module _ {cell : Option Cell} {ins : List ℕ} {cover : Cover} (is : cell ≡ Some (Gate ins cover)) where
  module _ (few : cover.inputs ≤ 6) where
    small : nat_le cover.inputs 6 ≡ true
    small = le-leb cover.inputs 6 few

    pub small_op : (slot first place : ℕ) → Run first (first + 1) slot ≡ cell_op slot first place cell
    small_op slot first place = sym (ap (cell_op slot first place) is ∙ ap (λ (one : Bool). if one then Run first (first + 1) slot else Wide place) small)

    pub small_gates : (inputs : ℕ) (table : List ℕ) (number : ℕ) (gates new : List PaddedGate) → new ≡ gates ++ table_gate table ins cover.inputs (truth_table_of cover) ∷ [] → new ≡ gates ++ cell_gates inputs table number cell
    small_gates inputs table number gates new added =
        added
        ∙ sym (ap (λ (one : Option Cell). gates ++ cell_gates inputs table number one) is ∙ ap (λ (one : Bool). gates ++ (if one then table_gate table ins cover.inputs (truth_table_of cover) ∷ [] else [])) small)

    pub small_wide : (inputs : ℕ) (table : List ℕ) (number : ℕ) (wide : List WideGate) → wide ≡ wide ++ cell_wide inputs table number cell
    small_wide inputs table number wide =
        nothing_more wide
        ∙ sym (ap (λ (one : Option Cell). wide ++ cell_wide inputs table number one) is ∙ ap (λ (one : Bool). wide ++ (if one then [] else wide_gate table number (inputs + number) ins ∷ [])) small)

  module _ (many : 6 < cover.inputs) where
    large : nat_le cover.inputs 6 ≡ false
    large = lt-leb cover.inputs 6 many

    pub large_op : (slot first place : ℕ) → Wide place ≡ cell_op slot first place cell
    large_op slot first place = sym (ap (cell_op slot first place) is ∙ ap (λ (one : Bool). if one then Run first (first + 1) slot else Wide place) large)

    pub large_gates : (inputs : ℕ) (table : List ℕ) (number : ℕ) (gates : List PaddedGate) → gates ≡ gates ++ cell_gates inputs table number cell
    large_gates inputs table number gates =
        nothing_more gates
        ∙ sym (ap (λ (one : Option Cell). gates ++ cell_gates inputs table number one) is ∙ ap (λ (one : Bool). gates ++ (if one then table_gate table ins cover.inputs (truth_table_of cover) ∷ [] else [])) large)

    pub large_wide : (inputs : ℕ) (table : List ℕ) (number : ℕ) (wide new : List WideGate) → new ≡ wide ++ wide_gate table number (inputs + number) ins ∷ [] → new ≡ wide ++ cell_wide inputs table number cell
    large_wide inputs table number wide new added =
        added
        ∙ sym (ap (λ (one : Option Cell). wide ++ cell_wide inputs table number one) is ∙ ap (λ (one : Bool). wide ++ (if one then [] else wide_gate table number (inputs + number) ins ∷ [])) large)
