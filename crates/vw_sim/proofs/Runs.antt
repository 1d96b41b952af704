-- Gates that are worked out one after the other, with room for the nets of each.
use Rattle.std.proofs.Common.{◌≡◌, ◌≤◌, ◌<◌, ◌+◌, ◌-◌, ℕ, zero, suc, Bool, true, false, List, [], ◌∷◌, length, take, drop, map, get_or, set, slice_get, slice_index_or, nat_le, Option, Some, ap, sym, refl, subst, ◌∙◌, All, arith}
use Rattle.std.proofs.lemmas.List.{drop_more, drop-map, length-set}
use Rattle.vw_net.specs.declared.cell.Cell.{Cell}
use Rattle.vw_net.specs.declared.cell.Cell.TheVariants.{Gate}
use Rattle.vw_net.specs.declared.cover.Cover.{Cover}
use Rattle.vw_net.specs.Cells.{IsWellFormed}
use Rattle.vw_net.specs.Cover.{cover_value}
use Rattle.vw_net.specs.Order.{IsOrder, gate_inputs, is_ready}
use Rattle.vw_net.specs.TruthTable.{bit_of, place_of}
use Rattle.vw_net.proofs.FittingCells.{cell_fits}
use Rattle.vw_net.proofs.ReadyNets.{order_gate}
use Rattle.vw_sim.specs.declared.kept.TableStep.{TableStep}
use Rattle.vw_sim.specs.Steps.Tables.{table_step, table_steps, with_steps}
use Rattle.vw_sim.specs.Steps.Values.{bits_at}
use Rattle.vw_sim.proofs.Gates.{more_have_values}
use Rattle.vw_sim.proofs.KeptGates.{gate_there, kept_value}
use Rattle.vw_sim.proofs.WideGates.{fits}

-- the number of nets stays
pub length-with_steps : (room : ℕ) (steps : List (TableStep room)) (values : List Bool) → length (with_steps room steps values) ≡ length values
length-with_steps room [] values = refl
length-with_steps room (step ∷ steps) values =
    let bit = bit_of step.truth_table (place_of (bits_at values step.reads)) in
    length-with_steps room steps (set values step.net bit) ∙ length-set values step.net bit

-- where the gates before a place are made, the nets that are ready then have their values
abbrev pub Have : ℕ → List Cell → List ℕ → (ℕ → Bool) → List Bool → ℕ → Type 0
Have inputs cells order value values place = (net : ℕ) → is_ready inputs cells (take place order) net ≡ true → slice_index_or values net false ≡ value net

module _ {inputs : ℕ} {cells : List Cell} {order : List ℕ} (is_order : IsOrder inputs cells order) (fit : All (IsWellFormed (inputs + length cells)) cells) (room : ℕ) (few : room ≤ 6) (value : ℕ → Bool) (its : (number : ℕ) (ins : List ℕ) (cover : Cover) → slice_get cells number ≡ Some (Gate ins cover) → value (inputs + number) ≡ cover_value cover (map value ins)) where
  -- the values after the gate at a place
  abbrev gone : List Bool → ℕ → List Bool
  gone values place =
      let step = table_step room (inputs + get_or order place 0) (slice_get cells (get_or order place 0)) in
      set values step.net (bit_of step.truth_table (place_of (bits_at values step.reads)))

  -- one gate more
  one : (values : List Bool) (place : ℕ) → place < length order → length values ≡ inputs + length cells → fits room cells (get_or order place 0) ≡ true → Have inputs cells order value values place → Have inputs cells order value (gone values place) (place + 1)
  one values place within size narrow have =
      let number = get_or order place 0 in
      let there = gate_there (slice_get cells number) (order_gate is_order place within) in
      let well = cell_fits (inputs + length cells) cells number (Gate there.ins there.cover) fit there.is in
      let enough : nat_le (length there.ins) room ≡ true = sym (ap (λ (cell : Option Cell). nat_le (length (gate_inputs cell)) room) there.is) ∙ narrow in
      let kept : gone values place ≡ set values (inputs + number) (cover_value there.cover (bits_at values there.ins)) =
      ap (λ (cell : Option Cell). let step = table_step room (inputs + number) cell in set values step.net (bit_of step.truth_table (place_of (bits_at values step.reads)))) there.is
      ∙ ap (set values (inputs + number)) (kept_value there.cover there.ins room values well.0 enough few) in
      more_have_values is_order place within there.ins there.cover there.is value values (gone values place) (omega (arith, size)) kept (its number there.ins there.cover there.is) have

  -- so many more
  many : (count place : ℕ) (values : List Bool) → place + count ≤ length order → length values ≡ inputs + length cells → ((k : ℕ) → k < count → fits room cells (get_or order (place + k) 0) ≡ true) → Have inputs cells order value values place → Have inputs cells order value (with_steps room (take count (drop place (table_steps room inputs cells order))) values) (place + count)
  many zero place values enough size narrow have = subst (Have inputs cells order value values) (omega arith) have
  many (suc count) place values enough size narrow have =
      let number = get_or order place 0 in
      let step = λ (n : ℕ). table_step room (inputs + n) (slice_get cells n) in
      let here : fits room cells number ≡ true = ap (λ (n : ℕ). fits room cells (get_or order n 0)) (omega arith) ∙ narrow 0 (omega arith) in
      let first = one values place (omega (arith, enough)) size here have in
      let bit = bit_of (step number).truth_table (place_of (bits_at values (step number).reads)) in
      let opened : drop place (table_steps room inputs cells order) ≡ step number ∷ drop (place + 1) (table_steps room inputs cells order) =
      drop-map step place order ∙ ap (map step) (drop_more order place 0 (omega (arith, enough))) ∙ ap (λ (more : List (TableStep room)). step number ∷ more) (sym (drop-map step (place + 1) order)) in
      let rest = many count (place + 1) (gone values place) (omega (arith, enough)) (length-set values (step number).net bit ∙ size) (λ k low. ap (λ (n : ℕ). fits room cells (get_or order n 0)) (omega arith) ∙ narrow (suc k) (omega (arith, low))) first in
      let moved : Have inputs cells order value (with_steps room (take count (drop (place + 1) (table_steps room inputs cells order))) (gone values place)) (place + suc count) = subst (Have inputs cells order value (with_steps room (take count (drop (place + 1) (table_steps room inputs cells order))) (gone values place))) (omega arith) rest in
      subst (λ (steps : List (TableStep room)). Have inputs cells order value (with_steps room (take (suc count) steps) values) (place + suc count)) (sym opened) moved

  -- those up to another place
  pub part_have : (steps : List (TableStep room)) (values after : List Bool) (made end : ℕ) → steps ≡ table_steps room inputs cells order → after ≡ with_steps room (take (end - made) (drop made steps)) values → made ≤ end → end ≤ length order → length values ≡ inputs + length cells → ((k : ℕ) → k < end - made → fits room cells (get_or order (made + k) 0) ≡ true) → Have inputs cells order value values made → Have inputs cells order value after end
  part_have steps values after made end kept written from within size narrow have =
      let run = with_steps room (take (end - made) (drop made (table_steps room inputs cells order))) values in
      let same : after ≡ run = written ∙ ap (λ (all : List (TableStep room)). with_steps room (take (end - made) (drop made all)) values) kept in
      let moved : Have inputs cells order value run end = subst (Have inputs cells order value run) (omega (arith, from)) (many (end - made) made values (omega (arith, from, within)) size narrow have) in
      subst (λ (bits : List Bool). Have inputs cells order value bits end) (sym same) moved
