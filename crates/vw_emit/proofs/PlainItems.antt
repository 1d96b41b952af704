-- The items of the nodes of an emitted board can be printed.
use Rattle.std.proofs.Common.{◌≡◌, ◌∙◌, ◌≤◌, ◌&&◌, ◌||◌, ◌==◌, not, ℕ, zero, suc, Bool, true, false, cond, List, [], ◌∷◌, length, map, replicate, nat_le, ap, refl, sym, subst, eq-eqb, inl, inr, ◌+◌, ◌-◌, ⊎_elim, arith}
use Rattle.std.specs.List.{list_all}
use Rattle.std.proofs.lemmas.Bool.{and_from, le-leb}
use Rattle.std.proofs.lemmas.List.{length-map}
use Rattle.vw_net.specs.Cells.{IsWellFormed}
use Rattle.vw_net.specs.declared.cell.Cell.TheVariants.{Gate}
use Rattle.vw_net.specs.declared.cell.Init.{Init}
use Rattle.vw_net.specs.declared.cover.Mark.{Mark}
use Rattle.vw_net.specs.declared.cover.Mark.TheVariants.{Any}
use Rattle.vw_net.specs.declared.cover.Row.{Row}
use Rattle.vw_text.specs.PlainLines.{is_plain}
use Rattle.vw_text.specs.WordLines.{is_empty}
use Rattle.vw_design.proofs.ListElements.{Has, at-Has}
use Rattle.vw_blif.specs.PlainDesigns.{is_plain_item}
use Rattle.vw_plan.specs.PlannedBoard.{PlannedBoard}
use Rattle.vw_plan.proofs.HopsOfWires.{at_place}
use Rattle.vw_emit_hardware.specs.Items.{User, node_items, send_item}
use Rattle.vw_emit_hardware.specs.Locals.{Local, LocalItem, gate, register, table}
use Rattle.vw_emit_hardware.specs.Names.{name_at}
use Rattle.vw_emit_hardware.specs.Tables.{cover_marks, off_table}
use Rattle.vw_emit_hardware.proofs.Origins.{IsGate, OfPin, Origin, leaves, of_first, of_gate, of_hop, of_latch, of_pins, of_result, of_stage, origin, sends, waits}
use Rattle.vw_emit_names.specs.Boards.{PlainItem, spelled_item}
use Rattle.vw_emit_names.specs.Spelled.{spelled}
use Rattle.vw_emit_text.specs.Numbered.{on_line}
use Rattle.vw_emit.proofs.PlainWords.{fine_local, not_empty, plain_names}

-- an item can be printed, on whatever line
abbrev pub is_printable : PlainItem → Bool
is_printable item = is_plain_item (on_line 0 item)

-- a table with these nets: of few inputs, with rows of that width, and an off-set only with rows
plain_table : (ins : List Local) (out : Local) (on : Bool) (rows : List (List Mark))
    → (nat_le (length (map spelled ins)) 128 && (list_all (λ row. length row == length (map spelled ins)) rows && (on || not (is_empty rows)))) ≡ true
    → is_printable (spelled_item (table ins out on rows)) ≡ true
plain_table ins out on rows shape =
    let size = nat_le (length (map spelled ins)) 128 && (list_all (λ row. length row == length (map spelled ins)) rows && (on || not (is_empty rows))) in
    and_from (list_all is_plain (map spelled ins)) (is_plain (spelled out) && size) (plain_names spelled fine_local ins)
    (and_from (is_plain (spelled out)) size (fine_local out).plain shape)

plain_register : (next own : Local) (init : Init) → is_printable (spelled_item (register next own init)) ≡ true
plain_register next own init =
    and_from (is_plain (spelled next)) (is_plain (spelled own) && true) (fine_local next).plain (and_from (is_plain (spelled own)) true (fine_local own).plain refl)

-- the shape of an item: a table has few inputs and rows of that width, and an off-set has a row
abbrev shape : LocalItem → Bool
shape (table ins out on rows) = nat_le (length (map spelled ins)) 128 && (list_all (λ row. length row == length (map spelled ins)) rows && (on || not (is_empty rows)))
shape (register next own init) = true

-- an item is printable by its shape alone
by_shape : (item : LocalItem) → shape item ≡ true → is_printable (spelled_item item) ≡ true
by_shape (table ins out on rows) is = plain_table ins out on rows is
by_shape (register next own init) is = plain_register next own init

-- ---- gates

module _ (ins : List Local) (out : Local) (inputs : ℕ) (wide : length ins ≡ inputs) (narrow : inputs ≤ 128) where
  long : length (map spelled ins) ≡ inputs
  long = length-map ins spelled ∙ wide

  few : nat_le (length (map spelled ins)) 128 ≡ true
  few = le-leb (length (map spelled ins)) 128 (omega (arith, long, narrow))

  even_rows : (rows : List Row) → ((row : Row) → Has row rows → length row.marks ≡ inputs)
      → list_all (λ row. length row == length (map spelled ins)) (cover_marks rows) ≡ true
  even_rows [] even = refl
  even_rows (row ∷ rows) even =
      and_from (length row.marks == length (map spelled ins)) (list_all (λ marks. length marks == length (map spelled ins)) (cover_marks rows))
      (eq-eqb (length row.marks) (length (map spelled ins)) (even row (inl refl) ∙ sym long)) (even_rows rows (λ other has. even other (inr has)))

  copies : (count : ℕ) → length (replicate count Any) ≡ count
  copies zero = refl
  copies (suc count) = ap suc (copies count)

  shaped : (on : Bool) (rows : List (List Mark)) → list_all (λ row. length row == length (map spelled ins)) rows ≡ true
      → (on || not (is_empty rows)) ≡ true → is_printable (spelled_item (table ins out on rows)) ≡ true
  shaped on rows even some =
      plain_table ins out on rows
      (and_from (nat_le (length (map spelled ins)) 128) (list_all (λ row. length row == length (map spelled ins)) rows && (on || not (is_empty rows))) few
      (and_from (list_all (λ row. length row == length (map spelled ins)) rows) (on || not (is_empty rows)) even some))

  off_shaped : (rows : List Row) → ((row : Row) → Has row rows → length row.marks ≡ inputs) → is_printable (spelled_item (off_table ins out inputs rows)) ≡ true
  off_shaped [] even =
      shaped true (replicate inputs Any ∷ [])
      (and_from (length (replicate inputs Any) == length (map spelled ins)) true (eq-eqb (length (replicate inputs Any)) (length (map spelled ins)) (copies inputs ∙ sym long)) refl) refl
  off_shaped (row ∷ rows) even = shaped false (cover_marks (row ∷ rows)) (even_rows (row ∷ rows) even) (not_empty row.marks (cover_marks rows))

  pub gate_shaped : (on : Bool) (rows : List Row) → ((row : Row) → Has row rows → length row.marks ≡ inputs)
      → is_printable (spelled_item (cond on (table ins out true (cover_marks rows)) (off_table ins out inputs rows))) ≡ true
  gate_shaped true rows even = shaped true (cover_marks rows) (even_rows rows even) refl
  gate_shaped false rows even = off_shaped rows even

-- ---- all of them

module _ (planned : PlannedBoard) (node : ℕ) where
  abbrev IsPrintable : LocalItem → Type 0
  IsPrintable item = is_printable (spelled_item item) ≡ true

  from_shape : {one : LocalItem} (item : LocalItem) → one ≡ item → shape one ≡ true → IsPrintable item
  from_shape {one} item same is = subst IsPrintable same (by_shape one is)

  of_a_gate : (item : LocalItem) → IsGate planned node item → IsPrintable item
  of_a_gate item is =
      let flat = planned.ordered.flat in
      let fit = at_place (IsWellFormed (flat.inputs + length flat.cells)) flat.cells is.cell (Gate is.ins is.cover) flat.cells_fit is.at in
      let even = λ (row : Row) (has : Has row is.cover.rows). let at = at-Has row is.cover.rows has in at_place (λ (one : Row). length one.marks ≡ is.cover.inputs) is.cover.rows at.0 row is.cover.even at.1 in
      subst IsPrintable is.same
      (gate_shaped (map (name_at planned node) is.ins) (gate is.cell) is.cover.inputs (length-map is.ins (name_at planned node) ∙ fit.0) is.cover.narrow is.cover.on is.cover.rows even)

  of_a_send : (at pin number : ℕ) (user : User) → IsPrintable (send_item at pin number user)
  of_a_send at pin zero user = by_shape (send_item at pin 0 user) refl
  of_a_send at pin (suc before) user = by_shape (send_item at pin (suc before) user) refl

  of_a_pin : (at pin lag : ℕ) (user : User) (others : List User) (item : LocalItem) → OfPin planned node at pin lag user others item → IsPrintable item
  of_a_pin at pin lag user others item (sends number one there same) = subst IsPrintable same (of_a_send at pin number one)
  of_a_pin at pin lag user others item (waits later below same) = from_shape item same refl
  of_a_pin at pin lag user others item (leaves same) = from_shape item same refl

  printable : (item : LocalItem) → Origin planned node item → IsPrintable item
  printable item (of_first same) = from_shape item same refl
  printable item (of_stage is) = from_shape item is.same refl
  printable item (of_gate is) = of_a_gate item is
  printable item (of_latch is) = ⊎_elim (λ same. from_shape item same refl) (λ same. from_shape item same refl) is.same
  printable item (of_hop is) = ⊎_elim (λ same. from_shape item same refl) (λ same. from_shape item same refl) is.same
  printable item (of_pins is) = of_a_pin is.at is.pin (is.link.delay - 1) is.user is.others item is.item_is
  printable item (of_result is) = from_shape item is.same refl

  pub node_printable : list_all is_printable (map spelled_item (node_items planned node)) ≡ true
  node_printable = all_of (node_items planned node) (λ item has. printable item (origin planned node item (at-Has item (node_items planned node) has))) where
    all_of : (list : List LocalItem) → ((item : LocalItem) → Has item list → IsPrintable item) → list_all is_printable (map spelled_item list) ≡ true
    all_of [] each = refl
    all_of (item ∷ list) each =
        and_from (is_printable (spelled_item item)) (list_all is_printable (map spelled_item list)) (each item (inl refl)) (all_of list (λ other has. each other (inr has)))
