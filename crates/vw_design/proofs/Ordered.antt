-- Where the gates of a design's netlist have an order, the design is free of loops.
use Rattle.std.proofs.Common.{◌≡◌, ◌<◌, ◌≤◌, ◌+◌, ◌-◌, ◌||◌, ◌==◌, ℕ, true, false, List, [], ◌∷◌, ◌++◌, length, take, slice_index, Option, Some, None, slice_get, nat_lt, ⊎_elim, refl, sym, ◌∙◌, ap, ap₂, subst, true≢false, arith}
use Rattle.std.specs.List.{list_any, list_all, AllZip}
use Rattle.std.proofs.lemmas.Bool.{or_cases, eqb-true, le-ltb}
use Rattle.std.proofs.lemmas.List.{length-take, get_or-take, take_all}
use Rattle.std.proofs.lemmas.Option.{same_Some, slice_get_within, get_or_from_slice_get}
use Rattle.vw_net.proofs.DrivenValues.{is_gate-latch}
use Rattle.vw_net.specs.declared.cell.Cell.{Cell}
use Rattle.vw_net.specs.declared.cell.Cell.TheVariants.{Gate as FlatGate, Latch}
use Rattle.vw_net.specs.declared.flat.Flat.{Flat}
use Rattle.vw_net.specs.Order.{IsOrder, is_gate, is_latch, is_among, is_ready, read_nets_at}
use Rattle.vw_design.specs.declared.item.Item.{Item}
use Rattle.vw_design.specs.declared.item.Item.TheVariants.{Names, Latch as LatchItem, Sub}
use Rattle.vw_net.specs.declared.cover.Cover.{Cover}
use Rattle.vw_design.specs.declared.design.Design.{Design}
use Rattle.vw_design.specs.Paths.{Word, Path, Net}
use Rattle.vw_design.specs.Preorder.{Site, is_cell, sites, cells}
use Rattle.vw_design.specs.PathValue.{item_at}
use Rattle.vw_design.specs.Flattened.{IsCellOf, IsFlatOf}
use Rattle.vw_design.specs.Accepted.{IsAccepted}
use Rattle.vw_design.specs.Loops.{Gate, gate_at, reads_from, gate_reads, IsLoopFree}
use Rattle.vw_design.proofs.ListElements.{Has-at, at-Has, from-any, all-Has, from-filter}
use Rattle.vw_design.proofs.Sites.{site_item}
use Rattle.vw_design.proofs.FlatValues.{site_of_place}
use Rattle.vw_design.proofs.DriverNumbers.{cell_place}
use Rattle.vw_design.proofs.FlatReads.{reads_agree}
use Rattle.vw_design.proofs.PairedLists.{AllZip-at}

module _ (design : Design) (accepted : IsAccepted design) (watched : List Net) (flat : Flat) (made : IsFlatOf design watched flat) (order : List ℕ) (is_order : IsOrder flat.inputs flat.cells order) where
  -- a gate of the design, as it stands among the cells
  record IsListedGate (gate : Gate) : Type 0 where
    line : ℕ
    ins : List Word
    out : Word
    cover : Cover
    place : ℕ
    site : Site
    at : slice_get (cells design) place ≡ Some site
    same : gate_at site ≡ gate
    item : site.item ≡ Names line ins out cover
    cell_gate : is_gate (slice_get flat.cells place) ≡ true

  -- what reads is a gate
  reader_by : (gate next : Gate) (item : Option Item) → item_at design gate.path gate.number ≡ item
      → reads_from design gate.path next item ≡ true → IsListedGate gate
  reader_by gate next None is reads = absurd (true≢false (sym reads))
  reader_by gate next (Some (LatchItem line d q edge control init)) is reads = absurd (true≢false (sym reads))
  reader_by gate next (Some (Sub line model binds)) is reads = absurd (true≢false (sym reads))
  reader_by gate next (Some (Names line ins out cover)) is reads =
      let place = cell_place design accepted.models gate.path gate.number (Names line ins out cover) is refl in
      let found = site_of_place (cells design) gate.path gate.number place.0 place.1 in
      let site = found.0 in
      let listed = from-filter (λ (s : Site). is_cell s.item) site (sites design) (Has-at site (cells design) place.0 found.1) in
      let item : site.item ≡ Names line ins out cover =
      same_Some site.item (Names line ins out cover) (sym (site_item design site listed.0) ∙ ap₂ (item_at design) found.2 found.3 ∙ is) in
      let along = AllZip-at (λ (s : Site) (cell : Cell). IsCellOf design s.path s.item cell) (cells design) flat.cells place.0 site made.cells found.1 in
      let gate_cell : is_gate (slice_get flat.cells place.0) ≡ true =
      ap is_gate along.1 ∙ of_cell site.path along.0 (subst (λ (i : Item). IsCellOf design site.path i along.0) item along.2) in
      record {
        line = line;
        ins = ins;
        out = out;
        cover = cover;
        place = place.0;
        site = site;
        at = found.1;
        same = ap₂ (λ (p : Path) (n : ℕ). record { path = p; number = n }) found.2 found.3;
        item = item;
        cell_gate = gate_cell;
      }
    where
      of_cell : (path : Path) (cell : Cell) → IsCellOf design path (Names line ins out cover) cell → is_gate (Some cell) ≡ true
      of_cell path (FlatGate nets table) is = refl
      of_cell path (Latch net start) is = absurd is

  reader : (gate next : Gate) → gate_reads design gate next ≡ true → IsListedGate gate
  reader gate next reads = reader_by gate next (item_at design gate.path gate.number) refl reads

  -- a place in the order
  record StandsInOrder (cell limit : ℕ) : Type 0 where
    index : ℕ
    below : index < limit
    within : index < length order
    is : slice_index order index ≡ cell

  placed_among : (cell limit : ℕ) → limit ≤ length order → is_among (take limit order) cell ≡ true → StandsInOrder cell limit
  placed_among cell limit fits among =
      let found = from-any (λ (other : ℕ). other == cell) (take limit order) among in
      let at = at-Has found.0 (take limit order) found.1 in
      let inside = slice_get_within (take limit order) at.0 found.0 at.1 in
      let size = length-take limit order in
      let below : at.0 < limit = omega (arith, inside, size) in
      record {
        index = at.0;
        below = below;
        within = omega (arith, below);
        is = sym (get_or-take limit order at.0 0 below) ∙ get_or_from_slice_get (take limit order) at.0 found.0 0 at.1 ∙ eqb-true found.0 cell found.2;
      }

  -- a gate stands behind the gates that it reads
  earlier : (gate next : Gate) (a : IsListedGate gate) (b : IsListedGate next) → gate_reads design gate next ≡ true → (index : ℕ)
      → index < length order → slice_index order index ≡ a.place → StandsInOrder b.place index
  earlier gate next a b reads index within is =
      let nets = read_nets_at (slice_get flat.cells a.place) in
      let agree = reads_agree design watched flat made a.place b.place a.site b.site a.at b.at a.line a.ins a.out a.cover a.item in
      let any : list_any (λ (net : ℕ). net == flat.inputs + b.place) nets ≡ true = sym agree ∙ ap₂ (gate_reads design) a.same b.same ∙ reads in
      let found = from-any (λ (net : ℕ). net == flat.inputs + b.place) nets any in
      let net : found.0 ≡ flat.inputs + b.place = eqb-true found.0 (flat.inputs + b.place) found.2 in
      let all : list_all (is_ready flat.inputs flat.cells (take index order)) nets ≡ true =
      ap (λ (cell : ℕ). list_all (is_ready flat.inputs flat.cells (take index order)) (read_nets_at (slice_get flat.cells cell))) (sym is) ∙ is_order.after index within in
      let ready = all-Has (is_ready flat.inputs flat.cells (take index order)) found.0 nets all found.1 in
      let place : found.0 - flat.inputs ≡ b.place = omega (arith, net) in
      let no_input : nat_lt found.0 flat.inputs ≡ false = le-ltb found.0 flat.inputs (omega (arith, net)) in
      let behind = or_cases (nat_lt found.0 flat.inputs) (is_latch (slice_get flat.cells (found.0 - flat.inputs)) || is_among (take index order) (found.0 - flat.inputs)) ready in
      let driven = ⊎_elim (λ input. absurd (true≢false (sym input ∙ no_input))) (λ driven. driven) behind in
      let among = ⊎_elim
      (λ latch. absurd (true≢false (sym b.cell_gate ∙ is_gate-latch (slice_get flat.cells b.place) (ap (λ (n : ℕ). is_latch (slice_get flat.cells n)) (sym place) ∙ latch))))
      (λ among. ap (is_among (take index order)) (sym place) ∙ among)
      (or_cases (is_latch (slice_get flat.cells (found.0 - flat.inputs))) (is_among (take index order) (found.0 - flat.inputs)) driven) in
      placed_among b.place index (omega arith) among

  -- the first gate of some that lead to another is one
  first_gate : (gate : Gate) (gates : List Gate) (last : Gate)
      → AllZip (λ one next. gate_reads design one next ≡ true) (gate ∷ gates) (gates ++ last ∷ []) → IsListedGate gate
  first_gate gate [] last leads = reader gate last leads.0
  first_gate gate (next ∷ gates) last leads = reader gate next leads.0

  -- along gates of which each reads the next, places in the order fall
  falls : (gate : Gate) (gates : List Gate) (last : Gate)
      → AllZip (λ one next. gate_reads design one next ≡ true) (gate ∷ gates) (gates ++ last ∷ [])
      → (a : IsListedGate gate) (b : IsListedGate last)
      → (index : ℕ) → index < length order → slice_index order index ≡ a.place → StandsInOrder b.place index
  falls gate [] last leads a b index within is = earlier gate last a b leads.0 index within is
  falls gate (next ∷ gates) last leads a b index within is =
      let middle = first_gate next gates last leads.1 in
      let here = earlier gate next a middle leads.0 index within is in
      let further = falls next gates last leads.1 middle b here.index here.within here.is in
      record { index = further.index; below = omega (arith, further.below, here.below); within = further.within; is = further.is }

  pub loop_free : IsLoopFree design
  loop_free [] loop = omega (arith, loop.some)
  loop_free (gate ∷ gates) loop =
      let a = first_gate gate gates gate loop.each in
      let whole : is_among (take (length order) order) a.place ≡ true =
      ap (λ (list : List ℕ). is_among list a.place) (take_all (length order) order (omega arith)) ∙ sym (is_order.each a.place) ∙ a.cell_gate in
      let at = placed_among a.place (length order) (omega arith) whole in
      let back = falls gate gates gate loop.each a a at.index at.within at.is in
      is_order.once back.index at.index back.below at.within (back.is ∙ sym at.is)
