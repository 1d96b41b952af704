-- A loop of a netlist is one of its design.
use Rattle.std.proofs.Common.{◌≡◌, ◌<◌, ◌+◌, ◌&&◌, ℕ, true, true≢false, List, [], ◌∷◌, length, map, Option, Some, None, option_map, get_or, slice_get, ⊎_elim, inl, inr, refl, sym, ◌∙◌, ap, ap₂, subst, arith}
use Rattle.std.specs.List.{All, AllZip}
use Rattle.std.proofs.lemmas.Bool.{and_parts}
use Rattle.std.proofs.lemmas.Option.{same_Some, slice_get-get_or, slice_get_within}
use Rattle.std.proofs.lemmas.List.{length-map}
use Rattle.vw_net.specs.declared.cell.Cell.{Cell}
use Rattle.vw_net.specs.declared.cell.Cell.TheVariants.{Gate, Latch}
use Rattle.vw_net.specs.declared.cover.Cover.{Cover}
use Rattle.vw_net.specs.declared.flat.Flat.{Flat}
use Rattle.vw_net.specs.Order.{is_gate, is_among, read_nets_at}
use Rattle.vw_net.proofs.Lists.{map_turned}
use Rattle.vw_design.specs.declared.item.Item.{Item}
use Rattle.vw_design.specs.declared.item.Item.TheVariants.{Names, Latch as LatchItem, Sub}
use Rattle.vw_design.specs.declared.design.Design.{Design}
use Rattle.vw_net.specs.Lists.{turned}
use Rattle.vw_design.specs.Paths.{Word, Net}
use Rattle.vw_design.specs.Preorder.{Site, cells}
use Rattle.vw_design.specs.Limits.{cell_count}
use Rattle.vw_design.specs.Flattened.{IsFlatOf, IsCellOf}
use Rattle.vw_design.specs.Loops.{Gate as GateAt, gate_at, gate_reads}
use Rattle.vw_design.proofs.FlatReads.{reads_agree}
use Rattle.vw_design.proofs.ListElements.{Has, Has-at}
use Rattle.vw_design.proofs.PairedLists.{AllZip-length, AllZip-back, AllZip-push}
use Rattle.vw_flat.specs.Printed.{printed_site}
use Rattle.vw_order.specs.Loops as orders
use Rattle.vw_order.specs.GateReads as nets
use Rattle.vw_front.specs.Designs.{IsLoopOf}

module _ {A B : Type 0} (R : A → B → Type 0) where
  -- turned lists of pairs
  turned_pairs : (xs : List A) (ys : List B) → AllZip R xs ys → AllZip R (turned xs) (turned ys)
  turned_pairs [] [] all = tt
  turned_pairs [] (y ∷ ys) all = absurd all
  turned_pairs (x ∷ xs) [] all = absurd all
  turned_pairs (x ∷ xs) (y ∷ ys) all = AllZip-push R xs ys x y all.1 all.0

-- what holds of two lists, carried over to two others
carried : {A B : Type 0} → (P : A → A → Type 0) (R : A → B → Type 0) (Q : B → B → Type 0) → ((a c : A) (b d : B) → P a c → R a b → R c d → Q b d)
    → (xs ys : List A) (us vs : List B) → AllZip P xs ys → AllZip R xs us → AllZip R ys vs → AllZip Q us vs
carried P R Q step [] [] [] [] all one two = tt
carried P R Q step [] [] [] (v ∷ vs) all one two = absurd two
carried P R Q step [] [] (u ∷ us) vs all one two = absurd one
carried P R Q step [] (y ∷ ys) us vs all one two = absurd all
carried P R Q step (x ∷ xs) [] us vs all one two = absurd all
carried P R Q step (x ∷ xs) (y ∷ ys) [] vs all one two = absurd one
carried P R Q step (x ∷ xs) (y ∷ ys) (u ∷ us) [] all one two = absurd two
carried P R Q step (x ∷ xs) (y ∷ ys) (u ∷ us) (v ∷ vs) all one two = (step x y u v all.0 one.0 two.0, carried P R Q step xs ys us vs all.1 one.1 two.1)

mapped : {B C : Type 0} → (f : B → C) (Q : C → C → Type 0) (us vs : List B) → AllZip (λ u v. Q (f u) (f v)) us vs → AllZip Q (map f us) (map f vs)
mapped f Q [] [] all = tt
mapped f Q [] (v ∷ vs) all = absurd all
mapped f Q (u ∷ us) [] all = absurd all
mapped f Q (u ∷ us) (v ∷ vs) all = (all.0, mapped f Q us vs all.1)

-- the first of a pair
module _ (design : Design) (watched : List Net) (flat : Flat) (is : IsFlatOf design watched flat) where
  -- a cell number, and the gate or latch of the design with this number
  abbrev IsAt : ℕ → Site → Type 0
  IsAt number site = slice_get (cells design) number ≡ Some site

  -- a gate of the netlist is one of the design
  record IsGateAt (number : ℕ) : Type 0 where
    site : Site
    at : IsAt number site
    line : ℕ
    ins : List Word
    out : Word
    cover : Cover
    item : site.item ≡ Names line ins out cover

  is_names : (number : ℕ) (site : Site) → IsAt number site → (item : Item) → site.item ≡ item → (ins : List ℕ) (table : Cover) → IsCellOf design site.path item (Gate ins table) → IsGateAt number
  is_names number site at (Names line ins out cover) same nets table of_item = record { site = site; at = at; line = line; ins = ins; out = out; cover = cover; item = same }
  is_names number site at (LatchItem line d q edge control init) same nets table of_item = absurd of_item
  is_names number site at (Sub line model binds) same nets table of_item = absurd of_item

  gate_is : (number : ℕ) → is_gate (slice_get flat.cells number) ≡ true → IsGateAt number
  gate_is number gate = by (slice_get flat.cells number) refl where
    by : (found : Option Cell) → slice_get flat.cells number ≡ found → IsGateAt number
    by None at = absurd (true≢false (sym gate ∙ ap is_gate at))
    by (Some (Latch net start)) at = absurd (true≢false (sym gate ∙ ap is_gate at))
    by (Some (Gate ins table)) at =
        let site = AllZip-back (λ (s : Site) (cell : Cell). IsCellOf design s.path s.item cell) (cells design) flat.cells number (Gate ins table) is.cells at in
        is_names number site.0 site.1 site.0.item refl ins table site.2

  -- whatever reads in the netlist reads in the design
  reads_carry : (number next : ℕ) (site other : Site) → nets.gate_reads flat number next ≡ true → IsAt number site → IsAt next other → gate_reads design (gate_at site) (gate_at other) ≡ true
  reads_carry number next site other reads at at_next =
      let parts = and_parts (is_gate (slice_get flat.cells number)) (is_gate (slice_get flat.cells next) && is_among (read_nets_at (slice_get flat.cells number)) (flat.inputs + next)) reads in
      let more = and_parts (is_gate (slice_get flat.cells next)) (is_among (read_nets_at (slice_get flat.cells number)) (flat.inputs + next)) parts.1 in
      let gate = gate_is number parts.0 in
      let same : gate.site ≡ site = same_Some gate.site site (sym gate.at ∙ at) in
      reads_agree design watched flat is number next site other at at_next gate.line gate.ins gate.out gate.cover (ap (λ (s : Site). s.item) (sym same) ∙ gate.item) ∙ more.1

  -- the gates at the numbers of a circle
  gates_at : (numbers : List ℕ) → ((number : ℕ) → Has number numbers → is_gate (slice_get flat.cells number) ≡ true) → (gates : List Site) × AllZip IsAt numbers gates
  gates_at [] each = ([], tt)
  gates_at (number ∷ numbers) each =
      let rest = gates_at numbers (λ n has. each n (inr has)) in
      let gate = gate_is number (each number (inl refl)) in
      (gate.site ∷ rest.0, (gate.at, rest.1))

  -- each number of a circle is that of a gate
  circle_gates : (numbers others : List ℕ) → AllZip (λ number next. nets.gate_reads flat number next ≡ true) numbers others → (number : ℕ) → Has number numbers → is_gate (slice_get flat.cells number) ≡ true
  circle_gates [] others each number has = absurd has
  circle_gates (first ∷ numbers) [] each number has = absurd each
  circle_gates (first ∷ numbers) (next ∷ others) each number has =
      ⊎_elim
      (λ (same : first ≡ number). subst (λ (n : ℕ). is_gate (slice_get flat.cells n) ≡ true) same
      (and_parts (is_gate (slice_get flat.cells first)) (is_gate (slice_get flat.cells next) && is_among (read_nets_at (slice_get flat.cells first)) (flat.inputs + next)) each.0).0)
      (λ (later : Has number numbers). circle_gates numbers others each.1 number later) has

  -- such numbers are those of cells
  pub within_cells : (numbers : List ℕ) → orders.IsListedLoop flat numbers → All (λ number. number < cell_count design) numbers
  within_cells numbers loop k d within =
      let at = slice_get-get_or numbers k d within in
      let gate = gate_is (get_or numbers k d) (circle_gates numbers (turned numbers) loop.circle.each (get_or numbers k d) (Has-at (get_or numbers k d) numbers k at)) in
      slice_get_within (cells design) (get_or numbers k d) gate.site gate.at

  named : (numbers : List ℕ) (gates : List Site) (names : List Word) → AllZip IsAt numbers gates → AllZip (λ number name. option_map printed_site (slice_get (cells design) number) ≡ Some name) numbers names → names ≡ map printed_site gates
  named [] [] [] at name = refl
  named [] [] (n ∷ names) at name = absurd name
  named [] (g ∷ gates) names at name = absurd at
  named (number ∷ numbers) [] names at name = absurd at
  named (number ∷ numbers) (g ∷ gates) [] at name = absurd name
  named (number ∷ numbers) (g ∷ gates) (n ∷ names) at name =
      let same : printed_site g ≡ n = same_Some (printed_site g) n (sym (ap (option_map printed_site) at.0) ∙ name.0) in
      ap₂ (λ (w : Word) (ws : List Word). w ∷ ws) (sym same) (named numbers gates names at.1 name.1)

  -- the gates of a loop
  abbrev gates_of : (numbers : List ℕ) → orders.IsListedLoop flat numbers → (gates : List Site) × AllZip IsAt numbers gates
  gates_of numbers loop = gates_at numbers (circle_gates numbers (turned numbers) loop.circle.each)

  by_its_gates : (numbers : List ℕ) (loop : orders.IsListedLoop flat numbers) (names : List Word) → names ≡ map printed_site (gates_of numbers loop).0 → IsLoopOf design names
  by_its_gates numbers loop names are =
      let found = gates_of numbers loop in
      let gates = found.0 in
      let Reads = λ (one other : Site). gate_reads design (gate_at one) (gate_at other) ≡ true in
      let each : AllZip Reads gates (turned gates) =
      carried (λ (n m : ℕ). nets.gate_reads flat n m ≡ true) IsAt Reads (λ n m one other reads at at_next. reads_carry n m one other reads at at_next)
      numbers (turned numbers) gates (turned gates) loop.circle.each found.1 (turned_pairs IsAt numbers gates found.1) in
      let of_gates = mapped gate_at (λ (one other : GateAt). gate_reads design one other ≡ true) gates (turned gates) each in
      let long : length (map gate_at gates) ≡ length numbers = length-map gates gate_at ∙ sym (AllZip-length IsAt numbers gates found.1) in
      record {
        numbers = numbers;
        gates = gates;
        are = found.1;
        loop = record {
          some = omega (arith, long, loop.circle.some);
          each = subst (AllZip (λ (one other : GateAt). gate_reads design one other ≡ true) (map gate_at gates)) (map_turned gate_at gates) of_gates;
        };
        once = loop.once;
        least = loop.least;
        named = are;
      }

  -- the loop by the nets that its gates drive, which are there
  pub loop_of : (numbers : List ℕ) → orders.IsListedLoop flat numbers → (names : List Word) × IsLoopOf design names
  loop_of numbers loop = (map printed_site (gates_of numbers loop).0, by_its_gates numbers loop (map printed_site (gates_of numbers loop).0) refl)

  -- and by such names that were found
  pub loop_named : (numbers : List ℕ) → orders.IsListedLoop flat numbers → (names : List Word)
      → AllZip (λ number name. option_map printed_site (slice_get (cells design) number) ≡ Some name) numbers names → IsLoopOf design names
  loop_named numbers loop names are =
      let found = gates_of numbers loop in by_its_gates numbers loop names (named numbers found.0 names found.1 are)
