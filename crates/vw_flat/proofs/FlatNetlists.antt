-- An accepted design has a flat netlist: whatever is read as data or watched has a number.
use Rattle.std.proofs.Common.{◌≡◌, ◌<◌, ◌≤◌, ◌+◌, ℕ, true, true≢false, List, [], ◌∷◌, ◌++◌, length, length-append, map, flat_map, Option, Some, inl, inr, refl, sym, ◌∙◌, ap, ap₂, subst, arith}
use Rattle.std.specs.List.{All, AllZip}
use Rattle.std.proofs.lemmas.List.{length-map, map-append}
use Rattle.std.proofs.lemmas.List.Elements.{All-nil, All-cons, All-append}
use Rattle.std.proofs.lemmas.Simd.{map-map}
use Rattle.vw_net.specs.declared.cell.Cell.{Cell}
use Rattle.vw_net.specs.declared.cell.Cell.TheVariants.{Gate, Latch}
use Rattle.vw_net.specs.declared.cover.Cover.{Cover}
use Rattle.vw_net.specs.declared.flat.Flat.{Flat}
use Rattle.vw_net.specs.Cells.{IsWellFormed}
use Rattle.vw_design.specs.declared.item.Item.{Item}
use Rattle.vw_design.specs.declared.item.Item.TheVariants.{Names, Latch as LatchItem, Sub}
use Rattle.vw_design.specs.declared.design.Design.{Design}
use Rattle.vw_design.specs.Paths.{Word, Net, model_at, model_outputs}
use Rattle.vw_design.specs.Preorder.{Site, is_cell, sites, cells}
use Rattle.vw_design.specs.NetReads.{net_at, nets_at, data_of, root_outputs, data_reads}
use Rattle.vw_design.specs.Clocks.{columns}
use Rattle.vw_design.specs.Flattened.{number_of, IsCellOf, IsFlatOf}
use Rattle.vw_design.specs.Probes.{Finds, FindAll}
use Rattle.vw_design.specs.Accepted.{IsAccepted}
use Rattle.vw_design.proofs.ListElements.{Has, at-Has, Has-left, Has-right, Has-flat_map, from-filter, Contains-Has}
use Rattle.vw_design.proofs.DriverNumbers.{read_numbered}
use Rattle.vw_design.proofs.PairedLists.{AllZip-length}
use Rattle.vw_design.proofs.Sizes.{few_columns}
use Rattle.vw_design.proofs.WatchedNets.{number_of_bit}
use Rattle.vw_flat.specs.Steps.Numbers.{net_count, item_with_numbers, numbers_at}
use Rattle.vw_flat.proofs.Readings.{gate_reads_all}

module _ (design : Design) (accepted : IsAccepted design) where
  abbrev number_at : Net → Option ℕ
  number_at net = number_of design net.path net.name

  -- the numbers of some nets
  record HaveNumbers (nets : List Net) : Type 0 where
    numbers : List ℕ
    are : map number_at nets ≡ map (λ number. Some number) numbers
    fit : All (λ number. number < net_count design) numbers

  numbers_of : (nets : List Net) → ((net : Net) → Has net nets → Has net (data_reads design)) → HaveNumbers nets
  numbers_of [] read = record { numbers = []; are = refl; fit = All-nil (λ (number : ℕ). number < net_count design) }
  numbers_of (net ∷ nets) read =
      let found = read_numbered design accepted net (Contains-Has net (data_reads design) (read net (inl refl))) in
      let rest = numbers_of nets (λ other has. read other (inr has)) in
      record {
        numbers = found.0 ∷ rest.numbers;
        are = ap₂ (λ (n : Option ℕ) (ns : List (Option ℕ)). n ∷ ns) found.1 rest.are;
        fit = All-cons (λ (number : ℕ). number < net_count design) found.0 rest.numbers found.2 rest.fit;
      }

  -- what an item reads as data is among all that is
  site_reads : (site : Site) → Has site (sites design) → (names : List Word) → data_of site.item ≡ names → (net : Net)
      → Has net (nets_at site names) → Has net (data_reads design)
  site_reads site listed names is net has =
      let at_data = λ (s : Site). nets_at s (data_of s.item) in
      Has-left net (flat_map at_data (sites design)) (root_outputs design)
      (Has-flat_map at_data site (sites design) net listed (subst (λ (list : List Word). Has net (nets_at site list)) (sym is) has))

  -- the cell of a gate or latch
  abbrev IsItsCell : Site → Cell → Type 0
  IsItsCell site cell = IsCellOf design site.path site.item cell

  record HasCell (site : Site) : Type 0 where
    cell : Cell
    is : IsItsCell site cell
    fits : IsWellFormed (net_count design) cell

  -- a gate reads as many nets as its table has inputs
  gate_arity : (site : Site) → Has site (cells design) → (line : ℕ) (ins : List Word) (out : Word) (cover : Cover)
      → site.item ≡ Names line ins out cover → length ins ≡ cover.inputs
  gate_arity site has line ins out cover is =
      let place = at-Has site (cells design) has in
      let all = gate_reads_all design place.0 site.item (ap item_with_numbers place.1) line ins out cover is in
      sym (ap (λ (s : Option Site). length (numbers_at design s)) place.1 ∙ length-map (data_of site.item) (number_of design site.path) ∙ ap (λ (i : Item). length (data_of i)) is) ∙ all

  cell_of_site : (site : Site) → Has site (cells design) → HasCell site
  cell_of_site site has = by site.item refl where
    listed : Has site (sites design) × (is_cell site.item ≡ true)
    listed = from-filter (λ (s : Site). is_cell s.item) site (sites design) has

    by : (item : Item) → site.item ≡ item → HasCell site
    by (Names line ins out cover) is =
        let read = numbers_of (nets_at site ins) (site_reads site listed.0 ins (ap data_of is)) in
        let numbers : map (number_of design site.path) ins ≡ map (λ (n : ℕ). Some n) read.numbers = sym (map-map number_at (net_at site.path) ins) ∙ read.are in
        let long : length read.numbers ≡ length ins =
        sym (length-map read.numbers (λ (n : ℕ). Some n)) ∙ ap (λ (list : List (Option ℕ)). length list) (sym numbers) ∙ length-map ins (number_of design site.path) in
        record {
          cell = Gate read.numbers cover;
          is = subst (λ (i : Item). IsCellOf design site.path i (Gate read.numbers cover)) (sym is) (numbers, record { inputs = refl; on = refl; rows = refl });
          fits = (long ∙ gate_arity site has line ins out cover is, read.fit);
        }
    by (LatchItem line d q edge control init) is =
        let found = read_numbered design accepted (net_at site.path d) (Contains-Has (net_at site.path d) (data_reads design) (site_reads site listed.0 (d ∷ []) (ap data_of is) (net_at site.path d) (inl refl))) in
        record {
          cell = Latch found.0 init;
          is = subst (λ (i : Item). IsCellOf design site.path i (Latch found.0 init)) (sym is) (found.1, refl);
          fits = (refl, All-cons (λ (number : ℕ). number < net_count design) found.0 [] found.2 (All-nil (λ (number : ℕ). number < net_count design)));
        }
    by (Sub line model binds) is = absurd (true≢false (sym listed.1 ∙ ap is_cell is))

  -- the cells of some sites
  record HaveCells (list : List Site) : Type 0 where
    made : List Cell
    are : AllZip IsItsCell list made
    fit : All (IsWellFormed (net_count design)) made

  cells_of : (list : List Site) → ((site : Site) → Has site list → Has site (cells design)) → HaveCells list
  cells_of [] among = record { made = []; are = tt; fit = All-nil (IsWellFormed (net_count design)) }
  cells_of (site ∷ list) among =
      let first = cell_of_site site (among site (inl refl)) in
      let rest = cells_of list (λ other has. among other (inr has)) in
      record {
        made = first.cell ∷ rest.made;
        are = (first.is, rest.are);
        fit = All-cons (IsWellFormed (net_count design)) first.cell rest.made first.fits rest.fit;
      }

  -- and so have the nets that probes find
  watched_numbers : (probes : List Word) (nets : List Net) → FindAll design probes nets → HaveNumbers nets
  watched_numbers [] [] found = numbers_of [] (λ net has. absurd has)
  watched_numbers [] (net ∷ nets) found = absurd found
  watched_numbers (probe ∷ probes) [] found = absurd found
  watched_numbers (probe ∷ probes) (net ∷ nets) found =
      let first = number_of_bit design accepted net.path net.name found.0.printed_as.bit in
      let rest = watched_numbers probes nets found.1 in
      record {
        numbers = first.0 ∷ rest.numbers;
        are = ap₂ (λ (n : Option ℕ) (ns : List (Option ℕ)). n ∷ ns) first.1 rest.are;
        fit = All-cons (λ (number : ℕ). number < net_count design) first.0 rest.numbers first.2 rest.fit;
      }

  both_numbers : (nets others : List Net) → HaveNumbers nets → HaveNumbers others → HaveNumbers (nets ++ others)
  both_numbers nets others one two = record {
    numbers = one.numbers ++ two.numbers;
    are = map-append number_at nets others ∙ ap₂ (λ (ns ms : List (Option ℕ)). ns ++ ms) one.are two.are ∙ sym (map-append (λ (number : ℕ). Some number) one.numbers two.numbers);
    fit = All-append (λ (number : ℕ). number < net_count design) one.numbers two.numbers one.fit two.fit;
  }

  -- the netlist
  pub flat_of : (probes : List Word) (nets : List Net) → FindAll design probes nets → length probes ≤ 65 → (flat : Flat) × IsFlatOf design nets flat
  flat_of probes nets found few =
      let gates_and_latches = cells_of (cells design) (λ site has. has) in
      let own = numbers_of (root_outputs design) (λ net has. Has-right net (flat_map (λ (s : Site). nets_at s (data_of s.item)) (sites design)) (root_outputs design) has) in
      let outputs = both_numbers (root_outputs design) nets own (watched_numbers probes nets found) in
      let count : length (cells design) ≡ length gates_and_latches.made = AllZip-length IsItsCell (cells design) gates_and_latches.made gates_and_latches.are in
      let all_nets : net_count design ≡ length (columns design) + length gates_and_latches.made = ap (λ (n : ℕ). length (columns design) + n) count in
      let roots : length (root_outputs design) ≡ length (model_outputs (model_at design [])) = length-map (model_outputs (model_at design [])) (net_at []) in
      let watched : length probes ≡ length nets = AllZip-length (Finds design) probes nets found in
      let long : length outputs.numbers ≡ length (root_outputs design ++ nets) =
      sym (length-map outputs.numbers (λ (n : ℕ). Some n)) ∙ ap (λ (list : List (Option ℕ)). length list) (sym outputs.are) ∙ length-map (root_outputs design ++ nets) number_at in (
        record {
          inputs = length (columns design);
          cells = gates_and_latches.made;
          outputs = outputs.numbers;
          few_inputs = omega (arith, few_columns design, accepted.models.small.inputs);
          few_cells = omega (arith, count, accepted.models.small.cells);
          few_outputs = omega (arith, long, length-append (root_outputs design) nets, roots, watched, few, accepted.models.small.outputs);
          cells_fit = subst (λ (n : ℕ). All (IsWellFormed n) gates_and_latches.made) all_nets gates_and_latches.fit;
          outputs_fit = subst (λ (n : ℕ). All (λ (net : ℕ). net < n) outputs.numbers) all_nets outputs.fit;
        },
        record { inputs = refl; cells = gates_and_latches.are; outputs = outputs.are },
      )
