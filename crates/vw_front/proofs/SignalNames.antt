-- The names of the nets that latches drive, and how many signals a wave has.
use Rattle.std.proofs.Common.{◌≡◌, ◌+◌, ◌++◌, ◌∙◌, ℕ, suc, Bool, List, [], ◌∷◌, length, map, drop, filter, cond, refl, sym, ap, ap₂, arith}
use Rattle.std.specs.List.{AllZip}
use Rattle.std.proofs.Math.Seq.{drop-append_seam}
use Rattle.std.proofs.lemmas.List.{length-map, length-append}
use Rattle.vw_net.specs.declared.cell.Cell.{Cell}
use Rattle.vw_net.specs.declared.cell.Cell.TheVariants.{Gate, Latch}
use Rattle.vw_net.specs.Cells.{latch_count}
use Rattle.vw_design.specs.declared.item.Item.{Item}
use Rattle.vw_design.specs.declared.item.Item.TheVariants.{Names, Latch as LatchItem, Sub}
use Rattle.vw_design.specs.declared.design.Design.{Design}
use Rattle.vw_design.specs.Paths.{Word, Net, printed}
use Rattle.vw_design.specs.Preorder.{Site, cells, is_latch_item}
use Rattle.vw_design.specs.NetReads.{root_outputs}
use Rattle.vw_design.specs.Clocks.{columns}
use Rattle.vw_design.specs.Probes.{Finds, shown_nets}
use Rattle.vw_design.specs.Flattened.{IsCellOf, number_of}
use Rattle.vw_design.proofs.FlatValues.{latches_of_cells}
use Rattle.vw_design.proofs.PairedLists.{AllZip-length}
use Rattle.vw_flat.specs.Printed.{printed_site}
use Rattle.vw_front.specs.declared.named.NamedNetlist.{NamedNetlist}
use Rattle.vw_front.specs.NamedNetlists.{IsNamedNetlistOf}
use Rattle.vw_front.specs.Names.{signal_names}
use Rattle.vw_front.specs.Steps.LatchNames.{latch_names}

-- whether a site has a latch
abbrev has_latch : Site → Bool
has_latch site = is_latch_item site.item

module _ (design : Design) where
  -- the names of latches are those of the sites that have one
  named : (sites : List Site) (made : List Cell) → AllZip (λ (site : Site) (cell : Cell). IsCellOf design site.path site.item cell) sites made
      → latch_names made (map printed_site sites) ≡ map printed_site (filter has_latch sites)
  named [] [] along = refl
  named [] (cell ∷ made) along = absurd along
  named (site ∷ sites) [] along = absurd along
  named (site ∷ sites) (cell ∷ made) along = by site.item refl cell along.0 (named sites made along.1) where
    by : (item : Item) → site.item ≡ item → (cell : Cell) → IsCellOf design site.path item cell → latch_names made (map printed_site sites) ≡ map printed_site (filter has_latch sites)
        → latch_names (cell ∷ made) (printed_site site ∷ map printed_site sites) ≡ map printed_site (cond (is_latch_item item) (site ∷ filter has_latch sites) (filter has_latch sites))
    by (Names line ins out cover) same (Gate nets table) of_item rest = rest
    by (Names line ins out cover) same (Latch net start) of_item rest = absurd of_item
    by (LatchItem line d q edge control init) same (Gate nets table) of_item rest = absurd of_item
    by (LatchItem line d q edge control init) same (Latch net start) of_item rest = ap (λ (names : List Word). printed_site site ∷ names) rest
    by (Sub line model binds) same (Gate nets table) of_item rest = absurd of_item
    by (Sub line model binds) same (Latch net start) of_item rest = absurd of_item

-- as many latches have a name
counted : (made : List Cell) (names : List Word) → length names ≡ length made → length (latch_names made names) ≡ latch_count made
counted [] names same = refl
counted (cell ∷ made) [] same = absurd (omega (arith, same))
counted (Gate ins cover ∷ made) (name ∷ names) same = let fewer : length names ≡ length made = omega (arith, same) in counted made names fewer
counted (Latch d init ∷ made) (name ∷ names) same = let fewer : length names ≡ length made = omega (arith, same) in ap suc (counted made names fewer)

module _ (probes : List Word) (text : List ℕ) (netlist : NamedNetlist) (is : IsNamedNetlistOf probes text netlist) where
  abbrev made : List Cell
  made = netlist.ordered.flat.cells

  abbrev of : Design
  of = is.watched.design

  abbrev driven : List Word
  driven = drop netlist.ordered.flat.inputs netlist.nets

  -- behind the columns stand the names of the cells
  driven_are : driven ≡ map printed_site (cells of)
  driven_are =
      ap₂ (λ (n : ℕ) (names : List Word). drop n names) is.flat.inputs is.nets
      ∙ drop-append_seam (columns of) (map printed_site (cells of))

  -- the names that are gathered are those of the signals
  pub signals_are : (shown : List Word) → netlist.outputs ++ (shown ++ latch_names made driven) ≡ signal_names shown of
  signals_are shown =
      ap₂ (λ (outputs names : List Word). outputs ++ (shown ++ names)) is.outputs
      (ap (latch_names made) driven_are ∙ named of (cells of) made is.flat.cells ∙ ap (map printed_site) (latches_of_cells of))

  -- there are as many as outputs and latches, but for the watched nets that aren't shown
  pub signals_counted : (these : List Word) → length (netlist.outputs ++ (these ++ latch_names made driven)) + length probes ≡ length netlist.ordered.flat.outputs + length these + latch_count made
  signals_counted these =
      let nets = is.watched.nets in
      let flat = netlist.ordered.flat in
      let shown : length (shown_nets of nets) ≡ length flat.outputs =
      sym (length-map (shown_nets of nets) (λ (net : Net). number_of of net.path net.name)) ∙ ap (λ list. length list) is.flat.outputs ∙ length-map flat.outputs _ in
      let both = length-append (root_outputs of) nets in
      let found = AllZip-length (Finds of) probes nets is.is.found in
      let outputs = ap (λ (list : List Word). length list) is.outputs ∙ length-map (root_outputs of) printed in
      let names = ap (λ (list : List Word). length list) driven_are ∙ length-map (cells of) printed_site ∙ AllZip-length (λ (site : Site) (cell : Cell). IsCellOf of site.path site.item cell) (cells of) made is.flat.cells in
      let latches = counted made driven names in
      let whole = length-append netlist.outputs (these ++ latch_names made driven) in
      let rest = length-append these (latch_names made driven) in
      omega (arith, shown, both, found, outputs, latches, whole, rest)
