use Rattle.std.proofs.Common.{◌≡◌, ◌<◌, ℕ, List, Option, Some, None, length, map, slice_get, refl, sym, ◌∙◌, ap, subst}
use Rattle.std.specs.List.{All}
use Rattle.std.proofs.lemmas.List.{length-map}
use Rattle.std.proofs.lemmas.Option.{same_Some, none-some}
use Rattle.vw_net.specs.declared.cell.Init.{Init}
use Rattle.vw_net.specs.declared.cell.Cell.TheVariants.{Latch}
use Rattle.vw_design.specs.declared.design.Design.{Design}
use Rattle.vw_design.specs.declared.item.Edge.{Edge}
use Rattle.vw_design.specs.declared.item.Item.{Item}
use Rattle.vw_design.specs.declared.item.Item.TheVariants.{Latch as LatchItem}
use Rattle.vw_design.specs.Paths.{Word}
use Rattle.vw_design.specs.Preorder.{Site, cells}
use Rattle.vw_design.specs.NetReads.{data_of}
use Rattle.vw_design.specs.Flattened.{number_of, IsCellOf}
use Rattle.vw_flat.specs.Steps.Numbers.{net_count, item_with_numbers, numbers_at, IsCellAt}
use Rattle.vw_flat.proofs.Items.{never_placed}
use Rattle.vw_flat.proofs.Readings.{gate_reads_all}
use Rattle.vw_flat.proofs.cell.cell_of.Goals as goal

-- a gate reads as many nets as its table has inputs
pub numbers_read-requires : goal.numbers_read-requires
numbers_read-requires c =
    let gate = c.in-Names in
    gate_reads_all c.args.elaborated.now c.args.cell c.args.item.now c.requires gate.line gate.ins gate.out gate.cover gate.is ∙ sym c.inputs.ensures

-- a cell is a gate or a latch
pub unreachable-requires : goal.unreachable-requires
unreachable-requires c = never_placed c.args.elaborated.now c.args.cell c.args.item.now c.requires c.in-Sub.line c.in-Sub.model c.in-Sub.binds c.in-Sub.is

pub returns-in_ok-copy-in-Names-clause-fits : goal.returns-in_ok-copy-in-Names-clause-fits
returns-in_ok-copy-in-Names-clause-fits c =
    let gate = c.in-Names in
    let design = c.args.elaborated.now in
    let numbers = c.in_ok-ins-in-Names.ins.items in
    let reads_all = gate_reads_all design c.args.cell c.args.item.now c.requires gate.line gate.ins gate.out gate.cover gate.is in
    let long : length numbers ≡ gate.cover.inputs =
    sym (length-map numbers (λ (n : ℕ). Some n)) ∙ ap (λ (list : List (Option ℕ)). length list) c.in_ok-ins-in-Names.ensures.numbers ∙ reads_all in
    (ap (λ (list : List ℕ). length list) c.of.ensures ∙ long ∙ sym c.in_ok-copy-in-Names.ensures.inputs, subst (All (λ (n : ℕ). n < net_count design)) (sym c.of.ensures) c.in_ok-ins-in-Names.ensures.fit)

-- a latch reads the one net that its site reads as data
latch_of_site : (design : Design) (site : Option Site) (item : Item) (line : ℕ) (d q : Word) (edge : Edge) (control : Option Word) (init : Init) (net : ℕ)
    → item_with_numbers site ≡ Some item
    → item ≡ LatchItem line d q edge control init → slice_get (numbers_at design site) 0 ≡ Some (Some net) → IsCellAt design site (Latch net init)
latch_of_site design None item line d q edge control init net at is reads = absurd (none-some item at)
latch_of_site design (Some site) item line d q edge control init net at is reads =
    let here : site.item ≡ LatchItem line d q edge control init = same_Some site.item item at ∙ is in
    let read = same_Some (number_of design site.path d) (Some net) (sym (ap (λ (x : Item). slice_get (map (number_of design site.path) (data_of x)) 0) here) ∙ reads) in
    subst (λ (x : Item). IsCellOf design site.path x (Latch net init)) (sym here) (read, refl)

pub returns-in-Latch-clause-is : goal.returns-in-Latch-clause-is
returns-in-Latch-clause-is c =
    let latch = c.in-Latch in
    latch_of_site c.args.elaborated.now (slice_get (cells c.args.elaborated.now) c.args.cell) c.args.item.now latch.line latch.d latch.q latch.edge latch.control latch.init c.number_read.result c.requires latch.is
    c.number_read.ensures.number
