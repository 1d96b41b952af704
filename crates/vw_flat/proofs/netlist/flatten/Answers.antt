use Rattle.std.proofs.Common.{◌≡◌, ◌<◌, ◌+◌, ℕ, List, [], ◌++◌, length, length-append, map, sym, ◌∙◌, ap, subst, arith}
use Rattle.std.proofs.lemmas.List.{length-map}
use Rattle.std.proofs.lemmas.List.Elements.{All-append}
use Rattle.std.specs.List.{All, AllZip}
use Rattle.vw_net.specs.declared.cell.Cell.{Cell}
use Rattle.vw_net.specs.Cells.{IsWellFormed}
use Rattle.vw_design.specs.Flattened.{IsCellOf}
use Rattle.vw_design.specs.NetReads.{net_at, root_outputs}
use Rattle.vw_design.specs.PathHistory.{path_history}
use Rattle.vw_design.specs.Paths.{Net, model_at, model_outputs}
use Rattle.vw_design.specs.Preorder.{Site, cells}
use Rattle.vw_design.proofs.Sizes.{few_columns}
use Rattle.vw_design.proofs.PairedLists.{AllZip-length}
use Rattle.vw_flat.specs.Probed.{IsProbedFlat}
use Rattle.vw_flat.specs.Steps.Numbers.{net_count}
use Rattle.vw_flat.specs.Steps.Searches.{HasNumberOf}
use Rattle.vw_flat.proofs.ProbedFlats.{number_at, along, HaveNets, found_nets, shown_numbers}
use Rattle.vw_flat.proofs.netlist.flatten.Goals.{After-of, After-make}
use Rattle.vw_flat.proofs.netlist.flatten.Goals as goal

-- the columns are among the inputs that count
pub make-requires-clause-few_inputs : goal.make-requires-clause-few_inputs
make-requires-clause-few_inputs c = omega (arith, c.columns.ensures, few_columns c.args.elaborated.now, c.is_accepted.ensures.models.small.inputs)

-- there are as many cells as the design has
counted : (c : After-of) → length c.of.result ≡ length (cells c.args.elaborated.now)
counted c =
    let design = c.args.elaborated.now in
    ap (λ (list : List Cell). length list) c.of.ensures
    ∙ sym (AllZip-length (λ (site : Site) (cell : Cell). IsCellOf design site.path site.item cell) (cells design) c.in_ok-cells.cells.items c.in_ok-cells.ensures.are)

pub make-requires-clause-few_cells : goal.make-requires-clause-few_cells
make-requires-clause-few_cells c = omega (arith, counted (goal.at.make-requires-clause-few_cells c).After-of, c.is_accepted.ensures.models.small.cells)

pub make-requires-clause-cells_fit : goal.make-requires-clause-cells_fit
make-requires-clause-cells_fit c =
    let design = c.args.elaborated.now in
    let same : net_count design ≡ c.columns.result + length c.of.result = omega (arith, c.columns.ensures, counted (goal.at.make-requires-clause-cells_fit c).After-of) in
    subst (λ (count : ℕ). All (IsWellFormed count) c.of.result) same (subst (All (IsWellFormed (net_count design))) (sym c.of.ensures) c.in_ok-cells.ensures.fit)

-- the outputs of the root and what the probes find
shown : (c : After-of) → HaveNets c.args.elaborated.now c.args.probes.now c.in_ok-watched.watched.items
shown c = found_nets c.args.elaborated.now c.args.probes.now c.in_ok-watched.watched.items c.in_ok-watched.ensures.found

all_outputs : (c : After-of) → c.extend_from_slice.new.self.items ≡ c.in_ok-outputs.outputs.items ++ c.in_ok-watched.watched.items
all_outputs c = c.in_ok-extend_from_slice.ensures.items ∙ ap (λ (more : List ℕ). c.in_ok-outputs.outputs.items ++ more) c.as_slice.ensures.value

pub make-requires-clause-few_outputs : goal.make-requires-clause-few_outputs
make-requires-clause-few_outputs c =
    let design = c.args.elaborated.now in
    let at = (goal.at.make-requires-clause-few_outputs c).After-of in
    let own : length (root_outputs design) ≡ length c.in_ok-outputs.outputs.items = along (number_at design) (root_outputs design) c.in_ok-outputs.outputs.items c.in_ok-outputs.ensures.are in
    let watched : length c.args.probes.now ≡ length c.in_ok-watched.watched.items = AllZip-length (HasNumberOf design) c.args.probes.now c.in_ok-watched.watched.items c.in_ok-watched.ensures.found in
    let names : length (root_outputs design) ≡ length (model_outputs (model_at design [])) = length-map (model_outputs (model_at design [])) (net_at []) in
    omega (
      arith,
      ap (λ (list : List ℕ). length list) (c.of-2.ensures ∙ all_outputs at),
      length-append c.in_ok-outputs.outputs.items c.in_ok-watched.watched.items,
      own,
      watched,
      names,
      c.requires,
      c.is_accepted.ensures.models.small.outputs,
    )

pub make-requires-clause-outputs_fit : goal.make-requires-clause-outputs_fit
make-requires-clause-outputs_fit c =
    let design = c.args.elaborated.now in
    let at = (goal.at.make-requires-clause-outputs_fit c).After-of in
    let same : net_count design ≡ c.columns.result + length c.of.result = omega (arith, c.columns.ensures, counted at) in
    let fit : All (λ (net : ℕ). net < net_count design) (c.in_ok-outputs.outputs.items ++ c.in_ok-watched.watched.items) =
    All-append (λ (net : ℕ). net < net_count design) c.in_ok-outputs.outputs.items c.in_ok-watched.watched.items c.in_ok-outputs.ensures.fit (shown at).fit in
    subst (λ (count : ℕ). All (λ (net : ℕ). net < count) c.of-2.result) same (subst (All (λ (net : ℕ). net < net_count design)) (sym (c.of-2.ensures ∙ all_outputs at)) fit)

-- the netlist is that of the design with the nets that the probes find, and has its history
flat_is : (c : After-make) → IsProbedFlat c.args.elaborated.now c.args.probes.now c.make.result
flat_is c =
    let design = c.args.elaborated.now in
    let found = found_nets design c.args.probes.now c.in_ok-watched.watched.items c.in_ok-watched.ensures.found in
    let all = c.in_ok-extend_from_slice.ensures.items ∙ ap (λ (more : List ℕ). c.in_ok-outputs.outputs.items ++ more) c.as_slice.ensures.value in
    record {
      nets = found.nets;
      found = found.found;
      is = record {
        inputs = c.make.ensures.inputs ∙ c.columns.ensures;
        cells = subst (AllZip (λ (site : Site) (cell : Cell). IsCellOf design site.path site.item cell) (cells design)) (sym (c.make.ensures.cells ∙ c.of.ensures)) c.in_ok-cells.ensures.are;
        outputs = shown_numbers design found.nets c.in_ok-outputs.outputs.items c.in_ok-watched.watched.items c.make.result.outputs c.in_ok-outputs.ensures.are found.are
            (c.make.ensures.outputs ∙ c.of-2.ensures ∙ all);
      };
    }

pub returns-clause-flat : goal.returns-clause-flat
returns-clause-flat c = flat_is (goal.at.returns-clause-flat c).After-make

pub returns-clause-history : goal.returns-clause-history
returns-clause-history c = λ nets found unknown rows.
    let design = c.args.elaborated.now in
    let is = flat_is (goal.at.returns-clause-history c).After-make in
    let same = c.probes_find_one_net.ensures.all design c.is_accepted.ensures c.args.probes.now is.nets nets is.found found in
    c.histories_agree.ensures design is.nets c.make.result is.is unknown rows ∙ ap (λ (list : List Net). path_history design list unknown rows) same
