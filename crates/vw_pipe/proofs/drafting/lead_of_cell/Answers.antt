use Rattle.std.proofs.Common.{◌∙◌, ℕ, List, length, slice_get, slice_index, ap, ap₂}
use Rattle.vw_plan.specs.Nets.{greatest_read}
use Rattle.vw_ready.specs.Leads as by_table
use Rattle.vw_pipe.proofs.KnownMicrocycles.{arrivals_low, arrived_so_far, leads_low}
use Rattle.vw_pipe.proofs.drafting.lead_of_cell.Goals as goal

-- what is known of microcycles is so far
pub invariant_of-known : goal.invariant_of-known
invariant_of-known c =
    let given = c.args.given.now in
    record {
      each = given.each;
      nets = ap length c.as_slice-2.ensures.value ∙ c.requires.fit.nets;
      early = arrivals_low c.requires.fit c.as_slice.result.now c.as_slice.ensures.value;
      low = leads_low c.requires.fit c.as_slice-2.result.now c.as_slice-2.ensures.value;
    }

pub returns : goal.returns
returns c =
    let given = c.args.given.now in
    let flat = given.ordered.now.flat in
    let brought = arrived_so_far c.requires.fit given.places.now.places c.as_slice.result.now given.has_places c.as_slice.ensures.value in
    let node = slice_index given.chip_of.now c.args.number in
    let cell = slice_get flat.cells c.args.number in
    let read = λ (arrived : ℕ → ℕ → ℕ) (leads : List ℕ). greatest_read (by_table.lead_by flat given.chip_of.now arrived leads node) cell in
    c.lead_of_cell.ensures.value ∙ ap₂ read brought c.as_slice-2.ensures.value
