use Rattle.std.proofs.Common.{◌∙◌, ℕ, List, length, ap, ap₂}
use Rattle.vw_ready.specs.Leads as by_table
use Rattle.vw_pipe.proofs.KnownMicrocycles.{arrivals_low, arrived_so_far, leads_low}
use Rattle.vw_pipe.proofs.drafting.usable_at.Goals as goal

-- what is known of microcycles is so far
pub invariant_of-known : goal.invariant_of-known
invariant_of-known c =
    let given = c.args.given.now in
    record {
      each = given.each;
      nets = ap length c.as_slice-2.ensures.value ∙ c.requires.fit.nets;
      early = arrivals_low c.requires.fit c.as_slice.result.now c.as_slice.ensures.value;
      low = leads_low c.requires.fit c.as_slice-2.result.now c.as_slice-2.ensures.value;
    }

pub returns : goal.returns
returns c =
    let given = c.args.given.now in
    let flat = given.ordered.now.flat in
    let brought = arrived_so_far c.requires.fit given.places.now.places c.as_slice.result.now given.has_places c.as_slice.ensures.value in
    let by_arrivals = by_table.arrival_by given.places.now.places c.as_slice.result.now in
    let usable = λ (settle : ℕ) (arrived : ℕ → ℕ → ℕ) (leads : List ℕ). by_table.usable_by flat given.chip_of.now settle arrived leads c.args.node c.args.net in
    c.usable.ensures
    ∙ ap (λ (settle : ℕ). usable settle by_arrivals c.as_slice-2.result.now) c.settle.ensures
    ∙ ap₂ (usable given.board.now.settle) brought c.as_slice-2.ensures.value
