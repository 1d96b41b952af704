use Rattle.std.proofs.Common.{refl, sym, true≢false}
use Rattle.vw_net.specs.Parts.{AreParts}
use Rattle.vw_net.proofs.flat.Flat.checked.Goals.{Else-not-are_nets, then-not-are_well_formed-via-then-not-are_well_formed, then-not-are_well_formed-via-else-not-are_well_formed+then-not-are_nets}
use Rattle.vw_net.proofs.flat.Flat.checked.Goals as goal

pub returns-then-not-is_small-clause-exactly : goal.returns-then-not-is_small-clause-exactly
returns-then-not-is_small-clause-exactly c = (
  λ some. absurd (true≢false (sym some)),
  λ parts. absurd ((rw (c.len.ensures, c.len-2.ensures) at c.if-not-is_small.ensures.fails) (parts.few_inputs, parts.few_cells, parts.few_outputs)),
)

pub returns-then-not-are_well_formed-clause-exactly : goal.returns-then-not-are_well_formed-clause-exactly
returns-then-not-are_well_formed-clause-exactly c = (
  λ some. absurd (true≢false (sym some)),
  λ parts.
      elim c.then-not-are_well_formed.branch [
        | then-not-are_well_formed-via-then-not-are_well_formed w ↦ absurd ((rw (c.as_slice.ensures, c.len-3.ensures) at w.if-not-are_well_formed.ensures.fails) parts.cells_fit)
        | then-not-are_well_formed-via-else-not-are_well_formed+then-not-are_nets w ↦ absurd ((rw (w.as_slice-else-not-are_well_formed.ensures, c.len-3.ensures) at w.if-not-are_nets.ensures.fails) parts.outputs_fit)
      ],
)

-- the parts are those that the tests let through
tested_parts : (c : Else-not-are_nets) → AreParts c.args.inputs c.args.cells c.args.outputs
tested_parts c = record {
  few_inputs = (rw (c.len.ensures, c.len-2.ensures) at c.if-not-is_small.ensures.fits).0;
  few_cells = (rw (c.len.ensures, c.len-2.ensures) at c.if-not-is_small.ensures.fits).1;
  few_outputs = (rw (c.len.ensures, c.len-2.ensures) at c.if-not-is_small.ensures.fits).2;
  cells_fit = rw (c.as_slice.ensures, c.len-3.ensures) at c.if-not-are_well_formed.ensures.fits;
  outputs_fit = rw (c.as_slice-else-not-are_well_formed.ensures, c.len-3.ensures) at c.if-not-are_nets.ensures.fits;
}

pub make-requires : goal.make-requires
make-requires c =
    let parts = tested_parts c in
    record { few_inputs = parts.few_inputs; few_cells = parts.few_cells; few_outputs = parts.few_outputs; cells_fit = parts.cells_fit; outputs_fit = parts.outputs_fit }

pub returns : goal.returns
returns c =
    let parts = tested_parts ((goal.at.returns c).Else-not-are_nets) in
    record { exactly = (λ some. parts, λ all. refl); inputs = c.make.ensures.inputs; cells = c.make.ensures.cells; outputs = c.make.ensures.outputs }
