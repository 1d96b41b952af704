use Rattle.std.proofs.Common.{◌≡◌, List, true, Some, subst, sym, arith, All}
use Rattle.std.proofs.lemmas.List.Elements.{All-nil}
use Rattle.vw_net.specs.declared.cell.Cell.{Cell}
use Rattle.vw_net.specs.Order.{is_gate}
use Rattle.vw_merge.specs.Merging.{Carries}
use Rattle.vw_merge.proofs.Carried.{starts_carry}
use Rattle.vw_merge.proofs.merging.Merging.start.Goals as goal

pub returns : goal.returns
returns c =
    let none = sym c.new.ensures.items in
    let Gates : Cell → Type 0 = λ cell. is_gate (Some cell) ≡ true in
    record {
      first = omega (arith, c.in-Some.ensures, c.inputs.ensures, c.requires.latches);
      gates = subst (λ (cells : List Cell). All Gates cells) none (All-nil Gates);
      carries = subst (λ (cells : List Cell). Carries c.args.flat.now cells c.in_ok-start_nets.field-0.items) none (starts_carry c.args.flat.now c.in_ok-start_nets.field-0.items c.in_ok-start_nets.ensures);
    }
