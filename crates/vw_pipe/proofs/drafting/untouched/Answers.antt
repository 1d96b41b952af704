use Rattle.std.proofs.Common.{◌≡◌, ◌+◌, ◌∙◌, ℕ, List, [], length, replicate, ap, ap₂, refl, arith}
use Rattle.std.proofs.lemmas.List.{length_push}
use Rattle.std.proofs.lemmas.List.Elements.{All-push}
use Rattle.vw_plan.specs.declared.wire.Hop.{Hop}
use Rattle.vw_net.specs.declared.flat.Flat.{Flat}
use Rattle.vw_pipe.proofs.drafting.untouched.Goals as goal

pub loop-preserved : goal.loop-preserved
loop-preserved c =
    let sent = c.loop.hops.items in
    let none : c.of.result ≡ [] = c.of.ensures ∙ c.new.ensures.items in
    record {
      long = ap (λ (lists : List (List Hop)). length lists) c.in_ok-push.ensures.items ∙ length_push sent c.of.result ∙ omega (arith, c.loop.invariant.long);
      none = rw c.in_ok-push.ensures.items (All-push (λ (hops : List Hop). hops ≡ []) sent c.of.result c.loop.invariant.none none);
    }

pub returns : goal.returns
returns c =
    let flat = c.args.given.now.ordered.now.flat in
    let inputs : c.inputs.result ≡ flat.inputs = c.inputs.ensures ∙ ap (λ (f : Flat). f.inputs) c.flat-flat.ensures in
    let cells : c.cells.result.now ≡ flat.cells = c.cells.ensures ∙ ap (λ (f : Flat). f.cells) c.flat-flat.ensures in
    let nets : c.inputs.result + length c.cells.result.now ≡ flat.inputs + length flat.cells = ap₂ (λ (a b : ℕ). a + b) inputs (ap length cells) in
    record {
      leads = c.in_ok-leads.ensures.items_if_clones_equal (λ y same. same) ∙ ap (λ (count : ℕ). replicate count 0) nets;
      long = omega (arith, c.loop.invariant.long);
      none = c.loop.invariant.none;
      arrivals = c.in_ok-arrivals.ensures.items_if_clones_equal (λ y same. same);
      table = c.in_ok-table.ensures;
      last = refl;
    }
