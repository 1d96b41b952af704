-- A circle of gates that begins with its least number is a loop.
use Rattle.std.proofs.Common.{◌≡◌, ℕ, true, List, [], ◌∷◌}
use Rattle.std.specs.List.{AllZip}
use Rattle.vw_net.specs.declared.flat.Flat.{Flat}
use Rattle.vw_net.specs.Lists.{turned}
use Rattle.vw_order.specs.Graphs.{Reads}
use Rattle.vw_order.specs.Circles.{IsNumberCircle, BeginsWithLeast}
use Rattle.vw_order.specs.GateReads.{gate_reads}
use Rattle.vw_order.specs.Loops.{IsListedLoop}
use Rattle.vw_order.specs.Steps.Gates.{gates}
use Rattle.vw_order.proofs.Inputs.{reads_of}

AllZip-weaker : {A : Type 0} → (R S : A → A → Type 0) (xs ys : List A) → ((x y : A) → R x y → S x y) → AllZip R xs ys → AllZip S xs ys
AllZip-weaker R S [] [] weaker along = tt
AllZip-weaker R S [] (y ∷ ys) weaker along = absurd along
AllZip-weaker R S (x ∷ xs) [] weaker along = absurd along
AllZip-weaker R S (x ∷ xs) (y ∷ ys) weaker along = (weaker x y along.0, AllZip-weaker R S xs ys weaker along.1)

pub is_loop : (flat : Flat) (circle : List ℕ) → IsNumberCircle (gates flat) circle → BeginsWithLeast circle → IsListedLoop flat circle
is_loop flat circle far least = record {
  circle = record {
    some = far.some;
    each = AllZip-weaker (Reads (gates flat)) (λ number next. gate_reads flat number next ≡ true) circle (turned circle) (reads_of flat) far.each;
  };
  once = far.once;
  least = least;
}
