-- A small design that is plain, and its text; and one that is printed in the other way.
use Rattle.std.proofs.Common.{◌≡◌, true, false, List, [], ◌∷◌, ◌++◌, None, refl, lit≤}
use Rattle.std.specs.Prelude.{codes}
use Rattle.vw_net.specs.declared.cover.Mark.TheVariants.{Zero as zero_mark, Any}
use Rattle.vw_net.specs.declared.cell.Init.TheVariants.{Free}
use Rattle.vw_design.specs.declared.item.Edge.TheVariants.{Rise, Unsaid}
use Rattle.vw_blif.specs.Spelled.{table, latch, place, SpelledModel}
use Rattle.vw_blif.specs.Printed.{Printing, dont_care, printed_by, printed_design}
use Rattle.vw_blif.specs.PlainDesigns.{IsPlainDesign, IsPlainFor}

abbrev pub small : List SpelledModel
small =
    record {
      name = codes "m";
      inputs = codes "a" ∷ codes "b" ∷ [];
      outputs = codes "q" ∷ [];
      clocks = [];
      items =
          table 4 (codes "a" ∷ codes "b" ∷ []) (codes "d") false ((zero_mark ∷ Any ∷ []) ∷ [])
          ∷ latch 6 (codes "d") (codes "q") Rise None Free
          ∷ place 7 (codes "n") (record { formal = codes "p"; actual = codes "q" } ∷ [])
          ∷ [];
    }
    ∷ []

pub small_text : printed_design small
    ≡ codes ".model m" ++ (10 ∷ (codes ".inputs a b" ++ (10 ∷ (codes ".outputs q" ++ (10 ∷ (codes ".names a b d" ++ (10 ∷ (codes "0- 0"
    ++ (10 ∷ (codes ".latch d q re NIL 3" ++ (10 ∷ (codes ".subckt n p=q" ++ (10 ∷ (codes ".end" ++ 10 ∷ []))))))))))))))
small_text = refl

pub small_plain : IsPlainDesign small
small_plain = record { some = refl; models = refl; names = refl; numbers = refl; short = lit≤ tt }

-- a design whose text has a bare `.outputs` and a free latch that is written `2`
abbrev pub quiet : List SpelledModel
quiet =
    record {
      name = codes "m";
      inputs = codes "d" ∷ [];
      outputs = [];
      clocks = [];
      items = latch 4 (codes "d") (codes "q") Unsaid None Free ∷ [];
    }
    ∷ []

abbrev with_bare_lines : Printing
with_bare_lines = record { bare = true; free = dont_care }

pub quiet_text : printed_by with_bare_lines quiet
    ≡ codes ".model m" ++ (10 ∷ (codes ".inputs d" ++ (10 ∷ (codes ".outputs" ++ (10 ∷ (codes ".latch d q 2" ++ (10 ∷ (codes ".end" ++ 10 ∷ []))))))))
quiet_text = refl

pub quiet_plain : IsPlainFor with_bare_lines quiet
quiet_plain = record { some = refl; models = refl; names = refl; numbers = refl; short = lit≤ tt }
