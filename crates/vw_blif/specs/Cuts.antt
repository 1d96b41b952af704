-- What it is to cut lines before each line that begins something.
use Rattle.std.specs.Prelude.{◌≡◌, Bool, true, false, not, List, ◌∷◌, ◌++◌}
use Rattle.std.specs.List.{list_any, list_all, flat_map}
use Rattle.vw_text.specs.declared.line.Line.{Line}
use Rattle.vw_blif.specs.CutLists.{CutList}

-- the lines of what was cut, in order
abbrev pub uncut : CutList Line → List Line
uncut cut = cut.before ++ flat_map (λ part. part.head ∷ part.tail) cut.parts

-- they are these, and a line begins something exactly where it is the head of a part
pub record IsCut (begins : Line → Bool) (lines : List Line) (cut : CutList Line) : Type 0 where
  pub whole : uncut cut ≡ lines
  pub before : list_any begins cut.before ≡ false
  pub heads : list_all (λ part. begins part.head) cut.parts ≡ true
  pub tails : list_all (λ part. not (list_any begins part.tail)) cut.parts ≡ true
