-- Sets of the formals of models.
use Rattle.std.specs.Prelude.{◌≡◌, Option, find}
use Rattle.std.specs.Borrow.{Bor}
use Rattle.vw_design.specs.declared.model.Model.{Model}
use Rattle.vw_design.specs.Paths.{Word, is_port, lent}
use Rattle.vw_design.specs.ModelFaults.{is_formal_of}
use Rattle.vw_design.specs.declared.word_set.WordSet.{WordSet}
use Rattle.vw_design.specs.WordSets.{has_word}

-- the inputs, clocks and outputs of a model
abbrev pub AreFormals : Model → WordSet → Type 0
AreFormals model formals = (name : Word) → has_word formals.words name ≡ is_formal_of model name

-- the first output of a model that is an input or clock of it, too
abbrev pub IsBothWays : Model → Option (Bor Word) → Type 0
IsBothWays model output = lent output ≡ find (is_port model) model.outputs
