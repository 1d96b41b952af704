-- What a design that is being read has become, and what it tells of the next line.
use Rattle.std.specs.Prelude.{◌≡◌, ◌≤◌, ◌+◌, true, List, [], ◌∷◌, ◌++◌, map, length, Option, Some, None, is_some, IsTrue}
use Rattle.std.specs.List.{All}
use Rattle.vw_text.specs.declared.line.Line.{Line}
use Rattle.vw_design.specs.declared.model.Model.{Model}
use Rattle.vw_design.specs.Distinct.{are_distinct}
use Rattle.vw_design.specs.Shape.{IsWellMade}
use Rattle.vw_blif.specs.declared.fault.TextFault.{TextFault}
use Rattle.vw_blif.specs.declared.fault.TextFault.TheVariants.{Unsupported}
use Rattle.vw_blif.specs.declared.block.Block.{Block}
use Rattle.vw_blif.specs.declared.reader.Reader.{Reader}
use Rattle.vw_blif.specs.Words.{first_word}
use Rattle.vw_blif.specs.Spelled.{SpelledModel, spelled_model}
use Rattle.vw_blif.specs.CutLists.{CutList}
use Rattle.vw_blif.specs.Designs.{blocks, model_of}
use Rattle.vw_blif.specs.Before.{is_open, names_of_models}
use Rattle.vw_blif.specs.Faults.{fault_at}
use Rattle.vw_blif.specs.Read.{is_text_fault}
use Rattle.vw_blif.specs.Steps.Names.{opened, names_so_far}
use Rattle.vw_blif.specs.Steps.FaultAnswers.{Says}
use Rattle.vw_blif.specs.Steps.Blocks.{block_made, IsAsBefore}

-- the models that the open model and what a cut has make
abbrev pub models_with : Option Block → CutList Line → List SpelledModel
models_with None cut = map model_of cut.parts
models_with (Some b) cut = block_made b cut.before ∷ map model_of cut.parts

-- the models that a design becomes with these further lines
abbrev pub models_made : Reader → List Line → List SpelledModel
models_made r lines = map spelled_model r.models.items ++ models_with (opened r.block) (blocks lines)

-- what the lines before say is what the open model has
abbrev pub HasOpenSaid : List Line → Option Block → Type 0
HasOpenSaid before None = Unit {0}
HasOpenSaid before (Some b) = IsAsBefore before b

-- what the lines before say is what the design has
pub record HasAllSaid (before : List Line) (r : Reader) : Type 0 where
  pub open_ : is_open before ≡ is_some (opened r.block)
  pub names : names_of_models before ≡ names_so_far r.models.items (opened r.block)
  pub block : HasOpenSaid before (opened r.block)

-- nothing was read
pub record IsAtStart (r : Reader) : Type 0 where
  pub models : r.models.items ≡ []
  pub block : opened r.block ≡ None

-- the open model came to the models
pub record EndsModel (old new : Reader) : Type 0 where
  pub made : map spelled_model new.models.items ≡ models_made old []
  pub names : names_so_far new.models.items (opened new.block) ≡ names_so_far old.models.items (opened old.block)
  pub block : opened new.block ≡ None

-- a line was read
pub record ReadsLine (old : Reader) (line : Line) (new : Reader) : Type 0 where
  pub stays : (before : List Line) → HasAllSaid before old → HasAllSaid (line ∷ before) new
  pub fine : (before : List Line) → HasAllSaid before old → fault_at before line ≡ None
  pub makes : (rest : List Line) → models_made new rest ≡ models_made old (line ∷ rest)
  pub count : length (names_so_far new.models.items (opened new.block)) ≤ length (names_so_far old.models.items (opened old.block)) + 1

-- a line was refused
abbrev pub RefusesLine : Reader → Line → TextFault → Type 0
RefusesLine old line fault = (before : List Line) → HasAllSaid before old → Says fault (fault_at before line)

-- the fault of a line with another word, unless memory ran out
abbrev pub SaysOther : Line → TextFault → Type 0
SaysOther line fault = is_text_fault fault ≡ true → fault ≡ Unsupported line.number (first_word line.words)

-- the models of a design that has no further line
pub record IsRead (r : Reader) (models : List Model) : Type 0 where
  pub made : map spelled_model models ≡ models_made r []
  pub count : length models ≡ length (names_so_far r.models.items (opened r.block))
  pub distinct : IsTrue (are_distinct (map (λ model. model.name) models))
  pub well_made : All IsWellMade models
