-- What is answered of placed models: a formal with its line, and an output with its model.
use Rattle.vw_design.specs.ModelFaults.{NameAt, NameOf}
use Rattle.vw_models.specs.declared.formal_at.FormalAt.{FormalAt}
use Rattle.vw_models.specs.declared.output_of.OutputOf.{OutputOf}

abbrev pub formal_name : FormalAt → NameAt
formal_name found = record { line = found.line; name = found.formal }

abbrev pub named_output : OutputOf → NameOf
named_output found = record { model = found.model; name = found.output }
