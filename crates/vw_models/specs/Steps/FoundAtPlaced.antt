-- What is found at a placed model, given the line and the bindings of its item.
use Rattle.std.specs.Prelude.{ℕ, List, Option, option_map, find}
use Rattle.vw_design.specs.declared.item.Bind.{Bind}
use Rattle.vw_design.specs.declared.model.Model.{Model}
use Rattle.vw_design.specs.Paths.{is_port}
use Rattle.vw_design.specs.ModelFaults.{NameAt, NameOf, unknown_formal_in, unbound_input_in}

abbrev pub unknown_formal_at : ℕ → Model → List Bind → Option NameAt
unknown_formal_at line model binds = option_map (λ formal. record { line = line; name = formal }) (unknown_formal_in model binds)

abbrev pub unbound_input_at : ℕ → Model → List Bind → Option NameAt
unbound_input_at line model binds = option_map (λ formal. record { line = line; name = formal }) (unbound_input_in model binds)

abbrev pub both_ways_at : ℕ → Model → List Bind → Option NameOf
both_ways_at line model binds = option_map (λ output. record { model = model.name; name = output }) (find (is_port model) model.outputs)
