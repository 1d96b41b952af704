-- Histories of clocks that are written down batch by batch.
use Rattle.std.specs.Prelude.{Bool, List, [], ◌++◌}
use Rattle.vw_net.specs.History.{History}

-- the clocks with these outputs and states, and then a further history
abbrev pub clocks_before : List (List Bool) → List (List Bool) → History → History
clocks_before outputs states more = record { outputs = outputs ++ more.outputs; states = states ++ more.states; last = more.last }

-- no more clocks: the latches stay at these values
abbrev pub no_more_clocks : List Bool → History
no_more_clocks last = record { outputs = []; states = []; last = last }
