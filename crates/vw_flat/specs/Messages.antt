-- The message line of each reason why a design has no netlist, with the byte that ends the line.
use Rattle.std.specs.Prelude.{ℕ, List, [], ◌∷◌, ◌++◌, codes}
use Rattle.vw_flat.specs.declared.fault.FlatFault.{FlatFault}
use Rattle.vw_flat.specs.declared.fault.FlatFault.TheVariants.{NoProbe, NoMemory}

-- of a probe that finds no net
abbrev pub no_net_line : List ℕ → List ℕ
no_net_line probe = codes "design 26: no net " ++ probe ++ 10 ∷ []

abbrev pub fault_text : FlatFault → List ℕ
fault_text (NoProbe probe) = no_net_line probe
fault_text NoMemory = codes "out of memory" ++ 10 ∷ []
