-- Small designs that are worked out: constants, a clock by its control, and one model that is placed twice.
use Rattle.std.proofs.Common.{◌≡◌, Bool, true, false, List, [], ◌∷◌, Some, None, map, codes, refl}
use Rattle.std.specs.Fmt.{digits}
use Rattle.vw_net.specs.declared.cell.Init.TheVariants.{Free}
use Rattle.vw_net.specs.declared.cover.Mark.TheVariants.{Zero as AskZero, One as AskOne}
use Rattle.vw_net.specs.declared.cover.Cover.{Cover}
use Rattle.vw_design.specs.declared.item.Edge.TheVariants.{Rise}
use Rattle.vw_design.specs.declared.item.Item.TheVariants.{Names, Latch, Sub}
use Rattle.vw_design.specs.declared.model.Model.{Model}
use Rattle.vw_design.specs.declared.design.Design.{Design}
use Rattle.vw_design.specs.Paths.{Net, printed}
use Rattle.vw_design.specs.Drivers.{driver}
use Rattle.vw_design.specs.Preorder.{sites, cells}
use Rattle.vw_design.specs.NetReads.{net_at, driven_name}
use Rattle.vw_design.specs.Clocks.{clock_ports, columns}
use Rattle.vw_design.specs.PathValue.{path_value}
use Rattle.vw_design.specs.PathHistory.{path_history}
use Rattle.vw_design.specs.ModelFaults.{reached}
use Rattle.vw_design.specs.Accepted.{further_fault}
use Rattle.vw_design.proofs.WorkedParts.{bind, table, design}

abbrev high : List Bool
high = true ∷ []

abbrev low : List Bool
low = false ∷ []

-- .model top / .inputs clk en / .outputs q / .names $false / .names $true, 1 / .names $undef / .names en q d, 10 1, 01 1
-- / .latch d q re clk 2
abbrev toggle : Design
toggle = design (record {
  name = codes "top";
  inputs = codes "clk" ∷ codes "en" ∷ [];
  outputs = codes "q" ∷ [];
  clocks = [];
  items = Names 6 [] (codes "$false") (table 0 true [] refl)
      ∷ Names 7 [] (codes "$true") (table 0 true ([] ∷ []) refl)
      ∷ Names 9 [] (codes "$undef") (table 0 true [] refl)
      ∷ Names 10 (codes "en" ∷ codes "q" ∷ []) (codes "d") (table 2 true ((AskOne ∷ AskZero ∷ []) ∷ (AskZero ∷ AskOne ∷ []) ∷ []) refl)
      ∷ Latch 13 (codes "d") (codes "q") Rise (Some (codes "clk")) Free ∷ [];
} ∷ []) refl

-- the clock is no column
toggle_columns : columns toggle ≡ codes "en" ∷ []
unfolding columns clock_ports sites driver
toggle_columns = refl

toggle_fine : further_fault toggle ≡ None
unfolding reached clock_ports sites driver
toggle_fine = refl

-- a latch that is free starts at the setting
toggle_zero : path_history toggle [] false (high ∷ high ∷ low ∷ []) ≡ record { outputs = low ∷ high ∷ low ∷ []; states = low ∷ high ∷ low ∷ []; last = low }
unfolding path_value columns clock_ports sites driver
toggle_zero = refl

toggle_one : path_history toggle [] true (high ∷ high ∷ low ∷ []) ≡ record { outputs = high ∷ low ∷ high ∷ []; states = high ∷ low ∷ high ∷ []; last = high }
unfolding path_value columns clock_ports sites driver
toggle_one = refl

-- a watched net stands behind the outputs
toggle_watched : (path_history toggle (net_at [] (codes "d") ∷ []) false (high ∷ high ∷ low ∷ [])).outputs ≡ (false ∷ true ∷ []) ∷ (true ∷ false ∷ []) ∷ (false ∷ false ∷ []) ∷ []
unfolding path_value columns clock_ports sites driver
toggle_watched = refl

-- tables without inputs: no row, the row 1, and the row 0
abbrev constant : Cover → Model
constant cover = record { name = codes "m"; inputs = []; outputs = codes "k" ∷ []; clocks = []; items = Names 3 [] (codes "k") cover ∷ [] }

constant_none : (path_history (design (constant (table 0 true [] refl) ∷ []) refl) [] false ([] ∷ [])).outputs ≡ low ∷ []
unfolding path_value columns clock_ports sites driver
constant_none = refl

constant_on : (path_history (design (constant (table 0 true ([] ∷ []) refl) ∷ []) refl) [] false ([] ∷ [])).outputs ≡ high ∷ []
unfolding path_value columns clock_ports sites driver
constant_on = refl

constant_off : (path_history (design (constant (table 0 false ([] ∷ []) refl) ∷ []) refl) [] false ([] ∷ [])).outputs ≡ low ∷ []
unfolding path_value columns clock_ports sites driver
constant_off = refl

-- .model top / .inputs a b / .outputs y / .subckt inv i=a o=na / .subckt inv i=b o=nb / .names na nb y, 11 1
-- .model inv / .inputs i / .outputs o / .names i t, 0 1 / .names t o, 1 1
abbrev placed_twice : Design
placed_twice = design (record {
  name = codes "top";
  inputs = codes "a" ∷ codes "b" ∷ [];
  outputs = codes "y" ∷ [];
  clocks = [];
  items = Sub 4 (codes "inv") (bind (codes "i") (codes "a") ∷ bind (codes "o") (codes "na") ∷ [])
      ∷ Sub 5 (codes "inv") (bind (codes "i") (codes "b") ∷ bind (codes "o") (codes "nb") ∷ [])
      ∷ Names 6 (codes "na" ∷ codes "nb" ∷ []) (codes "y") (table 2 true ((AskOne ∷ AskOne ∷ []) ∷ []) refl) ∷ [];
} ∷ record {
  name = codes "inv";
  inputs = codes "i" ∷ [];
  outputs = codes "o" ∷ [];
  clocks = [];
  items = Names 12 (codes "i" ∷ []) (codes "t") (table 1 true ((AskZero ∷ []) ∷ []) refl)
      ∷ Names 14 (codes "t" ∷ []) (codes "o") (table 1 true ((AskOne ∷ []) ∷ []) refl) ∷ [];
} ∷ []) refl

placed_fine : further_fault placed_twice ≡ None
unfolding reached clock_ports sites driver
placed_fine = refl

-- what its cells drive, as it is printed
placed_cells : map (λ site. printed (net_at site.path (driven_name site.item))) (cells placed_twice) ≡ codes "1/t" ∷ codes "1/o" ∷ codes "2/t" ∷ codes "2/o" ∷ codes "y" ∷ []
unfolding sites digits
placed_cells = refl

placed_outputs : (path_history placed_twice [] false ((false ∷ false ∷ []) ∷ (false ∷ true ∷ []) ∷ (true ∷ false ∷ []) ∷ (true ∷ true ∷ []) ∷ [])).outputs ≡ high ∷ low ∷ low ∷ low ∷ []
unfolding path_value columns clock_ports sites driver
placed_outputs = refl

-- with an inner net watched, which is printed as `2/t`
abbrev second_inverted : Net
second_inverted = net_at (2 ∷ []) (codes "t")

second_printed : printed second_inverted ≡ codes "2/t"
unfolding digits
second_printed = refl

placed_watched : (path_history placed_twice (second_inverted ∷ []) false ((false ∷ false ∷ []) ∷ (false ∷ true ∷ []) ∷ (true ∷ false ∷ []) ∷ (true ∷ true ∷ []) ∷ [])).outputs
    ≡ (true ∷ true ∷ []) ∷ (false ∷ false ∷ []) ∷ (false ∷ true ∷ []) ∷ (false ∷ false ∷ []) ∷ []
unfolding path_value columns clock_ports sites driver
placed_watched = refl
