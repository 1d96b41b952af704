-- A design that is worked out: three models, of which two are placed twice, three levels deep.
--
--     .model top              .model pair             .model stage
--     .inputs clk a           .inputs i c             .inputs d k
--     .outputs y              .outputs o              .outputs q
--     .subckt pair i=a o=m c=clk      .subckt stage d=i q=t k=c      .latch d s re k 0
--     .subckt pair i=n o=y c=clk      .subckt stage d=t q=o k=c      .names s q / 1 1
--     .names m n / 0 1
use Rattle.std.proofs.Common.{◌≡◌, true, false, [], ◌∷◌, Some, None, map, codes, refl}
use Rattle.std.specs.Fmt.{digits}
use Rattle.vw_net.specs.declared.cell.Init.TheVariants.{Zero}
use Rattle.vw_net.specs.declared.cover.Mark.TheVariants.{Zero as AskZero, One as AskOne}
use Rattle.vw_design.specs.declared.item.Edge.TheVariants.{Rise}
use Rattle.vw_design.specs.declared.item.Item.TheVariants.{Names, Latch, Sub}
use Rattle.vw_design.specs.declared.model.Model.{Model}
use Rattle.vw_design.specs.declared.design.Design.{Design}
use Rattle.vw_design.specs.Paths.{printed}
use Rattle.vw_design.specs.Drivers.{at_port, at_cell, driver}
use Rattle.vw_design.specs.Preorder.{sites, instances, cells}
use Rattle.vw_design.specs.Clocks.{clock_ports, columns}
use Rattle.vw_design.specs.PathValue.{path_value}
use Rattle.vw_design.specs.PathHistory.{path_history}
use Rattle.vw_design.specs.ModelFaults.{reached}
use Rattle.vw_design.specs.Accepted.{fault_of_models, fault_of_nets}
use Rattle.vw_design.proofs.WorkedParts.{bind, table, design}

abbrev stage : Model
stage = record {
  name = codes "stage";
  inputs = codes "d" ∷ codes "k" ∷ [];
  outputs = codes "q" ∷ [];
  clocks = [];
  items = Latch 1 (codes "d") (codes "s") Rise (Some (codes "k")) Zero ∷ Names 2 (codes "s" ∷ []) (codes "q") (table 1 true ((AskOne ∷ []) ∷ []) refl) ∷ [];
}

abbrev pair : Model
pair = record {
  name = codes "pair";
  inputs = codes "i" ∷ codes "c" ∷ [];
  outputs = codes "o" ∷ [];
  clocks = [];
  items = Sub 3 (codes "stage") (bind (codes "d") (codes "i") ∷ bind (codes "q") (codes "t") ∷ bind (codes "k") (codes "c") ∷ [])
      ∷ Sub 4 (codes "stage") (bind (codes "d") (codes "t") ∷ bind (codes "q") (codes "o") ∷ bind (codes "k") (codes "c") ∷ []) ∷ [];
}

abbrev top : Model
top = record {
  name = codes "top";
  inputs = codes "clk" ∷ codes "a" ∷ [];
  outputs = codes "y" ∷ [];
  clocks = [];
  items = Sub 5 (codes "pair") (bind (codes "i") (codes "a") ∷ bind (codes "o") (codes "m") ∷ bind (codes "c") (codes "clk") ∷ [])
      ∷ Sub 6 (codes "pair") (bind (codes "i") (codes "n") ∷ bind (codes "o") (codes "y") ∷ bind (codes "c") (codes "clk") ∷ [])
      ∷ Names 7 (codes "m" ∷ []) (codes "n") (table 1 true ((AskZero ∷ []) ∷ []) refl) ∷ [];
}

abbrev worked : Design
worked = design (top ∷ pair ∷ stage ∷ []) refl

-- the instances: the root, and then each placed model with those below it
instances_worked : instances worked ≡ [] ∷ (1 ∷ []) ∷ (1 ∷ 1 ∷ []) ∷ (2 ∷ 1 ∷ []) ∷ (2 ∷ []) ∷ (1 ∷ 2 ∷ []) ∷ (2 ∷ 2 ∷ []) ∷ []
unfolding sites
instances_worked = refl

-- the cells: the latch and the gate of each stage, and then the gate of the root
cells_worked : map (λ site. at_cell site.path site.number) (cells worked) ≡
    at_cell (1 ∷ 1 ∷ []) 0 ∷ at_cell (1 ∷ 1 ∷ []) 1 ∷ at_cell (2 ∷ 1 ∷ []) 0 ∷ at_cell (2 ∷ 1 ∷ []) 1
    ∷ at_cell (1 ∷ 2 ∷ []) 0 ∷ at_cell (1 ∷ 2 ∷ []) 1 ∷ at_cell (2 ∷ 2 ∷ []) 0 ∷ at_cell (2 ∷ 2 ∷ []) 1 ∷ at_cell [] 2 ∷ []
unfolding sites
cells_worked = refl

-- a driver two levels down, one two levels up, one across, and a net without a driver
driver_down : driver worked [] (codes "m") ≡ Some (at_cell (2 ∷ 1 ∷ []) 1)
unfolding driver
driver_down = refl

driver_up : driver worked (1 ∷ 1 ∷ []) (codes "d") ≡ Some (at_port (codes "a"))
unfolding driver
driver_up = refl

driver_across : driver worked (1 ∷ 2 ∷ []) (codes "d") ≡ Some (at_cell [] 2)
unfolding driver
driver_across = refl

driver_none : driver worked (1 ∷ []) (codes "m") ≡ None
unfolding driver
driver_none = refl

-- the clock is no column
columns_worked : columns worked ≡ codes "a" ∷ []
unfolding columns clock_ports sites driver
columns_worked = refl

-- no fault is there
no_fault_of_models : fault_of_models worked ≡ None
unfolding reached sites driver
no_fault_of_models = refl

no_fault_of_nets : fault_of_nets worked ≡ None
unfolding clock_ports sites driver
no_fault_of_nets = refl

-- three clocks, by hand: the input goes through two stages, is inverted, and goes through two more
history_worked : path_history worked [] false ((true ∷ []) ∷ (false ∷ []) ∷ (true ∷ []) ∷ []) ≡ record {
  outputs = (false ∷ []) ∷ (false ∷ []) ∷ (true ∷ []) ∷ [];
  states = (false ∷ false ∷ false ∷ false ∷ []) ∷ (true ∷ false ∷ true ∷ false ∷ []) ∷ (false ∷ true ∷ true ∷ true ∷ []) ∷ [];
  last = true ∷ false ∷ false ∷ true ∷ [];
}
unfolding path_value columns clock_ports sites driver
history_worked = refl

-- how the net of a stage is printed
printed_worked : printed (record { path = 2 ∷ 1 ∷ []; name = codes "s" }) ≡ codes "1/2/s"
unfolding digits
printed_worked = refl
