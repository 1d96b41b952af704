-- Each fault once, at a small design, with its first place.
use Rattle.std.proofs.Common.{◌≡◌, ◌<◌, ◌≤◌, ℕ, zero, suc, true, List, [], ◌∷◌, slice_index_or, Some, codes, refl, arith}
use Rattle.vw_net.specs.declared.cell.Init.TheVariants.{Zero}
use Rattle.vw_net.specs.declared.cover.Mark.TheVariants.{One as AskOne}
use Rattle.vw_net.specs.declared.cover.Cover.{Cover}
use Rattle.vw_design.specs.declared.item.Edge.{Edge}
use Rattle.vw_design.specs.declared.item.Edge.TheVariants.{Rise, Fall, Unsaid}
use Rattle.vw_design.specs.declared.item.Item.{Item}
use Rattle.vw_design.specs.declared.item.Item.TheVariants.{Names, Latch, Sub}
use Rattle.vw_design.specs.declared.model.Model.{Model}
use Rattle.vw_design.specs.declared.design.Design.{Design}
use Rattle.vw_design.specs.Paths.{Word}
use Rattle.vw_design.specs.Drivers.{driver}
use Rattle.vw_design.specs.Preorder.{sites}
use Rattle.vw_design.specs.Clocks.{clock_ports}
use Rattle.vw_design.specs.ModelFaults.{reached, unknown_model, is_reached, place_in_file, IsModelCircle}
use Rattle.vw_design.specs.Accepted.{further_fault, formal_unknown, input_unbound, output_both_ways, net_undriven, driven_twice, clock_gated, clocks_differ, edges_differ, clock_read}
use Rattle.vw_design.proofs.WorkedParts.{bind, table, design}

abbrev one_row : Cover
one_row = table 1 true ((AskOne ∷ []) ∷ []) refl

-- a gate of one input, a latch, and a placed model
abbrev gate : ℕ → Word → Word → Item
gate line input output = Names line (input ∷ []) output one_row

abbrev latch : ℕ → Word → Word → Edge → Word → Item
latch line d q edge control = Latch line d q edge (Some control) Zero

abbrev model : Word → List Word → List Word → List Item → Model
model name inputs outputs items = record { name = name; inputs = inputs; outputs = outputs; clocks = []; items = items }

-- a model of a gate
abbrev inner : Model
inner = model (codes "b") (codes "i" ∷ []) (codes "o" ∷ []) (gate 9 (codes "i") (codes "o") ∷ [])

-- 13: the second `.subckt` names no model
unknown : unknown_model (design (model (codes "a") (codes "x" ∷ []) [] (Sub 3 (codes "b") (bind (codes "i") (codes "x") ∷ []) ∷ Sub 4 (codes "c") [] ∷ []) ∷ inner ∷ []) refl) ≡ Some 4
unfolding reached sites
unknown = refl

-- 14: two models place each other
abbrev circle : Design
circle = design (model (codes "a") [] [] (Sub 2 (codes "b") [] ∷ []) ∷ model (codes "b") [] [] (Sub 4 (codes "a") [] ∷ []) ∷ []) refl

recursive_models : IsModelCircle circle (codes "a" ∷ codes "b" ∷ [])
unfolding sites
recursive_models = record { some = omega arith; reached = are_reached; distinct = refl; placed = (refl, (refl, tt)); earliest = first } where
  are_reached : (i : ℕ) (name : Word) → i < 2 → is_reached circle (slice_index_or (codes "a" ∷ codes "b" ∷ []) i name) ≡ true
  are_reached zero name within = refl
  are_reached (suc zero) name within = refl
  are_reached (suc (suc i)) name within = absurd (omega arith)

  first : (i : ℕ) (name : Word) → i < 2 → place_in_file circle (codes "a") ≤ place_in_file circle (slice_index_or (codes "a" ∷ codes "b" ∷ []) i name)
  first zero name within = omega arith
  first (suc zero) name within = omega arith
  first (suc (suc i)) name within = absurd (omega arith)

-- 15 to 17
unknown_formal_found : further_fault (design (model (codes "a") (codes "x" ∷ []) [] (Sub 3 (codes "b") (bind (codes "i") (codes "x") ∷ bind (codes "z") (codes "x") ∷ []) ∷ []) ∷ inner ∷ []) refl)
    ≡ Some (formal_unknown (record { line = 3; name = codes "z" }))
unfolding reached sites
unknown_formal_found = refl

unbound_input_found : further_fault (design (model (codes "a") [] [] (Sub 3 (codes "b") (bind (codes "o") (codes "x") ∷ []) ∷ []) ∷ inner ∷ []) refl)
    ≡ Some (input_unbound (record { line = 3; name = codes "i" }))
unfolding reached sites
unbound_input_found = refl

both_ways_found : further_fault (design (model (codes "a") (codes "x" ∷ []) [] (Sub 3 (codes "b") (bind (codes "i") (codes "x") ∷ []) ∷ []) ∷ model (codes "b") (codes "i" ∷ []) (codes "i" ∷ []) [] ∷ []) refl)
    ≡ Some (output_both_ways (record { model = codes "b"; name = codes "i" }))
unfolding reached sites
both_ways_found = refl

-- 19: within a placed model
undriven_found : further_fault (design (model (codes "a") (codes "x" ∷ []) [] (Sub 3 (codes "b") (bind (codes "i") (codes "x") ∷ []) ∷ []) ∷ model (codes "b") (codes "i" ∷ []) [] (gate 9 (codes "n") (codes "o") ∷ []) ∷ []) refl)
    ≡ Some (net_undriven (record { path = 1 ∷ []; name = codes "n" }))
unfolding reached clock_ports sites driver
undriven_found = refl

-- 20: the second claim in the order of the instances, and not of the text; a net that is claimed again within a placed
-- model stands before one that its parent claims again behind it
two_drivers_found : further_fault (design (model (codes "a") (codes "x" ∷ []) [] (gate 2 (codes "x") (codes "n") ∷ Sub 3 (codes "b") (bind (codes "i") (codes "x") ∷ []) ∷ gate 4 (codes "x") (codes "n") ∷ [])
    ∷ model (codes "b") (codes "i" ∷ []) [] (gate 9 (codes "i") (codes "m") ∷ gate 11 (codes "i") (codes "m") ∷ []) ∷ []) refl)
    ≡ Some (driven_twice (record { path = 1 ∷ []; name = codes "m" }))
unfolding reached clock_ports sites driver
two_drivers_found = refl

-- 21: .inputs c d / .outputs q / .names c g, 1 1 / .latch d q re g 0
gated_clock_found : further_fault (design (model (codes "m") (codes "c" ∷ codes "d" ∷ []) (codes "q" ∷ []) (gate 4 (codes "c") (codes "g") ∷ latch 6 (codes "d") (codes "q") Rise (codes "g") ∷ []) ∷ []) refl)
    ≡ Some (clock_gated (record { path = []; name = codes "g" }))
unfolding reached clock_ports sites driver
gated_clock_found = refl

-- 22: .inputs c1 c2 d / .outputs q / .latch d q re c1 0 / .latch d p re c2 0
several_clocks_found : further_fault (design (model (codes "m") (codes "c1" ∷ codes "c2" ∷ codes "d" ∷ []) (codes "q" ∷ []) (latch 4 (codes "d") (codes "q") Rise (codes "c1") ∷ latch 5 (codes "d") (codes "p") Rise (codes "c2") ∷ []) ∷ []) refl)
    ≡ Some (clocks_differ (record { first = codes "c1"; other = codes "c2" }))
unfolding reached clock_ports sites driver
several_clocks_found = refl

-- 23: a latch that writes no type agrees with either
several_edges_found : further_fault (design (model (codes "m") (codes "c" ∷ codes "d" ∷ []) (codes "q" ∷ [])
    (latch 4 (codes "d") (codes "n") Unsaid (codes "c") ∷ latch 5 (codes "d") (codes "q") Rise (codes "c") ∷ latch 6 (codes "d") (codes "p") Fall (codes "c") ∷ []) ∷ []) refl)
    ≡ Some (edges_differ (record { first = record { net = record { path = []; name = codes "q" }; edge = Rise }; other = record { net = record { path = []; name = codes "p" }; edge = Fall } }))
unfolding reached clock_ports sites driver
several_edges_found = refl

-- 24: .inputs c d / .outputs q / .latch d q re c 0 / .names c x, 1 1; and the net that is read, within a placed model
clock_as_data_found : further_fault (design (model (codes "m") (codes "c" ∷ codes "d" ∷ []) (codes "q" ∷ []) (latch 4 (codes "d") (codes "q") Rise (codes "c") ∷ gate 5 (codes "c") (codes "x") ∷ []) ∷ []) refl)
    ≡ Some (clock_read (record { path = []; name = codes "c" }))
unfolding reached clock_ports sites driver
clock_as_data_found = refl

clock_read_within : further_fault (design (model (codes "m") (codes "c" ∷ codes "d" ∷ []) (codes "q" ∷ []) (latch 4 (codes "d") (codes "q") Rise (codes "c") ∷ Sub 5 (codes "b") (bind (codes "i") (codes "c") ∷ []) ∷ []) ∷ inner ∷ []) refl)
    ≡ Some (clock_read (record { path = 1 ∷ []; name = codes "i" }))
unfolding reached clock_ports sites driver
clock_read_within = refl
