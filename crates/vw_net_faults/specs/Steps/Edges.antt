-- Latches by the types that they write.
use Rattle.std.specs.Prelude.{◌≡◌, Bool, false, not, find, filter_map, option_to_list, slice_get, Option, Some, None}
use Rattle.vw_design.specs.declared.item.Edge.{Edge}
use Rattle.vw_design.specs.declared.item.Edge.TheVariants.{Rise, Fall, Unsaid}
use Rattle.vw_design.specs.declared.item.Item.{Item}
use Rattle.vw_design.specs.declared.design.Design.{Design}
use Rattle.vw_design.specs.NetFaults.{Edged, edge_at, same_edge}
use Rattle.vw_design.specs.Paths.{Path}
use Rattle.vw_design.specs.Preorder.{instances, cells}
use Rattle.vw_net_faults.specs.declared.edges.Typed.{Typed}

-- whether a type that is written is another one
abbrev pub edge_differs : Edge → Edge → Bool
edge_differs edge Rise = not (same_edge edge Rise)
edge_differs edge Fall = not (same_edge edge Fall)
edge_differs edge Unsaid = false

-- a latch by the number of its instance
abbrev pub IsTyped : Design → Option Edged → Option Typed → Type 0
IsTyped design None None = Unit {0}
IsTyped design None (Some found) = ⊥
IsTyped design (Some latch) None = ⊥
IsTyped design (Some latch) (Some found) =
    (slice_get (instances design) found.instance ≡ Some latch.net.path) × (found.q.now ≡ latch.net.name) × (found.edge ≡ latch.edge)

-- an item that writes a type other than this one, and the first one
abbrev pub other_edge : Edge → Path → Item → Option Edged
other_edge edge path item = find (λ latch. not (same_edge edge latch.edge)) (option_to_list (edge_at path item))

abbrev pub first_other : Design → Edge → Option Edged
first_other design edge = find (λ latch. not (same_edge edge latch.edge)) (filter_map (λ site. edge_at site.path site.item) (cells design))
