-- What comes next in an instance whose items are being listed.
use Rattle.std.specs.Prelude.{ℕ, List, Option, Some, None, option_and_then, slice_get}
use Rattle.vw_design.specs.declared.design.Design.{Design}
use Rattle.vw_design.specs.declared.item.Item.{Item}
use Rattle.vw_design.specs.declared.item.Item.TheVariants.{Names, Latch, Sub}
use Rattle.vw_design.specs.Paths.{items_of}
use Rattle.vw_instances.specs.declared.next.Next.{Next}
use Rattle.vw_instances.specs.declared.next.Next.TheVariants.{End, Cell, Place}

-- the number of the model at a place of a model, the places being counted from 0
abbrev pub target_at : List (List (Option ℕ)) → ℕ → ℕ → Option ℕ
target_at targets model before = option_and_then (λ numbers. option_and_then (λ number. number) (slice_get numbers before)) (slice_get targets model)

abbrev pub next_placed : Option ℕ → Next
next_placed None = End
next_placed (Some model) = Place model

abbrev pub next_by : Option ℕ → Option Item → Next
next_by target None = End
next_by target (Some (Names line ins out cover)) = Cell
next_by target (Some (Latch line d q edge control init)) = Cell
next_by target (Some (Sub line model binds)) = next_placed target

-- by the item with a number in the model with a number, where so many `.subckt` items stand before it
abbrev pub next_of : Design → List (List (Option ℕ)) → ℕ → ℕ → ℕ → Next
next_of design targets model item before =
    next_by (target_at targets model before) (slice_get (items_of (slice_get design.models model)) item)
