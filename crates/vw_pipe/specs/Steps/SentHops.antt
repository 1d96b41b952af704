-- The hops of a route, each in the first free slot of its link. Source: this project.
use Rattle.std.specs.Prelude.{◌≡◌, ◌+◌, ◌==◌, ◌&&◌, ◌++◌, ℕ, suc, List, [], ◌∷◌, map, if◌then◌else◌, IsTrue}
use Rattle.vw_plan.specs.declared.board.Board.{Board}
use Rattle.vw_plan.specs.declared.link.Link.{Link}
use Rattle.vw_plan.specs.declared.wire.Hop.{Hop}
use Rattle.vw_plan.specs.Lead.{arrival}
use Rattle.vw_plan.specs.Walks.{has_link}
use Rattle.vw_slots.specs.declared.slot.Slot.{Slot}
use Rattle.vw_slots.specs.declared.slot.Taken.{Taken}
use Rattle.vw_slots.specs.Slots.{Slots, IsFirstFree}

-- a link leads from the node to the first of these, and from each of them to the next
abbrev pub AreLinked : List Link → ℕ → List ℕ → Type 0
AreLinked links from [] = Unit {0}
AreLinked links from (to ∷ further) = IsTrue (has_link links from to) × AreLinked links to further

-- the number of the first link from a node to another; that of the links where there is none
abbrev pub link_place : List Link → ℕ → ℕ → ℕ
link_place [] from to = 0
link_place (link ∷ links) from to = if link.from == from && link.to == to then 0 else suc (link_place links from to)

-- the slots of a board of which these are taken
abbrev pub slots_of : Board → List Taken → Slots
slots_of board taken = record { widths = map (λ link. link.width) board.links; taken = taken; spare = 0 }

-- what a hop takes
abbrev pub hop_slot : Hop → Slot
hop_slot hop = record { pin = hop.pin; at = hop.at }

abbrev pub hop_link : Board → Hop → ℕ
hop_link board hop = link_place board.links hop.from hop.to

abbrev pub hop_takes : Board → Hop → Taken
hop_takes board hop = record { link = hop_link board hop; pin = hop.pin; at = hop.at }

-- hops go these steps, one after the other: each takes the first free slot of its link, the first of them not before a
-- microcycle, and each later one not before the one before it has arrived
abbrev pub AreSent : Board → List Taken → ℕ → List (ℕ × ℕ) → List Hop → Type 0
AreSent board taken ready [] [] = Unit {0}
AreSent board taken ready [] (hop ∷ hops) = ⊥
AreSent board taken ready (step ∷ steps) [] = ⊥
AreSent board taken ready (step ∷ steps) (hop ∷ hops) =
    ((hop.from, hop.to) ≡ step) × IsFirstFree (slots_of board taken) (hop_link board hop) ready (hop_slot hop)
    × AreSent board (taken ++ hop_takes board hop ∷ []) (arrival board.links hop + 1) steps hops
