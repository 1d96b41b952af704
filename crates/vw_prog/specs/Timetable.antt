-- The timetable of a board: what its nodes do in one clock, in order. A microcycle m has three moments: at 3 * m gates are
-- evaluated, at 3 * m + 1 words are sent, and at 3 * m + 2 words are taken. Source: this project.
use Rattle.std.specs.Prelude.{◌+◌, ◌-◌, ◌*◌, ◌%◌, ◌==◌, ◌&&◌, ℕ, suc, Bool, List, [], ◌∷◌, ◌++◌, unwrap_or}
use Rattle.std.specs.List.{filter, flat_map}
use Rattle.std.specs.Ordering.{is_lt, nat_cmp, ordering_then}
use Rattle.std.specs.declared.cmp.Ordering.{Ordering}
use Rattle.vw_plan.specs.declared.link.Link.{Link}
use Rattle.vw_plan.specs.declared.wire.Hop.{Hop}
use Rattle.vw_plan.specs.declared.wire.Wire.{Wire}
use Rattle.vw_plan.specs.Lead.{arrival, lead}
use Rattle.vw_plan.specs.PlannedBoard.{PlannedBoard, home}
use Rattle.vw_ready.specs.Links.{link_number}
use Rattle.vw_prog.specs.declared.entry.Entry.{Entry}
use Rattle.vw_net.specs.Sorting.{sorted}

-- ---- entries

-- the gate at a place of the order is evaluated in the microcycle that is its lead
abbrev pub gate_entry : PlannedBoard → ℕ → ℕ → Entry
gate_entry planned place number =
    let net = planned.ordered.flat.inputs + number in
    record { moment = 3 * lead planned (home planned net) net; link = 0; place = place; node = home planned net; net = net }

-- the link over which a hop goes
abbrev pub link_of_hop : List Link → Hop → ℕ
link_of_hop links hop = unwrap_or (link_number links hop.from hop.to) 0

-- a word is sent by the node that a hop leaves, in the hop's microcycle
abbrev pub sent_entry : List Link → ℕ → Hop → Entry
sent_entry links net hop = record { moment = 3 * hop.at + 1; link = link_of_hop links hop; place = hop.pin; node = hop.from; net = net }

-- and taken by the node that the hop reaches, in the microcycle in which it arrives
abbrev pub taken_entry : List Link → ℕ → Hop → Entry
taken_entry links net hop = record { moment = 3 * arrival links hop + 2; link = link_of_hop links hop; place = hop.pin; node = hop.to; net = net }

-- those of gates at places of the order from a place on
abbrev pub gate_entries : PlannedBoard → ℕ → List ℕ → List Entry
gate_entries planned place [] = []
gate_entries planned place (number ∷ numbers) = gate_entry planned place number ∷ gate_entries planned (suc place) numbers

-- those of the hops of a wire of a net, and those of wires
abbrev pub hop_entries : List Link → ℕ → List Hop → List Entry
hop_entries links net hops = flat_map (λ hop. sent_entry links net hop ∷ taken_entry links net hop ∷ []) hops

abbrev pub wire_entries : List Link → List Wire → List Entry
wire_entries links wires = flat_map (λ wire. hop_entries links wire.net wire.hops) wires

abbrev pub entries : PlannedBoard → List Entry
entries planned = gate_entries planned 0 planned.ordered.order ++ wire_entries planned.board.links planned.plan.wires

-- ---- their order

-- by moment, then by link, then by pin, or by the place of the gate in the order
abbrev pub entry_cmp : Entry → Entry → Ordering
entry_cmp entry other =
    ordering_then (nat_cmp entry.moment other.moment)
    (ordering_then (nat_cmp entry.link other.link)
    (ordering_then (nat_cmp entry.place other.place)
    (ordering_then (nat_cmp entry.node other.node) (nat_cmp entry.net other.net))))

abbrev pub comes_before : Entry → Entry → Bool
comes_before entry other = is_lt (entry_cmp entry other)

-- what the nodes of a board do in one clock, in order
unfoldable pub timetable : PlannedBoard → List Entry
timetable planned = sorted comes_before (entries planned)

-- ---- whose they are

abbrev pub is_at : ℕ → Entry → Bool
is_at node entry = entry.node == node

-- what a node does in one clock but for its step
abbrev pub entries_at : ℕ → List Entry → List Entry
entries_at node all = filter (is_at node) all

abbrev pub is_evaluating : Entry → Bool
is_evaluating entry = entry.moment % 3 == 0

abbrev pub is_sending : Entry → Bool
is_sending entry = entry.moment % 3 == 1

abbrev pub is_taking : Entry → Bool
is_taking entry = entry.moment % 3 == 2

-- whether a word is sent over a link, or taken from it
abbrev pub is_sent : ℕ → Entry → Bool
is_sent link entry = is_sending entry && entry.link == link

abbrev pub is_taken : ℕ → Entry → Bool
is_taken link entry = is_taking entry && entry.link == link

-- what is sent over a link in one clock, in order
abbrev pub passes : PlannedBoard → ℕ → List Entry
passes planned link = filter (is_sent link) (timetable planned)

-- the entry that takes what an entry sends over a link
abbrev pub taken_from : Link → Entry → Entry
taken_from link entry = record { moment = entry.moment + 1 + 3 * (link.delay - 1); link = entry.link; place = entry.place; node = link.to; net = entry.net }
