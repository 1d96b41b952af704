-- What is sent over a link in a clock, by its nets and pins. Source: this project.
use Rattle.std.specs.Prelude.{◌==◌, ℕ, Bool, false, List, [], ◌∷◌, slice_index_or, if◌then◌else◌}
use Rattle.vw_prog.specs.declared.action.Action.{Action}
use Rattle.vw_prog.specs.declared.action.Action.TheVariants.{Evaluate, Send, Step, Take}
use Rattle.vw_prog.specs.declared.entry.Entry.{Entry}
use Rattle.vw_prog.specs.declared.word.Word.{Word}
use Rattle.vw_crew_tests.specs.declared.scripts.Slot.{Slot}

-- the net and the pin of an entry
abbrev pub entry_slot : Entry → Slot
entry_slot entry = record { net = entry.net; pin = entry.place }

-- those that a program sends over a link
abbrev pub slots : ℕ → List Action → List Slot
slots number [] = []
slots number (Evaluate gate ∷ actions) = slots number actions
slots number (Send link pin net ∷ actions) = if link == number then record { net = net; pin = pin } ∷ slots number actions else slots number actions
slots number (Take link pin net ∷ actions) = slots number actions
slots number (Step ∷ actions) = slots number actions

-- the word of one in a clock in which the nets have these values
abbrev pub word_in : ℕ → List Bool → Slot → Word
word_in clock values slot = record { clock = clock; net = slot.net; pin = slot.pin; bit = slice_index_or values slot.net false }
