-- What is seen of the shelf that finds every name, and of the sink that takes everything. Neither counts a fault.
use Rattle.std.specs.Prelude.{ℕ, List, [], ◌∷◌, None, if◌then◌else◌}
use Rattle.std.specs.Global.{Vec}
use Rattle.std.specs.Str.{bytes_eq}
use Rattle.vw_outside.specs.Told.{held}
use Rattle.vw_outside.specs.Reads.{SeenShelf}
use Rattle.vw_outside.specs.Writes.{SeenSink}

-- texts under their names
abbrev pub SureTexts : Type 0
SureTexts = List (List ℕ × Vec ℕ)

-- the first text of a name, or the empty one
abbrev pub sure_text : SureTexts → List ℕ → List ℕ
sure_text [] name = []
sure_text (file ∷ files) name = if bytes_eq file.0 name then file.1.items else sure_text files name

abbrev pub seen_sure : SureTexts → SeenShelf
seen_sure files = record { told = λ name. held (sure_text files name); faults = λ name. 0 }

abbrev pub nothing_seen : SeenSink
nothing_seen = record { told = None; faults = 0 }
