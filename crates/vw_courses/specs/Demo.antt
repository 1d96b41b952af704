-- The texts of a demo, each under its name. Source: this project.
use Rattle.std.specs.Prelude.{ℕ, List, [], codes, if◌then◌else◌}
use Rattle.std.specs.Str.{bytes_eq}
use Rattle.vw_gen.specs.Design.{design_text}
use Rattle.vw_gen.specs.Board.{board_text}
use Rattle.vw_gen.specs.Stimulus.{stimulus_text}

-- the name of each text of a demo
abbrev pub design_name : List ℕ
design_name = codes "design"

abbrev pub board_name : List ℕ
board_name = codes "board"

abbrev pub stimulus_name : List ℕ
stimulus_name = codes "stimulus"

-- the text that a name has in a demo of so many cells
abbrev pub generated : ℕ → List ℕ → List ℕ
generated cells name =
    if bytes_eq design_name name then design_text cells
    else (if bytes_eq board_name name then board_text cells
    else (if bytes_eq stimulus_name name then stimulus_text cells else []))
