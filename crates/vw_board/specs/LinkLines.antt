-- The lines of a board text behind the first five, one for each link. Source: this project.
use Rattle.std.specs.Prelude.{◌==◌, ℕ, Bool, not, ◌||◌, List, [], ◌∷◌, ◌++◌, map, drop, Option, Some, None, is_none, unwrap_or, codes, if◌then◌else◌}
use Rattle.std.specs.Option.{option_or}
use Rattle.vw_text.specs.declared.line.Line.{Line}
use Rattle.vw_plan.specs.declared.link.Link.{Link}
use Rattle.vw_plan.specs.Walks.{has_link}
use Rattle.vw_board.specs.declared.fault.BoardFault.{BoardFault}
use Rattle.vw_board.specs.declared.fault.BoardFault.TheVariants.{BadLine, BadNumber, SelfLink, DuplicateLink}
use Rattle.vw_board.specs.Headers.{version_of}
use Rattle.vw_board.specs.Words.{is_line_of, number_within, number_at}

-- how many words a link line has: only in a text of version 2 its delay is written
abbrev pub link_words : ℕ → ℕ
link_words version = if version == 1 then 4 else 5

-- the delay of a line, where it is one from 1 to 16; 1 where it isn't written
abbrev pub delay_in : ℕ → Line → Option ℕ
delay_in version line = if version == 1 then Some 1 else number_within 1 16 4 line

-- the link of a line: the node that it leaves, the node that it reaches, its width and its delay
abbrev pub link_of : ℕ → Line → Link
link_of version line = record { from = number_at 1 line; to = number_at 2 line; width = number_at 3 line; delay = unwrap_or (delay_in version line) 0 }

-- whether a number of the line is none, or out of its range: nodes are 0 to the number of chips, widths 1 to 64
abbrev pub has_bad_number : ℕ → ℕ → Line → Bool
has_bad_number version chips line =
    is_none (number_within 0 chips 1 line)
    || (is_none (number_within 0 chips 2 line) || (is_none (number_within 1 64 3 line) || is_none (delay_in version line)))

-- the fault of a line behind these links; of several the one of the least number
abbrev pub link_fault : ℕ → ℕ → List Link → Line → Option BoardFault
link_fault version chips links line =
    if not (is_line_of (codes "link") (link_words version) line) then Some (BadLine line.number)
    else if has_bad_number version chips line then Some (BadNumber line.number)
    else if number_at 1 line == number_at 2 line then Some (SelfLink (number_at 1 line))
    else if has_link links (number_at 1 line) (number_at 2 line) then Some (DuplicateLink (number_at 1 line) (number_at 2 line))
    else None

-- the fault of the first line at fault, behind these links
abbrev pub first_link_fault : ℕ → ℕ → List Link → List Line → Option BoardFault
first_link_fault version chips links [] = None
first_link_fault version chips links (line ∷ lines) =
    option_or (link_fault version chips links line) (first_link_fault version chips (links ++ link_of version line ∷ []) lines)

-- the links of a text, in the order of their lines
abbrev pub links_of : List Line → List Link
links_of lines = map (link_of (version_of lines)) (drop 5 lines)
