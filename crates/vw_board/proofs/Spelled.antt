-- From the lines that were read to the board, or to the reason why there is none.
use Rattle.std.proofs.Common.{◌≡◌, ◌-◌, ℕ, List, [], length, map, take, drop, Option, None, Result, Ok, Err, ap, ap₂, sym, subst, ◌∙◌, length-drop, arith}
use Rattle.std.specs.Prelude.{IfOk, IfErr}
use Rattle.std.specs.Option.{option_or}
use Rattle.std.proofs.lemmas.List.{take_all}
use Rattle.vw_text.specs.declared.line.Line.{Line}
use Rattle.vw_plan.specs.declared.link.Link.{Link}
use Rattle.vw_plan.specs.declared.board.Board.{Board}
use Rattle.vw_board.specs.declared.fault.BoardFault.{BoardFault}
use Rattle.vw_board.specs.declared.fault.BoardFault.TheVariants.{TooLarge, BadLine, BadNumber, SelfLink, DuplicateLink, PinsExceeded, Unreachable, NoMemory}
use Rattle.vw_board.specs.declared.head.BoardHead.{BoardHead}
use Rattle.vw_board.specs.LinkLines.{first_link_fault, link_of, links_of}
use Rattle.vw_board.specs.Headers.{chips_of, pins_of}
use Rattle.vw_board.specs.Pins.{AreEnoughPins}
use Rattle.vw_board.specs.BoardText.{line_fault, RefusesLinks, RefusesLines, IsBoardOfLines}
use Rattle.vw_board.specs.Steps.Heads.{IsBoardHead}
use Rattle.vw_board.specs.Steps.Links.{ReadsLinks}

module _ (lines : List Line) (head : BoardHead) (links : List Link) (is : IsBoardHead lines head) (reads : ReadsLinks head.version head.chips (take (length lines - 5) (drop 5 lines)) links) where
  rest : ReadsLinks head.version head.chips (drop 5 lines) links
  rest = subst (λ (behind : List Line). ReadsLinks head.version head.chips behind links) (take_all (length lines - 5) (drop 5 lines) (omega (arith, length-drop 5 lines))) reads

  -- no line is at fault
  fine : line_fault lines ≡ None
  fine = ap₂ (λ (first second : Option BoardFault). option_or first second) is.fine (ap₂ (λ (version chips : ℕ). first_link_fault version chips [] (drop 5 lines)) (sym is.version) (sym is.chips) ∙ rest.fine)

  -- what was said of the numbers and links that were read is said of those of the lines
  moved : (P : ℕ → ℕ → List Link → Type 0) → P head.chips head.pins links → P (chips_of lines) (pins_of lines) (links_of lines)
  moved P holds = subst (λ (chips : ℕ). P chips (pins_of lines) (links_of lines)) is.chips (subst (λ (pins : ℕ). P head.chips pins (links_of lines)) is.pins (subst (λ (all : List Link). P head.chips head.pins all) (rest.are ∙ ap (λ (version : ℕ). map (link_of version) (drop 5 lines)) is.version) holds))

  pub spelled : (result : Result Board BoardFault) → IfOk result (λ board. AreEnoughPins head.chips head.pins links) → IfOk result (λ board. board.chips ≡ head.chips) → IfOk result (λ board. board.cells ≡ head.cells) → IfOk result (λ board. board.settle ≡ head.settle) → IfOk result (λ board. board.links ≡ links) → IfOk result (IsBoardOfLines lines)
  spelled (Err fault) enough chips cells settle are = tt
  spelled (Ok board) enough chips cells settle are = record { fine = fine; enough = moved AreEnoughPins enough; chips = chips ∙ is.chips; cells = cells ∙ is.cells; settle = settle ∙ is.settle; links = are ∙ rest.are ∙ ap (λ (version : ℕ). map (link_of version) (drop 5 lines)) is.version }

  pub refused : (fault : BoardFault) → RefusesLinks head.chips head.pins links fault → RefusesLines lines fault
  refused TooLarge refuses = refuses
  refused (BadLine line) refuses = absurd refuses
  refused (BadNumber line) refuses = absurd refuses
  refused (SelfLink a) refuses = absurd refuses
  refused (DuplicateLink a b) refuses = absurd refuses
  refused (PinsExceeded chip used limit) refuses = (fine, moved (λ chips pins all. RefusesLinks chips pins all (PinsExceeded chip used limit)) refuses)
  refused (Unreachable a b) refuses = (fine, moved (λ chips pins all. RefusesLinks chips pins all (Unreachable a b)) refuses)
  refused NoMemory refuses = tt

  pub refused_by : (result : Result Board BoardFault) → IfErr result (RefusesLinks head.chips head.pins links) → IfErr result (RefusesLines lines)
  refused_by (Ok board) refuses = tt
  refused_by (Err fault) refuses = refused fault refuses
