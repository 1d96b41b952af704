use Rattle.std.proofs.Common.{◌≡◌, ◌++◌, ◌∙◌, ℕ, List, [], ◌∷◌, codes, ap, sym, append-nil}
use Rattle.vw_text.specs.Physical.{lines_text}
use Rattle.vw_text.proofs.WrittenPieces.{grown_lines}
use Rattle.vw_chain.specs.Timing.{planned_of}
use Rattle.vw_report.specs.Report.{chip_lines, critical_lines, head_line, host_line, link_lines}
use Rattle.vw_report.proofs.report.text_of.Goals as goal

-- one line
as_line : (old line text : List ℕ) → text ≡ old ++ (line ++ 10 ∷ []) → text ≡ old ++ lines_text (line ∷ [])
as_line old line text is = is ∙ ap (λ (rest : List ℕ). old ++ rest) (sym (append-nil (line ++ 10 ∷ [])))

pub returns : goal.returns
returns c =
    let planned = planned_of c.args.reported.now.timed.now in
    let names = c.args.reported.now.names.now in
    let found = c.args.found.now in
    let head = head_line planned found in
    let host = host_line planned in
    let one = c.push_head.new.text.items in
    let two = c.push_host.new.text.items in
    let three = c.push_chips.new.text.items in
    let four = c.push_links.new.text.items in
    let five = c.push_critical.new.text.items in
    grown_lines [] (head ∷ []) ((host ∷ []) ∷ (chip_lines planned ∷ (link_lines planned ∷ (critical_lines planned names found.critical ∷ ((codes "end" ∷ []) ∷ [])))))
    c.extend_from_slice.new.self.items (
      one,
      as_line [] head one (c.in_ok-push_head.ensures ∙ ap (λ (old : List ℕ). old ++ (head ++ 10 ∷ [])) c.new-text.ensures.items),
      (two, as_line one host two c.in_ok-push_host.ensures, (three, c.in_ok-push_chips.ensures, (four, c.in_ok-push_links.ensures, (five, c.in_ok-push_critical.ensures, c.in_ok-extend_from_slice.ensures.items)))),
    )
