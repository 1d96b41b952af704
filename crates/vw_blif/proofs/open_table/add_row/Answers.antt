use Rattle.std.proofs.Common.{rules, ◌≡◌, true, false, List, length, codes, refl, sym, ◌∙◌, ap, ap₂}
use Rattle.std.specs.Str.{bytes_eq}
use Rattle.vw_net.specs.declared.cover.Mark.{Mark}
use Rattle.vw_design.specs.Paths.{Word}
use Rattle.vw_blif.specs.Words.{last_word}
use Rattle.vw_blif.specs.Rows.{is_row_of, row_marks}
use Rattle.vw_blif.specs.Steps.Tables.{is_other_value}
use Rattle.vw_blif.proofs.TableSteps.{length-row_marks, even_rows, adds_row}
use Rattle.vw_blif.proofs.open_table.add_row.Goals as goal
use Rattle.vw_blif.proofs.open_table.add_row.Goals.{Else-not-is_row_of}

row_has_form : (c : Else-not-is_row_of) → is_row_of (length c.args.table.ins) c.args.line.now.words ≡ true
row_has_form c = sym (c.is_row_of.ensures ∙ ap₂ is_row_of c.len.ensures c.words-words.ensures) ∙ c.if-not-is_row_of.false

pub invariant_of-result : goal.invariant_of-result
invariant_of-result c =
    let row_is = row_has_form ((goal.at.invariant_of-result c).Else-not-is_row_of) in
    let marks = c.make.ensures ∙ c.in_ok-row_marks.ensures ∙ ap row_marks c.words-words.ensures in
    record {
      narrow = c.args.table.narrow;
      even = even_rows (length c.args.table.ins) c.args.table.rows.items c.push.new.self.items _ c.in_ok-push.ensures.items c.args.table.even
          (ap (λ (ms : List Mark). length ms) marks ∙ length-row_marks (length c.args.table.ins) c.args.line.now.words row_is);
    }

pub returns-clause-row : goal.returns-clause-row
returns-clause-row c =
    let row_is = row_has_form ((goal.at.returns-clause-row c).Else-not-is_row_of) in
    let same : is_other_value c.args.table.on c.is-ends_in_one.result ≡ false = search rules in
    let value = c.as_slice.ensures ∙ c.front_and_last.ensures.last ∙ ap last_word c.words-words.ensures in
    let one = c.is-ends_in_one.ensures ∙ ap (λ (word : Word). bytes_eq word (codes "1")) value in
    let marks = c.make.ensures ∙ c.in_ok-row_marks.ensures ∙ ap row_marks c.words-words.ensures in
    adds_row c.args.line.now c.args.table _ _ c.is-ends_in_one.result refl refl refl refl c.in_ok-push.ensures.items marks one row_is same
