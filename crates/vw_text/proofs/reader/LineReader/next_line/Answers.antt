-- The start of the loop, and a logical line without words.
use Rattle.std.proofs.Common.{rules, ◌≡◌, ◌+◌, ◌++◌, ◌∷◌, true, eqb, length, map, refl, sym, ◌∙◌, ap, arith}
use Rattle.vw_text.specs.Physical.{text_lines}
use Rattle.vw_text.specs.Bare.{bare}
use Rattle.vw_text.specs.Logical.{continued, joined_lines}
use Rattle.vw_text.specs.WordLines.{is_empty, words_of, word_lines_of}
use Rattle.vw_text.proofs.LogicalLines.{fresh, passes}
use Rattle.vw_text.proofs.reader.LineReader.next_line.Goals as goal

pub loop-rest-init : goal.loop-rest-init
loop-rest-init c =
    let number = c.args.self.now.number in
    let lines = map bare (text_lines c.args.self.now.rest.now) in
    record {
      whole = ap (λ front. word_lines_of (continued number front (joined_lines number lines))) c.new-front.ensures.items ∙ fresh number lines;
      counted = omega arith;
      shorter = omega arith;
      kept = refl;
    }

pub loop-rest-preserved : goal.loop-rest-preserved
loop-rest-preserved c =
    let lines = map bare (text_lines c.first_line.result.1.now) in
    let line = c.bare-line.result.now in
    let front = c.loop-rest.front.items in
    let next = c.loop-rest.next in
    let nothing : eqb (length c.in_ok-words.words.items) 0 ≡ true = search rules in
    let none : is_empty (words_of (front ++ line)) ≡ true = ap (λ words. eqb (length words) 0) (sym c.in_ok-words.ensures.words) ∙ nothing in
    let cut : line ∷ lines ≡ map bare (text_lines c.loop-rest.rest.now) = ap (λ line. line ∷ lines) c.bare-line.ensures ∙ ap (map bare) (sym c.first_line.ensures.lines) in
    record {
      whole =
          ap (λ items. word_lines_of (continued (next + 1) items (joined_lines (next + 1) lines))) c.in_ok-words.ensures.front
          ∙ passes c.loop-rest.number next front line lines (sym c.in_default.ensures) none
          ∙ ap (λ lines. word_lines_of (continued c.loop-rest.number front (joined_lines next lines))) cut ∙ c.loop-rest.invariant.whole;
      counted = omega arith;
      shorter = omega arith;
      kept = c.loop-rest.invariant.kept;
    }
