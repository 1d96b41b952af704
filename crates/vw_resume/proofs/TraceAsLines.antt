-- A trace as lines.
use Rattle.std.proofs.Common.{◌≡◌, ◌+◌, ◌==◌, ℕ, Bool, true, false, if◌then◌else◌, List, [], ◌∷◌, ◌++◌, length, refl, sym, ◌∙◌, ap, ap₂, append_assoc, append-nil, arith}
use Rattle.std.specs.Prelude.{codes}
use Rattle.std.specs.Fmt.{decimal}
use Rattle.std.specs.List.{AllByRecursion, list_any}
use Rattle.std.proofs.lemmas.Bool.{or_parts}
use Rattle.std.proofs.lemmas.List.Elements.{All-append, All-cons, All-nil}
use Rattle.vw_net.specs.History.{History}
use Rattle.vw_text.specs.Physical.{text_lines, lines_text}
use Rattle.vw_text.proofs.BitTexts.{shown_has_no}
use Rattle.vw_text.proofs.DecimalDigits.{decimal_without}
use Rattle.vw_text.proofs.FirstLine.{ends_line, line_first}
use Rattle.vw_text.proofs.FoundBytes.{HasNo}
use Rattle.vw_text.proofs.LineTexts.{lines_text-append}
use Rattle.vw_text.specs.Printed.{bits_text}
use Rattle.vw_rows.specs.Trace.{head_text, rows_text, trace_lines_from, trace_text_from}
use Rattle.vw_resume.specs.Joined.{HasLines}

-- ---- the lines

abbrev plain_head : ℕ → ℕ → List ℕ
plain_head outputs latches = codes "trace 1 " ++ decimal outputs ++ 32 ∷ decimal latches

abbrev watched_head : ℕ → ℕ → ℕ → List ℕ
watched_head outputs probes latches = codes "trace 2 " ++ decimal outputs ++ 32 ∷ decimal probes ++ 32 ∷ decimal latches

abbrev pub head_line : ℕ → ℕ → ℕ → List ℕ
head_line outputs probes latches = if probes == 0 then plain_head outputs latches else watched_head outputs probes latches

abbrev clock_line : ℕ → List Bool → List Bool → List ℕ
clock_line clock outputs latches = decimal clock ++ 32 ∷ bits_text outputs ++ 32 ∷ bits_text latches

abbrev pub end_line : ℕ → List Bool → List ℕ
end_line clocks last = codes "end " ++ decimal clocks ++ 32 ∷ bits_text last

-- a line for each clock, from this number on
abbrev pub clock_lines : ℕ → List (List Bool) → List (List Bool) → List (List ℕ)
clock_lines first [] states = []
clock_lines first (row ∷ outputs) [] = []
clock_lines first (row ∷ outputs) (state ∷ states) = clock_line first row state ∷ clock_lines (first + 1) outputs states

-- the lines of clocks, and then of others
pub clock_lines-append : (first : ℕ) (outputs states later_outputs later_states : List (List Bool)) → length outputs ≡ length states
    → clock_lines first (outputs ++ later_outputs) (states ++ later_states) ≡ clock_lines first outputs states ++ clock_lines (first + length outputs) later_outputs later_states
clock_lines-append first [] [] later_outputs later_states same = ap (λ (n : ℕ). clock_lines n later_outputs later_states) (let e : first ≡ first + 0 = omega arith in e)
clock_lines-append first [] (state ∷ states) later_outputs later_states same = absurd (omega arith)
clock_lines-append first (row ∷ outputs) [] later_outputs later_states same = absurd (omega arith)
clock_lines-append first (row ∷ outputs) (state ∷ states) later_outputs later_states same =
    let count : first + 1 + length outputs ≡ first + length (row ∷ outputs) = omega arith in
    ap (λ (lines : List (List ℕ)). clock_line first row state ∷ lines)
    (clock_lines-append (first + 1) outputs states later_outputs later_states (omega arith)
    ∙ ap (λ (n : ℕ). clock_lines (first + 1) outputs states ++ clock_lines n later_outputs later_states) count)

-- ---- no byte in them ends a line

abbrev IsWhole : List ℕ → Type 0
IsWhole line = HasNo ends_line line

-- bytes that are looked at one by one
tried : (bytes : List ℕ) → list_any ends_line bytes ≡ false → IsWhole bytes
tried [] none = All-nil (λ b. ends_line b ≡ false)
tried (b ∷ bs) none =
    let parts = or_parts (ends_line b) (list_any ends_line bs) none in
    All-cons (λ b. ends_line b ≡ false) b bs parts.0 (tried bs parts.1)

-- two parts of a line
both : (one other : List ℕ) → IsWhole one → IsWhole other → IsWhole (one ++ other)
both one other = All-append (λ b. ends_line b ≡ false) one other

-- a word behind a space
spaced : (word : List ℕ) → IsWhole word → IsWhole (32 ∷ word)
spaced word = All-cons (λ b. ends_line b ≡ false) 32 word refl

number_whole : (number : ℕ) → IsWhole (decimal number)
number_whole number = decimal_without 10 (omega arith) number

bits_whole : (bits : List Bool) → IsWhole (bits_text bits)
bits_whole [] = tried (45 ∷ []) refl
bits_whole (bit ∷ bits) = shown_has_no ends_line refl refl (bit ∷ bits)

plain_whole : (outputs latches : ℕ) → IsWhole (plain_head outputs latches)
plain_whole outputs latches =
    both (codes "trace 1 " ++ decimal outputs) (32 ∷ decimal latches)
    (both (codes "trace 1 ") (decimal outputs) (tried (codes "trace 1 ") refl) (number_whole outputs))
    (spaced (decimal latches) (number_whole latches))

watched_whole : (outputs probes latches : ℕ) → IsWhole (watched_head outputs probes latches)
watched_whole outputs probes latches =
    both (codes "trace 2 " ++ decimal outputs ++ 32 ∷ decimal probes) (32 ∷ decimal latches)
    (both (codes "trace 2 " ++ decimal outputs) (32 ∷ decimal probes)
    (both (codes "trace 2 ") (decimal outputs) (tried (codes "trace 2 ") refl) (number_whole outputs))
    (spaced (decimal probes) (number_whole probes)))
    (spaced (decimal latches) (number_whole latches))

head_whole : (outputs probes latches : ℕ) → IsWhole (head_line outputs probes latches)
head_whole outputs probes latches = by (probes == 0) where
  by : (none : Bool) → IsWhole (if none then plain_head outputs latches else watched_head outputs probes latches)
  by true = plain_whole outputs latches
  by false = watched_whole outputs probes latches

-- the first line, with its end
head_ended : (outputs probes latches : ℕ) → head_text outputs probes latches ≡ head_line outputs probes latches ++ 10 ∷ []
head_ended outputs probes latches = by (probes == 0) where
  by : (none : Bool) → (if none then codes "trace 1 " ++ decimal outputs ++ 32 ∷ decimal latches ++ 10 ∷ [] else codes "trace 2 " ++ decimal outputs ++ 32 ∷ decimal probes ++ 32 ∷ decimal latches ++ 10 ∷ [])
      ≡ (if none then plain_head outputs latches else watched_head outputs probes latches) ++ 10 ∷ []
  by true = refl
  by false = refl

clock_whole : (clock : ℕ) (outputs latches : List Bool) → IsWhole (clock_line clock outputs latches)
clock_whole clock outputs latches =
    both (decimal clock ++ 32 ∷ bits_text outputs) (32 ∷ bits_text latches)
    (both (decimal clock) (32 ∷ bits_text outputs) (number_whole clock) (spaced (bits_text outputs) (bits_whole outputs)))
    (spaced (bits_text latches) (bits_whole latches))

end_whole : (clocks : ℕ) (last : List Bool) → IsWhole (end_line clocks last)
end_whole clocks last =
    both (codes "end " ++ decimal clocks) (32 ∷ bits_text last)
    (both (codes "end ") (decimal clocks) (tried (codes "end ") refl) (number_whole clocks))
    (spaced (bits_text last) (bits_whole last))

-- so it is with all of them
behind_head_whole : (first clocks : ℕ) (outputs states : List (List Bool)) (last : List Bool) → AllByRecursion IsWhole (clock_lines first outputs states ++ end_line clocks last ∷ [])
behind_head_whole first clocks [] states last = (end_whole clocks last, tt)
behind_head_whole first clocks (row ∷ outputs) [] last = (end_whole clocks last, tt)
behind_head_whole first clocks (row ∷ outputs) (state ∷ states) last = (clock_whole first row state, behind_head_whole (first + 1) clocks outputs states last)

-- ---- lines of a text

-- lines that have no end of a line in them are those of their text
lines_again : (lines : List (List ℕ)) → AllByRecursion IsWhole lines → text_lines (lines_text lines) ≡ lines
lines_again [] whole = refl
lines_again (line ∷ lines) whole =
    ap text_lines (append_assoc line (10 ∷ []) (lines_text lines))
    ∙ line_first line (lines_text lines) whole.0
    ∙ ap (λ (rest : List (List ℕ)). line ∷ rest) (lines_again lines whole.1)

clocks_joined : (first : ℕ) (outputs states : List (List Bool)) → rows_text first outputs states ≡ lines_text (clock_lines first outputs states)
clocks_joined first [] states = refl
clocks_joined first (row ∷ outputs) [] = refl
clocks_joined first (row ∷ outputs) (state ∷ states) =
    ap (λ (rest : List ℕ). (clock_line first row state ++ 10 ∷ []) ++ rest) (clocks_joined (first + 1) outputs states)

behind_head_joined : (first : ℕ) (history : History) → trace_lines_from first history
    ≡ lines_text (clock_lines first history.outputs history.states ++ end_line (first + length history.outputs) history.last ∷ [])
behind_head_joined first history =
    let last = end_line (first + length history.outputs) history.last in
    let clocks = clock_lines first history.outputs history.states in
    ap₂ (λ (front rest : List ℕ). front ++ rest) (clocks_joined first history.outputs history.states) (sym (append-nil (last ++ 10 ∷ [])))
    ∙ sym (lines_text-append clocks (last ∷ []))

-- the lines of a trace
pub trace_has_lines : (first outputs probes latches : ℕ) (history : History) → HasLines (trace_text_from first outputs probes latches history)
    (head_line outputs probes latches ∷ (clock_lines first history.outputs history.states ++ end_line (first + length history.outputs) history.last ∷ []))
trace_has_lines first outputs probes latches history =
    let head = head_line outputs probes latches in
    let rest = clock_lines first history.outputs history.states ++ end_line (first + length history.outputs) history.last ∷ [] in
    let is : trace_text_from first outputs probes latches history ≡ lines_text (head ∷ rest) =
    ap₂ (λ (front text : List ℕ). front ++ text) (head_ended outputs probes latches) (behind_head_joined first history) in
    record {
      joined = is;
      apart = ap text_lines is ∙ lines_again (head ∷ rest) (head_whole outputs probes latches, behind_head_whole first (first + length history.outputs) history.outputs history.states history.last);
    }
