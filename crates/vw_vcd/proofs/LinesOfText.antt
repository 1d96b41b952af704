-- The lines of a wave are those of its text, since no byte in them ends a line.
use Rattle.std.proofs.Common.{◌≡◌, ◌+◌, ◌++◌, ◌==◌, ◌||◌, ◌∙◌, ℕ, Bool, true, false, List, [], ◌∷◌, Option, Some, None, length, map, ap, refl, sym, append_assoc, true≢false, arith}
use Rattle.std.specs.Prelude.{codes}
use Rattle.std.specs.Char.{is_ascii_alphanumeric}
use Rattle.std.specs.List.{AllByRecursion, list_any}
use Rattle.std.proofs.lemmas.Bool.{cond_both, ne_eqb, or_parts}
use Rattle.std.proofs.lemmas.List.Elements.{All-append, All-cons, All-nil}
use Rattle.vw_net.proofs.ListParts.{all_append}
use Rattle.vw_text.specs.Physical.{text_lines, lines_text}
use Rattle.vw_text.proofs.DecimalDigits.{decimal_without}
use Rattle.vw_text.proofs.FirstLine.{ends_line, line_first}
use Rattle.vw_text.proofs.FoundBytes.{HasNo}
use Rattle.vw_vcd.specs.Identifiers.{identifier}
use Rattle.vw_vcd.specs.Changes.{of_each, of_changed, under}
use Rattle.vw_vcd.specs.Lines.{name_byte, signal_name, var_line, var_lines, lines_of_head, time_line, value_line, lines_of_clock, lines_of_clocks, wave_lines_from, wave_text_from}
use Rattle.vw_vcd.proofs.Digits.{identifier_without}

-- no byte ends a line
abbrev IsWhole : List ℕ → Type 0
IsWhole line = HasNo ends_line line

-- so it is with each of some lines
abbrev AreWhole : List (List ℕ) → Type 0
AreWhole lines = AllByRecursion IsWhole lines

-- such lines are those of their text
lines_again : (lines : List (List ℕ)) → AreWhole lines → text_lines (lines_text lines) ≡ lines
lines_again [] whole = refl
lines_again (line ∷ lines) whole =
    ap text_lines (append_assoc line (10 ∷ []) (lines_text lines))
    ∙ line_first line (lines_text lines) whole.0
    ∙ ap (λ (rest : List (List ℕ)). line ∷ rest) (lines_again lines whole.1)

-- ---- which lines are whole

-- bytes that are looked at one by one
tried : (bytes : List ℕ) → list_any ends_line bytes ≡ false → IsWhole bytes
tried [] none = All-nil (λ b. ends_line b ≡ false)
tried (b ∷ bs) none =
    let parts = or_parts (ends_line b) (list_any ends_line bs) none in
    All-cons (λ b. ends_line b ≡ false) b bs parts.0 (tried bs parts.1)

-- two parts of a line
both : (one other : List ℕ) → IsWhole one → IsWhole other → IsWhole (one ++ other)
both one other = All-append (λ b. ends_line b ≡ false) one other

-- a byte before others
byte_before : (b : ℕ) (bs : List ℕ) → ends_line b ≡ false → IsWhole bs → IsWhole (b ∷ bs)
byte_before b bs = All-cons (λ b. ends_line b ≡ false) b bs

-- a byte of a name ends no line
name_byte_is : (byte : ℕ) → ends_line (name_byte byte) ≡ false
name_byte_is byte =
    let stays = λ (b : ℕ). is_ascii_alphanumeric b || b == 95 in
    cond_both (stays byte) byte 95 (λ (b : ℕ). ends_line b ≡ false) (λ is. ne_eqb byte 10 (λ (same : byte ≡ 10). true≢false (sym is ∙ ap stays same))) (λ other. refl)

-- so it is with all of them
name_bytes : (net : List ℕ) → IsWhole (map name_byte net)
name_bytes [] = All-nil (λ b. ends_line b ≡ false)
name_bytes (byte ∷ net) = byte_before (name_byte byte) (map name_byte net) (name_byte_is byte) (name_bytes net)

-- and with those of an identifier
identifier_is : (number : ℕ) → IsWhole (identifier number)
identifier_is number = identifier_without 10 (omega arith) number

-- the line of a signal
var_is : (number : ℕ) (net : List ℕ) → IsWhole (var_line number net)
var_is number net =
    let end = codes " $end" in
    both (codes "$var wire 1 ") (identifier number ++ 32 ∷ (signal_name net ++ end)) (tried (codes "$var wire 1 ") refl)
    (both (identifier number) (32 ∷ (signal_name net ++ end)) (identifier_is number)
    (byte_before 32 (signal_name net ++ end) refl
    (both (signal_name net) end (both (codes "n_") (map name_byte net) (tried (codes "n_") refl) (name_bytes net)) (tried end refl))))

-- the lines of the signals
vars_are : (number : ℕ) (nets : List (List ℕ)) → AreWhole (var_lines number nets)
vars_are number [] = tt
vars_are number (net ∷ nets) = (var_is number net, vars_are (number + 1) nets)

-- the lines of the head
head_is : (nets : List (List ℕ)) → AreWhole (lines_of_head nets)
head_is nets =
    let end = codes "$upscope $end" ∷ codes "$enddefinitions $end" ∷ [] in (
      tried (codes "$timescale 1 s $end") refl,
      (
        tried (codes "$scope module design $end") refl,
        all_append IsWhole (var_lines 0 nets) end (vars_are 0 nets) (tried (codes "$upscope $end") refl, (tried (codes "$enddefinitions $end") refl, tt)),
      ),
    )

-- the line of a time
time_is : (clock : ℕ) → IsWhole (time_line clock)
time_is clock = byte_before 35 _ refl (decimal_without 10 (omega arith) clock)

-- the line of a value
value_is : (number : ℕ) (bit : Bool) → IsWhole (value_line number bit)
value_is number true = byte_before 49 (identifier number) refl (identifier_is number)
value_is number false = byte_before 48 (identifier number) refl (identifier_is number)

-- the lines of all values
each_is : (number : ℕ) (bits : List Bool) → AreWhole (of_each value_line number bits)
each_is number [] = tt
each_is number (bit ∷ bits) = (value_is number bit, each_is (number + 1) bits)

-- the lines of the changed ones
changed_is : (number : ℕ) (before bits : List Bool) → AreWhole (of_changed value_line number before bits)
changed_is number [] bits = tt
changed_is number (old ∷ before) [] = tt
changed_is number (true ∷ before) (true ∷ bits) = changed_is (number + 1) before bits
changed_is number (false ∷ before) (false ∷ bits) = changed_is (number + 1) before bits
changed_is number (true ∷ before) (false ∷ bits) = (value_is number false, changed_is (number + 1) before bits)
changed_is number (false ∷ before) (true ∷ bits) = (value_is number true, changed_is (number + 1) before bits)

-- lines under another one
under_is : (line : List ℕ) (lines : List (List ℕ)) → IsWhole line → AreWhole lines → AreWhole (under line lines)
under_is line [] whole all = tt
under_is line (other ∷ lines) whole all = (whole, all)

-- the lines of a clock
clock_is : (clock : ℕ) (before : Option (List Bool)) (bits : List Bool) → AreWhole (lines_of_clock clock before bits)
clock_is clock None bits =
    (time_is clock, (tried (codes "$dumpvars") refl, all_append IsWhole (of_each value_line 0 bits) (codes "$end" ∷ []) (each_is 0 bits) (tried (codes "$end") refl, tt)))
clock_is clock (Some before) bits = under_is (time_line clock) (of_changed value_line 0 before bits) (time_is clock) (changed_is 0 before bits)

-- the lines of clocks
clocks_are : (clock : ℕ) (before : Option (List Bool)) (rows : List (List Bool)) → AreWhole (lines_of_clocks clock before rows)
clocks_are clock before [] = tt
clocks_are clock before (bits ∷ rows) =
    all_append IsWhole (lines_of_clock clock before bits) (lines_of_clocks (clock + 1) (Some bits) rows) (clock_is clock before bits) (clocks_are (clock + 1) (Some bits) rows)

-- so the lines of a wave are those of its text
pub wave_again : (first : ℕ) (nets : List (List ℕ)) (rows : List (List Bool)) → text_lines (wave_text_from first nets rows) ≡ wave_lines_from first nets rows
wave_again first nets rows =
    let clocks = lines_of_clocks first None rows in
    let end = time_line (first + length rows) ∷ [] in
    lines_again (wave_lines_from first nets rows)
    (all_append IsWhole (lines_of_head nets) (clocks ++ end) (head_is nets) (all_append IsWhole clocks end (clocks_are first None rows) (time_is (first + length rows), tt)))
