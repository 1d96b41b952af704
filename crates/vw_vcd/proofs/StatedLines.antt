-- What the lines of a wave say, kind by kind.
use Rattle.std.proofs.Common.{◌≡◌, ◌<◌, ◌≤◌, ◌+◌, ◌++◌, ◌^◌, ◌==◌, ◌∙◌, ℕ, Bool, true, false, List, [], ◌∷◌, Option, Some, None, length, map, ap, ap₂, refl, arith}
use Rattle.std.specs.Prelude.{codes}
use Rattle.std.proofs.lemmas.List.{map-append}
use Rattle.std.proofs.lemmas.List.Splits.{slice_split_at}
use Rattle.vw_text.proofs.Decimals.{number_of-decimal}
use Rattle.vw_vcd.specs.Identifiers.{identifier}
use Rattle.vw_vcd.specs.Changes.{of_each, of_changed, under}
use Rattle.vw_vcd.specs.Lines.{signal_name, var_line, var_lines, lines_of_head, time_line, value_line, lines_of_clock, lines_of_clocks, wave_lines_from}
use Rattle.vw_vcd.specs.Statements.{Statement, declares_id, names_time, gives_value, begins_block, ends_block, says_nothing, stated, stated_time, stated_var}
use Rattle.vw_vcd.proofs.Digits.{identifier_without}

-- ---- in the words of kinds

-- a value
abbrev pub value_stated : ℕ → Bool → Statement
value_stated number bit = gives_value bit (identifier number)

-- the signals of the head
abbrev pub vars_stated : ℕ → List (List ℕ) → List Statement
vars_stated number [] = []
vars_stated number (net ∷ nets) = declares_id (identifier number) ∷ vars_stated (number + 1) nets

-- the head
abbrev pub head_stated : List (List ℕ) → List Statement
head_stated nets = says_nothing ∷ says_nothing ∷ (vars_stated 0 nets ++ says_nothing ∷ says_nothing ∷ [])

-- a clock
abbrev pub clock_stated : ℕ → Option (List Bool) → List Bool → List Statement
clock_stated clock None bits = names_time clock ∷ begins_block ∷ (of_each value_stated 0 bits ++ ends_block ∷ [])
clock_stated clock (Some before) bits = under (names_time clock) (of_changed value_stated 0 before bits)

-- clocks
abbrev pub clocks_stated : ℕ → Option (List Bool) → List (List Bool) → List Statement
clocks_stated clock before [] = []
clocks_stated clock before (bits ∷ rows) = clock_stated clock before bits ++ clocks_stated (clock + 1) (Some bits) rows

-- the whole
abbrev pub wave_stated : ℕ → List (List ℕ) → List (List Bool) → List Statement
wave_stated first nets rows = head_stated nets ++ (clocks_stated first None rows ++ names_time (first + length rows) ∷ [])

-- ---- line by line

-- the line of a signal declares its identifier
var_says : (number : ℕ) (net : List ℕ) → stated (var_line number net) ≡ declares_id (identifier number)
var_says number net =
    ap (λ (words : List (List ℕ)). stated_var (codes "wire" ∷ codes "1" ∷ words))
    (slice_split_at (λ c. c == 32) (identifier number) 32 (signal_name net ++ codes " $end") (identifier_without 32 (omega arith) number) refl)

-- the lines of signals declare theirs
vars_say : (number : ℕ) (nets : List (List ℕ)) → map stated (var_lines number nets) ≡ vars_stated number nets
vars_say number [] = refl
vars_say number (net ∷ nets) = ap₂ (λ (first : Statement) (rest : List Statement). first ∷ rest) (var_says number net) (vars_say (number + 1) nets)

-- the lines of the head
head_says : (nets : List (List ℕ)) → map stated (lines_of_head nets) ≡ head_stated nets
head_says nets =
    let end = codes "$upscope $end" ∷ codes "$enddefinitions $end" ∷ [] in
    ap (λ (rest : List Statement). says_nothing ∷ says_nothing ∷ rest)
    (map-append stated (var_lines 0 nets) end ∙ ap (λ (vars : List Statement). vars ++ says_nothing ∷ says_nothing ∷ []) (vars_say 0 nets))

-- the line of a time names it
time_says : (clock : ℕ) → clock < 2 ^ 64 → stated (time_line clock) ≡ names_time clock
time_says clock small = ap stated_time (number_of-decimal clock small)

-- the lines of values give them
each_says : (number : ℕ) (bits : List Bool) → map stated (of_each value_line number bits) ≡ of_each value_stated number bits
each_says number [] = refl
each_says number (true ∷ bits) = ap (λ (rest : List Statement). gives_value true (identifier number) ∷ rest) (each_says (number + 1) bits)
each_says number (false ∷ bits) = ap (λ (rest : List Statement). gives_value false (identifier number) ∷ rest) (each_says (number + 1) bits)

-- those of the changed ones, too
changed_says : (number : ℕ) (before bits : List Bool) → map stated (of_changed value_line number before bits) ≡ of_changed value_stated number before bits
changed_says number [] bits = refl
changed_says number (old ∷ before) [] = refl
changed_says number (true ∷ before) (true ∷ bits) = changed_says (number + 1) before bits
changed_says number (false ∷ before) (false ∷ bits) = changed_says (number + 1) before bits
changed_says number (true ∷ before) (false ∷ bits) = ap (λ (rest : List Statement). gives_value false (identifier number) ∷ rest) (changed_says (number + 1) before bits)
changed_says number (false ∷ before) (true ∷ bits) = ap (λ (rest : List Statement). gives_value true (identifier number) ∷ rest) (changed_says (number + 1) before bits)

-- lines under another one say what they say under that
under_says : (line : List ℕ) (lines : List (List ℕ)) → map stated (under line lines) ≡ under (stated line) (map stated lines)
under_says line [] = refl
under_says line (other ∷ lines) = refl

-- ---- clock by clock

-- the lines of a clock
clock_says : (clock : ℕ) (before : Option (List Bool)) (bits : List Bool) → clock < 2 ^ 64 → map stated (lines_of_clock clock before bits) ≡ clock_stated clock before bits
clock_says clock None bits small =
    ap₂ (λ (time : Statement) (values : List Statement). time ∷ begins_block ∷ values) (time_says clock small)
    (map-append stated (of_each value_line 0 bits) (codes "$end" ∷ []) ∙ ap (λ (values : List Statement). values ++ ends_block ∷ []) (each_says 0 bits))
clock_says clock (Some before) bits small =
    under_says (time_line clock) (of_changed value_line 0 before bits)
    ∙ ap₂ (λ (time : Statement) (values : List Statement). under time values) (time_says clock small) (changed_says 0 before bits)

-- the lines of clocks
clocks_say : (clock : ℕ) (before : Option (List Bool)) (rows : List (List Bool)) → clock + length rows ≤ 2 ^ 32 → map stated (lines_of_clocks clock before rows) ≡ clocks_stated clock before rows
clocks_say clock before [] few = refl
clocks_say clock before (bits ∷ rows) few =
    map-append stated (lines_of_clock clock before bits) (lines_of_clocks (clock + 1) (Some bits) rows)
    ∙ ap₂ (λ (here rest : List Statement). here ++ rest) (clock_says clock before bits (omega arith)) (clocks_say (clock + 1) (Some bits) rows (omega arith))

-- the whole
pub wave_says : (first : ℕ) (nets : List (List ℕ)) (rows : List (List Bool)) → first + length rows ≤ 2 ^ 32 → map stated (wave_lines_from first nets rows) ≡ wave_stated first nets rows
wave_says first nets rows few =
    let clocks = lines_of_clocks first None rows in
    let end = time_line (first + length rows) ∷ [] in
    map-append stated (lines_of_head nets) (clocks ++ end)
    ∙ ap₂ (λ (head rest : List Statement). head ++ rest) (head_says nets)
    (map-append stated clocks end
    ∙ ap₂ (λ (values : List Statement) (time : Statement). values ++ time ∷ []) (clocks_say first None rows few) (time_says (first + length rows) (omega arith)))
