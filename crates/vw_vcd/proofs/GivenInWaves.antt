-- What a wave declares and gives, and the last time that it names: by what its lines say.
use Rattle.std.proofs.Common.{◌≡◌, ◌+◌, ◌++◌, ◌∙◌, ℕ, Bool, true, false, List, [], ◌∷◌, Option, Some, None, length, map, ap, refl, sym, append_assoc}
use Rattle.std.specs.List.{range_with_len}
use Rattle.vw_vcd.specs.Identifiers.{identifier}
use Rattle.vw_vcd.specs.Changes.{of_each, of_changed, under}
use Rattle.vw_vcd.specs.Statements.{Statement, declares_id, names_time, gives_value, begins_block, ends_block, says_nothing}
use Rattle.vw_vcd.specs.Replay.{GivenValue, declared_ids, last_time, given_values}
use Rattle.vw_vcd.proofs.StatedLines.{value_stated, vars_stated, head_stated, clock_stated, clocks_stated, wave_stated}
use Rattle.vw_vcd.proofs.LastGiven.{given_in}

-- what a clock gives
abbrev pub clock_given : (ℕ → List ℕ) → ℕ → Option (List Bool) → List Bool → List GivenValue
clock_given id clock None bits = of_each (given_in id clock true) 0 bits
clock_given id clock (Some before) bits = of_changed (given_in id clock false) 0 before bits

-- what clocks give
abbrev pub clocks_given : (ℕ → List ℕ) → ℕ → Option (List Bool) → List (List Bool) → List GivenValue
clocks_given id clock before [] = []
clocks_given id clock before (bits ∷ rows) = clock_given id clock before bits ++ clocks_given id (clock + 1) (Some bits) rows

-- ---- values

-- the values of all signals
each_gives : (clock : ℕ) (first : Bool) (number : ℕ) (bits : List Bool) (rest : List Statement)
    → given_values clock first (of_each value_stated number bits ++ rest) ≡ of_each (given_in identifier clock first) number bits ++ given_values clock first rest
each_gives clock first number [] rest = refl
each_gives clock first number (bit ∷ bits) rest =
    ap (λ (more : List GivenValue). given_in identifier clock first number bit ∷ more) (each_gives clock first (number + 1) bits rest)

-- the values of those that have changed
changed_gives : (clock : ℕ) (first : Bool) (number : ℕ) (before bits : List Bool) (rest : List Statement)
    → given_values clock first (of_changed value_stated number before bits ++ rest) ≡ of_changed (given_in identifier clock first) number before bits ++ given_values clock first rest
changed_gives clock first number [] bits rest = refl
changed_gives clock first number (old ∷ before) [] rest = refl
changed_gives clock first number (true ∷ before) (true ∷ bits) rest = changed_gives clock first (number + 1) before bits rest
changed_gives clock first number (false ∷ before) (false ∷ bits) rest = changed_gives clock first (number + 1) before bits rest
changed_gives clock first number (true ∷ before) (false ∷ bits) rest =
    ap (λ (more : List GivenValue). given_in identifier clock first number false ∷ more) (changed_gives clock first (number + 1) before bits rest)
changed_gives clock first number (false ∷ before) (true ∷ bits) rest =
    ap (λ (more : List GivenValue). given_in identifier clock first number true ∷ more) (changed_gives clock first (number + 1) before bits rest)

-- a time that isn't named where nothing is given in it doesn't matter, where the next one is named
under_gives : (time clock : ℕ) (kinds rest : List Statement) (all further : List GivenValue)
    → ((from : ℕ) → given_values from false rest ≡ further) → given_values clock false (kinds ++ rest) ≡ all → given_values time false (under (names_time clock) kinds ++ rest) ≡ all
under_gives time clock [] rest all further steady is = steady time ∙ sym (steady clock) ∙ is
under_gives time clock (kind ∷ kinds) rest all further steady is = is

-- a clock gives its values, whatever time was named before, where that doesn't matter for what follows
clock_gives : (clock : ℕ) (before : Option (List Bool)) (bits : List Bool) (time : ℕ) (rest : List Statement) (further : List GivenValue) → ((from : ℕ) → given_values from false rest ≡ further)
    → given_values time false (clock_stated clock before bits ++ rest) ≡ clock_given identifier clock before bits ++ further
clock_gives clock None bits time rest further steady =
    ap (given_values clock true) (append_assoc (of_each value_stated 0 bits) (ends_block ∷ []) rest)
    ∙ each_gives clock true 0 bits (ends_block ∷ rest)
    ∙ ap (λ (more : List GivenValue). of_each (given_in identifier clock true) 0 bits ++ more) (steady clock)
clock_gives clock (Some before) bits time rest further steady =
    under_gives time clock (of_changed value_stated 0 before bits) rest (of_changed (given_in identifier clock false) 0 before bits ++ further) further steady
    (changed_gives clock false 0 before bits rest ∙ ap (λ (more : List GivenValue). of_changed (given_in identifier clock false) 0 before bits ++ more) (steady clock))

-- so it is with clocks
clocks_give : (clock : ℕ) (before : Option (List Bool)) (rows : List (List Bool)) (last time : ℕ)
    → given_values time false (clocks_stated clock before rows ++ names_time last ∷ []) ≡ clocks_given identifier clock before rows
clocks_give clock before [] last time = refl
clocks_give clock before (bits ∷ rows) last time =
    let further = clocks_stated (clock + 1) (Some bits) rows in
    ap (given_values time false) (append_assoc (clock_stated clock before bits) further (names_time last ∷ []))
    ∙ clock_gives clock before bits time (further ++ names_time last ∷ []) (clocks_given identifier (clock + 1) (Some bits) rows) (λ (from : ℕ). clocks_give (clock + 1) (Some bits) rows last from)

-- the signals of the head give none
vars_give : (number : ℕ) (nets : List (List ℕ)) (rest : List Statement) → given_values 0 false (vars_stated number nets ++ rest) ≡ given_values 0 false rest
vars_give number [] rest = refl
vars_give number (net ∷ nets) rest = vars_give (number + 1) nets rest

-- a wave gives what its clocks give
pub wave_gives : (first : ℕ) (nets : List (List ℕ)) (rows : List (List Bool)) → given_values 0 false (wave_stated first nets rows) ≡ clocks_given identifier first None rows
wave_gives first nets rows =
    let rest = clocks_stated first None rows ++ names_time (first + length rows) ∷ [] in
    ap (given_values 0 false) (append_assoc (vars_stated 0 nets) (says_nothing ∷ says_nothing ∷ []) rest)
    ∙ vars_give 0 nets (says_nothing ∷ says_nothing ∷ rest)
    ∙ clocks_give first None rows (first + length rows) 0

-- ---- identifiers

-- the signals of the head declare theirs
vars_declare : (number : ℕ) (nets : List (List ℕ)) (rest : List Statement)
    → declared_ids rest ≡ [] → declared_ids (vars_stated number nets ++ rest) ≡ map identifier (range_with_len number (length nets))
vars_declare number [] rest none = none
vars_declare number (net ∷ nets) rest none = ap (λ (ids : List (List ℕ)). identifier number ∷ ids) (vars_declare (number + 1) nets rest none)

-- values declare none
each_declares : (number : ℕ) (bits : List Bool) (rest : List Statement) → declared_ids rest ≡ [] → declared_ids (of_each value_stated number bits ++ rest) ≡ []
each_declares number [] rest none = none
each_declares number (bit ∷ bits) rest none = each_declares (number + 1) bits rest none

-- nor do changed ones
changed_declares : (number : ℕ) (before bits : List Bool) (rest : List Statement) → declared_ids rest ≡ [] → declared_ids (of_changed value_stated number before bits ++ rest) ≡ []
changed_declares number [] bits rest none = none
changed_declares number (old ∷ before) [] rest none = none
changed_declares number (true ∷ before) (true ∷ bits) rest none = changed_declares (number + 1) before bits rest none
changed_declares number (false ∷ before) (false ∷ bits) rest none = changed_declares (number + 1) before bits rest none
changed_declares number (true ∷ before) (false ∷ bits) rest none = changed_declares (number + 1) before bits rest none
changed_declares number (false ∷ before) (true ∷ bits) rest none = changed_declares (number + 1) before bits rest none

-- nor does a time
under_declares : (clock : ℕ) (kinds rest : List Statement) → declared_ids (kinds ++ rest) ≡ [] → declared_ids (under (names_time clock) kinds ++ rest) ≡ []
under_declares clock [] rest none = none
under_declares clock (kind ∷ kinds) rest none = none

-- so a clock declares none
clock_declares : (clock : ℕ) (before : Option (List Bool)) (bits : List Bool) (rest : List Statement) → declared_ids rest ≡ [] → declared_ids (clock_stated clock before bits ++ rest) ≡ []
clock_declares clock None bits rest none = ap declared_ids (append_assoc (of_each value_stated 0 bits) (ends_block ∷ []) rest) ∙ each_declares 0 bits (ends_block ∷ rest) none
clock_declares clock (Some before) bits rest none = under_declares clock (of_changed value_stated 0 before bits) rest (changed_declares 0 before bits rest none)

-- nor do clocks
clocks_declare : (clock : ℕ) (before : Option (List Bool)) (rows : List (List Bool)) (last : ℕ) → declared_ids (clocks_stated clock before rows ++ names_time last ∷ []) ≡ []
clocks_declare clock before [] last = refl
clocks_declare clock before (bits ∷ rows) last =
    let further = clocks_stated (clock + 1) (Some bits) rows in
    ap declared_ids (append_assoc (clock_stated clock before bits) further (names_time last ∷ []))
    ∙ clock_declares clock before bits (further ++ names_time last ∷ []) (clocks_declare (clock + 1) (Some bits) rows last)

-- a wave declares an identifier for each signal
pub wave_declares : (first : ℕ) (nets : List (List ℕ)) (rows : List (List Bool)) → declared_ids (wave_stated first nets rows) ≡ map identifier (range_with_len 0 (length nets))
wave_declares first nets rows =
    let rest = clocks_stated first None rows ++ names_time (first + length rows) ∷ [] in
    ap declared_ids (append_assoc (vars_stated 0 nets) (says_nothing ∷ says_nothing ∷ []) rest)
    ∙ vars_declare 0 nets (says_nothing ∷ says_nothing ∷ rest) (clocks_declare first None rows (first + length rows))

-- ---- the last time

-- what is named before the last time doesn't matter
last_behind : (kinds rest : List Statement) (last : ℕ) → ((time : ℕ) → last_time time rest ≡ last) → (time : ℕ) → last_time time (kinds ++ rest) ≡ last
last_behind [] rest last is time = is time
last_behind (declares_id id ∷ kinds) rest last is time = last_behind kinds rest last is time
last_behind (names_time next ∷ kinds) rest last is time = last_behind kinds rest last is next
last_behind (gives_value bit id ∷ kinds) rest last is time = last_behind kinds rest last is time
last_behind (begins_block ∷ kinds) rest last is time = last_behind kinds rest last is time
last_behind (ends_block ∷ kinds) rest last is time = last_behind kinds rest last is time
last_behind (says_nothing ∷ kinds) rest last is time = last_behind kinds rest last is time

-- that of a wave is the number behind its last clock
pub wave_ends : (first : ℕ) (nets : List (List ℕ)) (rows : List (List Bool)) → last_time 0 (wave_stated first nets rows) ≡ first + length rows
wave_ends first nets rows =
    let clocks = clocks_stated first None rows in
    let last : ℕ = first + length rows in
    let end = names_time last ∷ [] in
    last_behind (head_stated nets) (clocks ++ end) last (last_behind clocks end last (λ (time : ℕ). refl)) 0
