-- Nets of nodes as a letter and numbers: nets that are spelled alike are the same, where their numbers are small.
use Rattle.std.proofs.Common.{◌≡◌, ◌==◌, ◌∙◌, ℕ, List, [], ◌∷◌, refl, sym, if◌then◌else◌}
use Rattle.vw_design.proofs.NumberedNames.{AreSmall, numbered_name, numbers_same}
use Rattle.vw_emit_hardware.specs.Locals.{Local, caught, column, coming, delayed, gate, held, kept, moment, pin_in, pin_out, result, sent}
use Rattle.vw_emit_names.specs.Spelled.{spelled}

-- the letter of a net, its first number, and the others
abbrev pub letter : Local → ℕ
letter (column number) = 120
letter (moment microcycle) = 116
letter (gate cell) = 99
letter (kept cell) = 113
letter (coming cell) = 108
letter (held wire hop) = 114
letter (caught wire hop) = 110
letter (sent link pin number) = 101
letter (delayed link pin number) = 100
letter (pin_in link pin) = 105
letter (pin_out link pin) = 111
letter (result output) = 121

abbrev pub first_number : Local → ℕ
first_number (column number) = number
first_number (moment microcycle) = microcycle
first_number (gate cell) = cell
first_number (kept cell) = cell
first_number (coming cell) = cell
first_number (held wire hop) = wire
first_number (caught wire hop) = wire
first_number (sent link pin number) = link
first_number (delayed link pin number) = link
first_number (pin_in link pin) = link
first_number (pin_out link pin) = link
first_number (result output) = output

abbrev pub other_numbers : Local → List ℕ
other_numbers (column number) = []
other_numbers (moment microcycle) = []
other_numbers (gate cell) = []
other_numbers (kept cell) = []
other_numbers (coming cell) = []
other_numbers (held wire hop) = hop ∷ []
other_numbers (caught wire hop) = hop ∷ []
other_numbers (sent link pin number) = pin ∷ number ∷ []
other_numbers (delayed link pin number) = pin ∷ number ∷ []
other_numbers (pin_in link pin) = pin ∷ []
other_numbers (pin_out link pin) = pin ∷ []
other_numbers (result output) = []

-- all of them have 64 bits at most
abbrev pub IsSmallNet : Local → Type 0
IsSmallNet net = AreSmall (first_number net ∷ other_numbers net)

-- a net is spelled by these
pub spelled_is : (net : Local) → spelled net ≡ numbered_name (letter net) (first_number net) (other_numbers net)
spelled_is (column number) = refl
spelled_is (moment microcycle) = refl
spelled_is (gate cell) = refl
spelled_is (kept cell) = refl
spelled_is (coming cell) = refl
spelled_is (held wire hop) = refl
spelled_is (caught wire hop) = refl
spelled_is (sent link pin number) = refl
spelled_is (delayed link pin number) = refl
spelled_is (pin_in link pin) = refl
spelled_is (pin_out link pin) = refl
spelled_is (result output) = refl

-- ---- and is told by them

-- a number at a place, 0 past the end
abbrev pub head_number : List ℕ → ℕ
head_number [] = 0
head_number (number ∷ numbers) = number

abbrev pub second_of : List ℕ → ℕ
second_of [] = 0
second_of (number ∷ numbers) = head_number numbers

-- the net of a letter and numbers
abbrev net_of : ℕ → ℕ → List ℕ → Local
net_of sign one more =
    if sign == 120 then column one
    else (if sign == 116 then moment one
    else (if sign == 99 then gate one
    else (if sign == 113 then kept one
    else (if sign == 108 then coming one
    else (if sign == 114 then held one (head_number more)
    else (if sign == 110 then caught one (head_number more)
    else (if sign == 101 then sent one (head_number more) (second_of more)
    else (if sign == 100 then delayed one (head_number more) (second_of more)
    else (if sign == 105 then pin_in one (head_number more)
    else (if sign == 111 then pin_out one (head_number more) else result one))))))))))

net_of_is : (net : Local) → net_of (letter net) (first_number net) (other_numbers net) ≡ net
net_of_is (column number) = refl
net_of_is (moment microcycle) = refl
net_of_is (gate cell) = refl
net_of_is (kept cell) = refl
net_of_is (coming cell) = refl
net_of_is (held wire hop) = refl
net_of_is (caught wire hop) = refl
net_of_is (sent link pin number) = refl
net_of_is (delayed link pin number) = refl
net_of_is (pin_in link pin) = refl
net_of_is (pin_out link pin) = refl
net_of_is (result output) = refl

-- so nets that are spelled alike are the same
pub spelled_once : (one other : Local) → IsSmallNet one → IsSmallNet other → spelled one ≡ spelled other → one ≡ other
spelled_once one other small small_too same =
    let equal = numbers_same (letter one) (first_number one) (other_numbers one) (letter other) (first_number other) (other_numbers other) small small_too (sym (spelled_is one) ∙ same ∙ spelled_is other) in
    sym (net_of_is one) ∙ (λ i. net_of (equal.0 i) (equal.1 i) (equal.2 i)) ∙ net_of_is other
