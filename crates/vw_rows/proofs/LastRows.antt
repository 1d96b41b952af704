-- Rows behind others.
use Rattle.std.proofs.Common.{◌≡◌, ℕ, zero, suc, ◌<◌, ◌+◌, ◌-◌, Bool, List, [], ◌∷◌, ◌++◌, length, replicate, Some, slice_get, Result, Ok, Err, refl, sym, ◌∙◌, ap, arith}
use Rattle.std.proofs.lemmas.List.{append_assoc}
use Rattle.vw_rows.specs.declared.fault.StimFault.{StimFault}
use Rattle.vw_rows.specs.Stimulus.{last_row, behind}

pub last_row-append : (row : List Bool) (xs ys : List (List Bool)) → last_row row (xs ++ ys) ≡ last_row (last_row row xs) ys
last_row-append row [] ys = refl
last_row-append row (x ∷ xs) ys = last_row-append x xs ys

pub last_row-same : (n : ℕ) (row : List Bool) → last_row row (replicate n row) ≡ row
last_row-same zero row = refl
last_row-same (suc n) row = last_row-same n row

pub behind-behind : (rows added : List (List Bool)) (said : Result (List (List Bool)) StimFault) → behind rows (behind added said) ≡ behind (rows ++ added) said
behind-behind rows added (Ok more) = ap Ok (sym (append_assoc rows added more))
behind-behind rows added (Err fault) = refl

last_at : (before row : List Bool) (xs : List (List Bool)) (n : ℕ) → n + 1 ≡ length xs → Some row ≡ slice_get xs n → last_row before xs ≡ row
last_at before row [] n long is = absurd (omega (long, arith))
last_at before row (x ∷ []) zero long is = (let e : Some row ≡ Some x = is in cc)
last_at before row (x ∷ []) (suc n) long is = absurd (omega (long, arith))
last_at before row (x ∷ y ∷ ys) zero long is = absurd (omega (long, arith))
last_at before row (x ∷ y ∷ ys) (suc n) long is = last_at x row (y ∷ ys) n (omega (long, arith)) is

-- the last of some rows
pub last_is : (before row : List Bool) (xs : List (List Bool)) → Some row ≡ slice_get xs (length xs - 1) → last_row before xs ≡ row
last_is before row [] is = absurd (cc)
last_is before row (x ∷ xs) is = last_at before row (x ∷ xs) (length (x ∷ xs) - 1) (omega arith) is

-- a copy goes over to the rows
pub copy_given : (before row : List Bool) (rows new : List (List Bool)) (owed : ℕ) → 0 < owed → row ≡ last_row before rows → new ≡ rows ++ row ∷ []
    → new ++ replicate (owed - 1) (last_row before new) ≡ rows ++ replicate owed (last_row before rows)
copy_given before row rows new owed some copy pushed =
    let last : last_row before new ≡ row = ap (last_row before) pushed ∙ last_row-append before rows (row ∷ []) in
    let one : suc (owed - 1) ≡ owed = omega (some, arith) in
    ap (λ (r : List Bool). new ++ replicate (owed - 1) r) last
    ∙ ap (λ (rs : List (List Bool)). rs ++ replicate (owed - 1) row) pushed
    ∙ append_assoc rows (row ∷ []) (replicate (owed - 1) row)
    ∙ ap (λ (n : ℕ). rows ++ replicate n row) one ∙ ap (λ (r : List Bool). rows ++ replicate owed r) copy

-- the last of some rows and of copies of it
pub last_row-copies : (before : List Bool) (rows : List (List Bool)) (owed : ℕ)
    → last_row before (rows ++ replicate owed (last_row before rows)) ≡ last_row before rows
last_row-copies before rows owed = last_row-append before rows (replicate owed (last_row before rows)) ∙ last_row-same owed (last_row before rows)
