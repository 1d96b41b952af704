-- One list that is cut into several.
use Rattle.std.proofs.Common.{◌≡◌, ◌≤◌, ◌<◌, ◌+◌, ◌-◌, ◌++◌, ℕ, zero, suc, List, [], ◌∷◌, Some, length, take, drop, get_or, set, slice_get, ap, refl, sym, ◌∙◌, arith}
use Rattle.std.proofs.lemmas.List.{take-append-le, drop-append-le, length-drop, drop_at, take-set-le, drop-set-lt, drop-set-add}
use Rattle.std.proofs.lemmas.List.{length-take-le}
use Rattle.std.proofs.lemmas.Option.{get_or_from_slice_get}
use Rattle.std.proofs.lemmas.Slice.{between_is, between-put_mid, drop-put_mid, take-put_mid_below}
use borrow.Rule.Slice.PartMut.{put_mid}
use Rattle.std.proofs.Math.Seq.{take-length, take-set-lt}
use Rattle.vw_net.specs.Cut.{part, cut, AreEnds}

-- there is one list for each end
pub cut_length : {A : Type 0} (from : ℕ) (ends : List ℕ) (items : List A) → length (cut from ends items) ≡ length ends
unfolding cut
cut_length from [] items = refl
cut_length from (end ∷ ends) items = ap (λ (n : ℕ). suc n) (cut_length end ends items)

-- the part at a place lies between the end before it and its own
pub cut_at : {A : Type 0} (from : ℕ) (ends : List ℕ) (items : List A) (place : ℕ) → place < length ends → slice_get (cut from ends items) place ≡ Some (part (get_or (from ∷ ends) place 0) (get_or ends place 0) items)
unfolding cut
cut_at from [] items place within = absurd (omega (arith, within))
cut_at from (end ∷ ends) items zero within = refl
cut_at from (end ∷ ends) items (suc place) within = cut_at end ends items place (omega (arith, within))

-- places that grow end at or behind where they begin
pub AreEnds-grow : (from last : ℕ) (ends : List ℕ) → AreEnds from ends last → from ≤ last
unfolding AreEnds
AreEnds-grow from last [] are = omega (arith, are)
AreEnds-grow from last (end ∷ ends) are = omega (arith, are.0, AreEnds-grow end last ends are.1)

-- a part ends behind where it begins, and within the list
pub ends_at : (from last : ℕ) (ends : List ℕ) (place : ℕ) → AreEnds from ends last → place < length ends → (get_or (from ∷ ends) place 0 ≤ get_or ends place 0) × (get_or ends place 0 ≤ last)
unfolding AreEnds
ends_at from last [] place are within = absurd (omega (arith, within))
ends_at from last (end ∷ ends) zero are within = (are.0, AreEnds-grow end last ends are.1)
ends_at from last (end ∷ ends) (suc place) are within = ends_at end last ends place are.1 (omega (arith, within))

-- no part begins before the first place
pub AreEnds-start : (from last : ℕ) (ends : List ℕ) (place : ℕ) → AreEnds from ends last → place < length ends → from ≤ get_or (from ∷ ends) place 0
unfolding AreEnds
AreEnds-start from last ends zero are within = omega arith
AreEnds-start from last [] (suc place) are within = absurd (omega (arith, within))
AreEnds-start from last (end ∷ ends) (suc place) are within = omega (arith, are.0, AreEnds-start end last ends place are.1 (omega (arith, within)))

-- no places are from 0 to 0
pub no_ends : AreEnds 0 [] 0
unfolding AreEnds
no_ends = refl

-- no places cut no list
pub no_cuts : {A : Type 0} (items : List A) → cut 0 [] items ≡ []
unfolding cut
no_cuts items = refl

-- one place more
pub AreEnds-more : (from last further : ℕ) (ends : List ℕ) → AreEnds from ends last → last ≤ further → AreEnds from (ends ++ (further ∷ [])) further
unfolding AreEnds
AreEnds-more from last further [] are grows = (omega (arith, are, grows), refl)
AreEnds-more from last further (end ∷ ends) are grows = (are.0, AreEnds-more end last further ends are.1 grows)

-- a part is that of a longer list
pub part_before : {A : Type 0} (from to : ℕ) (items row : List A) → from ≤ to → to ≤ length items → part from to (items ++ row) ≡ part from to items
part_before {A} from to items row grows within =
    let left = length-drop from items in
    let inside : to - from ≤ length (drop from items) = omega (arith, left, grows, within) in
    let start : from ≤ length items = omega (arith, grows, within) in
    ap (λ (xs : List A). take (to - from) xs) (drop-append-le from items row start) ∙ take-append-le (to - from) (drop from items) row inside

-- the part behind a list
pub part_behind : {A : Type 0} (from : ℕ) (items row : List A) → from ≡ length items → part from (length items + length row) (items ++ row) ≡ row
part_behind {A} from items row at =
    let size : length items + length row - from ≡ length row = omega (arith, at) in
    ap (λ (xs : List A). take (length items + length row - from) xs) (drop_at items row from (sym at))
    ∙ ap (λ (n : ℕ). take n row) size ∙ take-length row

-- one part more behind the others
pub cut-more : {A : Type 0} (from : ℕ) (ends : List ℕ) (items row : List A) → AreEnds from ends (length items)
    → cut from (ends ++ ((length items + length row) ∷ [])) (items ++ row) ≡ cut from ends items ++ (row ∷ [])
unfolding cut AreEnds
cut-more {A} from [] items row are = ap (λ (xs : List A). xs ∷ []) (part_behind from items row are)
cut-more {A} from (end ∷ ends) items row are =
    ap (λ (xs : List A). xs ∷ cut end (ends ++ ((length items + length row) ∷ [])) (items ++ row)) (part_before from end items row are.0 (AreEnds-grow end (length items) ends are.1))
    ∙ ap (λ (xs : List (List A)). part from end items ∷ xs) (cut-more end ends items row are.1)

-- a part isn't changed by a write before it
pub part-set_before : {A : Type 0} (from to at : ℕ) (items : List A) (item : A) → at < from → part from to (set items at item) ≡ part from to items
part-set_before {A} from to at items item before = ap (λ (xs : List A). take (to - from) xs) (drop-set-lt from items at item before)

-- a write at a place of a list behind another place
pub drop-set_from : {A : Type 0} (from at : ℕ) (items : List A) (item : A) → from ≤ at → drop from (set items at item) ≡ set (drop from items) (at - from) item
drop-set_from {A} from at items item behind =
    let place : at ≡ from + (at - from) = omega (arith, behind) in
    ap (λ (n : ℕ). drop from (set items n item)) place ∙ drop-set-add from items (at - from) item

-- a part isn't changed by a write behind it
pub part-set_behind : {A : Type 0} (from to at : ℕ) (items : List A) (item : A) → from ≤ to → to ≤ at → part from to (set items at item) ≡ part from to items
part-set_behind {A} from to at items item grows behind =
    let later : from ≤ at = omega (arith, grows, behind) in
    let past : to - from ≤ at - from = omega (arith, grows, behind) in
    ap (λ (xs : List A). take (to - from) xs) (drop-set_from from at items item later) ∙ take-set-le (to - from) (drop from items) (at - from) item past

-- a write inside a part
pub part-set : {A : Type 0} (from to at : ℕ) (items : List A) (item : A) → from ≤ at → at < to → part from to (set items at item) ≡ set (part from to items) (at - from) item
part-set {A} from to at items item behind before =
    let inside : at - from < to - from = omega (arith, behind, before) in
    ap (λ (xs : List A). take (to - from) xs) (drop-set_from from at items item behind) ∙ take-set-lt (to - from) (drop from items) (at - from) item inside

-- a write before all parts changes none
pub cut-set_before : {A : Type 0} (from last : ℕ) (ends : List ℕ) (at : ℕ) (items : List A) (item : A) → AreEnds from ends last → at < from → cut from ends (set items at item) ≡ cut from ends items
unfolding cut AreEnds
cut-set_before from last [] at items item are before = refl
cut-set_before {A} from last (end ∷ ends) at items item are before =
    let earlier : at < end = omega (arith, are.0, before) in
    ap (λ (xs : List A). xs ∷ cut end ends (set items at item)) (part-set_before from end at items item before)
    ∙ ap (λ (xs : List (List A)). part from end items ∷ xs) (cut-set_before end last ends at items item are.1 earlier)

-- a write inside the part at a place changes that part alone
pub cut-set : {A : Type 0} (from last : ℕ) (ends : List ℕ) (row at : ℕ) (items : List A) (item : A) → AreEnds from ends last → row < length ends
    → get_or (from ∷ ends) row 0 ≤ at → at < get_or ends row 0
    → cut from ends (set items at item) ≡ set (cut from ends items) row (set (part (get_or (from ∷ ends) row 0) (get_or ends row 0) items) (at - get_or (from ∷ ends) row 0) item)
unfolding cut AreEnds
cut-set from last [] row at items item are within behind before = absurd (omega (arith, within))
cut-set {A} from last (end ∷ ends) zero at items item are within behind before =
    ap (λ (xs : List A). xs ∷ cut end ends (set items at item)) (part-set from end at items item behind before)
    ∙ ap (λ (xs : List (List A)). set (part from end items) (at - from) item ∷ xs) (cut-set_before end last ends at items item are.1 before)
cut-set {A} from last (end ∷ ends) (suc row) at items item are within behind before =
    let inside : row < length ends = omega (arith, within) in
    let past : end ≤ at = omega (arith, behind, AreEnds-start end last ends row are.1 inside) in
    ap (λ (xs : List A). xs ∷ cut end ends (set items at item)) (part-set_behind from end at items item are.0 past)
    ∙ ap (λ (xs : List (List A)). part from end items ∷ xs) (cut-set end last ends row at items item are.1 inside behind before)

-- the part at a place
pub cut_index : {A : Type 0} (ends : List ℕ) (items : List A) (row : ℕ) → row < length ends → get_or (cut 0 ends items) row [] ≡ part (get_or (0 ∷ ends) row 0) (get_or ends row 0) items
cut_index ends items row within = get_or_from_slice_get (cut 0 ends items) row (part (get_or (0 ∷ ends) row 0) (get_or ends row 0) items) [] (cut_at 0 ends items row within)

-- how long the part at a place is
pub cut_index-length : {A : Type 0} (ends : List ℕ) (items : List A) (row : ℕ) → AreEnds 0 ends (length items) → row < length ends → get_or (0 ∷ ends) row 0 + length (get_or (cut 0 ends items) row []) ≡ get_or ends row 0
cut_index-length {A} ends items row are within =
    let start = get_or (0 ∷ ends) row 0 in
    let end = get_or ends row 0 in
    let bounds = ends_at 0 (length items) ends row are within in
    let left = length-drop start items in
    let inside : end - start ≤ length (drop start items) = omega (arith, left, bounds.0, bounds.1) in
    let size : length (get_or (cut 0 ends items) row []) ≡ end - start =
    ap (λ (xs : List A). length xs) (cut_index ends items row within) ∙ length-take-le (end - start) (drop start items) inside in
    omega (arith, size, bounds.0)

-- a place of a part lies in the list
pub set_within : {A : Type 0} (ends : List ℕ) (items : List A) (row place : ℕ) → AreEnds 0 ends (length items) → row < length ends → place < length (get_or (cut 0 ends items) row []) → get_or (0 ∷ ends) row 0 + place < length items
set_within ends items row place are within inside =
    omega (arith, cut_index-length ends items row are within, (ends_at 0 (length items) ends row are within).1, inside)

-- a write at a place of a part changes that part alone
pub cut_set : {A : Type 0} (ends : List ℕ) (items : List A) (row place : ℕ) (item : A) → AreEnds 0 ends (length items) → row < length ends → place < length (get_or (cut 0 ends items) row [])
    → cut 0 ends (set items (get_or (0 ∷ ends) row 0 + place) item) ≡ set (cut 0 ends items) row (set (get_or (cut 0 ends items) row []) place item)
cut_set {A} ends items row place item are within inside =
    let start = get_or (0 ∷ ends) row 0 in
    let before : start + place < get_or ends row 0 = omega (arith, cut_index-length ends items row are within, inside) in
    let at : start + place - start ≡ place = omega arith in
    cut-set 0 (length items) ends row (start + place) items item are within (omega arith) before
    ∙ ap (λ (n : ℕ). set (cut 0 ends items) row (set (part start (get_or ends row 0) items) n item)) at
    ∙ ap (λ (xs : List A). set (cut 0 ends items) row (set xs place item)) (sym (cut_index ends items row within))

-- a part isn't changed by what is written behind it
pub part-put_mid_below : {A : Type 0} (from to at count : ℕ) (items others : List A) → to ≤ at → at ≤ length items → part from to (put_mid at count items others) ≡ part from to items
part-put_mid_below {A} from to at count items others below within =
    between_is (put_mid at count items others) from to
    ∙ ap (λ (xs : List A). drop from xs) (take-put_mid_below at count items others to below within)
    ∙ sym (between_is items from to)

-- what is written before all parts changes none
pub cut-put_mid_before : {A : Type 0} (from last : ℕ) (ends : List ℕ) (at count : ℕ) (items others : List A) → AreEnds from ends last → at + count ≤ from → at ≤ length items → length others ≡ count
    → cut from ends (put_mid at count items others) ≡ cut from ends items
unfolding cut AreEnds
cut-put_mid_before from last [] at count items others are before within size = refl
cut-put_mid_before {A} from last (end ∷ ends) at count items others are before within size =
    ap (λ (xs : List A). take (end - from) xs ∷ cut end ends (put_mid at count items others)) (drop-put_mid at count items others from before within size)
    ∙ ap (λ (xs : List (List A)). part from end items ∷ xs) (cut-put_mid_before end last ends at count items others are.1 (omega (arith, are.0, before)) within size)

-- as many written over the part at a place change that part alone
pub cut-put_mid : {A : Type 0} (from last : ℕ) (ends : List ℕ) (row at count : ℕ) (items others : List A) → AreEnds from ends last → row < length ends → at ≡ get_or (from ∷ ends) row 0 → at + count ≡ get_or ends row 0 → at ≤ length items → length others ≡ count
    → cut from ends (put_mid at count items others) ≡ set (cut from ends items) row others
unfolding cut AreEnds
cut-put_mid from last [] row at count items others are within start end_is inside size = absurd (omega (arith, within))
cut-put_mid {A} from last (end ∷ ends) zero at count items others are within start end_is inside size =
    let long : length others ≡ end - at = omega (arith, size, end_is) in
    let whole : part from end (put_mid at count items others) ≡ others =
    ap (λ (n : ℕ). part n end (put_mid at count items others)) (sym start) ∙ ap (λ (n : ℕ). part at end (put_mid at n items others)) (omega (arith, end_is)) ∙ between-put_mid at (end - at) items others end inside long in
    ap (λ (xs : List A). xs ∷ cut end ends (put_mid at count items others)) whole
    ∙ ap (λ (xs : List (List A)). others ∷ xs) (cut-put_mid_before end last ends at count items others are.1 (omega (arith, end_is)) inside size)
cut-put_mid {A} from last (end ∷ ends) (suc row) at count items others are within start end_is inside size =
    let in_ends : row < length ends = omega (arith, within) in
    let past : end ≤ at = omega (arith, start, AreEnds-start end last ends row are.1 in_ends) in
    ap (λ (xs : List A). xs ∷ cut end ends (put_mid at count items others)) (part-put_mid_below from end at count items others past inside)
    ∙ ap (λ (xs : List (List A)). part from end items ∷ xs) (cut-put_mid end last ends row at count items others are.1 in_ends start end_is inside size)

-- as many written over a part change that part alone
pub cut_written : {A : Type 0} (ends : List ℕ) (items others : List A) (row at : ℕ) → AreEnds 0 ends (length items) → row < length ends → length others ≡ length (get_or (cut 0 ends items) row []) → at ≡ get_or (0 ∷ ends) row 0
    → cut 0 ends (put_mid at (get_or ends row 0 - at) items others) ≡ set (cut 0 ends items) row others
cut_written ends items others row at are within size start =
    let bounds = ends_at 0 (length items) ends row are within in
    let long = cut_index-length ends items row are within in
    cut-put_mid 0 (length items) ends row at (get_or ends row 0 - at) items others are within start (omega (arith, bounds.0, start)) (omega (arith, bounds.0, bounds.1, start)) (omega (arith, size, long, start))

-- a part of a list is as long as it ends behind its start
pub length-part : {A : Type 0} (ends : List ℕ) (items : List A) (row at : ℕ) → AreEnds 0 ends (length items) → row < length ends → at ≡ get_or (0 ∷ ends) row 0
    → length (take (get_or ends row 0 - at) (drop at items)) ≡ length (get_or (cut 0 ends items) row [])
length-part {A} ends items row at are within start =
    ap (λ (n : ℕ). length (take (get_or ends row 0 - n) (drop n items))) start ∙ sym (ap (λ (xs : List A). length xs) (cut_index ends items row within))
