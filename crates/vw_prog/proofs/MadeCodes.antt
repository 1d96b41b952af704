-- The codes of nodes, one after the other.
use Rattle.std.proofs.Common.{◌≡◌, ◌<◌, ◌≤◌, ◌∷◌, ◌++◌, ℕ, zero, suc, List, [], length, get_or, slice_get, Some, ap, refl, sym, subst, ◌∙◌, ⊎_elim, arith}
use Rattle.std.specs.Global.{Vec}
use Rattle.std.proofs.lemmas.Bool.{cases_lt}
use Rattle.std.proofs.lemmas.List.{get_or-map}
use Rattle.vw_net.specs.declared.flat.Flat.{Flat}
use Rattle.vw_prog.specs.declared.code.Code.{Code}
use Rattle.vw_prog.specs.declared.entry.Entry.{Entry}
use Rattle.vw_prog.specs.declared.owners.OwnLatch.{OwnLatch}
use Rattle.vw_prog.specs.Coding.{IsCodeOf, owned_of}
use Rattle.vw_prog.specs.Steps.{lists_of}

-- an element of a list with one more
last_or : {X : Type 0} (xs : List X) (x : X) (place : ℕ) (y : X) → slice_get (xs ++ x ∷ []) place ≡ Some y → length xs ≤ place → (place ≡ length xs) × (y ≡ x)
last_or [] x zero y is past = (refl, cc)
last_or [] x (suc place) y is past = cc
last_or (first ∷ xs) x zero y is past = absurd (omega (arith, past))
last_or (first ∷ xs) x (suc place) y is past = let rest = last_or xs x place y is (omega (arith, past)) in (ap suc rest.0, rest.1)

before_or : {X : Type 0} (xs : List X) (x : X) (place : ℕ) (y : X) → slice_get (xs ++ x ∷ []) place ≡ Some y → place < length xs → slice_get xs place ≡ Some y
before_or [] x place y is under = absurd (omega (arith, under))
before_or (first ∷ xs) x zero y is under = is
before_or (first ∷ xs) x (suc place) y is under = before_or xs x place y is (omega (arith, under))

pub one_more : (flat : Flat) (owned : List (Vec OwnLatch)) (lists : List (Vec Entry)) (count node : ℕ) (codes new : List Code) (code : Code) (own : Vec OwnLatch) (list : Vec Entry)
    → length codes ≡ node
    → ((other : ℕ) (one : Code) → slice_get codes other ≡ Some one → IsCodeOf flat other (get_or (owned_of owned) other []) (get_or (lists_of lists) other []) count one)
    → new ≡ codes ++ code ∷ [] → node < length owned → node < length lists → own ≡ get_or owned node own → list ≡ get_or lists node list
    → IsCodeOf flat node own.items list.items count code
    → (other : ℕ) (one : Code) → slice_get new other ≡ Some one
    → IsCodeOf flat other (get_or (owned_of owned) other []) (get_or (lists_of lists) other []) count one
one_more flat owned lists count node codes new code own list long before is owned_in lists_in own_is list_is made other one at =
    let there : slice_get (codes ++ code ∷ []) other ≡ Some one = ap (λ (all : List Code). slice_get all other) (sym is) ∙ at in
    let its_own : own.items ≡ get_or (owned_of owned) node [] = ap (λ (v : Vec OwnLatch). v.items) own_is ∙ sym (get_or-map (λ (v : Vec OwnLatch). v.items) owned node own [] owned_in) in
    let its_list : list.items ≡ get_or (lists_of lists) node [] = ap (λ (v : Vec Entry). v.items) list_is ∙ sym (get_or-map (λ (v : Vec Entry). v.items) lists node list [] lists_in) in
    let here : IsCodeOf flat node (get_or (owned_of owned) node []) (get_or (lists_of lists) node []) count code =
    subst (λ (latches : List OwnLatch). IsCodeOf flat node latches (get_or (lists_of lists) node []) count code) its_own (subst (λ (entries : List Entry). IsCodeOf flat node own.items entries count code) its_list made) in
    ⊎_elim (λ (under : other < length codes). before other one (before_or codes code other one there under))
    (λ (past : length codes ≤ other).
    let last = last_or codes code other one there past in
    let same : node ≡ other = omega (arith, last.0, long) in
    subst (λ (number : ℕ). IsCodeOf flat number (get_or (owned_of owned) number []) (get_or (lists_of lists) number []) count one) same (subst (IsCodeOf flat node (get_or (owned_of owned) node []) (get_or (lists_of lists) node []) count) (sym last.1) here)) (cases_lt other (length codes))
