-- The numbered items of a model, and the items that they are.
use Rattle.std.proofs.Common.{◌≡◌, ◌+◌, ℕ, zero, suc, List, [], ◌∷◌, Some, slice_get, inl, inr, ⊎_elim, refl, sym, ◌∙◌, ap, subst, arith}
use Rattle.std.proofs.lemmas.Option.{same_Some, none-some}
use Rattle.vw_design.specs.declared.item.Bind.{Bind}
use Rattle.vw_design.specs.declared.item.Item.{Item}
use Rattle.vw_design.specs.declared.item.Item.TheVariants.{Names, Latch, Sub}
use Rattle.vw_design.specs.Paths.{Word, Placing, placings}
use Rattle.vw_design.specs.Claims.{Numbered, and_behind, numbered}
use Rattle.vw_design.proofs.ListElements.{Has}

-- items that stand behind others among all items: so many before them, of which so many are `.subckt` items
record AreItems (all : List Item) (number before : ℕ) (items : List Item) : Type 0 where
  items_at : (k : ℕ) → slice_get items k ≡ slice_get all (number + k)
  placings_at : (k : ℕ) → slice_get (placings items) k ≡ slice_get (placings all) (before + k)

-- what a numbered item says of all items
pub record IsEntry (all : List Item) (entry : Numbered) : Type 0 where
  pub item : slice_get all entry.number ≡ Some entry.item
  pub placing : (line : ℕ) (model : Word) (binds : List Bind) → entry.item ≡ Sub line model binds → slice_get (placings all) entry.before ≡ Some (record { model = model; binds = binds })

later : {A : Type 0} (xs all : List A) (number k : ℕ) → slice_get xs (suc k) ≡ slice_get all (number + suc k)
    → slice_get xs (suc k) ≡ slice_get all (suc number + k)
later xs all number k is = is ∙ ap (slice_get all) (omega arith)

here : {A : Type 0} (x : A) (all : List A) (number : ℕ) → Some x ≡ slice_get all (number + 0) → slice_get all number ≡ Some x
here x all number is = ap (slice_get all) (omega arith) ∙ sym is

entry_at : (all : List Item) (number before : ℕ) (items : List Item) → AreItems all number before items → (entry : Numbered)
    → Has entry (numbered number before items) → IsEntry all entry
entry_at all number before [] are entry has = absurd has
entry_at all number before (Names line ins out cover ∷ items) are entry has =
    let item = Names line ins out cover in
    let first : IsEntry all (record { number = number; before = before; item = item }) = record {
      item = here item all number (are.items_at 0);
      placing = λ l m bs is. cc;
    } in
    let rest : AreItems all (suc number) before items = record {
      items_at = λ k. later (item ∷ items) all number k (are.items_at (suc k));
      placings_at = are.placings_at;
    } in
    ⊎_elim (λ same. subst (IsEntry all) same first) (λ found. entry_at all (suc number) before items rest entry found) has
entry_at all number before (Latch line d q edge control init ∷ items) are entry has =
    let item = Latch line d q edge control init in
    let first : IsEntry all (record { number = number; before = before; item = item }) = record {
      item = here item all number (are.items_at 0);
      placing = λ l m bs is. cc;
    } in
    let rest : AreItems all (suc number) before items = record {
      items_at = λ k. later (item ∷ items) all number k (are.items_at (suc k));
      placings_at = are.placings_at;
    } in
    ⊎_elim (λ same. subst (IsEntry all) same first) (λ found. entry_at all (suc number) before items rest entry found) has
entry_at all number before (Sub line model binds ∷ items) are entry has =
    let item = Sub line model binds in
    let placed : Placing = record { model = model; binds = binds } in
    let first : IsEntry all (record { number = number; before = before; item = item }) = record {
      item = here item all number (are.items_at 0);
      placing = λ l m bs is. here placed (placings all) before (are.placings_at 0) ∙ cc;
    } in
    let rest : AreItems all (suc number) (suc before) items = record {
      items_at = λ k. later (item ∷ items) all number k (are.items_at (suc k));
      placings_at = λ k. later (placed ∷ placings items) (placings all) before k (are.placings_at (suc k));
    } in
    ⊎_elim (λ same. subst (IsEntry all) same first) (λ found. entry_at all (suc number) (suc before) items rest entry found) has

-- all items stand behind none
pub entry_of : (all : List Item) (entry : Numbered) → Has entry (numbered 0 0 all) → IsEntry all entry
entry_of all entry has = entry_at all 0 0 all (record { items_at = λ k. ap (slice_get all) (omega arith); placings_at = λ k. ap (slice_get (placings all)) (omega arith) }) entry has

-- the item with a number has an entry
pub record IsListedItem (list : List Numbered) (number : ℕ) (item : Item) : Type 0 where
  pub entry : Numbered
  pub has : Has entry list
  pub number_is : entry.number ≡ number
  pub item_is : entry.item ≡ item

behind : (number : ℕ) (first : Numbered) (list : List Numbered) (k : ℕ) (item : Item) → IsListedItem list (suc number + k) item
    → IsListedItem (first ∷ list) (number + suc k) item
behind number first list k item has = record { entry = has.entry; has = inr has.has; number_is = has.number_is ∙ omega arith; item_is = has.item_is }

has_item : (number before : ℕ) (items : List Item) (k : ℕ) (item : Item) → slice_get items k ≡ Some item
    → IsListedItem (numbered number before items) (number + k) item
has_item number before [] k item at = absurd (none-some item at)
has_item number before (first ∷ items) zero item at =
    record { entry = record { number = number; before = before; item = first }; has = inl refl; number_is = omega arith; item_is = same_Some first item at }
has_item number before (first ∷ items) (suc k) item at =
    behind number (record { number = number; before = before; item = first }) (numbered (suc number) (and_behind first before) items) k item (has_item (suc number) (and_behind first before) items k item at)

pub item_entry : (items : List Item) (k : ℕ) (item : Item) → slice_get items k ≡ Some item → IsListedItem (numbered 0 0 items) k item
item_entry items k item at = subst (λ (n : ℕ). IsListedItem (numbered 0 0 items) n item) (omega arith) (has_item 0 0 items k item at)

-- and so has the `.subckt` item at a place
pub record HasPlacing (list : List Numbered) (before : ℕ) (placing : Placing) : Type 0 where
  pub entry : Numbered
  pub line : ℕ
  pub has : Has entry list
  pub before_is : entry.before ≡ before
  pub item_is : entry.item ≡ Sub line placing.model placing.binds

passed : (before : ℕ) (first : Numbered) (list : List Numbered) (k : ℕ) (placing : Placing) → HasPlacing list (before + k) placing
    → HasPlacing (first ∷ list) (before + k) placing
passed before first list k placing has = record { entry = has.entry; line = has.line; has = inr has.has; before_is = has.before_is; item_is = has.item_is }

has_placing : (number before : ℕ) (items : List Item) (k : ℕ) (placing : Placing) → slice_get (placings items) k ≡ Some placing
    → HasPlacing (numbered number before items) (before + k) placing
has_placing number before [] k placing at = absurd (none-some placing at)
has_placing number before (Names line ins out cover ∷ items) k placing at =
    passed before (record { number = number; before = before; item = Names line ins out cover }) (numbered (suc number) before items) k placing (has_placing (suc number) before items k placing at)
has_placing number before (Latch line d q edge control init ∷ items) k placing at =
    passed before (record { number = number; before = before; item = Latch line d q edge control init }) (numbered (suc number) before items) k placing (has_placing (suc number) before items k placing at)
has_placing number before (Sub line model binds ∷ items) zero placing at =
    let placed : Placing = record { model = model; binds = binds } in
    let same : placed ≡ placing = same_Some placed placing at in
    record {
      entry = record { number = number; before = before; item = Sub line model binds };
      line = line;
      has = inl refl;
      before_is = omega arith;
      item_is = ap (λ (p : Placing). Sub line p.model p.binds) same;
    }
has_placing number before (Sub line model binds ∷ items) (suc k) placing at =
    let rest = has_placing (suc number) (suc before) items k placing at in
    record { entry = rest.entry; line = rest.line; has = inr rest.has; before_is = rest.before_is ∙ omega arith; item_is = rest.item_is }

pub placing_entry : (items : List Item) (k : ℕ) (placing : Placing) → slice_get (placings items) k ≡ Some placing → HasPlacing (numbered 0 0 items) k placing
placing_entry items k placing at = subst (λ (n : ℕ). HasPlacing (numbered 0 0 items) n placing) (omega arith) (has_placing 0 0 items k placing at)
