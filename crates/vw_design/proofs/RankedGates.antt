-- Where gates have ranks, each above those of the gates that it reads, no gates read each other in a circle.
use Rattle.std.proofs.Common.{◌≡◌, ◌<◌, ◌≤◌, ◌==◌, ℕ, Bool, true, false, List, [], ◌∷◌, ◌++◌, Option, Some, None, refl, sym, ◌∙◌, ap, true≢false, eqb-true, arith, zero, suc, slice_get, ap₂}
use Rattle.std.specs.List.{AllZip, list_any}
use Rattle.std.specs.Str.{bytes_eq}
use Rattle.std.proofs.lemmas.Bool.{and_parts}
use Rattle.std.proofs.lemmas.Option.{same_Some, none-some}
use Rattle.vw_net.specs.declared.cover.Cover.{Cover}
use Rattle.vw_design.specs.declared.item.Item.{Item}
use Rattle.vw_design.specs.declared.item.Item.TheVariants.{Names, Latch, Sub}
use Rattle.vw_design.specs.declared.design.Design.{Design}
use Rattle.vw_design.specs.declared.model.Model.{Model}
use Rattle.vw_design.specs.Paths.{Word, Path, model_at, items_of}
use Rattle.vw_design.specs.Claims.{Claim, port, driven, bound, claims, first_claim}
use Rattle.vw_design.specs.Drivers.{Source, at_port, at_cell, actual_of, turn_up, turn_by, follow_turn, source_after, driver}
use Rattle.vw_design.specs.NetReads.{driven_name}
use Rattle.vw_design.specs.PathValue.{item_at}
use Rattle.vw_design.specs.Loops.{Gate, is_driven_by, reads_from, gate_reads, IsLoopFree}
use Rattle.vw_design.proofs.ListElements.{Has, Has-at, from-any}
use Rattle.vw_design.proofs.Names.{same_name}
use Rattle.vw_design.proofs.ListedClaims.{driven_is}

-- whether what stands at an item is a gate
abbrev pub is_gate_item : Option Item → Bool
is_gate_item None = false
is_gate_item (Some (Names line ins out cover)) = true
is_gate_item (Some (Latch line d q edge control init)) = false
is_gate_item (Some (Sub line model binds)) = false

-- each gate has a rank above those of the gates that it reads
pub record IsGateRanking (design : Design) (rank : Gate → ℕ) : Type 0 where
  pub falls : (gate other : Gate) → gate_reads design gate other ≡ true → is_gate_item (item_at design other.path other.number) ≡ true → rank other < rank gate

module _ (design : Design) where
  -- what reads is a gate
  pub reader : (gate other : Gate) → gate_reads design gate other ≡ true → is_gate_item (item_at design gate.path gate.number) ≡ true
  reader gate other reads = by (item_at design gate.path gate.number) reads where
    by : (item : Option Item) → reads_from design gate.path other item ≡ true → is_gate_item item ≡ true
    by None reads = absurd (true≢false (sym reads))
    by (Some (Names line ins out cover)) reads = refl
    by (Some (Latch line d q edge control init)) reads = absurd (true≢false (sym reads))
    by (Some (Sub line model binds)) reads = absurd (true≢false (sym reads))

  -- so is the first of some that read each other
  first_gate : (gate : Gate) (gates : List Gate) (last : Gate)
      → AllZip (λ one next. gate_reads design one next ≡ true) (gate ∷ gates) (gates ++ last ∷ [])
      → is_gate_item (item_at design gate.path gate.number) ≡ true
  first_gate gate [] last reads = reader gate last reads.0
  first_gate gate (next ∷ gates) last reads = reader gate next reads.0

module _ (design : Design) (rank : Gate → ℕ) (ranking : IsGateRanking design rank) where
  -- along gates of which each reads the next, ranks fall
  along : (gate : Gate) (gates : List Gate) (last : Gate) → AllZip (λ one next. gate_reads design one next ≡ true) (gate ∷ gates) (gates ++ last ∷ [])
      → is_gate_item (item_at design last.path last.number) ≡ true → rank last < rank gate
  along gate [] last reads is = ranking.falls gate last reads.0 is
  along gate (next ∷ gates) last reads is =
      omega (arith, along next gates last reads.1 is, ranking.falls gate next reads.0 (first_gate design next gates last reads.1))

  -- so none comes back to itself
  pub ranked_loop_free : IsLoopFree design
  ranked_loop_free [] loop = omega (arith, loop.some)
  ranked_loop_free (gate ∷ gates) loop = omega (arith, along gate gates gate loop.each (first_gate design gate gates gate loop.each))

-- ---- ranks by what drives the inputs of gates

-- a gate that is read, with the input that it drives
pub record ReadsGate (design : Design) (path : Path) (ins : List Word) (other : Gate) : Type 0 where
  pub name : Word
  pub has : Has name ins
  pub drives : driver design path name ≡ Some (at_cell other.path other.number)

-- a gate reads what drives one of its inputs
pub read_by : (design : Design) (gate other : Gate) (line : ℕ) (ins : List Word) (out : Word) (cover : Cover)
    → item_at design gate.path gate.number ≡ Some (Names line ins out cover)
    → gate_reads design gate other ≡ true → ReadsGate design gate.path ins other
read_by design gate other line ins out cover is reads =
    let any : list_any (λ name. is_driven_by other (driver design gate.path name)) ins ≡ true = sym (ap (reads_from design gate.path other) is) ∙ reads in
    let found = from-any (λ (name : Word). is_driven_by other (driver design gate.path name)) ins any in
    record { name = found.0; has = found.1; drives = by (driver design gate.path found.0) found.2 }
  where
    by : (source : Option Source) → is_driven_by other source ≡ true → source ≡ Some (at_cell other.path other.number)
    by None drives = absurd (true≢false (sym drives))
    by (Some (at_port name)) drives = absurd (true≢false (sym drives))
    by (Some (at_cell path item)) drives =
        let parts = and_parts (bytes_eq path other.path) (item == other.number) drives in
        ap (λ (p : Path). Some (at_cell p item)) (same_name path other.path parts.0) ∙ ap (λ (n : ℕ). Some (at_cell other.path n)) (eqb-true item other.number parts.1)

-- the rank of what an item drives, where nets have ranks
abbrev pub rank_at : (Path → Word → ℕ) → Path → Option Item → ℕ
rank_at rank path None = 0
rank_at rank path (Some (Names line ins out cover)) = rank path out
rank_at rank path (Some (Latch line d q edge control init)) = 0
rank_at rank path (Some (Sub line model binds)) = 0

-- nets have ranks: what a gate drives has a greater one than what it reads, and what a gate drives has no greater one by
-- another name
pub record IsNetRanking (design : Design) (rank : Path → Word → ℕ) : Type 0 where
  pub gates : (path : Path) (number line : ℕ) (ins : List Word) (out : Word) (cover : Cover) → item_at design path number ≡ Some (Names line ins out cover)
      → (name : Word) → Has name ins → rank path name < rank path out
  pub drivers : (path : Path) (name : Word) (at : Path) (number line : ℕ) (ins : List Word) (out : Word) (cover : Cover)
      → driver design path name ≡ Some (at_cell at number)
      → item_at design at number ≡ Some (Names line ins out cover) → rank at out ≤ rank path name

-- then gates have the ranks of what they drive
pub net_ranking : (design : Design) (rank : Path → Word → ℕ) → IsNetRanking design rank
    → IsGateRanking design (λ gate. rank_at rank gate.path (item_at design gate.path gate.number))
net_ranking design rank ranking = record { falls = falls } where
  falls : (gate other : Gate) → gate_reads design gate other ≡ true → is_gate_item (item_at design other.path other.number) ≡ true
      → rank_at rank other.path (item_at design other.path other.number) < rank_at rank gate.path (item_at design gate.path gate.number)
  falls gate other reads is = by (item_at design gate.path gate.number) refl (item_at design other.path other.number) refl (reader design gate other reads) is where
    by : (item : Option Item) → item_at design gate.path gate.number ≡ item → (read : Option Item)
        → item_at design other.path other.number ≡ read → is_gate_item item ≡ true → is_gate_item read ≡ true
        → rank_at rank other.path read < rank_at rank gate.path item
    by None here read there one two = absurd (true≢false (sym one))
    by (Some (Latch line d q edge control init)) here read there one two = absurd (true≢false (sym one))
    by (Some (Sub line model binds)) here read there one two = absurd (true≢false (sym one))
    by (Some (Names line ins out cover)) here None there one two = absurd (true≢false (sym two))
    by (Some (Names line ins out cover)) here (Some (Latch l d q edge control init)) there one two = absurd (true≢false (sym two))
    by (Some (Names line ins out cover)) here (Some (Sub l model binds)) there one two = absurd (true≢false (sym two))
    by (Some (Names line ins out cover)) here (Some (Names l read_ins read_out table)) there one two =
        let read = read_by design gate other line ins out cover here reads in
        let rises = ranking.gates gate.path gate.number line ins out cover here read.name read.has in
        let along = ranking.drivers gate.path read.name other.path other.number l read_ins read_out table read.drives there in
        omega (arith, rises, along)

-- ---- ranks along the way to a driver

-- what a gate drives has a greater rank than what it reads, and on the way from a net to its driver ranks don't rise: not
-- from a port of an instance to its actual, and not from an actual to the output that it is bound to
pub record IsTurnRanking (design : Design) (rank : Path → Word → ℕ) : Type 0 where
  pub gates : (path : Path) (number line : ℕ) (ins : List Word) (out : Word) (cover : Cover) → item_at design path number ≡ Some (Names line ins out cover)
      → (name : Word) → Has name ins → rank path name < rank path out
  pub up : (place : ℕ) (path : Path) (name actual : Word) → first_claim design (model_at design (place ∷ path)) name ≡ Some port
      → actual_of design place path name ≡ Some actual
      → rank path actual ≤ rank (place ∷ path) name
  pub down : (path : Path) (name : Word) (place : ℕ) (formal : Word)
      → first_claim design (model_at design path) name ≡ Some (bound place formal) → rank (place ∷ path) formal ≤ rank path name

module _ (design : Design) (rank : Path → Word → ℕ) (ranking : IsTurnRanking design rank) where
  -- what drives a net has no greater rank under the name that it drives
  abbrev pub IsNoGreater : (Path → Word → Option Source) → Path → Word → Type 0
  IsNoGreater found path name = (at : Path) (number : ℕ) (item : Item) → found path name ≡ Some (at_cell at number) → item_at design at number ≡ Some item → rank at (driven_name item) ≤ rank path name

  -- cells are no ports, and the same only where path and number are
  no_port : (name : Word) (at : Path) (number : ℕ) → at_port name ≡ at_cell at number → ⊥
  no_port name at number e = cc

  same_path : (path at : Path) (one number : ℕ) → at_cell path one ≡ at_cell at number → path ≡ at
  same_path path at one number e = cc

  same_number : (path at : Path) (one number : ℕ) → at_cell path one ≡ at_cell at number → one ≡ number
  same_number path at one number e = cc

  -- an item that is the first to claim a name drives it
  driven_here : (path : Path) (name : Word) (one : ℕ) → first_claim design (model_at design path) name ≡ Some (driven one) → (item : Item)
      → item_at design path one ≡ Some item → driven_name item ≡ name
  driven_here path name one is item at = by (model_at design path) refl is at where
    by : (found : Option Model) → model_at design path ≡ found → first_claim design found name ≡ Some (driven one)
        → slice_get (items_of found) one ≡ Some item → driven_name item ≡ name
    by None stands is at = absurd (none-some item at)
    by (Some model) stands is at =
        let drives = driven_is design model name one (Has-at (driven one) (claims design model name) 0 is) in
        ap driven_name (same_Some item drives.item (sym at ∙ drives.at)) ∙ drives.name_is

  -- what is found after some turns has no greater rank
  after : (turns : ℕ) (path : Path) (name : Word) → IsNoGreater (source_after design turns) path name
  after zero path name at number item found is = absurd (none-some (at_cell at number) found)
  after (suc turns) path name at number item found is = by path (first_claim design (model_at design path) name) refl found (λ p n. after turns p n at number item) where
    upward : (place : ℕ) (path : Path) → first_claim design (model_at design (place ∷ path)) name ≡ Some port → (actual : Option Word)
        → actual_of design place path name ≡ actual
        → follow_turn (source_after design turns) (turn_up path actual) ≡ Some (at_cell at number)
        → ((p : Path) (n : Word) → source_after design turns p n ≡ Some (at_cell at number) → item_at design at number ≡ Some item → rank at (driven_name item) ≤ rank p n)
        → rank at (driven_name item) ≤ rank (place ∷ path) name
    upward place path claimed None above found further = absurd (none-some (at_cell at number) found)
    upward place path claimed (Some actual) above found further = omega (arith, further path actual found is, ranking.up place path name actual claimed above)

    by : (path : Path) (claim : Option Claim) → first_claim design (model_at design path) name ≡ claim
        → follow_turn (source_after design turns) (turn_by design path name claim) ≡ Some (at_cell at number)
        → ((p : Path) (n : Word) → source_after design turns p n ≡ Some (at_cell at number) → item_at design at number ≡ Some item → rank at (driven_name item) ≤ rank p n)
        → rank at (driven_name item) ≤ rank path name
    by path None claimed found further = absurd (none-some (at_cell at number) found)
    by [] (Some port) claimed found further = absurd (no_port name at number (same_Some (at_port name) (at_cell at number) found))
    by (place ∷ path) (Some port) claimed found further = upward place path claimed (actual_of design place path name) refl found further
    by path (Some (driven one)) claimed found further =
        let same = same_Some (at_cell path one) (at_cell at number) found in
        let here : item_at design path one ≡ Some item = ap₂ (item_at design) (same_path path at one number same) (same_number path at one number same) ∙ is in
        let equal : rank at (driven_name item) ≡ rank path name = ap₂ rank (sym (same_path path at one number same)) (driven_here path name one claimed item here) in
        omega (arith, equal)
    by path (Some (bound place formal)) claimed found further = omega (arith, further (place ∷ path) formal found is, ranking.down path name place formal claimed)

  -- so it is for drivers
  pub driver_rank : (path : Path) (name : Word) → IsNoGreater (driver design) path name
  unfolding driver
  driver_rank path name = after 128 path name

  -- so nets have ranks
  pub turn_ranking : IsNetRanking design rank
  turn_ranking = record { gates = ranking.gates; drivers = λ path name at number line ins out cover drives is. driver_rank path name at number (Names line ins out cover) drives is }

  -- and no gates read each other in a circle
  pub turns_loop_free : IsLoopFree design
  turns_loop_free = ranked_loop_free design (λ (gate : Gate). rank_at rank gate.path (item_at design gate.path gate.number)) (net_ranking design rank turn_ranking)
