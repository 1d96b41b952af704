-- The value of a net by its driver: that of a port is its column's, that of a latch its bit of the state, and nets with
-- one driver have one value. What a latch starts at, and what it has after a clock.
use Rattle.std.proofs.Common.{◌≡◌, ◌+◌, ℕ, zero, suc, Bool, false, List, ◌∷◌, length, map, Option, Some, None, option_map, refl, ◌∙◌, ap, arith}
use Rattle.std.proofs.lemmas.Option.{slice_get-map, get_or_from_slice_get}
use Rattle.vw_net.specs.declared.cell.Init.{Init}
use Rattle.vw_net.specs.declared.cover.Cover.{Cover}
use Rattle.vw_net.specs.Cells.{start_value}
use Rattle.vw_net.specs.Cover.{cover_value}
use Rattle.vw_design.specs.declared.item.Edge.{Edge}
use Rattle.vw_design.specs.declared.item.Item.{Item}
use Rattle.vw_design.specs.declared.item.Item.TheVariants.{Names, Latch}
use Rattle.vw_design.specs.declared.design.Design.{Design}
use Rattle.vw_design.specs.Paths.{Word, Path, model_at}
use Rattle.vw_design.specs.Claims.{port, bound, first_claim}
use Rattle.vw_design.specs.Drivers.{Source, at_port, at_cell, actual_of, driver}
use Rattle.vw_design.specs.Preorder.{Site, cells, latches}
use Rattle.vw_design.specs.Clocks.{columns}
use Rattle.vw_design.specs.PathValue.{item_at, place_of_name, place_of_site, bit_at, item_value, source_value, path_level, path_value}
use Rattle.vw_design.specs.PathHistory.{latch_start, latch_next, path_start, path_next}
use Rattle.vw_design.specs.Accepted.{HasNoModelFault}
use Rattle.vw_design.proofs.LatchPlaces.{HasLatchPlace}
use Rattle.vw_design.proofs.ClaimedDrivers.{port_driver, bound_driver}

module _ (design : Design) (row state : List Bool) where
  -- nets with one driver have one value at each level
  pub same_level : (level : ℕ) (path : Path) (name : Word) (other : Path) (word : Word) → driver design path name ≡ driver design other word
      → path_level level design row state path name ≡ path_level level design row state other word
  same_level zero path name other word same = refl
  same_level (suc level) path name other word same = ap (source_value design row state (path_level level design row state)) same

  -- so they have one value
  pub same_value : (path : Path) (name : Word) (other : Path) (word : Word) → driver design path name ≡ driver design other word
      → path_value design row state path name ≡ path_value design row state other word
  unfolding path_value
  same_value path name other word same = same_level (length (cells design) + 1) path name other word same

  -- the value of a net is what its driver gives, of values one level lower
  pub by_driver : (path : Path) (name : Word) (source : Option Source) → driver design path name ≡ source
      → path_value design row state path name ≡ source_value design row state (path_level (length (cells design)) design row state) source
  unfolding path_value
  by_driver path name source is =
      let one_more : length (cells design) + 1 ≡ suc (length (cells design)) = omega arith in
      ap (λ level. path_level level design row state path name) one_more
      ∙ ap (source_value design row state (path_level (length (cells design)) design row state)) is

  -- a net without a driver has 0
  pub undriven_value : (path : Path) (name : Word) → driver design path name ≡ None → path_value design row state path name ≡ false
  undriven_value path name none = by_driver path name None none

  -- a net that a port of the root drives has the bit of the port's column
  pub column_value : (path : Path) (name column : Word) → driver design path name ≡ Some (at_port column)
      → path_value design row state path name ≡ bit_at row (place_of_name (columns design) column)
  column_value path name column drives = by_driver path name (Some (at_port column)) drives

  -- a net that an item drives has what the item gives it
  pub item_value_of : (path : Path) (name : Word) (at : Path) (number : ℕ) (item : Item)
      → driver design path name ≡ Some (at_cell at number) → item_at design at number ≡ Some item
      → path_value design row state path name ≡ item_value design state (path_level (length (cells design)) design row state) at number (Some item)
  item_value_of path name at number item drives is =
      by_driver path name (Some (at_cell at number)) drives ∙ ap (item_value design state (path_level (length (cells design)) design row state) at number) is

  -- at each level a gate gives its net its table's value of what it reads one level lower
  pub gate_level : (level : ℕ) (path : Path) (name : Word) (at : Path) (number line : ℕ) (ins : List Word) (out : Word) (cover : Cover)
      → driver design path name ≡ Some (at_cell at number)
      → item_at design at number ≡ Some (Names line ins out cover)
      → path_level (suc level) design row state path name ≡ cover_value cover (map (path_level level design row state at) ins)
  gate_level level path name at number line ins out cover drives is =
      ap (source_value design row state (path_level level design row state)) drives ∙ ap (item_value design state (path_level level design row state) at number) is

  -- a net that a latch drives has the latch's bit of the state
  pub latch_value : (path : Path) (name : Word) (at : Path) (number line : ℕ) (d q : Word) (edge : Edge) (control : Option Word) (init : Init)
      → driver design path name ≡ Some (at_cell at number)
      → item_at design at number ≡ Some (Latch line d q edge control init)
      → path_value design row state path name ≡ bit_at state (place_of_site (latches design) at number)
  latch_value path name at number line d q edge control init drives is = item_value_of path name at number (Latch line d q edge control init) drives is

  module _ (faultless : HasNoModelFault design) where
    -- a port of a placed model has the value of its actual, in the instance above
    pub port_value : (place : ℕ) (path : Path) (name actual : Word) → first_claim design (model_at design (place ∷ path)) name ≡ Some port
        → actual_of design place path name ≡ Some actual
        → path_value design row state (place ∷ path) name ≡ path_value design row state path actual
    port_value place path name actual is above = same_value (place ∷ path) name path actual (port_driver design faultless place path name actual is above)

    -- a name that is bound to an output of a placed model has the value of that output, in the instance below
    pub bound_value : (path : Path) (name : Word) (place : ℕ) (formal : Word) → first_claim design (model_at design path) name ≡ Some (bound place formal)
        → path_value design row state path name ≡ path_value design row state (place ∷ path) formal
    bound_value path name place formal is = same_value path name (place ∷ path) formal (bound_driver design faultless path name place formal is)

-- ---- latches

module _ (design : Design) (path : Path) (number : ℕ) (item : Item) (has : HasLatchPlace design path number item) where
  -- what is made for each latch, at the place of this one
  at_latch : (made : Site → Bool) → bit_at (map made (latches design)) (place_of_site (latches design) path number) ≡ made has.site
  at_latch made =
      ap (bit_at (map made (latches design))) has.place_is
      ∙ get_or_from_slice_get (map made (latches design)) has.place (made has.site) false (slice_get-map made (latches design) has.place ∙ ap (option_map made) has.stands)

  -- the bit that a latch starts with
  pub start_bit : (unknown : Bool) → bit_at (path_start unknown design) (place_of_site (latches design) path number) ≡ latch_start unknown item
  start_bit unknown = at_latch (λ (s : Site). latch_start unknown s.item) ∙ ap (latch_start unknown) has.item_is

  -- its bit after a clock is what it took
  pub next_bit : (row state : List Bool)
      → bit_at (path_next design row state) (place_of_site (latches design) path number) ≡ latch_next (path_value design row state path) item
  next_bit row state =
      at_latch (λ (s : Site). latch_next (path_value design row state s.path) s.item)
      ∙ ap (λ (p : Path). latch_next (path_value design row state p) has.site.item) has.path_is
      ∙ ap (latch_next (path_value design row state path)) has.item_is

module _ (design : Design) (path : Path) (number line : ℕ) (d q : Word) (edge : Edge) (control : Option Word) (init : Init) (has : HasLatchPlace design path number (Latch line d q edge control init)) where
  -- a net that a latch drives starts with its initial value
  pub first_value : (unknown : Bool) (row : List Bool) (at : Path) (name : Word) → driver design at name ≡ Some (at_cell path number)
      → item_at design path number ≡ Some (Latch line d q edge control init)
      → path_value design row (path_start unknown design) at name ≡ start_value unknown init
  first_value unknown row at name drives is =
      latch_value design row (path_start unknown design) at name path number line d q edge control init drives is
      ∙ start_bit design path number (Latch line d q edge control init) has unknown

  -- and has after a clock what the latch's data input had in that clock
  pub value_after : (row state after : List Bool) (at : Path) (name : Word) → driver design at name ≡ Some (at_cell path number)
      → item_at design path number ≡ Some (Latch line d q edge control init)
      → path_value design after (path_next design row state) at name ≡ path_value design row state path d
  value_after row state after at name drives is =
      latch_value design after (path_next design row state) at name path number line d q edge control init drives is
      ∙ next_bit design path number (Latch line d q edge control init) has row state
