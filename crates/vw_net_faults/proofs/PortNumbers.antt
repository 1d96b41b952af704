-- Ports of the root, and their numbers.
use Rattle.std.proofs.Common.{◌≡◌, ◌==◌, ℕ, Bool, true, false, List, [], ◌∷◌, ◌++◌, Option, Some, None, is_none, slice_get, filter_map, flat_map, map, option_map, refl, sym, ◌∙◌, ap, ap₂, true≢false, append_assoc}
use Rattle.std.specs.Prelude.{option_to_list}
use Rattle.std.specs.List.{cons_option}
use Rattle.std.specs.Str.{bytes_eq}
use Rattle.std.proofs.lemmas.Bool.{eq-eqb, eqb-true}
use Rattle.std.proofs.lemmas.List.{map-append}
use Rattle.std.proofs.lemmas.List.Elements.{filter_map-append}
use Rattle.std.proofs.lemmas.Option.{same_Some}
use Rattle.vw_design.specs.declared.design.Design.{Design}
use Rattle.vw_design.specs.declared.item.Item.{Item}
use Rattle.vw_design.specs.declared.item.Item.TheVariants.{Names, Latch, Sub}
use Rattle.vw_design.specs.Paths.{Word, Path, Net}
use Rattle.vw_design.specs.Drivers.{Source as PathSource, at_port, at_cell, driver}
use Rattle.vw_design.specs.Preorder.{Site, sites, cells}
use Rattle.vw_design.specs.PathValue.{place_of_site}
use Rattle.vw_design.specs.NetReads.{net_at, nets_at, controls_of}
use Rattle.vw_design.specs.Clocks.{port_of, control_ports}
use Rattle.vw_design.proofs.Names.{same_name, equal_names}
use Rattle.vw_drivers.specs.Firsts.{First, number_named}
use Rattle.vw_drivers.specs.Names.{reads_of}
use Rattle.vw_drivers.specs.declared.source.Source.{Source}
use Rattle.vw_drivers.specs.declared.source.Source.TheVariants.{Port, Cell}
use Rattle.vw_drivers.specs.Sources.{source_of}
use Rattle.vw_drivers.proofs.ClaimLookups.{one_name}
use Rattle.vw_net_faults.specs.Steps.Ports.{port_number, item_ports}
use Rattle.vw_net_faults.proofs.Reading.{of_cells_alone}

abbrev pub somes : List ℕ → List (Option ℕ)
somes numbers = map (λ number. Some number) numbers

-- the numbers of names
module _ (root : List First) where
  pub same_numbers : (one other : Word) (n k : ℕ) → number_named root one ≡ Some n → number_named root other ≡ Some k → bytes_eq one other ≡ (n == k)
  same_numbers one other n k is also = by (bytes_eq one other) refl (n == k) refl where
    by : (b : Bool) → bytes_eq one other ≡ b → (e : Bool) → (n == k) ≡ e → b ≡ e
    by true same true equal = refl
    by true same false equal =
        let number : n ≡ k = same_Some n k (sym is ∙ ap (number_named root) (same_name one other same) ∙ also) in
        absurd (true≢false (sym (eq-eqb n k number) ∙ equal))
    by false differ true equal =
        let number : n ≡ k = eqb-true n k equal in
        absurd (true≢false (sym (equal_names one other (one_name root one other n is (also ∙ ap (λ (m : ℕ). Some m) (sym number)))) ∙ differ))
    by false differ false equal = refl

  port_is : (source : Option Source) (name : Word) → source ≡ option_map (λ number. Port number) (number_named root name)
      → (number : Option ℕ) → number_named root name ≡ number → is_none source ≡ false
      → number ∷ [] ≡ somes (option_to_list (port_number source))
  port_is source name is None named some = absurd (true≢false (sym (ap is_none (is ∙ ap (option_map (λ (number : ℕ). Port number)) named)) ∙ some))
  port_is source name is (Some number) named some =
      sym (ap (λ (s : Option Source). somes (option_to_list (port_number s))) (is ∙ ap (option_map (λ (n : ℕ). Port n)) named))

  cell_is : (source : Option Source) (number : Option ℕ) → source ≡ option_map (λ n. Cell n) number → [] ≡ somes (option_to_list (port_number source))
  cell_is source None is = sym (ap (λ (s : Option Source). somes (option_to_list (port_number s))) is)
  cell_is source (Some number) is = sym (ap (λ (s : Option Source). somes (option_to_list (port_number s))) is)

  -- the port that a driver is
  pub source_port : (design : Design) (source : Option Source) (found : Option PathSource) → source ≡ source_of design root found
      → is_none source ≡ is_none found
      → map (number_named root) (option_to_list (port_of found)) ≡ somes (option_to_list (port_number source))
  source_port design source None is none = sym (ap (λ (s : Option Source). somes (option_to_list (port_number s))) is)
  source_port design source (Some (at_port name)) is none = port_is source name is (number_named root name) refl none
  source_port design source (Some (at_cell path item)) is none = cell_is source (place_of_site (cells design) path item) is

  -- further ports
  pub more_ports : (ports new : List ℕ) (found : Option ℕ) (here rest : List Word) → new ≡ ports ++ option_to_list found
      → map (number_named root) here ≡ somes (option_to_list found)
      → somes new ++ map (number_named root) rest ≡ somes ports ++ map (number_named root) (here ++ rest)
  more_ports ports new found here rest is ports_here =
      ap (λ (list : List ℕ). somes list ++ map (number_named root) rest) is
      ∙ ap (λ (list : List (Option ℕ)). list ++ map (number_named root) rest) (map-append (λ (number : ℕ). Some number) ports (option_to_list found))
      ∙ append_assoc (somes ports) (somes (option_to_list found)) (map (number_named root) rest)
      ∙ ap (λ (list : List (Option ℕ)). somes ports ++ list)
      (ap (λ (list : List (Option ℕ)). list ++ map (number_named root) rest) (sym ports_here) ∙ sym (map-append (number_named root) here rest))

-- the control of an item is what it reads behind its data
pub control_read : (item : Item) (control : Word) → control ∷ [] ≡ controls_of item → slice_get (reads_of item) 1 ≡ Some control
control_read (Names line ins out cover) control is = cc
control_read (Latch line d q edge written init) control is = ap (λ (list : List Word). slice_get (d ∷ list) 1) (sym is)
control_read (Sub line model binds) control is = cc

only_one : {A : Type 0} (x : Option A) → cons_option x [] ≡ option_to_list x
only_one None = refl
only_one (Some x) = refl

-- an item with a control, and one without
pub ports_here : (design : Design) (path : Path) (item : Item) (control : Word) → control ∷ [] ≡ controls_of item
    → item_ports design path item ≡ option_to_list (port_of (driver design path control))
ports_here design path item control is =
    ap (filter_map (λ (name : Word). port_of (driver design path name))) (sym is) ∙ only_one (port_of (driver design path control))

filter_map-map : {A B C : Type 0} (h : B → Option C) (f : A → B) (xs : List A) → filter_map h (map f xs) ≡ filter_map (λ x. h (f x)) xs
filter_map-map h f [] = refl
filter_map-map h f (x ∷ xs) = ap (cons_option (h (f x))) (filter_map-map h f xs)

-- the ports of all controls, cell by cell
module _ (design : Design) where
  abbrev pub of_cells : List Site → List Word
  of_cells list = flat_map (λ site. item_ports design site.path site.item) list

  by_site : (list : List Site)
      → filter_map (λ net. port_of (driver design net.path net.name)) (flat_map (λ site. nets_at site (controls_of site.item)) list) ≡ of_cells list
  by_site [] = refl
  by_site (site ∷ list) =
      filter_map-append (λ (net : Net). port_of (driver design net.path net.name)) (nets_at site (controls_of site.item)) (flat_map (λ (s : Site). nets_at s (controls_of s.item)) list)
      ∙ ap₂ (λ (one other : List Word). one ++ other) (filter_map-map (λ (net : Net). port_of (driver design net.path net.name)) (net_at site.path) (controls_of site.item)) (by_site list)

  pub ports_are : control_ports design ≡ of_cells (cells design)
  ports_are = by_site (sites design) ∙ of_cells_alone (λ path item. item_ports design path item) (λ path line model binds. refl) (sites design)
