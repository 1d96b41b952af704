-- What is read, by the cells alone.
use Rattle.std.proofs.Common.{◌≡◌, ℕ, Bool, List, [], ◌∷◌, ◌++◌, cond, Option, find, filter, flat_map, map, option_map, refl, sym, ◌∙◌, ap, ap₂}
use Rattle.std.specs.Option.{option_or}
use Rattle.std.proofs.lemmas.List.Folds.{find-append}
use Rattle.vw_design.specs.declared.design.Design.{Design}
use Rattle.vw_design.specs.declared.item.Bind.{Bind}
use Rattle.vw_design.specs.declared.item.Item.{Item}
use Rattle.vw_design.specs.declared.item.Item.TheVariants.{Names, Latch, Sub}
use Rattle.vw_design.specs.Paths.{Word, Path, Net, model_at, model_outputs}
use Rattle.vw_design.specs.Preorder.{Site, is_cell, sites, cells}
use Rattle.vw_design.specs.NetReads.{net_at, nets_at, root_outputs}
use Rattle.vw_net_faults.proofs.SearchSteps.{find_map}

-- a `.subckt` item gives nothing
module _ {A : Type 0} (made : Path → Item → List A) (none : (path : Path) (line : ℕ) (model : Word) (binds : List Bind) → made path (Sub line model binds) ≡ []) where
  abbrev of_sites : List Site → List A
  of_sites list = flat_map (λ site. made site.path site.item) list

  kept : (path : Path) (item : Item) (list more : List Site) (site : Site) → site.path ≡ path → site.item ≡ item → of_sites list ≡ of_sites more
      → made path item ++ of_sites list ≡ of_sites (cond (is_cell item) (site ∷ more) more)
  kept path (Names line ins out cover) list more site here is rest = ap₂ (λ (p : Path) (x : Item). made p x ++ of_sites list) (sym here) (sym is) ∙ ap (λ (l : List A). made site.path site.item ++ l) rest
  kept path (Latch line d q edge control init) list more site here is rest = ap₂ (λ (p : Path) (x : Item). made p x ++ of_sites list) (sym here) (sym is) ∙ ap (λ (l : List A). made site.path site.item ++ l) rest
  kept path (Sub line model binds) list more site here is rest = ap (λ (l : List A). l ++ of_sites list) (none path line model binds) ∙ rest

  pub of_cells_alone : (list : List Site)
      → flat_map (λ site. made site.path site.item) list ≡ flat_map (λ site. made site.path site.item) (filter (λ site. is_cell site.item) list)
  of_cells_alone [] = refl
  of_cells_alone (site ∷ list) = kept site.path site.item list (filter (λ (s : Site). is_cell s.item) list) site refl refl (of_cells_alone list)

-- a search among what the cells read, and then among the outputs of the root
module _ (design : Design) (test : Net → Bool) (names : Item → List Word) (none : (line : ℕ) (model : Word) (binds : List Bind) → names (Sub line model binds) ≡ []) where
  pub at_cells : find test (flat_map (λ site. nets_at site (names site.item)) (sites design)) ≡ find test (flat_map (λ site. nets_at site (names site.item)) (cells design))
  at_cells = ap (find test) (of_cells_alone (λ path item. map (net_at path) (names item)) (λ path line model binds. ap (map (net_at path)) (none line model binds)) (sites design))

  pub then_outputs : find test (flat_map (λ site. nets_at site (names site.item)) (sites design) ++ root_outputs design)
      ≡ option_or (find test (flat_map (λ site. nets_at site (names site.item)) (cells design))) (option_map (net_at []) (find (λ name. test (net_at [] name)) (model_outputs (model_at design []))))
  then_outputs =
      find-append test (flat_map (λ (site : Site). nets_at site (names site.item)) (sites design)) (root_outputs design)
      ∙ ap₂ (λ (one other : Option Net). option_or one other) at_cells (find_map (net_at []) test (model_outputs (model_at design [])))
