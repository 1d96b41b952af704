-- What a design weighs, by its models alone and before any expansion: a model weighs what its items weigh, and what the
-- models weigh that they place. Source: this project.
use Rattle.std.specs.Prelude.{ℕ, zero, suc, ◌+◌, ◌-◌, ◌&&◌, max, Bool, true, List, [], ◌∷◌, length, take, IsTrue, nat_lt}
use Rattle.std.specs.List.{list_all}
use Rattle.vw_design.specs.declared.item.Item.{Item}
use Rattle.vw_design.specs.declared.item.Item.TheVariants.{Names, Latch, Sub}
use Rattle.vw_design.specs.declared.design.Design.{Design}
use Rattle.vw_design.specs.Paths.{Word, Path, model_named, model_at, items_of}

-- the weights by which instances and cells are counted: of each item one or none
abbrev pub placed_one : Item → ℕ
placed_one (Names line ins out cover) = 0
placed_one (Latch line d q edge control init) = 0
placed_one (Sub line model binds) = 1

abbrev pub cell_one : Item → ℕ
cell_one (Names line ins out cover) = 1
cell_one (Latch line d q edge control init) = 1
cell_one (Sub line model binds) = 0

-- what an item places weighs
abbrev pub placed_weight : (Word → ℕ) → Item → ℕ
placed_weight below (Names line ins out cover) = 0
placed_weight below (Latch line d q edge control init) = 0
placed_weight below (Sub line model binds) = below model

-- the weight of items, where the weights of models are given
abbrev pub items_weight : (Item → ℕ) → (Word → ℕ) → List Item → ℕ
items_weight weight below [] = 0
items_weight weight below (item ∷ items) = weight item + placed_weight below item + items_weight weight below items

-- the weight of a model, at most so many levels deep
abbrev pub model_weight : Design → (Item → ℕ) → ℕ → Word → ℕ
model_weight design weight zero name = 0
model_weight design weight (suc depth) name =
    items_weight weight (model_weight design weight depth) (items_of (model_named design.models name))

-- what the items of an instance weigh that stand before a place, with what they place, at most so many levels deep
abbrev pub weight_before : Design → (Item → ℕ) → ℕ → Path → ℕ → ℕ
weight_before design weight depth path place =
    items_weight weight (model_weight design weight depth) (take place (items_of (model_at design path)))

-- how many levels deep a design may go below an instance: no path of placed models is longer than there are models, and
-- the further levels are those of the sites
abbrev pub levels_below : Design → Path → ℕ
levels_below design path = 64 + length design.models - length path

-- how many levels stand below a placed model, and below items
abbrev pub placed_height : (Word → ℕ) → Item → ℕ
placed_height below (Names line ins out cover) = 0
placed_height below (Latch line d q edge control init) = 0
placed_height below (Sub line model binds) = suc (below model)

abbrev pub items_height : (Word → ℕ) → List Item → ℕ
items_height below [] = 0
items_height below (item ∷ items) = max (placed_height below item) (items_height below items)

-- how many levels stand below a model, at most so many
abbrev pub model_height : Design → ℕ → Word → ℕ
model_height design zero name = 0
model_height design (suc depth) name = items_height (model_height design depth) (items_of (model_named design.models name))

-- the same for the whole design, from the model with the root's name: no path of placed models is longer than there are
-- models, and the further levels are those of the sites
unfoldable pub weight_of_root : Design → (Item → ℕ) → Word → ℕ
weight_of_root design weight root = model_weight design weight (65 + length design.models) root

unfoldable pub height_of_root : Design → Word → ℕ
height_of_root design root = model_height design (65 + length design.models) root

-- among some models, each that one of them places is one of them, and of a smaller rank
abbrev pub is_below : (Word → Bool) → (Word → ℕ) → ℕ → Item → Bool
is_below among rank limit (Names line ins out cover) = true
is_below among rank limit (Latch line d q edge control init) = true
is_below among rank limit (Sub line model binds) = among model && nat_lt (rank model) limit

pub record IsRanking (design : Design) (among : Word → Bool) (rank : Word → ℕ) : Type 0 where
  pub falls : (name : Word) → IsTrue (among name) → IsTrue (list_all (is_below among rank (rank name)) (items_of (model_named design.models name)))
