-- Claims on the nets of a model: what says that it drives a net. A port comes first, then items in text order. Source:
-- the Berkeley description of BLIF.
use Rattle.std.specs.Prelude.{ℕ, suc, ◌&&◌, List, [], ◌∷◌, ◌++◌, slice_get, Option, Some, None, option_and_then, filter_map, flat_map, if◌then◌else◌}
use Rattle.std.specs.Str.{bytes_eq}
use Rattle.vw_design.specs.declared.item.Bind.{Bind}
use Rattle.vw_design.specs.declared.item.Item.{Item}
use Rattle.vw_design.specs.declared.item.Item.TheVariants.{Names, Latch, Sub}
use Rattle.vw_design.specs.declared.model.Model.{Model}
use Rattle.vw_design.specs.declared.design.Design.{Design}
use Rattle.vw_design.specs.Distinct.{has_name}
use Rattle.vw_design.specs.Paths.{Word, is_port, model_named, model_outputs}

-- an item of a model, with its number among the items, from 0, and how many `.subckt` items stand before it
pub record Numbered : Type 0 where
  pub number : ℕ
  pub before : ℕ
  pub item : Item

-- how many `.subckt` items stand behind an item, given how many stood before it
abbrev pub and_behind : Item → ℕ → ℕ
and_behind (Names line ins out cover) before = before
and_behind (Latch line d q edge control init) before = before
and_behind (Sub line model binds) before = suc before

-- the items of a model, from a number on
abbrev pub numbered : ℕ → ℕ → List Item → List Numbered
numbered number before [] = []
numbered number before (item ∷ items) =
    record { number = number; before = before; item = item } ∷ numbered (suc number) (and_behind item before) items

-- a name is an input or a clock, which is one claim; it is the output of an item; or it is bound to an output of the
-- model that is placed there
pub data Claim : Type 0 where
  port : Claim
  driven : (item : ℕ) → Claim
  bound : (place : ℕ) (formal : Word) → Claim

-- the claim of a binding, where the formal is one of these outputs
abbrev pub bind_claim : List Word → ℕ → Word → Bind → Option Claim
bind_claim outputs place name bind =
    if bytes_eq bind.actual name && has_name outputs bind.formal then Some (bound place bind.formal) else None

-- the claims of an item on a name
abbrev pub item_claims : Design → Word → ℕ → ℕ → Item → List Claim
item_claims design name number before (Names line ins out cover) = if bytes_eq out name then driven number ∷ [] else []
item_claims design name number before (Latch line d q edge control init) = if bytes_eq q name then driven number ∷ [] else []
item_claims design name number before (Sub line model binds) =
    filter_map (bind_claim (model_outputs (model_named design.models model)) (suc before) name) binds

-- all claims on a name of a model, in order
abbrev pub claims : Design → Model → Word → List Claim
claims design model name =
    (if is_port model name then port ∷ [] else [])
    ++ flat_map (λ entry. item_claims design name entry.number entry.before entry.item) (numbered 0 0 model.items)

-- the first one
abbrev pub first_claim : Design → Option Model → Word → Option Claim
first_claim design model name = option_and_then (λ found. slice_get (claims design found name) 0) model
