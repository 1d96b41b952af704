-- Models of a design that is being read.
use Rattle.std.proofs.Common.{◌≡◌, List, [], ◌∷◌, ◌++◌, map, Option, Some, None, refl, sym, ◌∙◌, ap, append_assoc, append-nil, All}
use Rattle.std.proofs.lemmas.List.{map-append}
use Rattle.std.proofs.lemmas.List.Elements.{All-push}
use Rattle.vw_design.specs.declared.model.Model.{Model}
use Rattle.vw_design.specs.Shape.{IsWellMade}
use Rattle.vw_blif.specs.declared.block.Block.{Block}
use Rattle.vw_design.specs.Paths.{Word}
use Rattle.vw_blif.specs.Spelled.{SpelledModel, spelled_model}
use Rattle.vw_blif.specs.Designs.{blocks}
use Rattle.vw_blif.specs.Steps.Names.{names_so_far}
use Rattle.vw_blif.specs.Steps.Blocks.{block_made, ClosesTable}
use Rattle.vw_blif.specs.Steps.Readers.{models_with}

-- a model makes the same whether its table is open or came to the items
pub closed_made : (old new : Block) → ClosesTable old new → block_made new [] ≡ block_made old []
closed_made old new closes = rw (closes.ports.name, closes.ports.inputs, closes.ports.outputs, closes.ports.clocks, closes.items, closes.table_) (simp append_assoc)

-- the open model, or none, came to the models
pub record Ended (models : List Model) (open_ : Option Block) (new : List Model) : Type 0 where
  pub made : map spelled_model new ≡ map spelled_model models ++ models_with open_ (blocks [])
  pub names : names_so_far new None ≡ names_so_far models open_
  pub well_made : All IsWellMade models → All IsWellMade new

pub ended-some : (models new : List Model) (model : Model) (b : Block) (open_ : Option Block) → open_ ≡ Some b → spelled_model model ≡ block_made b [] → IsWellMade model → new ≡ models ++ model ∷ []
    → Ended models open_ new
ended-some models new model b open_ is spells made more =
    let name : model.name ≡ b.name = ap (λ (s : SpelledModel). s.name) spells in
    rw (is, more) record {
      made = map-append spelled_model models (model ∷ []) ∙ ap (λ (s : SpelledModel). map spelled_model models ++ s ∷ []) spells;
      names = append-nil (map (λ (m : Model). m.name) (models ++ model ∷ [])) ∙ map-append (λ (m : Model). m.name) models (model ∷ [])
          ∙ ap (λ (n : Word). map (λ (m : Model). m.name) models ++ n ∷ []) name;
      well_made = λ all. All-push IsWellMade models model all made;
    }

pub ended-none : (models new : List Model) (open_ : Option Block) → open_ ≡ None → new ≡ models → Ended models open_ new
ended-none models new open_ none same =
    rw (none, same) record {
      made = sym (append-nil (map spelled_model models));
      names = refl;
      well_made = λ all. all;
    }
