use Rattle.std.proofs.Common.{Bor, Bool, List, ℕ, ◌||◌, ◌∙◌, ap, sym}
use Rattle.std.proofs.Math.Bool.{or-false}
use Rattle.vw_design.specs.Distinct.{has_name}
use Rattle.vw_drivers.proofs.NameMaps.{has_listed}
use Rattle.vw_drivers.proofs.model_outputs.Outputs.of.Goals as goal

-- the set had no word before
pub returns : goal.returns
returns c = λ name.
    sym (has_listed c.add_all.new.self.words.entries (λ (key : Bor (List ℕ)). key.now) name)
    ∙ c.in_ok-add_all.ensures name
    ∙ ap (λ (before : Bool). has_name c.args.list.now name || before) (c.none-names.ensures name)
    ∙ or-false (has_name c.args.list.now name)
