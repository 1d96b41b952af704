use Rattle.std.proofs.Common.{◌≡◌, ℕ, List, Option, Some, length, slice_get, refl, sym, ap, ◌∙◌}
use Rattle.std.proofs.lemmas.Option.{slice_get_read}
use Rattle.vw_instances.specs.Steps.Nexts.{target_at}
use Rattle.vw_instances.proofs.next.target_at.Goals as goal

-- look-up by look-up
target_found : (targets : List (List (Option ℕ))) (model before : ℕ) (numbers : List (Option ℕ)) (target : Option ℕ) → slice_get targets model ≡ Some numbers → slice_get numbers before ≡ Some target
    → target_at targets model before ≡ target
target_found targets model before numbers target first second = rw (first, second) refl

pub returns : goal.returns
returns c =
    let targets = c.args.targets.now in
    let row = c.as_slice.result.now in
    let numbers = c.in_ok-numbers.ensures.lookup in
    let target = c.in_ok-get.ensures.lookup in
    sym (target_found targets c.args.model c.args.before c.in_ok-numbers.numbers.now c.in_ok-get.field-0.now
    (slice_get_read targets (length targets) c.args.model c.in_ok-numbers.numbers.now refl numbers.3.0 numbers.1)
    (ap (λ (list : List (Option ℕ)). slice_get list c.args.before) (sym c.as_slice.ensures) ∙ slice_get_read row (length row) c.args.before c.in_ok-get.field-0.now refl target.3.0 target.1))
