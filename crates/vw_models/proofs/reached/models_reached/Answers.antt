use Rattle.std.proofs.Common.{Ok, Err}
use Rattle.std.specs.Result.{IfOk}
use Rattle.std.specs.declared.result.Result.{Result}
use Rattle.vw_models.proofs.ReachFlags.{are_flags}
use Rattle.vw_models.proofs.Models.{within}
use Rattle.vw_models.proofs.reached.models_reached.Goals as goal

if_ok : {A E : Type 0} (P Q : A → Type 0) → ((x : A) → P x → Q x) → (result : Result A E) → IfOk result P → IfOk result Q
if_ok P Q step (Ok x) holds = step x holds
if_ok P Q step (Err error) holds = tt

pub reach-requires : goal.reach-requires
reach-requires c = within c.args.targets.now.design.now c.args.targets.now.numbers.now c.args.targets.now.are

pub returns : goal.returns
returns c = if_ok _ _ (λ flags reach. are_flags c.args.targets.now.design.now c.args.targets.now.numbers.now flags.items c.args.targets.now.are reach) c.reach.result c.reach.ensures
