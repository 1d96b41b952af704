-- Missing and extra wires, by tables.
use Rattle.std.specs.Prelude.{ℕ, ◌==◌, Bool, not, ◌||◌, List, Option, Some, is_some}
use Rattle.std.specs.Option.{option_eq}
use Rattle.std.specs.HashMap as hash
use Rattle.vw_plan.specs.declared.need.Need.{Need}
use Rattle.vw_plan.specs.declared.wire.Wire.{Wire}
use Rattle.vw_check.specs.declared.fault.PlanFault.{PlanFault}
use Rattle.vw_check.specs.declared.fault.PlanFault.TheVariants.{MissingWire, ExtraWire}
use Rattle.vw_net.specs.FirstFound.{first_at, found_if, found_unless}
use Rattle.vw_ready.specs.Pairs.{pair_in}

abbrev pub first_missing : {S : Type 0} → hash.HashMap (ℕ × ℕ) ℕ S → List Need → Option PlanFault
first_missing wires needs = first_at (λ _ need. found_unless (is_some (pair_in wires need.net need.to)) (MissingWire need.net need.to)) 0 needs

abbrev pub is_given_number : ℕ → Option ℕ → Bool
is_given_number number found = option_eq (λ one other. one == other) found (Some number)

abbrev pub is_extra : {S : Type 0} → hash.HashMap (ℕ × ℕ) ℕ S → hash.HashMap (ℕ × ℕ) ℕ S → ℕ → Wire → Bool
is_extra needs wires number wire = not (is_some (pair_in needs wire.net wire.to)) || not (is_given_number number (pair_in wires wire.net wire.to))

abbrev pub first_extra : {S : Type 0} → hash.HashMap (ℕ × ℕ) ℕ S → hash.HashMap (ℕ × ℕ) ℕ S → List Wire → Option PlanFault
first_extra needs wires list = first_at (λ number wire. found_if (is_extra needs wires number wire) (ExtraWire number)) 0 list
