-- Sizes of a design, and their limits.
use Rattle.std.proofs.Common.{◌≡◌, ◌≤◌, Bool, true, false, not, cond, List, [], ◌∷◌, length, Some, None, filter, find, nat_lt, inl, inr, refl, sym, ◌∙◌, ap, true≢false, arith}
use Rattle.std.specs.Str.{bytes_eq}
use Rattle.std.proofs.lemmas.Bool.{ltb-false, le-ltb, not-true, not_from_false, or_parts}
use Rattle.std.proofs.lemmas.List.Folds.{list_any-append}
use Rattle.vw_design.specs.declared.design.Design.{Design}
use Rattle.vw_design.specs.Distinct.{has_name}
use Rattle.vw_design.specs.Paths.{Word, model_at}
use Rattle.vw_design.specs.Clocks.{inputs_of, clocks_of, control_ports, clock_ports, columns}
use Rattle.vw_design.specs.Limits.{input_count, output_count, instance_count, binding_count, cell_count, greatest_depth, IsSmall, Counted, inputs, outputs, placed, bindings, gates_and_latches, levels, count_of, limit_of, too_big}
use Rattle.vw_design.proofs.ListElements.{Has, none-find}

-- a test that lets less through leaves no more
fewer : {A : Type 0} (narrow wide : A → Bool) → ((x : A) → narrow x ≡ true → wide x ≡ true) → (xs : List A)
    → length (filter narrow xs) ≤ length (filter wide xs)
fewer narrow wide keeps [] = omega arith
fewer {A} narrow wide keeps (x ∷ xs) = by (narrow x) refl (wide x) refl (fewer narrow wide keeps xs) where
  by : (a : Bool) → narrow x ≡ a → (b : Bool) → wide x ≡ b → length (filter narrow xs) ≤ length (filter wide xs)
      → length (cond a (x ∷ filter narrow xs) (filter narrow xs)) ≤ length (cond b (x ∷ filter wide xs) (filter wide xs))
  by true is true is_wide rest = omega (arith, rest)
  by true is false is_wide rest = absurd (true≢false (sym (keeps x is) ∙ is_wide))
  by false is true is_wide rest = omega (arith, rest)
  by false is false is_wide rest = rest

-- the columns are among the inputs that count
pub few_columns : (design : Design) → length (columns design) ≤ input_count design
unfolding columns clock_ports
few_columns design =
    fewer (λ (name : Word). not (has_name (clock_ports design) name)) (λ (name : Word). not (has_name (clocks_of (model_at design [])) name)) keeps (inputs_of (model_at design []))
  where
    keeps : (name : Word) → not (has_name (clock_ports design) name) ≡ true → not (has_name (clocks_of (model_at design [])) name) ≡ true
    keeps name no_clock =
        let none = not-true (has_name (clock_ports design) name) no_clock in
        let parts = or_parts (has_name (clocks_of (model_at design [])) name) (has_name (control_ports design) name)
        (sym (list_any-append (λ (w : Word). bytes_eq w name) (clocks_of (model_at design [])) (control_ports design)) ∙ none) in
        not_from_false (has_name (clocks_of (model_at design [])) name) parts.0

abbrev all_counted : List Counted
all_counted = inputs ∷ outputs ∷ placed ∷ bindings ∷ gates_and_latches ∷ levels ∷ []

within_limit : (design : Design) → too_big design ≡ None → (counted : Counted) → Has counted all_counted → count_of design counted ≤ limit_of counted
within_limit design none counted has =
    ltb-false (limit_of counted) (count_of design counted) (none-find (λ (c : Counted). nat_lt (limit_of c) (count_of design c)) counted all_counted none has)

-- no quantity is too big where all are small
pub small_of : (design : Design) → too_big design ≡ None → IsSmall design
small_of design none = record {
  inputs = within_limit design none inputs (inl refl);
  outputs = within_limit design none outputs (inr (inl refl));
  instances = within_limit design none placed (inr (inr (inl refl)));
  bindings = within_limit design none bindings (inr (inr (inr (inl refl))));
  cells = within_limit design none gates_and_latches (inr (inr (inr (inr (inl refl)))));
  depth = within_limit design none levels (inr (inr (inr (inr (inr (inl refl))))));
}

skip : {A : Type 0} (test : A → Bool) (x : A) (xs : List A) → test x ≡ false → find test xs ≡ None → find test (x ∷ xs) ≡ None
skip test x xs fails rest = ap (λ (b : Bool). cond b (Some x) (find test xs)) fails ∙ rest

pub small_fits : (design : Design) → IsSmall design → too_big design ≡ None
small_fits design small =
    let test = λ (c : Counted). nat_lt (limit_of c) (count_of design c) in
    skip test inputs (outputs ∷ placed ∷ bindings ∷ gates_and_latches ∷ levels ∷ []) (le-ltb 4096 (input_count design) small.inputs)
    (skip test outputs (placed ∷ bindings ∷ gates_and_latches ∷ levels ∷ []) (le-ltb 4096 (output_count design) small.outputs)
    (skip test placed (bindings ∷ gates_and_latches ∷ levels ∷ []) (le-ltb 65536 (instance_count design) small.instances)
    (skip test bindings (gates_and_latches ∷ levels ∷ []) (le-ltb 1048576 (binding_count design) small.bindings)
    (skip test gates_and_latches (levels ∷ []) (le-ltb 65536 (cell_count design) small.cells)
    (skip test levels [] (le-ltb 64 (greatest_depth design) small.depth) refl)))))
