-- Two ports by their numbers.
use Rattle.std.proofs.Common.{◌≡◌, ◌==◌, ℕ, Bool, true, false, not, cond, List, [], ◌∷◌, ◌++◌, Option, Some, None, slice_get, find, map, option_map, refl, sym, ◌∙◌, ap}
use Rattle.std.specs.Str.{bytes_eq}
use Rattle.std.proofs.lemmas.List.Folds.{list_any-append}
use Rattle.std.proofs.lemmas.Option.{same_Some, none-some}
use Rattle.vw_design.specs.declared.design.Design.{Design}
use Rattle.vw_design.specs.declared.model.Model.{Model}
use Rattle.vw_design.specs.Distinct.{has_name}
use Rattle.vw_design.specs.Paths.{Word, Net}
use Rattle.vw_design.specs.Clocks.{port_of, inputs_of, clocks_of, control_ports}
use Rattle.vw_design.specs.Drivers.{Source, at_port, at_cell, driver}
use Rattle.vw_design.specs.NetReads.{controls}
use Rattle.vw_design.specs.NetFaults.{first_unlike, several_clocks}
use Rattle.vw_design.proofs.DriverNumbers.{driver_is}
use Rattle.vw_design.proofs.ListElements.{Has, Has-at, from-filter_map, from-find}
use Rattle.vw_design.proofs.Names.{name_same}
use Rattle.vw_drivers.specs.Firsts.{First, number_named}
use Rattle.vw_net_faults.specs.Nets.{ports_pair}
use Rattle.vw_net_faults.specs.Steps.Ports.{root_ports}
use Rattle.vw_net_faults.proofs.PortNumbers.{somes, same_numbers}

-- what is found among names, and among their numbers
abbrev pub IsAlike : List First → Option Word → Option ℕ → Type 0
IsAlike root None None = Unit {0}
IsAlike root None (Some number) = ⊥
IsAlike root (Some name) None = ⊥
IsAlike root (Some name) (Some number) = number_named root name ≡ Some number

module _ (root : List First) where
  alike : (one : Word) (n : ℕ) → number_named root one ≡ Some n → (names : List Word) (numbers : List ℕ) → map (number_named root) names ≡ somes numbers
      → IsAlike root (find (λ other. not (bytes_eq one other)) names) (find (λ number. not (n == number)) numbers)
  alike one n is [] [] are = tt
  alike one n is [] (k ∷ numbers) are = cc
  alike one n is (name ∷ names) [] are = cc
  alike one n is (name ∷ names) (k ∷ numbers) are =
      let first : number_named root name ≡ Some k = cc in
      let rest : map (number_named root) names ≡ somes numbers = cc in
      by (not (bytes_eq one name)) (not (n == k)) (ap not (same_numbers root one name n k is first)) first (alike one n is names numbers rest)
    where
      by : (b c : Bool) → b ≡ c → number_named root name ≡ Some k
          → IsAlike root (find (λ other. not (bytes_eq one other)) names) (find (λ number. not (n == number)) numbers)
          → IsAlike root (cond b (Some name) (find (λ other. not (bytes_eq one other)) names)) (cond c (Some k) (find (λ number. not (n == number)) numbers))
      by true true same first rest = first
      by true false same first rest = cc
      by false true same first rest = cc
      by false false same first rest = rest

  alike_none : (name : Option Word) (number : Option ℕ) → IsAlike root name number → None ≡ number → name ≡ None
  alike_none None number is none = refl
  alike_none (Some name) None is none = absurd is
  alike_none (Some name) (Some number) is none = cc

  alike_some : (name : Option Word) (number : Option ℕ) → IsAlike root name number → (n : ℕ) → Some n ≡ number
      → (found : Word) × (name ≡ Some found) × (number_named root found ≡ Some n)
  alike_some None None is n some = cc
  alike_some None (Some number) is n some = absurd is
  alike_some (Some name) None is n some = cc
  alike_some (Some name) (Some number) is n some = (name, refl, is ∙ sym some)

  first_name : (names : List Word) (numbers : List ℕ) → map (number_named root) names ≡ somes numbers → (n : ℕ) → Some n ≡ slice_get numbers 0
      → (one : Word) × (slice_get names 0 ≡ Some one) × (number_named root one ≡ Some n)
  first_name [] [] are n is = cc
  first_name [] (k ∷ numbers) are n is = cc
  first_name (name ∷ names) [] are n is = cc
  first_name (name ∷ names) (k ∷ numbers) are n is =
      let first : number_named root name ≡ Some k = cc in
      (name, refl, first ∙ sym is)

unlike_of : (names : List Word) (one : Word) → slice_get names 0 ≡ Some one → first_unlike bytes_eq names ≡ option_map (λ other. record { first = one; other = other }) (find (λ other. not (bytes_eq one other)) names)
unlike_of [] one is = cc
unlike_of (name ∷ names) one is =
    sym (ap (λ (b : Bool). option_map (λ (other : Word). record { first = name; other = other }) (cond (not b) (Some name) (find (λ (other : Word). not (bytes_eq name other)) names))) (name_same name))
    ∙ ap (λ (w : Word). option_map (λ (other : Word). record { first = w; other = other }) (find (λ (other : Word). not (bytes_eq w other)) (name ∷ names))) (same_Some name one is)

-- a port that drives a control is a port of the root
module _ (design : Design) where
  port_source : (source : Option Source) (name : Word) → port_of source ≡ Some name → source ≡ Some (at_port name)
  port_source None name is = absurd (none-some name is)
  port_source (Some (at_port port)) name is = ap (λ (w : Word). Some (at_port w)) (same_Some port name is)
  port_source (Some (at_cell path item)) name is = absurd (none-some name is)

  control_is_port : (name : Word) → Has name (control_ports design) → has_name (root_ports design) name ≡ true
  control_is_port name has =
      let net = from-filter_map (λ (net : Net). port_of (driver design net.path net.name)) name (controls design) has in
      let found = driver_is design net.0.path net.0.name (at_port name) (port_source (driver design net.0.path net.0.name) name net.2) in
      ap (λ (m : Option Model). has_name (inputs_of m ++ clocks_of m) name) found.1
      ∙ list_any-append (λ (other : Word). bytes_eq other name) found.0.inputs found.0.clocks ∙ found.2

  module _ (root : List First) (numbers : List ℕ) (are : map (number_named root) (control_ports design) ≡ somes numbers) (n : ℕ) (first : Some n ≡ slice_get numbers 0) where
    abbrev one : (one : Word) × (slice_get (control_ports design) 0 ≡ Some one) × (number_named root one ≡ Some n)
    one = first_name root (control_ports design) numbers are n first

    pub one_clock : None ≡ find (λ number. not (n == number)) numbers → None ≡ ports_pair (several_clocks design)
    one_clock none =
        sym (ap ports_pair (unlike_of (control_ports design) one.0 one.1 ∙ ap (option_map (λ (other : Word). record { first = one.0; other = other }))
        (alike_none root (find (λ other. not (bytes_eq one.0 other)) (control_ports design)) (find (λ number. not (n == number)) numbers) (alike root one.0 n one.2 (control_ports design) numbers are) none)))

    pub two_clocks : (k : ℕ) → Some k ≡ find (λ number. not (n == number)) numbers
        → {P : Type 0}
        → ((first other : Word) → has_name (root_ports design) first ≡ true → has_name (root_ports design) other ≡ true → number_named root first ≡ Some n → number_named root other ≡ Some k
        → Some (record { first = first; other = other }) ≡ ports_pair (several_clocks design) → P) → P
    two_clocks k some then =
        let found = alike_some root (find (λ other. not (bytes_eq one.0 other)) (control_ports design)) (find (λ number. not (n == number)) numbers) (alike root one.0 n one.2 (control_ports design) numbers are) k some in
        let has = from-find (λ (other : Word). not (bytes_eq one.0 other)) found.0 (control_ports design) found.1 in
        then one.0 found.0 (control_is_port one.0 (Has-at one.0 (control_ports design) 0 one.1)) (control_is_port found.0 has.0) one.2 found.2
        (sym (ap ports_pair (unlike_of (control_ports design) one.0 one.1 ∙ ap (option_map (λ (other : Word). record { first = one.0; other = other })) found.1)))
