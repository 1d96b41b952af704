-- A design is accepted exactly where it has no fault, and it has one fault but for the circle's list.
use Rattle.std.proofs.Common.{◌≡◌, ℕ, Bool, true, false, List, Option, Some, None, option_map, refl, sym, ◌∙◌, ap, true≢false}
use Rattle.std.specs.Option.{option_or}
use Rattle.std.proofs.lemmas.Option.{none-some, same_Some}
use Rattle.vw_design.specs.declared.design.Design.{Design}
use Rattle.vw_design.specs.Paths.{Word, Net}
use Rattle.vw_design.specs.ModelFaults.{NameAt, NameOf, unknown_model, IsModelCircle, unknown_formal, unbound_input, port_both_ways}
use Rattle.vw_design.specs.Limits.{Counted, too_big}
use Rattle.vw_design.specs.NetFaults.{Unlike, Edged, undriven, two_drivers, gated_clock, several_clocks, several_edges, clock_as_data}
use Rattle.vw_design.specs.Accepted.{IsAccepted, Fault, model_unknown, recursive, formal_unknown, input_unbound, output_both_ways, over_limit, net_undriven, driven_twice, clock_gated, clocks_differ, edges_differ, clock_read, further_fault, IsFurtherFault, IsFaultOf}
use Rattle.vw_design.proofs.Sizes.{small_of, small_fits}
use Rattle.vw_net.proofs.FirstOptions.{or_none}

nothing_made : {A B : Type 0} (make : A → B) (found : Option A) → option_map make found ≡ None → found ≡ None
nothing_made make None none = refl
nothing_made make (Some x) none = absurd (none-some (make x) (sym none))

-- the first of ten
abbrev first_of_ten : Option NameAt → Option NameAt → Option NameOf → Option Counted → Option Net → Option Net → Option Net → Option (Unlike Word) → Option (Unlike Edged) → Option Net → Option Fault
first_of_ten a b c d e f g h i j =
    option_or
    (option_or (option_map (λ x. formal_unknown x) a) (option_or (option_map (λ x. input_unbound x) b) (option_or (option_map (λ x. output_both_ways x) c) (option_map (λ x. over_limit x) d))))
    (option_or (option_map (λ x. net_undriven x) e) (option_or (option_map (λ x. driven_twice x) f) (option_or (option_map (λ x. clock_gated x) g)
    (option_or (option_map (λ x. clocks_differ x) h) (option_or (option_map (λ x. edges_differ x) i) (option_map (λ x. clock_read x) j))))))

record AreNoFaults (a b : Option NameAt) (c : Option NameOf) (d : Option Counted) (e f g : Option Net) (h : Option (Unlike Word)) (i : Option (Unlike Edged)) (j : Option Net) : Type 0 where
  a_none : a ≡ None
  b_none : b ≡ None
  c_none : c ≡ None
  d_none : d ≡ None
  e_none : e ≡ None
  f_none : f ≡ None
  g_none : g ≡ None
  h_none : h ≡ None
  i_none : i ≡ None
  j_none : j ≡ None

-- there is no first where none is there, and none is there where there is no first
no_first : (a b : Option NameAt) (c : Option NameOf) (d : Option Counted) (e f g : Option Net) (h : Option (Unlike Word)) (i : Option (Unlike Edged)) (j : Option Net)
    → AreNoFaults a b c d e f g h i j → first_of_ten a b c d e f g h i j ≡ None
no_first a b c d e f g h i j are = rw (are.a_none, are.b_none, are.c_none, are.d_none, are.e_none, are.f_none, are.g_none, are.h_none, are.i_none, are.j_none) refl

none_first : (a b : Option NameAt) (c : Option NameOf) (d : Option Counted) (e f g : Option Net) (h : Option (Unlike Word)) (i : Option (Unlike Edged)) (j : Option Net)
    → first_of_ten a b c d e f g h i j ≡ None → AreNoFaults a b c d e f g h i j
none_first a b c d e f g h i j none =
    let nets_j = option_map (λ (x : Net). clock_read x) j in
    let nets_i = option_or (option_map (λ (x : Unlike Edged). edges_differ x) i) nets_j in
    let nets_h = option_or (option_map (λ (x : Unlike Word). clocks_differ x) h) nets_i in
    let nets_g = option_or (option_map (λ (x : Net). clock_gated x) g) nets_h in
    let nets_f = option_or (option_map (λ (x : Net). driven_twice x) f) nets_g in
    let nets_e = option_or (option_map (λ (x : Net). net_undriven x) e) nets_f in
    let models_d = option_map (λ (x : Counted). over_limit x) d in
    let models_c = option_or (option_map (λ (x : NameOf). output_both_ways x) c) models_d in
    let models_b = option_or (option_map (λ (x : NameAt). input_unbound x) b) models_c in
    let models_a = option_or (option_map (λ (x : NameAt). formal_unknown x) a) models_b in
    let both = or_none models_a nets_e none in
    let at_a = or_none (option_map (λ (x : NameAt). formal_unknown x) a) models_b both.0 in
    let at_b = or_none (option_map (λ (x : NameAt). input_unbound x) b) models_c at_a.1 in
    let at_c = or_none (option_map (λ (x : NameOf). output_both_ways x) c) models_d at_b.1 in
    let at_e = or_none (option_map (λ (x : Net). net_undriven x) e) nets_f both.1 in
    let at_f = or_none (option_map (λ (x : Net). driven_twice x) f) nets_g at_e.1 in
    let at_g = or_none (option_map (λ (x : Net). clock_gated x) g) nets_h at_f.1 in
    let at_h = or_none (option_map (λ (x : Unlike Word). clocks_differ x) h) nets_i at_g.1 in
    let at_i = or_none (option_map (λ (x : Unlike Edged). edges_differ x) i) nets_j at_h.1 in
    record {
      a_none = nothing_made (λ (x : NameAt). formal_unknown x) a at_a.0;
      b_none = nothing_made (λ (x : NameAt). input_unbound x) b at_b.0;
      c_none = nothing_made (λ (x : NameOf). output_both_ways x) c at_c.0;
      d_none = nothing_made (λ (x : Counted). over_limit x) d at_c.1;
      e_none = nothing_made (λ (x : Net). net_undriven x) e at_e.0;
      f_none = nothing_made (λ (x : Net). driven_twice x) f at_f.0;
      g_none = nothing_made (λ (x : Net). clock_gated x) g at_g.0;
      h_none = nothing_made (λ (x : Unlike Word). clocks_differ x) h at_h.0;
      i_none = nothing_made (λ (x : Unlike Edged). edges_differ x) i at_i.0;
      j_none = nothing_made (λ (x : Net). clock_read x) j at_i.1;
    }

-- whether a fault is one behind the circle
is_further : Fault → Bool
is_further (model_unknown line) = false
is_further (recursive names) = false
is_further (formal_unknown formal) = true
is_further (input_unbound formal) = true
is_further (output_both_ways output) = true
is_further (over_limit counted) = true
is_further (net_undriven net) = true
is_further (driven_twice net) = true
is_further (clock_gated net) = true
is_further (clocks_differ ports) = true
is_further (edges_differ list) = true
is_further (clock_read net) = true

further_or : {A : Type 0} (make : A → Fault) (found : Option A) (rest : Option Fault) (fault : Fault)
    → ((x : A) → is_further (make x) ≡ true) → (rest ≡ Some fault → is_further fault ≡ true)
    → option_or (option_map make found) rest ≡ Some fault → is_further fault ≡ true
further_or make None rest fault makes later is = later is
further_or make (Some x) rest fault makes later is = ap is_further (sym (same_Some (make x) fault is)) ∙ makes x

further_last : {A : Type 0} (make : A → Fault) (found : Option A) (fault : Fault) → ((x : A) → is_further (make x) ≡ true)
    → option_map make found ≡ Some fault → is_further fault ≡ true
further_last make None fault makes is = absurd (none-some fault is)
further_last make (Some x) fault makes is = ap is_further (sym (same_Some (make x) fault is)) ∙ makes x

either : (one other : Option Fault) (fault : Fault) → (one ≡ Some fault → is_further fault ≡ true)
    → (other ≡ Some fault → is_further fault ≡ true) → option_or one other ≡ Some fault → is_further fault ≡ true
either None other fault first second is = second is
either (Some x) other fault first second is = first is

first_further : (a b : Option NameAt) (c : Option NameOf) (d : Option Counted) (e f g : Option Net) (h : Option (Unlike Word)) (i : Option (Unlike Edged)) (j : Option Net) (fault : Fault)
    → first_of_ten a b c d e f g h i j ≡ Some fault → is_further fault ≡ true
unfolding is_further
first_further a b c d e f g h i j fault is =
    let nets_j = option_map (λ (x : Net). clock_read x) j in
    let nets_i = option_or (option_map (λ (x : Unlike Edged). edges_differ x) i) nets_j in
    let nets_h = option_or (option_map (λ (x : Unlike Word). clocks_differ x) h) nets_i in
    let nets_g = option_or (option_map (λ (x : Net). clock_gated x) g) nets_h in
    let nets_f = option_or (option_map (λ (x : Net). driven_twice x) f) nets_g in
    let nets_e = option_or (option_map (λ (x : Net). net_undriven x) e) nets_f in
    let models_d = option_map (λ (x : Counted). over_limit x) d in
    let models_c = option_or (option_map (λ (x : NameOf). output_both_ways x) c) models_d in
    let models_b = option_or (option_map (λ (x : NameAt). input_unbound x) b) models_c in
    let models_a = option_or (option_map (λ (x : NameAt). formal_unknown x) a) models_b in
    let of_d = further_last (λ (x : Counted). over_limit x) d fault (λ x. refl) in
    let of_c = further_or (λ (x : NameOf). output_both_ways x) c models_d fault (λ x. refl) of_d in
    let of_b = further_or (λ (x : NameAt). input_unbound x) b models_c fault (λ x. refl) of_c in
    let of_a = further_or (λ (x : NameAt). formal_unknown x) a models_b fault (λ x. refl) of_b in
    let of_j = further_last (λ (x : Net). clock_read x) j fault (λ x. refl) in
    let of_i = further_or (λ (x : Unlike Edged). edges_differ x) i nets_j fault (λ x. refl) of_j in
    let of_h = further_or (λ (x : Unlike Word). clocks_differ x) h nets_i fault (λ x. refl) of_i in
    let of_g = further_or (λ (x : Net). clock_gated x) g nets_h fault (λ x. refl) of_h in
    let of_f = further_or (λ (x : Net). driven_twice x) f nets_g fault (λ x. refl) of_g in
    let of_e = further_or (λ (x : Net). net_undriven x) e nets_f fault (λ x. refl) of_f in
    either models_a nets_e fault of_a of_e is

module _ (design : Design) where
  no_further : IsAccepted design → further_fault design ≡ None
  no_further accepted =
      no_first (unknown_formal design) (unbound_input design) (port_both_ways design) (too_big design) (undriven design) (two_drivers design) (gated_clock design) (several_clocks design)
      (several_edges design) (clock_as_data design)
      (record {
        a_none = accepted.models.formals_known;
        b_none = accepted.models.inputs_bound;
        c_none = accepted.models.one_way;
        d_none = small_fits design accepted.models.small;
        e_none = accepted.driven;
        f_none = accepted.one_driver;
        g_none = accepted.clocks_free;
        h_none = accepted.one_clock;
        i_none = accepted.one_edge;
        j_none = accepted.no_clock_read;
      })

  -- the three ways to be the fault of a design
  data View (fault : Fault) : Type 0 where
    by_model : (line : ℕ) → fault ≡ model_unknown line → unknown_model design ≡ Some line → View fault
    by_circle : (names : List Word) → fault ≡ recursive names → unknown_model design ≡ None → IsModelCircle design names → View fault
    by_further : IsFurtherFault design fault → View fault

  view : (fault : Fault) → IsFaultOf design fault → View fault
  view (model_unknown line) is = by_model line refl is
  view (recursive names) is = by_circle names refl is.0 is.1
  view (formal_unknown formal) is = by_further is
  view (input_unbound formal) is = by_further is
  view (output_both_ways output) is = by_further is
  view (over_limit counted) is = by_further is
  view (net_undriven net) is = by_further is
  view (driven_twice net) is = by_further is
  view (clock_gated net) is = by_further is
  view (clocks_differ ports) is = by_further is
  view (edges_differ list) is = by_further is
  view (clock_read net) is = by_further is

  fault_is : (fault : Fault) → is_further fault ≡ true → IsFurtherFault design fault → IsFaultOf design fault
  unfolding is_further
  fault_is (model_unknown line) further is = absurd (true≢false (sym further))
  fault_is (recursive names) further is = absurd (true≢false (sym further))
  fault_is (formal_unknown formal) further is = is
  fault_is (input_unbound formal) further is = is
  fault_is (output_both_ways output) further is = is
  fault_is (over_limit counted) further is = is
  fault_is (net_undriven net) further is = is
  fault_is (driven_twice net) further is = is
  fault_is (clock_gated net) further is = is
  fault_is (clocks_differ ports) further is = is
  fault_is (edges_differ list) further is = is
  fault_is (clock_read net) further is = is

  -- an accepted design has no fault
  pub accepted_fine : IsAccepted design → (fault : Fault) → IsFaultOf design fault → ⊥
  accepted_fine accepted fault is = by (view fault is) where
    by : View fault → ⊥
    by (by_model line same found) = none-some line (sym accepted.models.models_known ∙ found)
    by (by_circle names same known circle) = accepted.models.no_circle names circle
    by (by_further further) = none-some fault (sym (no_further accepted) ∙ further.first)

  -- and a design without a fault is accepted
  pub fine_accepted : ((fault : Fault) → IsFaultOf design fault → ⊥) → IsAccepted design
  fine_accepted fine =
      let none = first_none (further_fault design) refl in
      let parts = none_first (unknown_formal design) (unbound_input design) (port_both_ways design) (too_big design) (undriven design) (two_drivers design) (gated_clock design) (several_clocks design)
      (several_edges design) (clock_as_data design) none in
      record {
        models = record {
          models_known = known (unknown_model design) refl;
          no_circle = no_circle;
          formals_known = parts.a_none;
          inputs_bound = parts.b_none;
          one_way = parts.c_none;
          small = small_of design parts.d_none;
        };
        driven = parts.e_none;
        one_driver = parts.f_none;
        clocks_free = parts.g_none;
        one_clock = parts.h_none;
        one_edge = parts.i_none;
        no_clock_read = parts.j_none;
      }
    where
      known : (found : Option ℕ) → unknown_model design ≡ found → unknown_model design ≡ None
      known None is = is
      known (Some line) is = absurd (fine (model_unknown line) is)

      no_circle : (names : List Word) → IsModelCircle design names → ⊥
      no_circle names circle = fine (recursive names) (known (unknown_model design) refl, circle)

      first_none : (found : Option Fault) → further_fault design ≡ found → further_fault design ≡ None
      first_none None is = is
      first_none (Some fault) is =
          let further = first_further (unknown_formal design) (unbound_input design) (port_both_ways design) (too_big design) (undriven design) (two_drivers design) (gated_clock design) (several_clocks design)
          (several_edges design) (clock_as_data design) fault is in
          absurd (fine fault (fault_is fault further (record { models_known = known (unknown_model design) refl; no_circle = no_circle; first = is })))

  -- two faults of a design are one, unless they are circles
  pub one_fault : (one other : Fault) → IsFaultOf design one → IsFaultOf design other → ((names : List Word) → one ≡ recursive names → ⊥) → one ≡ other
  one_fault one other is_one is_other no_circle = by (view one is_one) (view other is_other) where
    by : View one → View other → one ≡ other
    by (by_model line same found) (by_model line_too same_too found_too) =
        same ∙ ap (λ (l : ℕ). model_unknown l) (same_Some line line_too (sym found ∙ found_too)) ∙ sym same_too
    by (by_model line same found) (by_circle names same_too known circle) = absurd (none-some line (sym known ∙ found))
    by (by_model line same found) (by_further further) = absurd (none-some line (sym further.models_known ∙ found))
    by (by_circle names same known circle) second = absurd (no_circle names same)
    by (by_further further) (by_model line same found) = absurd (none-some line (sym further.models_known ∙ found))
    by (by_further further) (by_circle names same known circle) = absurd (further.no_circle names circle)
    by (by_further further) (by_further further_too) = same_Some one other (sym further.first ∙ further_too.first)
