-- The first fault of a design, of models and of nets.
use Rattle.std.proofs.Common.{◌≡◌, Option, Some, None, option_map, refl, sym, ◌∙◌, ap, ap₂}
use Rattle.std.specs.Option.{option_or}
use Rattle.std.proofs.lemmas.Option.{none-some, same_Some}
use Rattle.vw_design.specs.declared.design.Design.{Design}
use Rattle.vw_design.specs.Paths.{Word, Net, printed}
use Rattle.vw_design.specs.ModelFaults.{NameAt, NameOf, unknown_formal, unbound_input, port_both_ways}
use Rattle.vw_design.specs.NetFaults.{Unlike, Edged}
use Rattle.vw_design.specs.Limits.{Counted, too_big}
use Rattle.vw_design.specs.Accepted.{Fault, formal_unknown, input_unbound, output_both_ways, over_limit, net_undriven, driven_twice, clock_gated, clocks_differ, edges_differ, clock_read, HasNoModelFault, fault_of_models, fault_of_nets, IsFurtherFault}
use Rattle.vw_design.proofs.Sizes.{small_fits}
use Rattle.vw_net_faults.specs.declared.nets.Pair.{Pair}
use Rattle.vw_net_faults.specs.Nets.{printed_net, ports_pair, latches_pair}
use Rattle.vw_elab.specs.Steps.FaultSearch.{HasKnownModels}

-- nothing is found where nothing is told
pub nothing_found : {A B : Type 0} → (f : A → B) (found : Option A) (told : Option B) → told ≡ option_map f found → told ≡ None → found ≡ None
nothing_found f None told is none = refl
nothing_found f (Some x) told is none = absurd (none-some (f x) (sym none ∙ is))

-- what is printed is a net
pub printed_is : (found : Option Net) (text : Word) → Some text ≡ printed_net found → (net : Net) × (found ≡ Some net) × (text ≡ printed net)
printed_is None text is = absurd (none-some text (sym is))
printed_is (Some net) text is = (net, refl, same_Some text (printed net) is)

-- what is told is what is found
pub told_is : {A B : Type 0} (f : A → B) (told : Option A) (x : A) (found : Option B) → option_map f told ≡ found → told ≡ Some x → found ≡ Some (f x)
told_is f told x found is some = sym is ∙ ap (option_map f) some

pub nothing_told : {A B : Type 0} (f : A → B) (told : Option A) (found : Option B) → option_map f told ≡ found → told ≡ None → found ≡ None
nothing_told f told found is none = sym is ∙ ap (option_map f) none

pub unlike_ports_are : (found : Option (Unlike Word)) (pair : Pair) → Some pair ≡ ports_pair found → found ≡ Some (record { first = pair.first; other = pair.other })
unlike_ports_are None pair is = absurd (none-some pair (sym is))
unlike_ports_are (Some two) pair is = ap (λ (p : Pair). Some (record { first = p.first; other = p.other })) (sym (same_Some pair (record { first = two.first; other = two.other }) is))

pub record ArePrinted (found : Option (Unlike Edged)) (pair : Pair) : Type 0 where
  pub latches : Unlike Edged
  pub are : found ≡ Some latches
  pub first : pair.first ≡ printed latches.first.net
  pub other : pair.other ≡ printed latches.other.net

pub latches_are : (found : Option (Unlike Edged)) (pair : Pair) → Some pair ≡ latches_pair found → ArePrinted found pair
latches_are None pair is = absurd (none-some pair (sym is))
latches_are (Some latches) pair is =
    let same = same_Some pair (record { first = printed latches.first.net; other = printed latches.other.net }) is in
    record {
      latches = latches;
      are = refl;
      first = ap (λ (p : Pair). p.first) same;
      other = ap (λ (p : Pair). p.other) same;
    }

-- the faults of nets in their order
abbrev pub nets_by : Option Net → Option Net → Option Net → Option (Unlike Word) → Option (Unlike Edged) → Option Net → Option Fault
nets_by a b c d e f =
    option_or (option_map (λ net. net_undriven net) a)
    (option_or (option_map (λ net. driven_twice net) b)
    (option_or (option_map (λ net. clock_gated net) c)
    (option_or (option_map (λ ports. clocks_differ ports) d)
    (option_or (option_map (λ list. edges_differ list) e) (option_map (λ net. clock_read net) f)))))

pub by_parts : {a a2 b b2 c c2 f f2 : Option Net} → {d d2 : Option (Unlike Word)} → {e e2 : Option (Unlike Edged)} → a ≡ a2 → b ≡ b2 → c ≡ c2 → d ≡ d2 → e ≡ e2 → f ≡ f2
    → nets_by a b c d e f ≡ nets_by a2 b2 c2 d2 e2 f2
by_parts a b c d e f = λ i. nets_by (a i) (b i) (c i) (d i) (e i) (f i)

-- and those of models before them
abbrev pub models_by : Option NameAt → Option NameAt → Option NameOf → Option Counted → Option Fault
models_by a b c d =
    option_or (option_map (λ formal. formal_unknown formal) a)
    (option_or (option_map (λ input. input_unbound input) b)
    (option_or (option_map (λ output. output_both_ways output) c) (option_map (λ counted. over_limit counted) d)))

-- the first fault of models is the design's
pub first_of_models : (design : Design) → HasKnownModels design → {a b : Option NameAt} → {c : Option NameOf} → (fault : Fault)
    → unknown_formal design ≡ a → unbound_input design ≡ b → port_both_ways design ≡ c → models_by a b c (too_big design) ≡ Some fault → IsFurtherFault design fault
first_of_models design models fault formals inputs outputs is = record {
  models_known = models.known;
  no_circle = models.no_circle;
  first = ap (λ (first : Option Fault). option_or first (fault_of_nets design)) ((λ i. models_by (formals i) (inputs i) (outputs i) (too_big design)) ∙ is);
}

module _ (design : Design) (faultless : HasNoModelFault design) where
  no_fault_of_models : fault_of_models design ≡ None
  no_fault_of_models =
      ap₂ option_or (ap (option_map (λ (x : NameAt). formal_unknown x)) faultless.formals_known)
      (ap₂ option_or (ap (option_map (λ (x : NameAt). input_unbound x)) faultless.inputs_bound)
      (ap₂ option_or (ap (option_map (λ (x : NameOf). output_both_ways x)) faultless.one_way)
      (ap (option_map (λ (x : Counted). over_limit x)) (small_fits design faultless.small))))

  -- the first fault of nets is the design's
  pub of_nets : (fault : Fault) → fault_of_nets design ≡ Some fault → IsFurtherFault design fault
  of_nets fault is = record {
    models_known = faultless.models_known;
    no_circle = faultless.no_circle;
    first = ap₂ option_or no_fault_of_models is;
  }
