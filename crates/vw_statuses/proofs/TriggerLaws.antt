-- A run that a trigger ends is a run over fewer rows.
use Rattle.std.proofs.Common.{◌≡◌, ◌+◌, ◌-◌, ◌++◌, ◌∙◌, ℕ, suc, Bool, true, false, List, [], ◌∷◌, Option, Some, None, drop, take, length, length-append, append_assoc, map, refl, sym, ap, ap₂, subst, inl, inr, arith}
use Rattle.std.proofs.lemmas.List.{drop-take, get_or_push, map-append, take_at}
use Rattle.std.proofs.lemmas.List.Elements.{All-cons, All-nil}
use Rattle.std.specs.List.{AllZip}
use Rattle.std.specs.Prelude.{if◌then◌else◌}
use Rattle.vw_net.specs.History.{History}
use Rattle.vw_design.specs.declared.design.Design.{Design}
use Rattle.vw_design.specs.NetReads.{root_outputs}
use Rattle.vw_design.specs.PathHistory.{path_outputs, path_outputs_from, path_next, path_history_from, path_start}
use Rattle.vw_design.specs.Paths.{Word, Net}
use Rattle.vw_design.specs.PathValue.{path_value}
use Rattle.vw_design.specs.Preorder.{latches}
use Rattle.vw_design.specs.Probes.{Finds, FindAll, shown_nets}
use Rattle.vw_flat.proofs.FirstProbes.{all_once}
use Rattle.vw_flat.proofs.NetsBelow.{finds_once}
use Rattle.vw_front.specs.Designs.{WatchedDesign, spells_once}
use Rattle.vw_front.specs.Names.{signal_names}
use Rattle.vw_resume.specs.declared.state.State.{State}
use Rattle.vw_rows.specs.Trace.{trace_text_from}
use Rattle.vw_trace.specs.Triggers.{but_last, clocks_until, last_is_1, shown}
use Rattle.vw_vcd.specs.Lines.{wave_text_from}
use Rattle.vw_wave.specs.FlatWave.{signal_rows}
use Rattle.vw_courses.specs.Commands.{shown_of, saved_of, texts_kept}
use Rattle.vw_statuses.specs.Triggers.{clocks_to, net_bits, EndsAtFirstOne, EndsRuns, TriggersEndRuns}

but_last_push : (bits : List Bool) (bit : Bool) → but_last (bits ++ bit ∷ []) ≡ bits
but_last_push bits bit =
    let less : length (bits ++ bit ∷ []) - 1 ≡ length bits = omega (arith, length-append bits (bit ∷ [])) in
    take_at bits (bit ∷ []) (length (bits ++ bit ∷ []) - 1) (sym less)

last_push : (bits : List Bool) (bit : Bool) → last_is_1 (bits ++ bit ∷ []) ≡ bit
last_push bits bit =
    let place : length bits ≡ length (bits ++ bit ∷ []) - 1 = omega (arith, length-append bits (bit ∷ [])) in
    get_or_push bits bit false (length (bits ++ bit ∷ []) - 1) place

-- one bit before others
first_more : (bit : Bool) (rest : List Bool) (count : ℕ) → EndsAtFirstOne rest count → EndsAtFirstOne (bit ∷ rest) (if bit then 1 else suc count)
first_more true rest count is = inl (record { before = []; behind = rest; split = refl; none = All-nil (λ (bit : Bool). bit ≡ false); counted = refl })
first_more false rest count (inl one) = inl (record {
  before = false ∷ one.before;
  behind = one.behind;
  split = ap (λ (list : List Bool). false ∷ list) one.split;
  none = All-cons (λ (bit : Bool). bit ≡ false) false one.before refl one.none;
  counted = ap suc one.counted;
})
first_more false rest count (inr (none, all)) = inr (All-cons (λ (bit : Bool). bit ≡ false) false rest refl none, ap suc all)

-- ---- a design with these nets, and with one more

module _ (design : Design) (nets : List Net) (last : Net) where
  abbrev more : List Net
  more = nets ++ last ∷ []

  one_less : (row state : List Bool) → but_last (path_outputs design more row state) ≡ path_outputs design nets row state
  one_less row state =
      let value : Net → Bool = λ net. path_value design row state net.path net.name in
      ap (λ (all : List Net). but_last (map value all)) (sym (append_assoc (root_outputs design) nets (last ∷ [])))
      ∙ ap but_last (map-append value (shown_nets design nets) (last ∷ []))
      ∙ but_last_push (map value (shown_nets design nets)) (value last)

  last_bit : (row state : List Bool) → last_is_1 (path_outputs design more row state) ≡ path_value design row state last.path last.name
  last_bit row state =
      let value : Net → Bool = λ net. path_value design row state net.path net.name in
      ap (λ (all : List Net). last_is_1 (map value all)) (sym (append_assoc (root_outputs design) nets (last ∷ [])))
      ∙ ap last_is_1 (map-append value (shown_nets design nets) (last ∷ []))
      ∙ last_push (map value (shown_nets design nets)) (value last)

  -- the clocks that count are told by the bits of the last net
  first_one : (state : List Bool) (rows : List (List Bool)) → EndsAtFirstOne (net_bits design last state rows) (clocks_until (path_outputs_from design more state rows))
  first_one state [] = inr (All-nil (λ (bit : Bool). bit ≡ false), refl)
  first_one state (row ∷ rows) =
      let after = path_next design row state in
      let value : Bool = path_value design row state last.path last.name in
      let rest : List Bool = net_bits design last after rows in
      let count : ℕ = clocks_until (path_outputs_from design more after rows) in
      subst (λ (bit : Bool). EndsAtFirstOne (value ∷ rest) (if bit then 1 else suc count)) (sym (last_bit row state)) (first_more value rest count (first_one after rows))

  each_less : (state : List Bool) (rows : List (List Bool)) → map but_last (path_outputs_from design more state rows) ≡ path_outputs_from design nets state rows
  each_less state [] = refl
  each_less state (row ∷ rows) = ap₂ (λ (one : List Bool) (others : List (List Bool)). one ∷ others) (one_less row state) (each_less (path_next design row state) rows)

  shown_less : (state : List Bool) (rows : List (List Bool)) → shown true (path_history_from design more state rows) ≡ path_history_from design nets state rows
  shown_less state rows =
      ap (λ (outputs : List (List Bool)). record (path_history_from design nets state rows) { outputs = outputs }) (each_less state rows)

  abbrev watched : WatchedDesign
  watched = record { design = design; nets = more }

  abbrev plain : WatchedDesign
  plain = record { design = design; nets = nets }

  abbrev ended : List Bool → List (List Bool) → List (List Bool)
  ended state rows = take (clocks_to watched state rows) rows

  -- what is shown is what is shown of the other over fewer rows
  fewer_shown : (state : List Bool) (rows : List (List Bool)) → shown_of true watched state rows ≡ path_history_from design nets state (ended state rows)
  fewer_shown state rows = shown_less state (ended state rows)

  nets_less : length more - 1 ≡ length nets
  nets_less = omega (arith, length-append nets (last ∷ []))

  -- of all rows, those before the state and those that count behind it
  abbrev upto : State → List (List Bool) → List (List Bool)
  upto from rows = take (from.clock + clocks_to watched from.latches (drop from.clock rows)) rows

  behind : (from : State) (rows : List (List Bool)) → ended from.latches (drop from.clock rows) ≡ drop from.clock (upto from rows)
  behind from rows = sym (drop-take from.clock (clocks_to watched from.latches (drop from.clock rows)) rows)

  fewer_replayed : (from : State) (rows : List (List Bool))
      → shown_of true watched from.latches (drop from.clock rows) ≡ path_history_from design nets from.latches (drop from.clock (upto from rows))
  fewer_replayed from rows =
      fewer_shown from.latches (drop from.clock rows) ∙ ap (λ (these : List (List Bool)). path_history_from design nets from.latches these) (behind from rows)

  states_same : (unknown : Bool) (every : Option ℕ) (rows : List (List Bool)) → texts_kept every (saved_of unknown) watched rows ≡ texts_kept every (saved_of unknown) plain rows
  states_same unknown None rows = refl
  states_same unknown (Some every) rows = refl

  ends : (probes : List Word) (trigger : Word) → ((net : Net) → Finds design trigger net → net ≡ last) → EndsRuns probes trigger watched plain
  ends probes trigger found = record {
    clocks = λ net finds state rows. subst (λ (one : Net). EndsAtFirstOne (net_bits design one state rows) (clocks_to watched state rows)) (sym (found net finds)) (first_one state rows);
    traces = λ unknown rows. ap₂ (λ (count : ℕ) (history : History). trace_text_from 0 (length (root_outputs design)) count (length (latches design)) history) nets_less (fewer_shown (path_start unknown design) rows);
    waves = λ unknown rows. ap (λ (history : History). wave_text_from 0 (signal_names probes design) (signal_rows history)) (fewer_shown (path_start unknown design) rows);
    states = λ unknown every rows. states_same unknown every (ended (path_start unknown design) rows);
    replayed_traces = λ from rows. ap₂ (λ (count : ℕ) (history : History). trace_text_from from.clock (length (root_outputs design)) count (length (latches design)) history) nets_less (fewer_replayed from rows);
    replayed_waves = λ from rows. ap (λ (history : History). wave_text_from from.clock (signal_names probes design) (signal_rows history)) (fewer_replayed from rows);
  }

-- ---- from the text of a design

-- what goes along with a list and one more is a list and one more
last_along : {A B : Type 0} (R : A → B → Type 0) (xs : List A) (x : A) (all : List B) → AllZip R (xs ++ x ∷ []) all
    → (ys : List B) × (y : B) × (all ≡ ys ++ y ∷ []) × AllZip R xs ys × R x y
last_along R [] x [] along = absurd along
last_along R [] x (y ∷ []) along = ([], y, refl, tt, along.0)
last_along R [] x (y ∷ z ∷ more) along = absurd along.1
last_along R (w ∷ xs) x [] along = absurd along
last_along {B = B} R (w ∷ xs) x (y ∷ all) along =
    let rest = last_along R xs x all along.1 in
    (y ∷ rest.0, rest.1, ap (λ (list : List B). y ∷ list) rest.2, (along.0, rest.3), rest.4)

pub triggers_end : TriggersEndRuns
triggers_end probes trigger d watched plain is bare =
    let same : watched.design ≡ plain.design = spells_once d watched.design plain.design is.design_of.spelled bare.design_of.spelled in
    let found : FindAll plain.design (probes ++ trigger ∷ []) watched.nets = subst (λ (design : Design). FindAll design (probes ++ trigger ∷ []) watched.nets) same is.found in
    let cut = last_along (Finds plain.design) probes trigger watched.nets found in
    let nets : cut.0 ≡ plain.nets = all_once plain.design bare.design_of.accepted probes cut.0 plain.nets cut.3 bare.found in
    let all : watched.nets ≡ plain.nets ++ cut.1 ∷ [] = cut.2 ∙ ap (λ (list : List Net). list ++ cut.1 ∷ []) nets in
    let one : record { design = plain.design; nets = plain.nets ++ cut.1 ∷ [] } ≡ watched =
    ap₂ (λ (design : Design) (list : List Net). record { design = design; nets = list }) (sym same) (sym all) in
    subst (λ (its : WatchedDesign). EndsRuns probes trigger its plain) one
    (ends plain.design plain.nets cut.1 probes trigger (λ net finds. finds_once plain.design bare.design_of.accepted trigger net cut.1 finds cut.4))
