-- The models that are reached: the root's, and those that a reached one places.
use Rattle.std.proofs.Common.{◌≡◌, ◌<◌, ◌≤◌, ◌+◌, not, ℕ, zero, suc, Bool, true, false, cond, List, [], ◌∷◌, ◌++◌, length, length-append, map, Option, Some, None, is_some, option_and_then, find, ◌⊎◌, inl, inr, ⊎_elim, refl, sym, ◌∙◌, ap, subst, true≢false, eqb, unwrap_or, arith}
use Rattle.std.specs.List.{list_any, IsDistinct}
use Rattle.std.specs.Str.{bytes_eq}
use Rattle.std.proofs.lemmas.Bool.{cases_Bool, and_parts, or_cases, not-true, eqb-true}
use Rattle.std.proofs.lemmas.Map.Steps.{length-le_from_distinct_below}
use Rattle.std.proofs.lemmas.Option.{same_Some, slice_get_within}
use Rattle.vw_design.specs.declared.item.Bind.{Bind}
use Rattle.vw_design.specs.declared.item.Item.{Item}
use Rattle.vw_design.specs.declared.item.Item.TheVariants.{Names, Latch, Sub}
use Rattle.vw_design.specs.declared.model.Model.{Model}
use Rattle.vw_design.specs.declared.design.Design.{Design}
use Rattle.vw_design.specs.Distinct.{has_name, are_distinct}
use Rattle.vw_net.specs.FirstFound.{first_place}
use Rattle.vw_design.specs.Paths.{Word, Path, model_named, model_placed, model_at, items_of}
use Rattle.vw_design.specs.Claims.{numbered}
use Rattle.vw_design.specs.Preorder.{instances}
use Rattle.vw_design.specs.ModelFaults.{has_model_name, is_reached, names_model, model_places}
use Rattle.vw_design.proofs.ListElements.{Has, Has-at, at-Has, any-Has, from-any, from-find, some-place, at-place}
use Rattle.vw_design.proofs.Names.{same_name, name_same, equal_names, has_name-Has}
use Rattle.vw_design.proofs.Entries.{entry_of, item_entry, placing_entry}
use Rattle.vw_design.proofs.ListedInstances.{placer, placing_of_placed, instance_listed}
use Rattle.vw_design.proofs.ShallowDesigns.{model_in_file}
use Rattle.vw_design.proofs.Weights.{model_behind}
use Rattle.vw_design.proofs.FilteredLists.{distinct_more}

-- a model of a list in which names differ is the one of its name
has_model : (model : Model) (models : List Model) → Has model models → Has model.name (map (λ m. m.name) models)
has_model model [] has = absurd has
has_model model (first ∷ models) has = ⊎_elim (λ same. inl (ap (λ (m : Model). m.name) same)) (λ later. inr (has_model model models later)) has

pub named_model : (model : Model) (models : List Model) → are_distinct (map (λ m. m.name) models) ≡ true → Has model models
    → model_named models model.name ≡ Some model
named_model model [] distinct has = absurd has
named_model model (first ∷ models) distinct has =
    let parts = and_parts (not (has_name (map (λ (m : Model). m.name) models) first.name)) (are_distinct (map (λ (m : Model). m.name) models)) distinct in
    ⊎_elim
    (λ same. ap (λ (b : Bool). cond b (Some first) (find (λ (m : Model). bytes_eq m.name model.name) models)) (equal_names first.name model.name (ap (λ (m : Model). m.name) same))
    ∙ ap (λ (m : Model). Some m) same)
    (λ later. by (bytes_eq first.name model.name) refl (not-true (has_name (map (λ (m : Model). m.name) models) first.name) parts.0) later (named_model model models parts.1 later)) has
  where
    by : (b : Bool) → bytes_eq first.name model.name ≡ b → has_name (map (λ (m : Model). m.name) models) first.name ≡ false
        → Has model models → model_named models model.name ≡ Some model
        → cond b (Some first) (find (λ (m : Model). bytes_eq m.name model.name) models) ≡ Some model
    by true is fresh later rest =
        let among = has_name-Has (map (λ (m : Model). m.name) models) first.name
        (subst (λ (w : Word). Has w (map (λ (m : Model). m.name) models)) (sym (same_name first.name model.name is)) (has_model model models later)) in
        absurd (true≢false (sym among ∙ fresh))
    by false is fresh later rest = rest

module _ (design : Design) where
  pub model_is_named : (path : Path) (model : Model) → model_at design path ≡ Some model → model_named design.models model.name ≡ Some model
  model_is_named path model stands = named_model model design.models design.named (model_in_file design path model stands)

  -- the number of a model in the file
  abbrev number_in_file : Option Model → ℕ
  number_in_file None = 0
  number_in_file (Some model) = unwrap_or (first_place (λ (m : Model). bytes_eq m.name model.name) design.models) 0

  number_below : (path : Path) (model : Model) → model_at design path ≡ Some model
      → (place : ℕ) × (first_place (λ (m : Model). bytes_eq m.name model.name) design.models ≡ Some place) × (place < length design.models)
  number_below path model stands =
      let found = some-place (λ (m : Model). bytes_eq m.name model.name) model design.models (model_in_file design path model stands) (name_same model.name) in
      let at = at-place (λ (m : Model). bytes_eq m.name model.name) design.models found.0 found.1 in
      (found.0, found.1, slice_get_within design.models found.0 at.0 at.1)

  -- two models with one number are one
  same_number : (path other : Path) (one two : Model) → model_at design path ≡ Some one → model_at design other ≡ Some two → (place : ℕ)
      → first_place (λ (m : Model). bytes_eq m.name one.name) design.models ≡ Some place
      → first_place (λ (m : Model). bytes_eq m.name two.name) design.models ≡ Some place → one ≡ two
  same_number path other one two at_one at_two place is_one is_two =
      let a = at-place (λ (m : Model). bytes_eq m.name one.name) design.models place is_one in
      let b = at-place (λ (m : Model). bytes_eq m.name two.name) design.models place is_two in
      let same : a.0 ≡ b.0 = same_Some a.0 b.0 (sym a.1 ∙ b.1) in
      let names : one.name ≡ two.name = sym (same_name a.0.name one.name a.2) ∙ ap (λ (m : Model). m.name) same ∙ same_name b.0.name two.name b.2 in
      same_Some one two (sym (model_is_named path one at_one) ∙ ap (model_named design.models) names ∙ model_is_named other two at_two)

  -- what stands at a path depends on what stands at its end
  same_end : (front path other : Path) → model_at design path ≡ model_at design other → model_at design (front ++ path) ≡ model_at design (front ++ other)
  same_end [] path other same = same
  same_end (place ∷ front) path other same = ap (option_and_then (model_placed design place)) (same_end front path other same)

  -- the numbers of the models along a path
  abbrev trail : Path → List ℕ
  trail [] = number_in_file (model_at design []) ∷ []
  trail (place ∷ path) = number_in_file (model_at design (place ∷ path)) ∷ trail path

  length-trail : (path : Path) → length (trail path) ≡ length path + 1
  length-trail [] = omega arith
  length-trail (place ∷ path) = omega (arith, length-trail path)

  -- a part of a path that leads from a model to itself
  record IsRound (path : Path) : Type 0 where
    front : Path
    place : ℕ
    middle : Path
    back : Path
    whole : path ≡ front ++ (place ∷ middle ++ back)
    same : model_at design (place ∷ middle ++ back) ≡ model_at design back

  -- the end of a path at a number that stands along it
  end_at : (number : ℕ) (path : Path) → list_any (eqb number) (trail path) ≡ true
      → (middle : Path) × (back : Path) × (path ≡ middle ++ back) × (number_in_file (model_at design back) ≡ number)
  end_at number [] any =
      ⊎_elim (λ here. ([], [], refl, sym (eqb-true number (number_in_file (model_at design [])) here))) (λ none. absurd (true≢false (sym none)))
      (or_cases (eqb number (number_in_file (model_at design []))) false any)
  end_at number (place ∷ path) any =
      ⊎_elim (λ here. ([], place ∷ path, refl, sym (eqb-true number (number_in_file (model_at design (place ∷ path))) here)))
      (λ later. let end = end_at number path later in (place ∷ end.0, end.1, ap (λ (p : Path). place ∷ p) end.2, end.3))
      (or_cases (eqb number (number_in_file (model_at design (place ∷ path)))) (list_any (eqb number) (trail path)) any)

  -- each end of an instance is an instance
  end_stands : (front path : Path) (model : Model) → model_at design (front ++ path) ≡ Some model → (found : Model) × (model_at design path ≡ Some found)
  end_stands [] path model stands = (model, stands)
  end_stands (place ∷ front) path model stands = let above = placer design place (front ++ path) model stands in end_stands front path above.0 above.1

  -- instances whose models have one number have one model
  same_model : (path other : Path) (one two : Model) → model_at design path ≡ Some one → model_at design other ≡ Some two
      → number_in_file (model_at design path) ≡ number_in_file (model_at design other)
      → model_at design path ≡ model_at design other
  same_model path other one two at_one at_two same =
      let a = number_below path one at_one in
      let b = number_below other two at_two in
      let number_one : number_in_file (model_at design path) ≡ a.0 = ap number_in_file at_one ∙ ap (λ (o : Option ℕ). unwrap_or o 0) a.1 in
      let number_two : number_in_file (model_at design other) ≡ b.0 = ap number_in_file at_two ∙ ap (λ (o : Option ℕ). unwrap_or o 0) b.1 in
      let places : b.0 ≡ a.0 = sym number_two ∙ sym same ∙ number_one in
      let models = same_number path other one two at_one at_two a.0 a.1 (b.1 ∙ ap (λ (n : ℕ). Some n) places) in
      at_one ∙ ap (λ (m : Model). Some m) models ∙ sym at_two

  one_distinct : (number : ℕ) → IsDistinct eqb (number ∷ [])
  unfolding IsDistinct
  one_distinct number = (tt, tt)

  -- the models along a path differ, or one comes twice
  distinct_or_round : (path : Path) (model : Model) → model_at design path ≡ Some model → IsDistinct eqb (trail path) ⊎ IsRound path
  distinct_or_round [] model stands = inl (one_distinct (number_in_file (model_at design [])))
  distinct_or_round (place ∷ path) model stands =
      let above = placer design place path model stands in
      let number = number_in_file (model_at design (place ∷ path)) in
      let here = λ (distinct : IsDistinct eqb (trail path)).
      let again = λ (any : list_any (eqb number) (trail path) ≡ true).
      let end = end_at number path any in
      let lower = end_stands end.0 end.1 above.0 (ap (model_at design) (sym end.2) ∙ above.1) in
      let same = same_model (place ∷ path) end.1 model lower.0 stands lower.1 (sym end.3) in
      let round : IsRound (place ∷ path) = record {
        front = [];
        place = place;
        middle = end.0;
        back = end.1;
        whole = ap (λ (p : Path). place ∷ p) end.2;
        same = ap (λ (p : Path). model_at design (place ∷ p)) (sym end.2) ∙ same;
      } in
      round in
      ⊎_elim (λ any. inr (again any)) (λ none. inl (distinct_more number (trail path) none distinct)) (cases_Bool (list_any (eqb number) (trail path))) in
      let further = λ (round : IsRound path).
      let longer : IsRound (place ∷ path) = record {
        front = place ∷ round.front;
        place = round.place;
        middle = round.middle;
        back = round.back;
        whole = ap (λ (p : Path). place ∷ p) round.whole;
        same = round.same;
      } in
      longer in
      ⊎_elim here (λ round. inr (further round)) (distinct_or_round path above.0 above.1)

  -- all numbers along a path are below the number of models
  trail_below : (path : Path) (model : Model) → model_at design path ≡ Some model → (number : ℕ) → list_any (eqb number) (trail path) ≡ true
      → number < length design.models
  trail_below path model stands number any =
      let end = end_at number path any in
      let lower = end_stands end.0 end.1 model (ap (model_at design) (sym end.2) ∙ stands) in
      let below = number_below end.1 lower.0 lower.1 in
      let is : number_in_file (model_at design end.1) ≡ below.0 = ap number_in_file lower.1 ∙ ap (λ (o : Option ℕ). unwrap_or o 0) below.1 in
      subst (λ (n : ℕ). n < length design.models) (sym is ∙ end.3) below.2

  -- each model of an instance stands at one that is no deeper than there are models
  shorten : (fuel : ℕ) (path : Path) (model : Model) → model_at design path ≡ Some model → length path ≤ fuel
      → (short : Path) × (model_at design short ≡ Some model) × (length short ≤ length design.models)
  shorten zero path model stands long = (path, stands, omega arith)
  shorten (suc fuel) path model stands long =
      let fits = λ (distinct : IsDistinct eqb (trail path)).
      let count = length-le_from_distinct_below (trail path) (length design.models) distinct (trail_below path model stands) in
      let short : length path ≤ length design.models = omega (arith, count, length-trail path) in
      let found : (short : Path) × (model_at design short ≡ Some model) × (length short ≤ length design.models) = (path, stands, short) in
      found in
      let cut = λ (round : IsRound path).
      let less = length-append round.front (round.place ∷ round.middle ++ round.back) in
      let left = length-append round.front round.back in
      let inner = length-append round.middle round.back in
      let whole = ap (λ (p : Path). length p) round.whole in
      let shorter : length (round.front ++ round.back) ≤ fuel = omega (arith, less, left, inner, whole) in
      let stays : model_at design (round.front ++ round.back) ≡ Some model =
      sym (same_end round.front (round.place ∷ round.middle ++ round.back) round.back round.same) ∙ ap (model_at design) (sym round.whole) ∙ stands in
      shorten fuel (round.front ++ round.back) model stays shorter in
      ⊎_elim fits cut (distinct_or_round path model stands)

  -- what has an instance is reached
  pub reached_at : (path : Path) (model : Model) → model_at design path ≡ Some model → is_reached design model.name ≡ true
  reached_at path model stands =
      let short = shorten (length path) path model stands (omega arith) in
      any-Has (λ (p : Path). has_model_name model.name (model_at design p)) short.0 (instances design) (instance_listed design short.0 model short.1 (omega (arith, short.2)))
      (ap (has_model_name model.name) short.1 ∙ name_same model.name)

  -- and what is reached has one
  named_at : (name : Word) (path : Path) (found : Option Model) → model_at design path ≡ found → has_model_name name found ≡ true
      → (model : Model) × (model_at design path ≡ Some model) × (model.name ≡ name)
  named_at name path None is named = absurd (true≢false (sym named))
  named_at name path (Some model) is named = (model, is, same_name model.name name named)

  pub at_reached : (name : Word) → is_reached design name ≡ true → (path : Path) × (model : Model) × (model_at design path ≡ Some model) × (model.name ≡ name)
  at_reached name reached =
      let found = from-any (λ (p : Path). has_model_name name (model_at design p)) (instances design) reached in
      let at = named_at name found.0 (model_at design found.0) refl found.2 in
      (found.0, at.0, at.1, at.2)

  -- the item by which a model places another
  naming : (name : Word) (item : Item) → names_model name item ≡ true → (line : ℕ) × (binds : List Bind) × (item ≡ Sub line name binds)
  naming name (Names line ins out cover) names = absurd (true≢false (sym names))
  naming name (Latch line d q edge control init) names = absurd (true≢false (sym names))
  naming name (Sub line model binds) names = (line, binds, ap (λ (w : Word). Sub line w binds) (same_name model name names))

  -- what a reached model places is reached, where it is a model
  pub reached_closed : (name placed : Word) → is_reached design name ≡ true → model_places (model_named design.models name) placed ≡ true
      → is_some (model_named design.models placed) ≡ true → is_reached design placed ≡ true
  reached_closed name placed reached places known =
      let at = at_reached name reached in
      let path = at.0 in
      let model = at.1 in
      let here : model_named design.models name ≡ Some model = ap (model_named design.models) (sym at.3) ∙ model_is_named path model at.2 in
      let item = from-any (names_model placed) model.items (sym (ap (λ (m : Option Model). model_places m placed) here) ∙ places) in
      let sub = naming placed item.0 item.2 in
      let number = at-Has item.0 model.items item.1 in
      let entry = item_entry model.items number.0 item.0 number.1 in
      let listed : Has entry.entry (numbered 0 0 (items_of (model_at design path))) = subst (λ (m : Option Model). Has entry.entry (numbered 0 0 (items_of m))) (sym at.2) entry.has in
      let behind = model_behind design path entry.entry listed sub.0 placed sub.1 (entry.item_is ∙ sub.2) in
      by (suc entry.entry.before ∷ path) (model_named design.models placed) refl known behind
    where
      by : (path : Path) (found : Option Model) → model_named design.models placed ≡ found → is_some found ≡ true
          → model_at design path ≡ model_named design.models placed → is_reached design placed ≡ true
      by path None is known behind = absurd (true≢false (sym known))
      by path (Some model) is known behind =
          let named = (from-find (λ (m : Model). bytes_eq m.name placed) model design.models is).1 in
          ap (is_reached design) (sym (same_name model.name placed named)) ∙ reached_at path model (behind ∙ is)

  -- and nothing else is
  along : (test : Word → Bool) (root : Model) → model_at design [] ≡ Some root → test root.name ≡ true
      → ((name placed : Word) → test name ≡ true → model_places (model_named design.models name) placed ≡ true → is_some (model_named design.models placed) ≡ true → test placed ≡ true)
      → (path : Path) (model : Model) → model_at design path ≡ Some model → test model.name ≡ true
  along test root is first closed [] model stands = ap (λ (m : Model). test m.name) (same_Some model root (sym stands ∙ is)) ∙ first
  along test root is first closed (place ∷ path) model stands =
      let above = placer design place path model stands in
      let placing = placing_of_placed design place above.0 model above.2 in
      let entry = placing_entry above.0.items placing.0 placing.1 placing.3 in
      let item = entry_of above.0.items entry.entry entry.has in
      let sub : Has (Sub entry.line placing.1.model placing.1.binds) above.0.items =
      subst (λ (i : Item). Has i above.0.items) entry.item_is (Has-at entry.entry.item above.0.items entry.entry.number item.item) in
      let places : model_places (model_named design.models above.0.name) placing.1.model ≡ true =
      ap (λ (m : Option Model). model_places m placing.1.model) (model_is_named path above.0 above.1)
      ∙ any-Has (names_model placing.1.model) (Sub entry.line placing.1.model placing.1.binds) above.0.items sub (name_same placing.1.model) in
      let named : model.name ≡ placing.1.model = same_name model.name placing.1.model (from-find (λ (m : Model). bytes_eq m.name placing.1.model) model design.models placing.4).1 in
      ap test named ∙ closed above.0.name placing.1.model (along test root is first closed path above.0 above.1) places (ap is_some placing.4)

  pub reached_least : (root : Model) → model_at design [] ≡ Some root → (test : Word → Bool) → test root.name ≡ true
      → ((name placed : Word) → test name ≡ true → model_places (model_named design.models name) placed ≡ true → is_some (model_named design.models placed) ≡ true → test placed ≡ true)
      → (name : Word) → is_reached design name ≡ true → test name ≡ true
  reached_least root is test first closed name reached =
      let at = at_reached name reached in
      ap test (sym at.3) ∙ along test root is first closed at.0 at.1 at.2
