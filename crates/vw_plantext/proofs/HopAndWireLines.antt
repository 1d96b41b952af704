-- Lines of hops and wires that are taken or refused.
use Rattle.std.proofs.Common.{◌≡◌, ◌<◌, ◌≤◌, ◌+◌, ◌-◌, ◌^◌, ℕ, List, [], ◌∷◌, ◌++◌, length, map, slice_index, Option, Some, None, ap, ap₂, refl, sym, subst, ◌∙◌, length-append, All, arith}
use Rattle.std.specs.Prelude.{codes}
use Rattle.std.proofs.lemmas.List.{append_assoc, append-nil}
use Rattle.std.proofs.lemmas.List.Elements.{All-head, All-tail, All-push, All-nil, All-cons}
use Rattle.std.proofs.lemmas.List.Sums.{sum_by-append}
use Rattle.vw_plan.specs.declared.wire.Hop.{Hop}
use Rattle.vw_plan.specs.declared.wire.Wire.{Wire}
use Rattle.vw_plan.specs.HopCounts.{hop_count}
use Rattle.vw_plantext.specs.Content.{Content, IsHopInRange, IsWireInRange, IsInRange}
use Rattle.vw_plantext.specs.Grammar.{number_line, hop_line, wire_line, body_lines}
use Rattle.vw_plantext.specs.Steps.Hops.{IsHopLine, IsNoHopLine, IsNoWireHeadLine}
use Rattle.vw_plantext.specs.Steps.Bodies.{UnfinishedWire, BodyState, part_with_hop, FollowsWires, FollowsHops, FollowsPart, IsRestOfPlan, part_hops, part_count, IsPartInRange, FitsPart, IsBodyInRange, TakesPlanLine, RefusesLine, ClosesWire}
use Rattle.vw_plantext.proofs.NumberLines.{AreSmall, number_line_injective}
use Rattle.vw_plantext.proofs.Lines.{Fits64Bits, small_wire, hop_count-cons}
use Rattle.vw_plantext.proofs.Spellings.{plain_wire, hop_line_injective, body_lines-cons}

-- what holds of each element holds of one amid others
all_amid : {A : Type 0} (P : A → Type 0) (front : List A) (x : A) (rest : List A) → All P (front ++ x ∷ rest) → P x
all_amid P [] x rest all = All-head P x rest all
all_amid P (y ∷ front) x rest all = all_amid P front x rest (All-tail P y (front ++ x ∷ rest) all)

pub hop_count-append : (wires more : List Wire) → hop_count (wires ++ more) ≡ hop_count wires + hop_count more
hop_count-append wires more = sum_by-append (λ wire. length wire.hops) wires more

-- ---- within a wire

module _ (part : UnfinishedWire) (left : ℕ) (done all : List Wire) (line : List ℕ) (more : List (List ℕ)) where
  abbrev made : List Hop → Wire
  made hops = record { net = part.net; to = part.to; hops = hops }

  -- the first hop that is left
  record FirstHop : Type 0 where
    hop : Hop
    hops : List Hop
    hops_left : length hops + 1 ≡ part.left
    rest : List Wire
    count : length rest ≡ left
    are : all ≡ done ++ made (part.hops ++ hop ∷ hops) ∷ rest
    is : line ≡ hop_line hop
    behind : more ≡ map hop_line hops ++ body_lines rest

  first_hop : 1 ≤ part.left → FollowsHops part left done all (line ∷ more) → FirstHop
  first_hop some follows = by_hops follows.hops follows.hops_left follows.are follows.lines_are where
    by_hops : (hops : List Hop) → length hops ≡ part.left → all ≡ done ++ made (part.hops ++ hops) ∷ follows.rest → line ∷ more ≡ map hop_line hops ++ body_lines follows.rest → FirstHop
    by_hops [] size are lines = absurd (omega arith)
    by_hops (hop ∷ hops) size are lines = record { hop = hop; hops = hops; hops_left = omega arith; rest = follows.rest; count = follows.count; are = are; is = cc; behind = cc }

  -- it is in range
  first_in_range : (first : FirstHop) → All IsWireInRange all → IsHopInRange first.hop
  first_in_range first fits =
      let wire : IsWireInRange (made (part.hops ++ first.hop ∷ first.hops)) = all_amid IsWireInRange done (made (part.hops ++ first.hop ∷ first.hops)) first.rest (subst (All IsWireInRange) first.are fits) in
      all_amid IsHopInRange part.hops first.hop first.hops wire.hops

  refused_hop : 1 ≤ part.left → All IsWireInRange all → IsNoHopLine line → FollowsHops part left done all (line ∷ more) → ⊥
  refused_hop some fits none follows = let first : FirstHop = first_hop some follows in none first.hop (first_in_range first fits) first.is

  module _ (hop : Hop) (is : IsHopLine line hop) (some : 1 ≤ part.left) where
    follows_hop : All IsWireInRange all → FollowsHops part left done all (line ∷ more) → FollowsHops (part_with_hop part hop) left done all more
    follows_hop fits follows =
        let first : FirstHop = first_hop some follows in
        let same : first.hop ≡ hop = hop_line_injective first.hop hop (first_in_range first fits) is.in_range (sym first.is ∙ is.is) in
        let regroup : part.hops ++ first.hop ∷ first.hops ≡ (part.hops ++ hop ∷ []) ++ first.hops = ap (λ (h : Hop). part.hops ++ h ∷ first.hops) same ∙ sym (append_assoc part.hops (hop ∷ []) first.hops) in
        record { hops = first.hops; hops_left = let size : length first.hops + 1 ≡ part.left = first.hops_left in omega arith; rest = first.rest; count = first.count; are = first.are ∙ ap (λ (hops : List Hop). done ++ made hops ∷ first.rest) regroup; lines_are = first.behind }

    follows_hop_back : FollowsHops (part_with_hop part hop) left done all more → FollowsHops part left done all (line ∷ more)
    follows_hop_back follows =
        let regroup : (part.hops ++ hop ∷ []) ++ follows.hops ≡ part.hops ++ hop ∷ follows.hops = append_assoc part.hops (hop ∷ []) follows.hops in
        let size : length follows.hops ≡ part.left - 1 = follows.hops_left in
        record { hops = hop ∷ follows.hops; hops_left = omega arith; rest = follows.rest; count = follows.count; are = follows.are ∙ ap (λ (hops : List Hop). done ++ made hops ∷ follows.rest) regroup; lines_are = ap₂ (λ (x : List ℕ) (xs : List (List ℕ)). x ∷ xs) is.is follows.lines_are }

-- ---- between two wires

module _ (left : ℕ) (done all : List Wire) (line : List ℕ) (more : List (List ℕ)) where
  -- the first wire that is left
  record FirstWire : Type 0 where
    wire : Wire
    rest : List Wire
    count : length rest + 1 ≡ left
    are : all ≡ done ++ wire ∷ rest
    is : line ≡ wire_line wire
    behind : more ≡ map hop_line wire.hops ++ body_lines rest

  first_wire : 1 ≤ left → FollowsWires left done all (line ∷ more) → FirstWire
  first_wire some follows = by_rest follows.rest follows.count follows.are follows.lines_are where
    by_rest : (rest : List Wire) → length rest ≡ left → all ≡ done ++ rest → line ∷ more ≡ body_lines rest → FirstWire
    by_rest [] size are lines = absurd (omega arith)
    by_rest (wire ∷ rest) size are lines =
        let cons : line ∷ more ≡ wire_line wire ∷ (map hop_line wire.hops ++ body_lines rest) = lines ∙ body_lines-cons wire rest in
        record { wire = wire; rest = rest; count = omega arith; are = are; is = cc; behind = cc }

  first_wire_in_range : (first : FirstWire) → All IsWireInRange all → IsWireInRange first.wire
  first_wire_in_range first fits = all_amid IsWireInRange done first.wire first.rest (subst (All IsWireInRange) first.are fits)

  -- the hops of the wires before it and its own are not too many
  first_hops : (first : FirstWire) → hop_count all < 2 ^ 30 → hop_count done + length first.wire.hops < 2 ^ 30
  first_hops first few = omega (arith, ap hop_count first.are, hop_count-append done (first.wire ∷ first.rest), hop_count-cons first.wire first.rest)

  refused_wire : (room : ℕ) → 1 ≤ left → hop_count done + (room + 1) ≡ 2 ^ 30 → All IsWireInRange all → hop_count all < 2 ^ 30 → IsNoWireHeadLine room line → FollowsWires left done all (line ∷ more) → ⊥
  refused_wire room some left_room fits few none follows =
      let first : FirstWire = first_wire some follows in
      let wire : IsWireInRange first.wire = first_wire_in_range first fits in
      none first.wire.net first.wire.to (length first.wire.hops) wire.net wire.to (omega (arith, first_hops first few)) first.is

  module _ (net to count : ℕ) (is : line ≡ number_line (codes "wire") (net ∷ to ∷ count ∷ [])) (some : 1 ≤ left) (net_fits : net < 2 ^ 32) (to_fits : to < 2 ^ 32) (count_fits : count < 2 ^ 30) where
    abbrev part : UnfinishedWire
    part = record { net = net; to = to; hops = []; left = count }

    abbrev head : Wire → List ℕ
    head wire = wire.net ∷ wire.to ∷ length wire.hops ∷ []

    follows_wire : All IsWireInRange all → hop_count all < 2 ^ 30 → FollowsWires left done all (line ∷ more) → FollowsHops part (left - 1) done all more
    follows_wire fits few follows =
        let first : FirstWire = first_wire some follows in
        let wire : IsWireInRange first.wire = first_wire_in_range first fits in
        let numbers : head first.wire ≡ net ∷ to ∷ count ∷ [] = number_line_injective (codes "wire") (head first.wire) (net ∷ to ∷ count ∷ []) plain_wire refl (small_wire first.wire wire (omega (arith, first_hops first few))) (small_numbers net_fits to_fits count_fits) (sym first.is ∙ is) in
        let same : first.wire ≡ record { net = net; to = to; hops = first.wire.hops } = ap (λ (list : List ℕ). record { net = slice_index list 0; to = slice_index list 1; hops = first.wire.hops }) numbers in
        let size : length first.rest + 1 ≡ left = first.count in
        record { hops = first.wire.hops; hops_left = ap (λ (list : List ℕ). slice_index list 2) numbers; rest = first.rest; count = omega arith; are = first.are ∙ ap (λ (w : Wire). done ++ w ∷ first.rest) same; lines_are = first.behind } where
          small_numbers : net < 2 ^ 32 → to < 2 ^ 32 → count < 2 ^ 30 → AreSmall (net ∷ to ∷ count ∷ [])
          small_numbers net_small to_small count_small = All-cons Fits64Bits net (to ∷ count ∷ []) (omega arith) (All-cons Fits64Bits to (count ∷ []) (omega arith) (All-cons Fits64Bits count [] (omega arith) (All-nil Fits64Bits)))

    follows_wire_back : FollowsHops part (left - 1) done all more → FollowsWires left done all (line ∷ more)
    follows_wire_back follows =
        let wire : Wire = record { net = net; to = to; hops = follows.hops } in
        let first : line ≡ wire_line wire = is ∙ ap (λ (n : ℕ). number_line (codes "wire") (net ∷ to ∷ n ∷ [])) (sym follows.hops_left) in
        let size : length follows.rest ≡ left - 1 = follows.count in
        record { rest = wire ∷ follows.rest; count = omega arith; are = follows.are; lines_are = ap₂ (λ (x : List ℕ) (xs : List (List ℕ)). x ∷ xs) first follows.lines_are ∙ sym (body_lines-cons wire follows.rest) }

-- ---- a wire that has all its hops

module _ (part : UnfinishedWire) (full : part.left ≡ 0) (left : ℕ) (done all : List Wire) (lines : List (List ℕ)) where
  abbrev whole : List Hop → Wire
  whole hops = record { net = part.net; to = part.to; hops = hops }

  closed_wires : FollowsHops part left done all lines → FollowsWires left (done ++ whole part.hops ∷ []) all lines
  closed_wires follows = by_hops follows.hops follows.hops_left follows.are follows.lines_are where
    by_hops : (hops : List Hop) → length hops ≡ part.left → all ≡ done ++ whole (part.hops ++ hops) ∷ follows.rest → lines ≡ map hop_line hops ++ body_lines follows.rest → FollowsWires left (done ++ whole part.hops ∷ []) all lines
    by_hops [] size are lines_are = record { rest = follows.rest; count = follows.count; are = are ∙ ap (λ (hops : List Hop). done ++ whole hops ∷ follows.rest) (append-nil part.hops) ∙ sym (append_assoc done (whole part.hops ∷ []) follows.rest); lines_are = lines_are }
    by_hops (hop ∷ hops) size are lines_are = absurd (omega arith)

  opened_wires : FollowsWires left (done ++ whole part.hops ∷ []) all lines → FollowsHops part left done all lines
  opened_wires follows = record { hops = []; hops_left = sym full; rest = follows.rest; count = follows.count; are = follows.are ∙ append_assoc done (whole part.hops ∷ []) follows.rest ∙ ap (λ (hops : List Hop). done ++ whole hops ∷ follows.rest) (sym (append-nil part.hops)); lines_are = follows.lines_are }

hop_count-nil : hop_count [] ≡ 0
hop_count-nil = refl

-- ---- the states of a plan that is being read

-- the wires that follow, by what stands in the state
pub same_part : (part other : Option UnfinishedWire) → part ≡ other → (left : ℕ) (done all : List Wire) (lines : List (List ℕ)) → FollowsPart part left done all lines → FollowsPart other left done all lines
same_part part_ other same left done all lines follows = subst (λ (p : Option UnfinishedWire). FollowsPart p left done all lines) same follows

module _ (state : BodyState) (fits : IsBodyInRange state) (part : UnfinishedWire) (is : state.part ≡ Some part) where
  abbrev with_part : UnfinishedWire → BodyState
  with_part made = record { chip_of = state.chip_of; period = state.period; wires = state.wires; part = Some made; left = state.left; room = state.room }

  part_fits : IsPartInRange part
  part_fits = subst FitsPart is fits.part

  pub refuses_hop : (line : List ℕ) → 1 ≤ part.left → IsNoHopLine line → RefusesLine state line
  refuses_hop line some none content more in_range is_left = refused_hop part state.left state.wires content.wires line more some in_range.wires none (same_part state.part (Some part) is state.left state.wires content.wires (line ∷ more) is_left.wires)

  pub takes_hop : (line : List ℕ) (hop : Hop) → 1 ≤ part.left → IsHopLine line hop → TakesPlanLine state line (with_part (part_with_hop part hop))
  takes_hop line hop some is_hop = record { fits = new_fits; stays = stays; makes = makes } where
    old : state.part ≡ Some part
    old = is

    new_fits : IsBodyInRange (with_part (part_with_hop part hop))
    new_fits = record {
      few_cells = fits.few_cells;
      chips = fits.chips;
      short = fits.short;
      wires = fits.wires;
      part = record { net = part_fits.net; to = part_fits.to; hops = All-push IsHopInRange part.hops hop part_fits.hops is_hop.in_range };
      few_wires = let few : length state.wires + (1 + state.left) < 2 ^ 32 = subst (λ (p : Option UnfinishedWire). length state.wires + (part_count p + state.left) < 2 ^ 32) old fits.few_wires in few;
      hops = let hops : hop_count state.wires + ((length part.hops + part.left) + (state.room + 1)) ≡ 2 ^ 30 = subst (λ (p : Option UnfinishedWire). hop_count state.wires + (part_hops p + (state.room + 1)) ≡ 2 ^ 30) old fits.hops in omega (arith, length-append part.hops (hop ∷ []));
    }

    stays : (content : Content) (more : List (List ℕ)) → IsInRange content → IsRestOfPlan state content (line ∷ more) → IsRestOfPlan (with_part (part_with_hop part hop)) content more
    stays content more in_range is_left = record { chip_of = is_left.chip_of; period = is_left.period; wires = follows_hop part state.left state.wires content.wires line more hop is_hop some in_range.wires (same_part state.part (Some part) old state.left state.wires content.wires (line ∷ more) is_left.wires) }

    makes : (content : Content) (more : List (List ℕ)) → IsRestOfPlan (with_part (part_with_hop part hop)) content more → IsRestOfPlan state content (line ∷ more)
    makes content more is_left = record { chip_of = is_left.chip_of; period = is_left.period; wires = same_part (Some part) state.part (sym old) state.left state.wires content.wires (line ∷ more) (follows_hop_back part state.left state.wires content.wires line more hop is_hop some is_left.wires) }

  -- a wire that has all its hops, among the others
  abbrev done : BodyState
  done = record { chip_of = state.chip_of; period = state.period; wires = state.wires ++ record { net = part.net; to = part.to; hops = part.hops } ∷ []; part = None; left = state.left; room = state.room }

  pub closes_full : part.left ≡ 0 → ClosesWire state done
  closes_full full = record { fits = new_fits; some_left = tt; stays = stays; makes = makes } where
    wire : Wire
    wire = record { net = part.net; to = part.to; hops = part.hops }

    old : state.part ≡ Some part
    old = is

    new_fits : IsBodyInRange done
    new_fits = record {
      few_cells = fits.few_cells;
      chips = fits.chips;
      short = fits.short;
      wires = All-push IsWireInRange state.wires (record { net = part.net; to = part.to; hops = part.hops }) fits.wires (record { net = part_fits.net; to = part_fits.to; hops = part_fits.hops });
      part = tt;
      few_wires = let few : length state.wires + (1 + state.left) < 2 ^ 32 = subst (λ (p : Option UnfinishedWire). length state.wires + (part_count p + state.left) < 2 ^ 32) old fits.few_wires in omega (arith, length-append state.wires (record { net = part.net; to = part.to; hops = part.hops } ∷ []));
      hops = let hops : hop_count state.wires + ((length part.hops + part.left) + (state.room + 1)) ≡ 2 ^ 30 = subst (λ (p : Option UnfinishedWire). hop_count state.wires + (part_hops p + (state.room + 1)) ≡ 2 ^ 30) old fits.hops in omega (arith, hop_count-append state.wires (record { net = part.net; to = part.to; hops = part.hops } ∷ []), hop_count-cons (record { net = part.net; to = part.to; hops = part.hops }) [], hop_count-nil);
    }

    stays : (content : Content) (more : List (List ℕ)) → IsRestOfPlan state content more → IsRestOfPlan done content more
    stays content more is_left = record { chip_of = is_left.chip_of; period = is_left.period; wires = closed_wires part full state.left state.wires content.wires more (same_part state.part (Some part) old state.left state.wires content.wires more is_left.wires) }

    makes : (content : Content) (more : List (List ℕ)) → IsRestOfPlan done content more → IsRestOfPlan state content more
    makes content more is_left = record { chip_of = is_left.chip_of; period = is_left.period; wires = same_part (Some part) state.part (sym old) state.left state.wires content.wires more (opened_wires part full state.left state.wires content.wires more is_left.wires) }

module _ (state : BodyState) (fits : IsBodyInRange state) (is : state.part ≡ None) where
  abbrev with_wire : UnfinishedWire → BodyState
  with_wire made = record { chip_of = state.chip_of; period = state.period; wires = state.wires; part = Some made; left = state.left - 1; room = state.room - made.left }

  all_hops : hop_count state.wires + (state.room + 1) ≡ 2 ^ 30
  all_hops = let hops : hop_count state.wires + (0 + (state.room + 1)) ≡ 2 ^ 30 = subst (λ (p : Option UnfinishedWire). hop_count state.wires + (part_hops p + (state.room + 1)) ≡ 2 ^ 30) is fits.hops in omega arith

  pub refuses_wire : (line : List ℕ) → 1 ≤ state.left → IsNoWireHeadLine state.room line → RefusesLine state line
  refuses_wire line some none content more in_range is_left = refused_wire state.left state.wires content.wires line more state.room some all_hops in_range.wires in_range.few_hops none (same_part state.part None is state.left state.wires content.wires (line ∷ more) is_left.wires)

  pub takes_wire : (line : List ℕ) (net to count : ℕ) → 1 ≤ state.left → line ≡ number_line (codes "wire") (net ∷ to ∷ count ∷ []) → net < 2 ^ 32 → to < 2 ^ 32 → count ≤ state.room → TakesPlanLine state line (with_wire (record { net = net; to = to; hops = []; left = count }))
  takes_wire line net to count some is_line net_fits to_fits few = record { fits = new_fits; stays = stays; makes = makes } where
    old : state.part ≡ None
    old = is

    new_fits : IsBodyInRange (with_wire (record { net = net; to = to; hops = []; left = count }))
    new_fits = record {
      few_cells = fits.few_cells;
      chips = fits.chips;
      short = fits.short;
      wires = fits.wires;
      part = record { net = net_fits; to = to_fits; hops = All-nil IsHopInRange };
      few_wires = let all_few : length state.wires + (0 + state.left) < 2 ^ 32 = subst (λ (p : Option UnfinishedWire). length state.wires + (part_count p + state.left) < 2 ^ 32) old fits.few_wires in omega arith;
      hops = let all : hop_count state.wires + (state.room + 1) ≡ 2 ^ 30 = all_hops in omega arith;
    }

    small : count < 2 ^ 30
    small = let all : hop_count state.wires + (state.room + 1) ≡ 2 ^ 30 = all_hops in omega arith

    stays : (content : Content) (more : List (List ℕ)) → IsInRange content → IsRestOfPlan state content (line ∷ more) → IsRestOfPlan (with_wire (record { net = net; to = to; hops = []; left = count })) content more
    stays content more in_range is_left = record { chip_of = is_left.chip_of; period = is_left.period; wires = follows_wire state.left state.wires content.wires line more net to count is_line some net_fits to_fits small in_range.wires in_range.few_hops (same_part state.part None old state.left state.wires content.wires (line ∷ more) is_left.wires) }

    makes : (content : Content) (more : List (List ℕ)) → IsRestOfPlan (with_wire (record { net = net; to = to; hops = []; left = count })) content more → IsRestOfPlan state content (line ∷ more)
    makes content more is_left = record { chip_of = is_left.chip_of; period = is_left.period; wires = same_part None state.part (sym old) state.left state.wires content.wires (line ∷ more) (follows_wire_back state.left state.wires content.wires line more net to count is_line some net_fits to_fits small is_left.wires) }

-- a wire of its parts
pub wire_of_parts : (wire : Wire) (net to : ℕ) (hops : List Hop) → wire.net ≡ net → wire.to ≡ to → wire.hops ≡ hops → wire ≡ record { net = net; to = to; hops = hops }
wire_of_parts wire net to hops net_is to_is hops_are = ap₂ (λ (n t : ℕ). record { net = n; to = t; hops = wire.hops }) net_is to_is ∙ ap (λ (list : List Hop). record { net = net; to = to; hops = list }) hops_are
