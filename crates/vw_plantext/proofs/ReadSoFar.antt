-- How far a text is read, and what can follow.
use Rattle.std.proofs.Common.{◌≡◌, ◌≢◌, ◌<◌, ◌≤◌, ◌+◌, ◌-◌, ◌^◌, ℕ, zero, suc, List, [], ◌∷◌, ◌++◌, length, map, slice_index, Option, Some, None, ap, ap₂, refl, sym, subst, ◌∙◌, length-append, All, arith}
use Rattle.std.specs.Prelude.{codes, replicate}
use Rattle.std.specs.List.{flat_map}
use Rattle.std.proofs.lemmas.List.{append_assoc, append-nil, length-replicate}
use Rattle.std.proofs.lemmas.List.Elements.{All-append, All-cons, All-nil, All-replicate}
use Rattle.vw_text.specs.Physical.{lines_text}
use Rattle.vw_text.proofs.LineTexts.{lines_text-append}
use Rattle.vw_plan.specs.declared.wire.Hop.{Hop}
use Rattle.vw_plan.specs.declared.wire.Wire.{Wire}
use Rattle.vw_plan.specs.HopCounts.{hop_count}
use Rattle.vw_plantext.specs.Content.{Content, IsHopInRange, IsWireInRange, IsInRange}
use Rattle.vw_plantext.specs.Grammar.{number_line, head_line, chips_line, hop_line, wire_lines, body_lines, plan_lines}
use Rattle.vw_plantext.specs.CanStand.{CanStand, IsFirstBadLine}
use Rattle.vw_plantext.specs.Steps.Cuts.{IsOneLine, IsLineCut}
use Rattle.vw_plantext.specs.Steps.Bodies.{UnfinishedWire, BodyState, FollowsWires, FollowsHops, FollowsPart, IsRestOfPlan, part_hops, part_count, IsPartInRange, FitsPart, IsBodyInRange, HasRead, TakesPlanLine, RefusesLine, ClosesWire}
use Rattle.vw_plantext.specs.Steps.Starts.{head_numbers, IsReadTo, IsHeadLine, IsNoHeadLine, IsChipsLine, IsNoChipsLine}
use Rattle.vw_plantext.specs.declared.start.PlanHead.{PlanHead}
use Rattle.vw_plantext.proofs.NumberLines.{number_line_injective}
use Rattle.vw_plantext.proofs.Lines.{small_head, small_chips, hop_count-cons}
use Rattle.vw_plantext.proofs.Spellings.{plain_plan, plain_chips}
use Rattle.vw_plantext.proofs.HopAndWireLines.{hop_count-append, same_part}
use Rattle.vw_plantext.proofs.Faults.{can_stand_front, no_further_line, bad_line}

-- a wire without hops, and a hop
abbrev no_wire : Wire
no_wire = record { net = 0; to = 0; hops = [] }

abbrev no_hop : Hop
no_hop = record { from = 0; to = 0; pin = 0; at = 0 }

no_hop_fits : IsHopInRange no_hop
no_hop_fits = record { from = omega arith; to = omega arith; pin = omega arith; at = omega arith }

no_wire_fits : IsWireInRange no_wire
no_wire_fits = record { net = omega arith; to = omega arith; hops = All-nil IsHopInRange }

hop_count-replicate : (count : ℕ) → hop_count (replicate count no_wire) ≡ 0
hop_count-replicate zero = refl
hop_count-replicate (suc count) = omega (arith, hop_count-cons no_wire (replicate count no_wire), hop_count-replicate count)

module _ (lines : List (List ℕ)) (state : BodyState) (read : HasRead lines state) where
  abbrev content_with : List Wire → Content
  content_with wires = record { chip_of = state.chip_of; wires = wires; period = state.period }

  -- further wires without hops can follow
  between : state.part ≡ None → CanStand lines
  between is =
      let rest = replicate state.left no_wire in
      let size : length rest ≡ state.left = length-replicate state.left no_wire in
      let follows : FollowsWires state.left state.wires (state.wires ++ rest) (body_lines rest) = record { rest = rest; count = size; are = refl; lines_are = refl } in
      let few : length state.wires + (0 + state.left) < 2 ^ 32 = subst (λ (p : Option UnfinishedWire). length state.wires + (part_count p + state.left) < 2 ^ 32) is read.fits.few_wires in
      let hops : hop_count state.wires + (0 + (state.room + 1)) ≡ 2 ^ 30 = subst (λ (p : Option UnfinishedWire). hop_count state.wires + (part_hops p + (state.room + 1)) ≡ 2 ^ 30) is read.fits.hops in
      record {
        content = content_with (state.wires ++ rest);
        in_range = record {
          few_cells = read.fits.few_cells;
          few_wires = omega (arith, length-append state.wires rest);
          few_hops = omega (arith, hop_count-append state.wires rest, hop_count-replicate state.left);
          chips = read.fits.chips;
          wires = All-append IsWireInRange state.wires rest read.fits.wires (All-replicate IsWireInRange state.left no_wire no_wire_fits);
          short = read.fits.short;
        };
        rest = body_lines rest;
        begins = read.makes (content_with (state.wires ++ rest)) (body_lines rest) (record { chip_of = refl; period = refl; wires = same_part None state.part (sym is) state.left state.wires (state.wires ++ rest) (body_lines rest) follows });
      }

  -- further hops, and such wires, can follow
  amid : (part : UnfinishedWire) → state.part ≡ Some part → CanStand lines
  amid part is =
      let hops = replicate part.left no_hop in
      let hops_left : length hops ≡ part.left = length-replicate part.left no_hop in
      let wire : Wire = record { net = part.net; to = part.to; hops = part.hops ++ hops } in
      let rest = replicate state.left no_wire in
      let size : length rest ≡ state.left = length-replicate state.left no_wire in
      let all = state.wires ++ record { net = part.net; to = part.to; hops = part.hops ++ hops } ∷ rest in
      let follows : FollowsHops part state.left state.wires all (map hop_line hops ++ body_lines rest) = record { hops = hops; hops_left = hops_left; rest = rest; count = size; are = refl; lines_are = refl } in
      let part_fits : IsPartInRange part = subst FitsPart is read.fits.part in
      let few : length state.wires + (1 + state.left) < 2 ^ 32 = subst (λ (p : Option UnfinishedWire). length state.wires + (part_count p + state.left) < 2 ^ 32) is read.fits.few_wires in
      let all_hops : hop_count state.wires + ((length part.hops + part.left) + (state.room + 1)) ≡ 2 ^ 30 = subst (λ (p : Option UnfinishedWire). hop_count state.wires + (part_hops p + (state.room + 1)) ≡ 2 ^ 30) is read.fits.hops in
      let wire_fits : IsWireInRange (record { net = part.net; to = part.to; hops = part.hops ++ hops }) = record { net = part_fits.net; to = part_fits.to; hops = All-append IsHopInRange part.hops hops part_fits.hops (All-replicate IsHopInRange part.left no_hop no_hop_fits) } in
      record {
        content = content_with all;
        in_range = record {
          few_cells = read.fits.few_cells;
          few_wires = omega (arith, length-append state.wires (record { net = part.net; to = part.to; hops = part.hops ++ hops } ∷ rest));
          few_hops = omega (arith, hop_count-append state.wires (record { net = part.net; to = part.to; hops = part.hops ++ hops } ∷ rest), hop_count-cons (record { net = part.net; to = part.to; hops = part.hops ++ hops }) rest, length-append part.hops hops, hop_count-replicate state.left);
          chips = read.fits.chips;
          wires = All-append IsWireInRange state.wires (record { net = part.net; to = part.to; hops = part.hops ++ hops } ∷ rest) read.fits.wires (All-cons IsWireInRange (record { net = part.net; to = part.to; hops = part.hops ++ hops }) rest wire_fits (All-replicate IsWireInRange state.left no_wire no_wire_fits));
          short = read.fits.short;
        };
        rest = map hop_line hops ++ body_lines rest;
        begins = read.makes (content_with all) (map hop_line hops ++ body_lines rest) (record { chip_of = refl; period = refl; wires = same_part (Some part) state.part (sym is) state.left state.wires all (map hop_line hops ++ body_lines rest) follows });
      }

  by_part : (part : Option UnfinishedWire) → state.part ≡ part → CanStand lines
  by_part None is = between is
  by_part (Some part) is = amid part is

  -- lines that were read can stand
  pub can_stand_read : CanStand lines
  can_stand_read = by_part state.part refl

  -- a plan has further lines
  some_line : (part : Option UnfinishedWire) (left : ℕ) (done all : List Wire) → FollowsPart part left done all [] → ⊥
  some_line None left done all follows = none (flat_map wire_lines follows.rest) (sym follows.lines_are) where
    none : (front : List (List ℕ)) → front ++ codes "end" ∷ [] ≡ [] → ⊥
    none [] empty = cc
    none (line ∷ front) empty = cc
  some_line (Some part) left done all follows = none (map hop_line follows.hops) (flat_map wire_lines follows.rest) (sym follows.lines_are) where
    none : (front middle : List (List ℕ)) → front ++ (middle ++ codes "end" ∷ []) ≡ [] → ⊥
    none [] [] empty = cc
    none [] (line ∷ middle) empty = cc
    none (line ∷ front) middle empty = cc

  pub incomplete : (content : Content) → IsInRange content → lines ≢ plan_lines content
  incomplete content fits all = some_line state.part state.left state.wires content.wires (read.stays content [] fits (append-nil lines ∙ all)).wires

  -- a line that is refused can't stand behind them
  pub refused_behind : (line : List ℕ) → RefusesLine state line → ¬ (CanStand (lines ++ line ∷ []))
  refused_behind line refuses can = refuses can.content can.rest can.in_range (read.stays can.content (line ∷ can.rest) can.in_range (sym (append_assoc lines (line ∷ []) can.rest) ∙ can.begins))

  -- one line more
  pub read_more : (line : List ℕ) (mid new : BodyState) → TakesPlanLine state line mid → ClosesWire mid new → HasRead (lines ++ line ∷ []) new
  read_more line mid new takes closes = record { fits = closes.fits; some_left = closes.some_left; stays = stays; makes = makes } where
    stays : (content : Content) (more : List (List ℕ)) → IsInRange content → (lines ++ line ∷ []) ++ more ≡ plan_lines content → IsRestOfPlan new content more
    stays content more fits same = closes.stays content more (takes.stays content more fits (read.stays content (line ∷ more) fits (sym (append_assoc lines (line ∷ []) more) ∙ same)))

    makes : (content : Content) (more : List (List ℕ)) → IsRestOfPlan new content more → (lines ++ line ∷ []) ++ more ≡ plan_lines content
    makes content more left = append_assoc lines (line ∷ []) more ∙ read.makes content (line ∷ more) (takes.makes content more (closes.makes content more left))

-- ---- the first two lines

module _ (cells wires period : ℕ) (few_cells : cells < 2 ^ 32) (few_wires : wires < 2 ^ 32) (short : period ≤ 2 ^ 62) where
  abbrev plan_line : List ℕ
  plan_line = number_line (codes "plan") (head_numbers cells wires period)

  -- a plan with this first line
  head_tells : (content : Content) → IsInRange content → plan_line ≡ head_line content → head_numbers cells wires period ≡ head_numbers (length content.chip_of) (length content.wires) content.period
  head_tells content fits same = number_line_injective (codes "plan") (head_numbers cells wires period) (head_numbers (length content.chip_of) (length content.wires) content.period) plain_plan refl (small_head cells wires period few_cells few_wires short) (small_head (length content.chip_of) (length content.wires) content.period fits.few_cells fits.few_wires fits.short) same

  module _ (chips : List ℕ) (each : length chips ≡ cells) (chips_fit : All (λ chip. chip < 2 ^ 32) chips) (room : ℕ) (all_room : room + 1 ≡ 2 ^ 30) where
    abbrev second_line : List ℕ
    second_line = number_line (codes "chips") chips

    abbrev begun : BodyState
    begun = record { chip_of = chips; period = period; wires = []; part = None; left = wires; room = room }

    pub read_two : HasRead (plan_line ∷ second_line ∷ []) begun
    read_two = record { fits = begun_fits; some_left = tt; stays = stays; makes = makes } where
      begun_fits : IsBodyInRange begun
      begun_fits = record { few_cells = omega arith; chips = chips_fit; short = short; wires = All-nil IsWireInRange; part = tt; few_wires = omega arith; hops = let none : hop_count [] ≡ 0 = refl in omega arith }

      stays : (content : Content) (more : List (List ℕ)) → IsInRange content → (plan_line ∷ second_line ∷ []) ++ more ≡ plan_lines content → IsRestOfPlan begun content more
      stays content more fits same =
          let head : plan_line ≡ head_line content = cc in
          let second : second_line ≡ chips_line content.chip_of = cc in
          let body : more ≡ body_lines content.wires = cc in
          let numbers = head_tells content fits head in
          let chip_of : chips ≡ content.chip_of = number_line_injective (codes "chips") chips content.chip_of plain_chips refl (small_chips chips chips_fit) (small_chips content.chip_of fits.chips) second in
          let size : wires ≡ length content.wires = ap (λ (list : List ℕ). slice_index list 2) numbers in
          record { chip_of = sym chip_of; period = sym (ap (λ (list : List ℕ). slice_index list 3) numbers); wires = record { rest = content.wires; count = sym size; are = refl; lines_are = body } }

      makes : (content : Content) (more : List (List ℕ)) → IsRestOfPlan begun content more → (plan_line ∷ second_line ∷ []) ++ more ≡ plan_lines content
      makes content more is_left =
          let chip_count : cells ≡ length content.chip_of = sym each ∙ ap length (sym is_left.chip_of) in
          let wire_count : wires ≡ length content.wires = sym is_left.wires.count ∙ ap length (sym is_left.wires.are) in
          let numbers : head_numbers cells wires period ≡ head_numbers (length content.chip_of) (length content.wires) content.period = cc (chip_count, wire_count, is_left.period) in
          let head : plan_line ≡ head_line content = ap (number_line (codes "plan")) numbers in
          let second : second_line ≡ chips_line content.chip_of = ap (number_line (codes "chips")) (sym is_left.chip_of) in
          let body : more ≡ body_lines content.wires = is_left.wires.lines_are ∙ ap body_lines (sym is_left.wires.are) in
          ap₂ (λ (a : List ℕ) (rest : List (List ℕ)). a ∷ rest) head (ap₂ (λ (b : List ℕ) (rest : List (List ℕ)). b ∷ rest) second body)

  -- a first line can stand
  pub first_can_stand : CanStand (plan_line ∷ [])
  first_can_stand = can_stand_front (plan_line ∷ []) (number_line (codes "chips") (replicate cells 0) ∷ []) (can_stand_read (plan_line ∷ number_line (codes "chips") (replicate cells 0) ∷ []) (begun (replicate cells 0) (length-replicate cells 0) zeros (2 ^ 30 - 1) (omega arith)) (read_two (replicate cells 0) (length-replicate cells 0) zeros (2 ^ 30 - 1) (omega arith))) where
    zeros : All (λ chip. chip < 2 ^ 32) (replicate cells 0)
    zeros = All-replicate (λ chip. chip < 2 ^ 32) cells 0 (omega arith)

  -- and a line without the chips of its cells can't stand behind it
  pub second_can_not : (line : List ℕ) → IsNoChipsLine cells line → ¬ (CanStand (plan_line ∷ line ∷ []))
  second_can_not line none can =
      let begins : plan_line ∷ line ∷ can.rest ≡ plan_lines can.content = can.begins in
      let head : plan_line ≡ head_line can.content = cc in
      let second : line ≡ chips_line can.content.chip_of = cc in
      let size : cells ≡ length can.content.chip_of = ap (λ (list : List ℕ). slice_index list 1) (head_tells can.content can.in_range head) in
      none can.content.chip_of (sym size) can.in_range.chips second

  -- a plan has a second line
  pub not_alone : (content : Content) → IsInRange content → (plan_line ∷ []) ≢ plan_lines content
  not_alone content fits same = cc

-- nothing can stand, and nothing is no plan
pub nothing_can_stand : CanStand []
nothing_can_stand = can_stand_front [] (number_line (codes "plan") (head_numbers 0 0 0) ∷ []) (first_can_stand 0 0 0 (omega arith) (omega arith) (omega arith))

pub not_nothing : (content : Content) → IsInRange content → [] ≢ plan_lines content
not_nothing content fits same = cc

-- a line that is no first line can't stand first
pub first_can_not : (line : List ℕ) → IsNoHeadLine line → ¬ (CanStand (line ∷ []))
first_can_not line none can =
    let begins : line ∷ can.rest ≡ plan_lines can.content = can.begins in
    let head : line ≡ head_line can.content = cc in
    none (length can.content.chip_of) (length can.content.wires) can.content.period can.in_range.few_cells can.in_range.few_wires can.in_range.short head

-- ---- the text behind the lines

-- one line more
pub whole_more : (text : List ℕ) (lines : List (List ℕ)) (rest line after : List ℕ) → text ≡ lines_text lines ++ rest → rest ≡ line ++ 10 ∷ after → text ≡ lines_text (lines ++ line ∷ []) ++ after
whole_more text lines rest line after whole cut =
    let one : lines_text (line ∷ []) ++ after ≡ line ++ 10 ∷ after = ap (λ (front : List ℕ). front ++ after) (append-nil (line ++ 10 ∷ [])) ∙ append_assoc line (10 ∷ []) after in
    let all : lines_text (lines ++ line ∷ []) ++ after ≡ lines_text lines ++ (line ++ 10 ∷ after) = ap (λ (front : List ℕ). front ++ after) (lines_text-append lines (line ∷ [])) ∙ append_assoc (lines_text lines) (lines_text (line ∷ [])) after ∙ ap (λ (behind : List ℕ). lines_text lines ++ behind) one in
    whole ∙ ap (λ (behind : List ℕ). lines_text lines ++ behind) cut ∙ sym all

pub fault_no_line : (text : List ℕ) → IsOneLine text → IsFirstBadLine text 1
fault_no_line text one_line = no_further_line text [] text 1 refl refl nothing_can_stand one_line not_nothing

pub fault_head : (text line rest : List ℕ) → IsLineCut text line rest → IsNoHeadLine line → IsFirstBadLine text 1
fault_head text line rest cut none = bad_line text [] text 1 refl refl nothing_can_stand line rest cut (first_can_not line none)

module _ (text line rest : List ℕ) (cut : IsLineCut text line rest) (head : PlanHead) (is : IsHeadLine line head) where
  one_can : CanStand (line ∷ [])
  one_can = subst (λ (first : List ℕ). CanStand (first ∷ [])) (sym is.is) (first_can_stand head.cells head.wires head.period is.few_cells is.few_wires is.short)

  pub fault_no_second : IsOneLine rest → IsFirstBadLine text 2
  fault_no_second one_line_ = no_further_line text (line ∷ []) rest 2 refl (whole_more text [] text line rest refl cut.whole) one_can one_line_ (λ content fits same. not_alone head.cells head.wires head.period is.few_cells is.few_wires is.short content fits (ap (λ (first : List ℕ). first ∷ []) (sym is.is) ∙ same))

  pub fault_chips : (second after : List ℕ) → IsLineCut rest second after → IsNoChipsLine head.cells second → IsFirstBadLine text 2
  fault_chips second after second_cut none = bad_line text (line ∷ []) rest 2 refl (whole_more text [] text line rest refl cut.whole) one_can second after second_cut (λ can. second_can_not head.cells head.wires head.period is.few_cells is.few_wires is.short second none (subst (λ (first : List ℕ). CanStand (first ∷ second ∷ [])) is.is can))

  pub begun_to : (second after chips : List ℕ) → IsLineCut rest second after → IsChipsLine head.cells second chips → (room : ℕ) → room + 1 ≡ 2 ^ 30 → IsReadTo text (record { chip_of = chips; period = head.period; wires = []; part = None; left = head.wires; room = room }) after 3
  begun_to second after chips second_cut are room all_room =
      let read = read_two head.cells head.wires head.period is.few_cells is.few_wires is.short chips are.each are.fit room all_room in
      let lines : number_line (codes "plan") (head_numbers head.cells head.wires head.period) ∷ number_line (codes "chips") chips ∷ [] ≡ line ∷ second ∷ [] = ap₂ (λ (a b : List ℕ). a ∷ b ∷ []) (sym is.is) (sym are.is) in
      record {
        lines = line ∷ second ∷ [];
        read = subst (λ (all : List (List ℕ)). HasRead all (record { chip_of = chips; period = head.period; wires = []; part = None; left = head.wires; room = room })) lines read;
        number_ = refl;
        whole = whole_more text (line ∷ []) rest second after (whole_more text [] text line rest refl cut.whole) second_cut.whole;
      }

module _ (text : List ℕ) (state : BodyState) (rest : List ℕ) (number : ℕ) (to : IsReadTo text state rest number) where
  pub fault_no_further : IsOneLine rest → IsFirstBadLine text number
  fault_no_further one_line_ = no_further_line text to.lines rest number to.number_ to.whole (can_stand_read to.lines state to.read) one_line_ (incomplete to.lines state to.read)

  pub fault_line : (line after : List ℕ) → IsLineCut rest line after → RefusesLine state line → IsFirstBadLine text number
  fault_line line after cut refuses = bad_line text to.lines rest number to.number_ to.whole (can_stand_read to.lines state to.read) line after cut (refused_behind to.lines state to.read line refuses)

  pub read_further : (line after : List ℕ) (mid new : BodyState) → IsLineCut rest line after → TakesPlanLine state line mid → ClosesWire mid new → IsReadTo text new after (number + 1)
  read_further line after mid new cut takes closes = record {
    lines = to.lines ++ line ∷ [];
    read = read_more to.lines state to.read line mid new takes closes;
    number_ = let size : length to.lines + 1 ≡ number = to.number_ in omega (arith, length-append to.lines (line ∷ []));
    whole = whole_more text to.lines rest line after to.whole cut.whole;
  }
