-- What all hops in order give, pin by pin.
use Rattle.std.proofs.Common.{◌≡◌, ◌∙◌, ◌+◌, ◌≤◌, ℕ, List, [], ◌∷◌, length, map, slice_get, None, Some, ap, refl, arith}
use Rattle.std.specs.List.{AllByRecursion, flat_map}
use Rattle.vw_net.specs.Gathered.{gather, listed}
use Rattle.vw_net.proofs.ListedLists.{flat_map_gather, gather_agree}
use Rattle.vw_plan.specs.PlannedBoard.{PlannedBoard}
use Rattle.vw_plan.specs.Sound.{IsSound}
use Rattle.vw_plan.specs.declared.link.Link.{Link}
use Rattle.vw_plan.proofs.HopsOfWires.{at_place}
use Rattle.vw_emit_text.specs.Outlets.{outlets, outlets_behind}
use Rattle.vw_emit_text.specs.declared.numbered_hop.NumberedHop.{NumberedHop}
use Rattle.vw_emit_text.specs.declared.outlet.Outlet.{Outlet}
use Rattle.vw_emit_text.proofs.HopsByPins.{hops_by_pins, link_of, pin_of}
use Rattle.vw_emit_hardware.specs.Items.{User, users}
use Rattle.vw_emit_text.proofs.Blocks.{IsOfPin, in_blocks, in_turn, link_apart, one_block, pin_apart}
use Rattle.vw_emit_text.proofs.Lists.{all_gather, gather_listed, gather_upto}
use Rattle.vw_emit_text.proofs.PinUsers.{GoesOver, Known, all_known, block, links_of_block, of_block, pins_of_block, user_of, users_are}

module _ (planned : PlannedBoard) where
  -- a hop of a pin of a link
  pub record IsOf (number pin : ℕ) (link : Link) (hop : NumberedHop) : Type 0 where
    pub own : IsOfPin number pin hop
    pub goes : GoesOver planned link hop

module _ (planned : PlannedBoard) (sound : IsSound planned) where
  own_pin : (link pin : ℕ) → AllByRecursion (IsOfPin link pin) (block planned link pin)
  own_pin link pin = both (block planned link pin) (links_of_block planned link pin) (pins_of_block planned link pin) where
    both : (hops : List NumberedHop) → AllByRecursion (λ hop. hop.link ≡ link) hops → AllByRecursion (λ hop. hop.pin ≡ pin) hops
        → AllByRecursion (IsOfPin link pin) hops
    both [] links pins = tt
    both (hop ∷ hops) links pins = (record { over = links.0; by = pins.0 }, both hops links.1 pins.1)

  -- the hops of each pin are of it
  are_of : (number pin : ℕ) (link : Link) → slice_get planned.board.links number ≡ Some link
      → AllByRecursion (IsOf planned number pin link) (block planned number pin)
  are_of number pin link there = both (block planned number pin) (own_pin number pin) (of_block planned (Known planned) (all_known planned sound) number pin) where
    both : (hops : List NumberedHop) → AllByRecursion (IsOfPin number pin) hops → AllByRecursion (Known planned) hops
        → AllByRecursion (IsOf planned number pin link) hops
    both [] own known = tt
    both (hop ∷ hops) own known = (record { own = own.0; goes = known.0 number link there own.0.over }, both hops own.1 known.1)

  -- so a pin that the link doesn't have has none
  past_width : (number pin : ℕ) (link : Link) → slice_get planned.board.links number ≡ Some link → link.width ≤ pin → block planned number pin ≡ []
  past_width number pin link there past = none (block planned number pin) (are_of number pin link there) where
    none : (hops : List NumberedHop) → AllByRecursion (IsOf planned number pin link) hops → hops ≡ []
    none [] all = refl
    none (hop ∷ hops) all = absurd (omega (arith, past, all.0.goes.pin, all.0.own.by))

  -- all hops in order, pin by pin
  outlets_by_pins : outlets planned ≡ gather (λ number. gather (λ pin. in_turn 0 (block planned number pin)) 64) (length planned.board.links)
  outlets_by_pins =
      let of_link = λ (number : ℕ). gather (block planned number) 64 in
      ap (outlets_behind None 0) (hops_by_pins planned sound)
      ∙ in_blocks link_of link_apart of_link (λ number. all_gather (λ hop. hop.link ≡ number) (block planned number) 64 (λ pin. links_of_block planned number pin)) (length planned.board.links)
      ∙ gather_agree (λ number. outlets_behind None 0 (of_link number)) (λ number. gather (λ pin. in_turn 0 (block planned number pin)) 64) (length planned.board.links)
      (λ number below.
      in_blocks pin_of pin_apart (block planned number) (pins_of_block planned number) 64
      ∙ gather_agree (λ pin. outlets_behind None 0 (block planned number pin)) (λ pin. in_turn 0 (block planned number pin)) 64 (λ pin inside. one_block number pin (block planned number pin) (own_pin number pin)))

  -- what they give, where what those of a pin give rests on its users alone
  pub by_pins : {X : Type 0} (each : Outlet → List X) (of_pin : ℕ → Link → ℕ → List User → List X)
      → ((number pin : ℕ) (link : Link) (hops : List NumberedHop) → slice_get planned.board.links number ≡ Some link → AllByRecursion (IsOf planned number pin link) hops
      → flat_map each (in_turn 0 hops) ≡ of_pin number link pin (map (user_of planned) hops))
      → flat_map each (outlets planned) ≡ listed (λ number link. gather (λ pin. of_pin number link pin (users planned link pin)) link.width) 0 planned.board.links
  by_pins {X} each of_pin same =
      ap (flat_map each) outlets_by_pins
      ∙ flat_map_gather each (λ number. gather (λ pin. in_turn 0 (block planned number pin)) 64) (length planned.board.links)
      ∙ gather_listed (λ number. flat_map each (gather (λ pin. in_turn 0 (block planned number pin)) 64)) (λ number link. gather (λ pin. of_pin number link pin (users planned link pin)) link.width) 0 planned.board.links
      (λ number link there. let none : number ≡ 0 + number = omega arith in of_link number link there ∙ ap (λ (k : ℕ). gather (λ pin. of_pin k link pin (users planned link pin)) link.width) none) where
        of_link : (number : ℕ) (link : Link) → slice_get planned.board.links number ≡ Some link
            → flat_map each (gather (λ pin. in_turn 0 (block planned number pin)) 64) ≡ gather (λ pin. of_pin number link pin (users planned link pin)) link.width
        of_link number link there =
            let wide = at_place (λ (one : Link). (1 ≤ one.width) × (one.width ≤ 64)) planned.board.links number link planned.board.linked.separate.wide there in
            flat_map_gather each (λ pin. in_turn 0 (block planned number pin)) 64
            ∙ gather_upto (λ pin. flat_map each (in_turn 0 (block planned number pin))) link.width 64 wide.1
            (λ pin past. ap (λ (hops : List NumberedHop). flat_map each (in_turn 0 hops)) (past_width number pin link there past))
            ∙ gather_agree (λ pin. flat_map each (in_turn 0 (block planned number pin))) (λ pin. of_pin number link pin (users planned link pin)) link.width
            (λ pin inside. same number pin link (block planned number pin) there (are_of number pin link there) ∙ ap (of_pin number link pin) (users_are planned sound number link there pin))
