-- The ports of pins.
use Rattle.std.proofs.Common.{◌≡◌, ◌∙◌, ◌++◌, ◌&&◌, ◌==◌, ℕ, suc, Bool, true, false, cond, List, [], ◌∷◌, map, slice_get, Some, ap, ap₂, refl, sym, append-nil, ne_eqb, arith}
use Rattle.std.specs.List.{AllByRecursion, flat_map}
use Rattle.vw_net.proofs.ListedLists.{listed_agree, map_gather, map_listed}
use Rattle.vw_net.specs.Gathered.{gather, listed}
use Rattle.vw_plan.specs.PlannedBoard.{PlannedBoard}
use Rattle.vw_plan.specs.Sound.{IsSound}
use Rattle.vw_plan.specs.declared.link.Link.{Link}
use Rattle.vw_emit_hardware.specs.Items.{User, users}
use Rattle.vw_emit_hardware.specs.Locals.{Local, pin_in, pin_out}
use Rattle.vw_emit_hardware.specs.Ports.{pin_ports, used_port}
use Rattle.vw_emit_names.specs.Boards.{Joined, port_joined}
use Rattle.vw_emit_text.specs.Outlets.{outlets}
use Rattle.vw_emit_text.specs.Steps.{port_in, port_out, ports_in, ports_out}
use Rattle.vw_emit_text.specs.declared.numbered_hop.NumberedHop.{NumberedHop}
use Rattle.vw_emit_text.specs.declared.outlet.Outlet.{Outlet}
use Rattle.vw_emit_text.proofs.Blocks.{in_turn}
use Rattle.vw_emit_text.proofs.ByPins.{IsOf, by_pins}
use Rattle.vw_emit_text.proofs.Lists.{gather_when}
use Rattle.vw_emit_text.proofs.PinUsers.{user_of}

-- the same, whatever the test
either : {X : Type 0} (x : X) (test : Bool) → x ≡ cond test x x
either x true = refl
either x false = refl

module _ (planned : PlannedBoard) (sound : IsSound planned) (node : ℕ) (end : Link → ℕ) (own_end : NumberedHop → ℕ) (port : ℕ → ℕ → Local) (emitted : NumberedHop → Joined)
    (at_end : (number pin : ℕ) (link : Link) (hop : NumberedHop) → IsOf planned number pin link hop → own_end hop ≡ end link)
    (same_port : (number pin : ℕ) (link : Link) (hop : NumberedHop) → IsOf planned number pin link hop → emitted hop ≡ port_joined planned (port number pin)) where
  -- what an outlet gives
  given : Outlet → List Joined
  given outlet = cond (outlet.number == 0 && own_end outlet.hop == node) (emitted outlet.hop ∷ []) []

  wanted : ℕ → Link → ℕ → List User → List Joined
  wanted number link pin list = cond (end link == node) (map (port_joined planned) (used_port (port number pin) list)) []

  later_none : (k : ℕ) (hops : List NumberedHop) → flat_map given (in_turn (suc k) hops) ≡ []
  unfolding given
  later_none k [] = refl
  later_none k (hop ∷ hops) =
      let other = ne_eqb (suc k) 0 (λ same. omega (arith, same)) in
      ap₂ (λ (first rest : List Joined). first ++ rest)
      (ap (λ (test : Bool). cond (test && own_end hop == node) (emitted hop ∷ []) []) other) (later_none (suc k) hops)

  pin_given : (number pin : ℕ) (link : Link) (hops : List NumberedHop) → slice_get planned.board.links number ≡ Some link
      → AllByRecursion (IsOf planned number pin link) hops
      → flat_map given (in_turn 0 hops) ≡ wanted number link pin (map (user_of planned) hops)
  unfolding given wanted
  pin_given number pin link [] there all = either [] (end link == node)
  pin_given number pin link (hop ∷ hops) there all =
      ap₂ (λ (first rest : List Joined). first ++ rest)
      (ap₂ (λ (from : ℕ) (one : Joined). cond (from == node) (one ∷ []) []) (at_end number pin link hop all.0) (same_port number pin link hop all.0))
      (later_none 0 hops)
      ∙ append-nil (cond (end link == node) (port_joined planned (port number pin) ∷ []) [])

  pub ports_same : flat_map (λ outlet. cond (outlet.number == 0 && own_end outlet.hop == node) (emitted outlet.hop ∷ []) []) (outlets planned)
      ≡ map (port_joined planned) (listed (λ at link. cond (end link == node) (pin_ports (port at) planned link) []) 0 planned.board.links)
  unfolding given wanted
  ports_same =
      by_pins planned sound given wanted pin_given
      ∙ listed_agree (λ number link. gather (λ pin. wanted number link pin (users planned link pin)) link.width) (λ number link. map (port_joined planned) (cond (end link == node) (pin_ports (port number) planned link) [])) of_link 0 planned.board.links
      ∙ sym (map_listed (port_joined planned) (λ at link. cond (end link == node) (pin_ports (port at) planned link) []) 0 planned.board.links) where
        when : (own : Bool) (number : ℕ) (link : Link)
            → cond own (gather (λ pin. map (port_joined planned) (used_port (port number pin) (users planned link pin))) link.width) []
            ≡ map (port_joined planned) (cond own (pin_ports (port number) planned link) [])
        when true number link = sym (map_gather (port_joined planned) (λ pin. used_port (port number pin) (users planned link pin)) link.width)
        when false number link = refl

        of_link : (number : ℕ) (link : Link)
            → gather (λ pin. wanted number link pin (users planned link pin)) link.width ≡ map (port_joined planned) (cond (end link == node) (pin_ports (port number) planned link) [])
        of_link number link =
            gather_when (end link == node) (λ pin. map (port_joined planned) (used_port (port number pin) (users planned link pin))) link.width ∙ when (end link == node) number link

-- those of the pins that reach a node, and of those that leave it
pub ports_in_same : (planned : PlannedBoard) → IsSound planned → (node : ℕ)
    → ports_in node (outlets planned) ≡ map (port_joined planned) (listed (λ at link. cond (link.to == node) (pin_ports (pin_in at) planned link) []) 0 planned.board.links)
ports_in_same planned sound node =
    ports_same planned sound node (λ link. link.to) (λ hop. hop.to) pin_in port_in (λ number pin link hop is. is.goes.to)
    (λ number pin link hop is. ap₂ (λ (l p : ℕ). port_joined planned (pin_in l p)) is.own.over is.own.by)

pub ports_out_same : (planned : PlannedBoard) → IsSound planned → (node : ℕ)
    → ports_out node (outlets planned) ≡ map (port_joined planned) (listed (λ at link. cond (link.from == node) (pin_ports (pin_out at) planned link) []) 0 planned.board.links)
ports_out_same planned sound node =
    ports_same planned sound node (λ link. link.from) (λ hop. hop.from) pin_out port_out (λ number pin link hop is. is.goes.from)
    (λ number pin link hop is. ap₂ (λ (l p : ℕ). port_joined planned (pin_out l p)) is.own.over is.own.by)
