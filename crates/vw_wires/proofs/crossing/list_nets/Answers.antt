use Rattle.std.proofs.Common.{◌≡◌, ◌≢◌, ◌<◌, ◌+◌, ◌++◌, ◌∙◌, ℕ, List, [], ◌∷◌, length, drop, get_or, ap, ap₂, refl, sym, add-one, append_assoc, drop-cons, eq-eqb}
use Rattle.std.proofs.lemmas.Bool.{ne_eqb}
use Rattle.vw_net.specs.declared.flat.Flat.{Flat}
use Rattle.vw_plan.specs.Nets.{node_of}
use Rattle.vw_plan.specs.declared.need.Need.{Need}
use Rattle.vw_wires.specs.Steps.Crossings.{crossing_nets}
use Rattle.vw_wires.proofs.crossing.list_nets.Goals as goal
use Rattle.vw_wires.proofs.crossing.list_nets.Goals.{then-node_of_net-node+in_ok-push, else-node_of_net-node}

-- a net of another node is the first of those that are left, and one of the node is none of them
module _ (flat : Flat) (chips : List ℕ) (node : ℕ) (nets : List ℕ) (place : ℕ) (within : place < length nets) where
  abbrev nets_left : ℕ → List Need
  nets_left from = crossing_nets flat chips node (drop from nets)

  other_node : node_of flat chips (get_or nets place 0) ≢ node → nets_left place ≡ record { net = get_or nets place 0; to = node } ∷ nets_left (place + 1)
  other_node other = rw (add-one, drop-cons nets place 0 within, ne_eqb (node_of flat chips (get_or nets place 0)) node other) refl

  same_node : node_of flat chips (get_or nets place 0) ≡ node → nets_left place ≡ nets_left (place + 1)
  same_node same = rw (add-one, drop-cons nets place 0 within, eq-eqb (node_of flat chips (get_or nets place 0)) node same) refl

  one_more : (listed more all : List Need) (need : Need) → node_of flat chips (get_or nets place 0) ≢ node → need ≡ record { net = get_or nets place 0; to = node } → more ≡ listed ++ need ∷ [] → listed ++ nets_left place ≡ all → more ++ nets_left (place + 1) ≡ all
  one_more listed more all need other made is so_far =
      ap (λ (front : List Need). front ++ nets_left (place + 1)) is
      ∙ append_assoc listed (need ∷ []) (nets_left (place + 1))
      ∙ ap (λ (one : Need). listed ++ one ∷ nets_left (place + 1)) made
      ∙ ap (λ (rest : List Need). listed ++ rest) (sym (other_node other))
      ∙ so_far

  no_more : (listed more all : List Need) → node_of flat chips (get_or nets place 0) ≡ node → more ≡ listed → listed ++ nets_left place ≡ all → more ++ nets_left (place + 1) ≡ all
  no_more listed more all same is so_far =
      ap (λ (front : List Need). front ++ nets_left (place + 1)) is
      ∙ ap (λ (rest : List Need). listed ++ rest) (sym (same_node same))
      ∙ so_far

pub loop-net-preserved : goal.loop-net-preserved
loop-net-preserved c =
    let flat = c.args.flat.now in
    let chips = c.args.chip_of.now in
    let nets = c.args.nets.now in
    let place = c.loop-net.net-index in
    let old = c.loop-net.needs.items in
    let all = c.args.needs.now.items ++ crossing_nets flat chips c.args.node nets in
    elim c.if-node_of_net-node.branch [
      | then-node_of_net-node+in_ok-push w ↦
          let made : w.make.result ≡ record { net = get_or nets place 0; to = c.args.node } = ap₂ (λ (net to : ℕ). record { net = net; to = to }) w.make.ensures.net w.make.ensures.to in
          one_more flat chips c.args.node nets place c.loop-net-test.true old c.if-node_of_net-node.needs.items all w.make.result (λ same. w.if-node_of_net-node.true (c.node_of_net.ensures ∙ same)) made (ap (λ needs. needs.items) w.needs-is ∙ w.in_ok-push.ensures.items) c.loop-net.invariant
      | else-node_of_net-node w ↦
          no_more flat chips c.args.node nets place c.loop-net-test.true old c.if-node_of_net-node.needs.items all (sym c.node_of_net.ensures ∙ w.if-node_of_net-node.false) (ap (λ needs. needs.items) w.needs-is) c.loop-net.invariant
    ]
