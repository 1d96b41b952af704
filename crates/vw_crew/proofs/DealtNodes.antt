-- Each node of a crew is in the group whose number is the rest of its own.
use Rattle.std.proofs.Common.{◌≡◌, ◌<◌, ◌+◌, ◌*◌, ◌/◌, ◌%◌, ℕ, suc, Bool, List, [], ◌∷◌, length, map, min, slice_get, refl, sym, ◌∙◌, ap, ap₂, subst, Some, arith}
use Rattle.std.specs.Prelude.{option_map}
use Rattle.std.specs.List.{Contains}
use Rattle.std.specs.Option.{option_and_then}
use Rattle.std.proofs.lemmas.List.{length-map}
use Rattle.std.proofs.lemmas.Nat.{mod-mul-add, div-mul-add}
use Rattle.std.proofs.lemmas.Option.{get_or_from_slice_get, slice_get-get_or, slice_get-map, slice_get_within}
use Rattle.vw_prog.specs.declared.job.Job.{Job}
use Rattle.vw_prog.specs.declared.job.Share.{Share}
use Rattle.vw_node.specs.declared.node.Node.{Node}
use Rattle.vw_crew.specs.Groups.{AllStay, SeenGroup, group_node, node_number, node_numbers, share_of}
use Rattle.vw_crew.specs.Laying.{IsCrew}
use Rattle.vw_crew.specs.Seen.{AreDealt}
use Rattle.vw_crew.proofs.CrewStays.{mapped_back}
use Rattle.vw_crew.proofs.Dealt.{both_found}

-- an element of a list that was made of another
found_in_map : {A : Type 0} (make : A → ℕ) (list : List A) (place : ℕ) (one : A) (number : ℕ) → slice_get list place ≡ Some one → make one ≡ number → Contains (map make list) number
found_in_map make list place one number is made =
    let there : slice_get (map make list) place ≡ Some number = slice_get-map make list place ∙ ap (option_map make) is ∙ ap Some made in
    (place, slice_get_within (map make list) place number there, get_or_from_slice_get (map make list) place number number there)

module _ (job : Job) (keeps : Bool) (groups : List SeenGroup) (crew : IsCrew job keeps groups) where
  abbrev count : ℕ
  count = length groups

  same_count : length (node_numbers groups) ≡ count
  same_count = length-map groups (λ (group : SeenGroup). map node_number group.nodes)

  in_group : (node : ℕ) → node < suc job.checked.board.chips → (group : List ℕ) × (slice_get (node_numbers groups) (node % count) ≡ Some group) × Contains group node
  in_group node within =
      let there = (crew.all node within).0 in
      let found = both_found (λ (group : SeenGroup). slice_get group.nodes (node / count)) (slice_get groups (node % count)) there.0 there.1 in (
        map node_number found.0.nodes,
        slice_get-map (λ (group : SeenGroup). map node_number group.nodes) groups (node % count) ∙ ap (option_map (λ (group : SeenGroup). map node_number group.nodes)) found.1.0,
        found_in_map node_number found.0.nodes (node / count) there.0 node found.1.1 (crew.nodes node there.0 there.1).1,
      )

  in_no_other : (number node : ℕ) (group : List ℕ) → slice_get (node_numbers groups) number ≡ Some group → Contains group node → (node < suc job.checked.board.chips) × (node % count ≡ number)
  in_no_other number node group is (place, within, at) =
      let found = mapped_back (λ (group : SeenGroup). map node_number group.nodes) (slice_get groups number) group (sym (slice_get-map (λ (group : SeenGroup). map node_number group.nodes) groups number) ∙ is) in
      let there : slice_get (map node_number found.0.nodes) place ≡ Some node = ap (λ (list : List ℕ). slice_get list place) found.1.1 ∙ slice_get-get_or group place node within ∙ ap Some at in
      let its = mapped_back node_number (slice_get found.0.nodes place) node (sym (slice_get-map node_number found.0.nodes place) ∙ there) in
      let below : number < count = slice_get_within groups number found.0 found.1.0 in
      let rest : (place * count + number) % count ≡ number = mod-mul-add place count number below in
      let quotient : (place * count + number) / count ≡ place = div-mul-add place count number below in
      let here : group_node groups (place * count + number) ≡ Some its.0 =
      ap₂ (λ (r q : ℕ). option_and_then (λ (group : SeenGroup). slice_get group.nodes q) (slice_get groups r)) rest quotient
      ∙ ap (option_and_then (λ (group : SeenGroup). slice_get group.nodes place)) found.1.0 ∙ its.1.0 in
      let known = crew.nodes (place * count + number) its.0 here in
      let same : node ≡ place * count + number = sym its.1.1 ∙ known.1 in
      (subst (λ (n : ℕ). n < suc job.checked.board.chips) (sym same) known.0, ap (λ (n : ℕ). n % count) same ∙ rest)

  pub are_dealt : (workers nodes : ℕ) → nodes ≡ suc job.checked.board.chips → count ≡ min workers nodes → AreDealt workers nodes (node_numbers groups)
  are_dealt workers nodes all many = record {
    count = same_count ∙ many;
    each = λ node within.
        subst (λ (n : ℕ). (group : List ℕ) × (slice_get (node_numbers groups) (node % n) ≡ Some group) × Contains group node) (sym same_count)
        (in_group node (omega (arith, within, all)));
    only = λ number node group is among.
        let known = in_no_other number node group is among in
        (omega (arith, known.0, all), ap (λ (n : ℕ). node % n) same_count ∙ known.1);
  }

-- the numbers of nodes, from what these may see of the job
by_shares : (groups : List SeenGroup) → node_numbers groups ≡ map (λ (shares : List Share). map (λ share. share.node) shares) (map (λ (group : SeenGroup). map share_of group.nodes) groups)
by_shares [] = refl
by_shares (group ∷ groups) = ap₂ (λ (one : List ℕ) (more : List (List ℕ)). one ∷ more) (by_nodes group.nodes) (by_shares groups) where
  by_nodes : (nodes : List Node) → map node_number nodes ≡ map (λ (share : Share). share.node) (map share_of nodes)
  by_nodes [] = refl
  by_nodes (node ∷ nodes) = ap (λ (more : List ℕ). node_number node ∷ more) (by_nodes nodes)

pub numbers_stay : (old new : List SeenGroup) → AllStay old new → node_numbers new ≡ node_numbers old
numbers_stay old new stay =
    by_shares new ∙ ap (λ (rows : List (List Share)). map (λ (shares : List Share). map (λ share. share.node) shares) rows) stay.shares ∙ sym (by_shares old)
