-- Groups before any action, filled node by node.
use Rattle.std.proofs.Common.{◌≡◌, ◌<◌, ◌≤◌, ◌+◌, ◌*◌, ◌/◌, ◌%◌, ◌∷◌, ◌++◌, ◌⊎◌, ℕ, zero, suc, List, [], length, slice_get, get_or, ap, refl, sym, subst, ◌∙◌, ⊎_elim, inl, inr, Some, arith}
use Rattle.std.specs.Option.{option_and_then}
use Rattle.std.proofs.Math.Nat.{mod-lt}
use Rattle.std.proofs.lemmas.Bool.{cases_lt}
use Rattle.std.proofs.lemmas.List.{get_or_append_left, get_or_push, length_push}
use Rattle.std.proofs.lemmas.Nat.{div-add-mod'}
use Rattle.std.proofs.lemmas.Option.{get_or_from_slice_get, slice_get-get_or, slice_get_within}
use Rattle.vw_prog.specs.declared.job.Job.{Job}
use Rattle.vw_prog.specs.declared.job.Share.{Share}
use Rattle.vw_node.specs.declared.node.Node.{Node}
use Rattle.vw_node.specs.Fits.{IsShare}
use Rattle.vw_node.specs.Made.{IsMade}
use Rattle.vw_node.specs.States.{start_state}
use Rattle.vw_crew.specs.Ends.{SeenOwn}
use Rattle.vw_crew.specs.Groups.{IsUnstarted, IsFirstGroup, IsOwnOf, SeenGroup, group_node, own_at}
use Rattle.vw_crew.specs.Laying.{IsBare}
use Rattle.vw_crew.proofs.Dealt.{both_found}

pub le_times : (a b c : ℕ) → a ≤ b → a * c ≤ b * c
le_times a zero c le = let same : a ≡ 0 = omega (arith, le) in omega (arith, ap (λ (x : ℕ). x * c) same)
le_times a (suc b) c le =
    let product : suc b * c ≡ b * c + c = grind arith in
    let if_less = λ (less : a < suc b). let rest = le_times a b c (omega (arith, less)) in let whole : a * c ≤ suc b * c = omega (arith, rest, product) in whole in
    let if_same = λ (past : suc b ≤ a). let same : a ≡ suc b = omega (arith, past, le) in let whole : a * c ≤ suc b * c = omega (arith, ap (λ (x : ℕ). x * c) same) in whole in
    ⊎_elim if_less if_same (cases_lt a (suc b))

-- what is at a place after one was put behind the others
pub got_push : {A : Type 0} (list : List A) (new : A) (other : ℕ) (one : A) → slice_get (list ++ new ∷ []) other ≡ Some one → (slice_get list other ≡ Some one) ⊎ ((other ≡ length list) × (one ≡ new))
got_push list new other one is =
    let within = slice_get_within (list ++ new ∷ []) other one is in
    let at : get_or (list ++ new ∷ []) other one ≡ one = get_or_from_slice_get (list ++ new ∷ []) other one one is in
    let if_before = λ (before : other < length list).
    let old : get_or list other one ≡ one = sym (get_or_append_left list (new ∷ []) one other before) ∙ at in
    let answer : (slice_get list other ≡ Some one) ⊎ ((other ≡ length list) × (one ≡ new)) = inl (slice_get-get_or list other one before ∙ ap Some old) in answer in
    let if_last = λ (past : length list ≤ other).
    let same : length list ≡ other = omega (arith, past, within, length_push list new) in
    let its : one ≡ new = sym at ∙ get_or_push list new one other same in
    let answer : (slice_get list other ≡ Some one) ⊎ ((other ≡ length list) × (one ≡ new)) = inr (sym same, its) in answer in
    ⊎_elim if_before if_last (cases_lt other (length list))

-- the nodes below a number are in a group
pub record IsFilling (job : Job) (groups number node : ℕ) (nodes : List Node) (ends : List SeenOwn) : Type 0 where
  pub same : length nodes ≡ length ends
  pub next : node ≡ length nodes * groups + number
  pub nodes_are : (place : ℕ) (there : Node) → slice_get nodes place ≡ Some there → IsUnstarted job (place * groups + number) there
  pub ends_are : (place : ℕ) (own : SeenOwn) → slice_get ends place ≡ Some own → IsOwnOf job (place * groups + number) own

module _ (job : Job) (groups number : ℕ) where
  pub none_filled : IsFilling job groups number number [] []
  none_filled = record {
    same = refl;
    next = omega arith;
    nodes_are = λ place there is. absurd (omega (arith, no_place place there is));
    ends_are = λ place own is. absurd (omega (arith, no_place place own is));
  } where
    no_place : {A : Type 0} (place : ℕ) (one : A) → slice_get [] place ≡ Some one → place < 0
    no_place place one is = slice_get_within [] place one is

  pub one_filled : (node : ℕ) (nodes new_nodes : List Node) (ends new_ends : List SeenOwn) (one : Node) (own : SeenOwn) (share : Share) → IsFilling job groups number node nodes ends → node < suc job.checked.board.chips
      → new_nodes ≡ nodes ++ one ∷ [] → new_ends ≡ ends ++ own ∷ [] → share.node ≡ node → IsShare job share → IsMade share one → IsOwnOf job node own → IsFilling job groups number (node + groups) new_nodes new_ends
  one_filled node nodes new_nodes ends new_ends one own share filling inside nodes_is ends_is share_is its made own_of = record {
    same = ap (λ (list : List Node). length list) nodes_is ∙ (let both : length (nodes ++ one ∷ []) ≡ length (ends ++ own ∷ []) = omega (arith, length_push nodes one, length_push ends own, filling.same) in both) ∙ ap (λ (list : List SeenOwn). length list) (sym ends_is);
    next =
        let long : length new_nodes ≡ suc (length nodes) = omega (arith, ap (λ (list : List Node). length list) nodes_is, length_push nodes one) in
        let product : suc (length nodes) * groups ≡ length nodes * groups + groups = grind arith in
        omega (arith, filling.next, product, ap (λ (many : ℕ). many * groups) long);
    nodes_are = λ place there is. ⊎_elim (filling.nodes_are place there)
        (λ (last : (place ≡ length nodes) × (there ≡ one)).
        let at : place * groups + number ≡ node = ap (λ (many : ℕ). many * groups + number) last.0 ∙ sym filling.next in
        subst (λ (any : ℕ). IsUnstarted job any there) (sym at) (subst (IsUnstarted job node) (sym last.1) first_here))
        (got_push nodes one place there (ap (λ (list : List Node). slice_get list place) (sym nodes_is) ∙ is));
    ends_are = λ place there is. ⊎_elim (filling.ends_are place there)
        (λ (last : (place ≡ length ends) × (there ≡ own)).
        let at : place * groups + number ≡ node = ap (λ (many : ℕ). many * groups + number) (last.0 ∙ sym filling.same) ∙ sym filling.next in
        subst (λ (any : ℕ). IsOwnOf job any there) (sym at) (subst (IsOwnOf job node) (sym last.1) own_of))
        (got_push ends own place there (ap (λ (list : List SeenOwn). slice_get list place) (sym ends_is) ∙ is));
  } where
    first_here : IsUnstarted job node one
    first_here = record {
      inside = inside;
      number_is = ap (λ (any : Share). any.node) made.same ∙ share_is;
      fits = made.fits job its;
      state = made.starts job its ∙ ap (start_state job) share_is;
    }

  pub all_filled : (node : ℕ) (nodes : List Node) (ends : List SeenOwn) → IsFilling job groups number node nodes ends → suc job.checked.board.chips ≤ node → IsFirstGroup job groups number (record { number = number; nodes = nodes; ends = ends })
  all_filled node nodes ends filling over = record {
    number_is = refl;
    nodes = filling.nodes_are;
    ends = filling.ends_are;
    full = λ place inside.
        let if_within = λ (within : place < length nodes). let whole : (place < length nodes) × (place < length ends) = (within, omega (arith, within, filling.same)) in whole in
        let if_past = λ (past : length nodes ≤ place).
        let far = le_times (length nodes) place groups past in
        let whole : (place < length nodes) × (place < length ends) = absurd (omega (arith, far, filling.next, inside, over)) in whole in
        ⊎_elim if_within if_past (cases_lt place (length nodes));
  }

there_is : {A : Type 0} (list : List A) (place : ℕ) → place < length list → (one : A) × (slice_get list place ≡ Some one)
there_is [] place within = absurd (omega (arith, within))
there_is (first ∷ list) zero within = (first, refl)
there_is (first ∷ list) (suc place) within = let rest = there_is list place (omega (arith, within)) in (rest.0, rest.1)

-- all groups together
pub bare_groups : (job : Job) (groups : List SeenGroup) (count : ℕ) → length groups ≡ count → 0 < count → ((number : ℕ) (group : SeenGroup) → slice_get groups number ≡ Some group → IsFirstGroup job count number group) → IsBare job groups
bare_groups job groups count long some each = record {
  some = omega (arith, long, some);
  nodes = λ number node is.
      let found = both_found (λ group. slice_get group.nodes (number / length groups)) (slice_get groups (number % length groups)) node is in
      subst (λ (any : ℕ). IsUnstarted job any node) (back number) ((first (number % length groups) found.0 found.1.0).nodes (number / length groups) node found.1.1);
  ends = λ number own is.
      let found = both_found (λ group. slice_get group.ends (number / length groups)) (slice_get groups (number % length groups)) own is in
      subst (λ (any : ℕ). IsOwnOf job any own) (back number) ((first (number % length groups) found.0 found.1.0).ends (number / length groups) own found.1.1);
  all = λ number inside.
      let group = there_is groups (number % length groups) (mod-lt number (omega (arith, long, some))) in
      let places = (first (number % length groups) group.0 group.1).full (number / length groups) (subst (λ (any : ℕ). any < suc job.checked.board.chips) (sym (back number)) inside) in
      let node = there_is group.0.nodes (number / length groups) places.0 in
      let own = there_is group.0.ends (number / length groups) places.1 in
      let node_there : (there : Node) × (group_node groups number ≡ Some there) = (node.0, ap (option_and_then (λ group. slice_get group.nodes (number / length groups))) group.1 ∙ node.1) in
      let own_there : (there : SeenOwn) × (own_at groups number ≡ Some there) = (own.0, ap (option_and_then (λ group. slice_get group.ends (number / length groups))) group.1 ∙ own.1) in
      (node_there, own_there);
} where
  back : (number : ℕ) → number / length groups * length groups + number % length groups ≡ number
  back number = div-add-mod' number (length groups)

  first : (number : ℕ) (group : SeenGroup) → slice_get groups number ≡ Some group → IsFirstGroup job (length groups) number group
  first number group is = subst (λ (many : ℕ). IsFirstGroup job many number group) (sym long) (each number group is)
