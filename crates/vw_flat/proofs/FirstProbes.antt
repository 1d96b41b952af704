-- The first of some probes that finds no net.
use Rattle.std.proofs.Common.{◌≡◌, List, [], ◌∷◌, ◌++◌, refl, sym, ◌∙◌, ap₂, subst}
use Rattle.vw_design.specs.declared.design.Design.{Design}
use Rattle.vw_design.specs.Paths.{Word, Net}
use Rattle.vw_design.specs.Accepted.{IsAccepted}
use Rattle.vw_design.specs.Probes.{Finds, FindsNone, FindAll, IsFirstWithoutNet}
use Rattle.vw_flat.proofs.NetsBelow.{finds_once}

module _ (design : Design) where
  -- a probe among some that all find a net
  found_at : (before behind : List Word) (probe : Word) (nets : List Net) → FindAll design (before ++ probe ∷ behind) nets
      → (net : Net) × Finds design probe net
  found_at [] behind probe [] found = absurd found
  found_at [] behind probe (net ∷ nets) found = (net, found.0)
  found_at (first ∷ before) behind probe [] found = absurd found
  found_at (first ∷ before) behind probe (net ∷ nets) found = found_at before behind probe nets found.1

  pub found_apart : (probes : List Word) (nets : List Net) (probe : Word) → FindAll design probes nets → IsFirstWithoutNet design probes probe → ⊥
  found_apart probes nets probe found first =
      let at = found_at first.before first.behind probe nets (subst (λ (list : List Word). FindAll design list nets) first.split found) in
      first.none at.0 at.1.printed_as

  -- two probes that are the first without a net
  same_first : (before others behind after : List Word) (probe other : Word) (nets their : List Net) → before ++ probe ∷ behind ≡ others ++ other ∷ after
      → FindAll design before nets → FindAll design others their → FindsNone design probe → FindsNone design other → probe ≡ other
  same_first [] [] behind after probe other nets their same found its none nothing = cc
  same_first [] (next ∷ others) behind after probe other nets [] same found its none nothing = absurd its
  same_first [] (next ∷ others) behind after probe other nets (net ∷ their) same found its none nothing =
      let head : next ≡ probe = cc in
      absurd (none net (subst (λ (word : Word). Finds design word net) head its.0).printed_as)
  same_first (first ∷ before) [] behind after probe other [] their same found its none nothing = absurd found
  same_first (first ∷ before) [] behind after probe other (net ∷ nets) their same found its none nothing =
      let head : first ≡ other = cc in
      absurd (nothing net (subst (λ (word : Word). Finds design word net) head found.0).printed_as)
  same_first (first ∷ before) (next ∷ others) behind after probe other [] their same found its none nothing = absurd found
  same_first (first ∷ before) (next ∷ others) behind after probe other (net ∷ nets) [] same found its none nothing = absurd its
  same_first (first ∷ before) (next ∷ others) behind after probe other (net ∷ nets) (another ∷ their) same found its none nothing =
      let tail : before ++ probe ∷ behind ≡ others ++ other ∷ after = cc in
      same_first before others behind after probe other nets their tail found.1 its.1 none nothing

  pub first_once : (probes : List Word) (probe other : Word) → IsFirstWithoutNet design probes probe → IsFirstWithoutNet design probes other → probe ≡ other
  first_once probes probe other first its =
      same_first first.before its.before first.behind its.behind probe other first.nets its.nets (sym first.split ∙ its.split) first.found its.found first.none its.none

  -- probes find one list of nets
  pub all_once : IsAccepted design → (probes : List Word) (nets others : List Net) → FindAll design probes nets → FindAll design probes others → nets ≡ others
  all_once accepted [] [] [] found its = refl
  all_once accepted [] [] (other ∷ others) found its = absurd its
  all_once accepted [] (net ∷ nets) others found its = absurd found
  all_once accepted (probe ∷ probes) [] others found its = absurd found
  all_once accepted (probe ∷ probes) (net ∷ nets) [] found its = absurd its
  all_once accepted (probe ∷ probes) (net ∷ nets) (other ∷ others) found its =
      ap₂ (λ (n : Net) (ns : List Net). n ∷ ns) (finds_once design accepted probe net other found.0 its.0) (all_once accepted probes nets others found.1 its.1)
