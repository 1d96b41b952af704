-- Entries dealt to their nodes.
use Rattle.std.proofs.Common.{◌≡◌, ◌≢◌, ◌<◌, ◌≤◌, ◌+◌, ◌++◌, ℕ, Bool, true, List, [], ◌∷◌, length, take, get_or, set, cond, ap, sym, ◌∙◌, ⊎_elim, ne_eqb, eq-eqb, arith}
use Rattle.std.specs.Global.{Vec}
use Rattle.std.specs.List.{filter}
use Rattle.std.proofs.lemmas.Bool.{cases_eq, cases_lt}
use Rattle.std.proofs.lemmas.List.{append-nil, get_or_append_left, get_or_push, get_or-map, get_or-set_other, get_or-set_same, length-set, length_push, map-set}
use Rattle.std.proofs.lemmas.List.Elements.{filter_more}
use Rattle.vw_prog.specs.declared.entry.Entry.{Entry}
use Rattle.vw_prog.specs.Steps.{AreOwnEntries, lists_of}
use Rattle.vw_prog.specs.Timetable.{entries_at, is_at}

-- one more list without entries
pub one_more_empty : (count : ℕ) (lists new : List (List Entry)) → new ≡ lists ++ [] ∷ [] → AreOwnEntries count [] lists → AreOwnEntries (count + 1) [] new
one_more_empty count lists new is dealt = record {
  count = ap length is ∙ length_push lists [] ∙ ap (λ (many : ℕ). many + 1) dealt.count;
  each = λ node within.
      let if_before = λ (before : node < count). ap (λ (all : List (List Entry)). get_or all node []) is ∙ get_or_append_left lists ([] ∷ []) [] node (omega (arith, before, dealt.count)) ∙ dealt.each node before in
      let if_last = λ (past : count ≤ node).
      let at : length lists ≡ node = omega (arith, past, within, dealt.count) in
      ap (λ (all : List (List Entry)). get_or all node []) is ∙ get_or_push lists [] [] node at in
      ⊎_elim if_before if_last (cases_lt node count);
}

module _ (nodes place : ℕ) (entries : List Entry) (entry : Entry) (within : place < length entries) (is : entry ≡ get_or entries place entry) (lists : List (List Entry)) (dealt : AreOwnEntries nodes (take place entries) lists) where
  -- the entries of a node, with this one
  one_more : (node : ℕ) → entries_at node (take (place + 1) entries) ≡ entries_at node (take place entries) ++ cond (is_at node entry) (entry ∷ []) []
  one_more node = filter_more (is_at node) entries place entry within ∙ ap (λ (one : Entry). filter (is_at node) (take place entries) ++ cond (is_at node one) (one ∷ []) []) (sym is)

  others_keep : (node : ℕ) → entry.node ≢ node → entries_at node (take (place + 1) entries) ≡ entries_at node (take place entries)
  others_keep node other = one_more node ∙ ap (λ (own : Bool). entries_at node (take place entries) ++ cond own (entry ∷ []) []) (ne_eqb entry.node node other) ∙ append-nil _

  -- an entry of a node that isn't there
  pub dealt_past : length lists ≤ entry.node → AreOwnEntries nodes (take (place + 1) entries) lists
  dealt_past past = record {
    count = dealt.count;
    each = λ node low. dealt.each node low ∙ sym (others_keep node (λ same. omega (arith, same, past, low, dealt.count)));
  }

  -- an entry of a node
  pub dealt_here : (new : List (List Entry)) → entry.node < length lists
      → new ≡ set lists entry.node (get_or lists entry.node [] ++ entry ∷ []) → AreOwnEntries nodes (take (place + 1) entries) new
  dealt_here new inside is_new = record {
    count = ap length is_new ∙ length-set lists entry.node _ ∙ dealt.count;
    each = λ node low.
        let at_new = ap (λ (all : List (List Entry)). get_or all node []) is_new in
        let if_own = λ (same : entry.node ≡ node).
        let own : is_at node entry ≡ true = eq-eqb entry.node node same in
        at_new
        ∙ ap (λ (at : ℕ). get_or (set lists entry.node (get_or lists entry.node [] ++ entry ∷ [])) at []) (sym same)
        ∙ get_or-set_same lists entry.node (get_or lists entry.node [] ++ entry ∷ []) [] inside
        ∙ ap (λ (at : ℕ). get_or lists at [] ++ entry ∷ []) same
        ∙ ap (λ (list : List Entry). list ++ entry ∷ []) (dealt.each node low)
        ∙ sym (one_more node ∙ ap (λ (here : Bool). entries_at node (take place entries) ++ cond here (entry ∷ []) []) own) in
        let if_other = λ (other : entry.node ≡ node → ⊥).
        at_new ∙ get_or-set_other lists entry.node node _ [] (λ same. other (sym same)) ∙ dealt.each node low ∙ sym (others_keep node other) in
        ⊎_elim if_own if_other (cases_eq entry.node node);
  }

-- a list with an entry more
pub pushed : (lists : List (Vec Entry)) (place : ℕ) (list new : Vec Entry) (entry : Entry) → place < length lists
    → list ≡ get_or lists place list → new.items ≡ list.items ++ entry ∷ []
    → lists_of (set lists place new) ≡ set (lists_of lists) place (get_or (lists_of lists) place [] ++ entry ∷ [])
pushed lists place list new entry within is more =
    map-set (λ (one : Vec Entry). one.items) lists place new
    ∙ ap (set (lists_of lists) place) (more ∙ ap (λ (items : List Entry). items ++ entry ∷ []) (ap (λ (one : Vec Entry). one.items) is ∙ sym (get_or-map (λ (one : Vec Entry). one.items) lists place list [] within)))
